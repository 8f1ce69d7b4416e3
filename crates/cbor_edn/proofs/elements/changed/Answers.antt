use Rattle.std.proofs.Common.{ℕ, length, List, ◌++◌, sym, ap, ◌∙◌, arith}
use Rattle.std.proofs.lemmas.Result.{err_from_is_err_and}
use Rattle.cbor_edn_core.proofs.lemmas.cbor.Decodes.{is_empty, sequence_fails_refused, sequence_fails_deep}
use Rattle.cbor_edn.proofs.ElementTexts.{more_done, diagnosed, all_diagnosed}
use Rattle.cbor_edn.proofs.EntriesRead.{front_fails, behind_fails, some_left}
use Rattle.cbor_edn.proofs.elements.changed.Goals as goal

pub returns-in_err-text-clause-refused : goal.returns-in_err-text-clause-refused
returns-in_err-text-clause-refused c =
    let p = err_from_is_err_and c.from_residual.result c.from_residual.ensures.1 in
    let limit = c.args.options.now.limit in
    rw (p.1, p.2) (sequence_fails_refused limit c.args.bytes.now (Unit {0}) c.in_err-text.field-0.0 (front_fails (Unit {0}) limit c.args.bytes.now c.in_err-text.field-0.0 c.in_err-text.ensures.refused))

pub returns-in_err-text-clause-too_deep : goal.returns-in_err-text-clause-too_deep
returns-in_err-text-clause-too_deep c =
    let p = err_from_is_err_and c.from_residual.result c.from_residual.ensures.1 in
    let limit = c.args.options.now.limit in
    rw (p.1, p.2) (sequence_fails_deep limit c.args.bytes.now (Unit {0}) c.in_err-text.field-0.0 (λ i. omega (arith, c.type_inv.bytes i)) (front_fails (Unit {0}) limit c.args.bytes.now c.in_err-text.field-0.0 c.in_err-text.ensures.refused))

pub returns-then-is_empty-clause-accepted : goal.returns-then-is_empty-clause-accepted
returns-then-is_empty-clause-accepted c =
    let t = c.in_ok-text.ensures.text in
    let none = is_empty c.in_ok-text.rest.now (sym c.is_empty.ensures ∙ c.if-is_empty.true) in
    diagnosed c.args.options.now c.args.bytes.now c.in_ok-text.rest.now c.in_ok-text.text.items t.items (λ i. omega (arith, c.type_inv.bytes i)) t.read none (t.all (ap length none))

pub turns-init : goal.turns-init
turns-init c =
    let t = c.in_ok-text.ensures.text in
    let some = some_left c.in_ok-text.rest.now (sym c.is_empty.ensures ∙ c.if-is_empty.false) in
    record { done = (t.items, t.read, t.some some); some = some }

pub returns-in_err-text-2-clause-refused : goal.returns-in_err-text-2-clause-refused
returns-in_err-text-2-clause-refused c =
    let p = err_from_is_err_and c.from_residual-in_err-text-2.result c.from_residual-in_err-text-2.ensures.1 in
    rw (p.1, p.2) (sequence_fails_refused c.args.options.now.limit c.args.bytes.now (Unit {0}) c.in_err-text-2.field-0.0
    (behind_fails (Unit {0}) c.args.options.now c.args.bytes.now c.turns.rest.now c.turns.out.items c.in_err-text-2.field-0.0 c.turns.invariant.done c.in_err-text-2.ensures.refused))

pub returns-in_err-text-2-clause-too_deep : goal.returns-in_err-text-2-clause-too_deep
returns-in_err-text-2-clause-too_deep c =
    let p = err_from_is_err_and c.from_residual-in_err-text-2.result c.from_residual-in_err-text-2.ensures.1 in
    rw (p.1, p.2) (sequence_fails_deep c.args.options.now.limit c.args.bytes.now (Unit {0}) c.in_err-text-2.field-0.0 (λ i. omega (arith, c.type_inv.bytes i))
    (behind_fails (Unit {0}) c.args.options.now c.args.bytes.now c.turns.rest.now c.turns.out.items c.in_err-text-2.field-0.0 c.turns.invariant.done c.in_err-text-2.ensures.refused))

pub returns-then-is_empty-2-clause-accepted : goal.returns-then-is_empty-2-clause-accepted
returns-then-is_empty-2-clause-accepted c =
    let t = c.in_ok-text-2.ensures.text in
    let none = is_empty c.in_ok-text-2.behind.now (sym c.is_empty-in-turns.ensures ∙ c.if-is_empty-2.true) in
    all_diagnosed c.args.options.now c.args.bytes.now c.turns.rest.now c.in_ok-text-2.behind.now c.turns.out.items c.in_ok-text-2.text.items c.extend_from_slice.new.self.items t.items (λ i. omega (arith, c.type_inv.bytes i))
    c.turns.invariant.done c.turns.invariant.some t.read none (t.all (ap length none))
    (c.in_ok-extend_from_slice.ensures.items ∙ ap (λ (l : List ℕ). c.turns.out.items ++ l) c.deref.ensures.value)

pub turns-preserved : goal.turns-preserved
turns-preserved c =
    let t = c.in_ok-text-2.ensures.text in
    let some = some_left c.in_ok-text-2.behind.now (sym c.is_empty-in-turns.ensures ∙ c.if-is_empty-2.false) in
    record {
      done = more_done c.args.options.now c.args.bytes.now c.turns.rest.now c.in_ok-text-2.behind.now c.turns.out.items c.in_ok-text-2.text.items c.extend_from_slice.new.self.items t.items c.turns.invariant.done t.read (t.some some)
          (c.in_ok-extend_from_slice.ensures.items ∙ ap (λ (l : List ℕ). c.turns.out.items ++ l) c.deref.ensures.value);
      some = some;
    }
