use Rattle.std.proofs.Common.{ℕ, ◌<◌, List, length, drop, Ok, refl, sym, ap, ◌∙◌, arith}
use Rattle.std.proofs.lemmas.Bool.{false≢true}
use Rattle.std.proofs.lemmas.Result.{err_from_is_err_and}
use Rattle.cbor_edn_parts.specs.declared.base.error.Fault.TheVariants.{Told}
use Rattle.cbor_edn_parts.specs.Leaves.{list_end_bytes}
use Rattle.cbor_edn_parts.specs.internal.SpaceTokens.{separator}
use Rattle.cbor_edn_parts.specs.internal.Input.{text_bytes}
use Rattle.cbor_edn_core.proofs.lemmas.text.Turns.{scan_fails, scan_read, some_length, token_end, parted_fails, parted_empty}
use Rattle.cbor_edn_core.proofs.text.grammar.entries.behind_entry.Goals as goal

pub returns-in_err-list_end-clause-value : goal.returns-in_err-list_end-clause-value
returns-in_err-list_end-clause-value g c =
    let p = err_from_is_err_and c.from_residual.result c.from_residual.ensures.1 in
    let xs = drop c.args.end.at (text_bytes c.args.text.now) in
    rw (p.1, p.2) (parted_fails (Told c.in_err-list_end.field-0.0) xs (scan_fails separator xs c.in_err-list_end.field-0.0 c.in_err-list_end.ensures.value))

pub returns-then-closes-clause-value : goal.returns-then-closes-clause-value
returns-then-closes-clause-value g c = (scan_read separator _ _ _ c.in_ok-list_end.ensures.value, sym c.if-closes.ensures.closed)

pub returns-then-closes-clause-place : goal.returns-then-closes-clause-place
returns-then-closes-clause-place g c =
    let end = token_end separator _ _ c.args.end.at c.in_ok-list_end.next c.in_ok-list_end.ensures.value c.requires.0.0 c.in_ok-list_end.ensures.place.1.0 in
    (omega (arith, end), c.in_ok-list_end.ensures.place.1)

pub returns-in_default-clause-value : goal.returns-in_default-clause-value
returns-in_default-clause-value g c = rw c.invalid.ensures (parted_empty _ _ _ (scan_read separator _ _ _ c.in_ok-list_end.ensures.value) (sym c.if-closes.ensures.closed) (c.in_default.ensures.none.0 refl))

pub returns-clause-value : goal.returns-clause-value
returns-clause-value g c =
    let same = c.in-Some.ensures.same in (
      scan_read separator _ _ _ c.in_ok-list_end.ensures.value ∙ ap (λ (s : List ℕ). Ok (s, drop c.in_ok-list_end.next (text_bytes c.args.text.now))) (sym same),
      sym c.if-closes.ensures.closed,
      λ e. false≢true (sym (c.in-Some.ensures.none.1 (sym same ∙ e))),
    )

pub returns-clause-place : goal.returns-clause-place
returns-clause-place g c =
    let end = token_end separator _ _ c.args.end.at c.in_ok-list_end.next c.in_ok-list_end.ensures.value c.requires.0.0 c.in_ok-list_end.ensures.place.1.0 in
    let some : 0 < length (list_end_bytes c.in_ok-list_end.list_end) = some_length _ (λ e. false≢true (sym (c.in-Some.ensures.none.1 e))) in
    (omega (arith, end, some), c.in_ok-list_end.ensures.place.1)
