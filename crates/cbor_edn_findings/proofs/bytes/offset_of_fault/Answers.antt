use Rattle.std.proofs.Common.{◌≡◌, ◌-◌, Some, None, ap, arith, length, length-append, rules, subst, sym}
use Rattle.std.specs.Prelude.{reverse}
use Rattle.cbor_edn_findings.specs.internal.Steps.{step}
use Rattle.cbor_edn_findings.proofs.FoundOffsets.{Reached, start, further_on, stops}
use Rattle.cbor_edn_findings.proofs.bytes.offset_of_fault.Goals as goal

pub heads-init : goal.heads-init
heads-init c = record {
  reached = subst (λ l. Reached c.args.limit c.args.bytes.now c.args.bytes.now (reverse l)) (sym c.new-opened.ensures.items) (start c.args.limit c.args.bytes.now (λ i. omega (arith, c.type_inv.bytes i)));
}

pub heads-preserved : goal.heads-preserved
heads-preserved c =
    let e : step c.args.limit (reverse c.heads.opened.items) c.heads.rest.now ≡ Some (reverse c.step.new.opened.items, c.in-Some.behind.now) = rw c.in-Some.is at c.in_ok-behind.ensures.value in
    record {
      reached = further_on c.args.limit c.args.bytes.now c.heads.rest.now (reverse c.heads.opened.items) (reverse c.step.new.opened.items) c.in-Some.behind.now c.heads.invariant.reached e;
    }

pub returns-in-None : goal.returns-in-None
returns-in-None c =
    let e : step c.args.limit (reverse c.heads.opened.items) c.heads.rest.now ≡ None = search (rules, c.in-None.is, c.in_ok-behind.ensures.value) in
    stops c.args.limit c.args.bytes.now c.heads.rest.now (reverse c.heads.opened.items) c.heads.invariant.reached e (length c.args.bytes.now - length c.heads.rest.now)
    (omega (arith, ap length c.heads.invariant.reached.parts, length-append c.heads.invariant.reached.front c.heads.rest.now))
