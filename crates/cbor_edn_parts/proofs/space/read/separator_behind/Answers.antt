use Rattle.std.proofs.Common.{ℕ, ◌≡◌, List, [], Option, Some, None, drop, ◌∙◌, sym, ap, arith}
use Rattle.std.proofs.lemmas.Result.{err_from_is_err_and}
use Rattle.cbor_edn_parts.specs.internal.Ends.{IsSpaced}
use Rattle.cbor_edn_parts.specs.internal.Lex.{token}
use Rattle.cbor_edn_parts.specs.internal.Scans.{IsAt}
use Rattle.cbor_edn_parts.specs.internal.SpaceTokens as tokens
use Rattle.cbor_edn_parts.specs.internal.Input.{text_bytes}
use Rattle.cbor_edn_parts.proofs.lemmas.space.SeparatorTokens.{Read, end, other, comma, separator_read, separator_refused, separator_unread}
use Rattle.cbor_edn_parts.proofs.lemmas.base.Tokens.{taken}
use Rattle.cbor_edn_parts.proofs.space.read.separator_behind.Goals as goal
use Rattle.cbor_edn_parts.proofs.space.read.separator_behind.Goals.{After-slice, in-Some-eq44+in_ok-space_end-in-Some-eq44, in_default, in_default-2}

none_here : (text : List ℕ) (at : ℕ) (r : Option ℕ) → IsAt text at r → r ≡ None → drop at text ≡ []
none_here text at r h e = rw e at h

read : (c : After-slice) → token tokens.separator (drop c.args.end.at (text_bytes c.args.text.now)) ≡ Some (c.slice.result.now, drop c.match-next.to (text_bytes c.args.text.now))
read c =
    let next = c.in_ok-next.ensures in
    let spaced : IsSpaced (text_bytes c.args.text.now) c.args.end.at (Some c.in_ok-next.at) = (next.order, next.value.0.place, next.value.1) in
    let there : Read (text_bytes c.args.text.now) c.in_ok-next.at c.match-next.to =
    elim c.match-next.branch [
      | in-Some-eq44+in_ok-space_end-in-Some-eq44 w ↦
          let taken = w.in_ok-space_end-in-Some-eq44.ensures in
          let here = rw w.in-Some-eq44.is at next.value.0.here in
          let is : w.in-Some-eq44.field-0 ≡ 44 = cc in
          rw w.to-is (comma here.0 is taken.value.1 (omega (arith, taken.place.0)) taken.place.1.0)
      | in_default w ↦ let here = rw w.in_default.is at next.value.0.here in other here.0 (λ e. w.in_default.field-0-test.1 (cc)) w.to-is
      | in_default-2 w ↦ end (none_here (text_bytes c.args.text.now) c.in_ok-next.at _ next.value.0.here w.in_default.is) w.to-is
    ] in
    separator_read _ _ _ _ spaced there ∙ ap (λ x. Some (x, drop c.match-next.to (text_bytes c.args.text.now))) (sym c.slice.ensures)

pub invariant_of-result : goal.invariant_of-result
invariant_of-result c = record { spelled = taken tokens.separator _ _ _ (read (goal.at.invariant_of-result c).After-slice) }

pub returns-in_err-next-clause-value : goal.returns-in_err-next-clause-value
returns-in_err-next-clause-value c =
    let p = err_from_is_err_and c.from_residual.result c.from_residual.ensures.1 in
    rw (p.1, p.2) (separator_unread _ c.in_err-next.ensures.value.0, c.in_err-next.ensures.value.1)

pub returns-in_err-space_end-in-Some-eq44-clause-value : goal.returns-in_err-space_end-in-Some-eq44-clause-value
returns-in_err-space_end-in-Some-eq44-clause-value c =
    let p = err_from_is_err_and c.from_residual-in_err-space_end-in-Some-eq44.result c.from_residual-in_err-space_end-in-Some-eq44.ensures.1 in
    let next = c.in_ok-next.ensures in
    let here = rw c.in-Some-eq44.is at next.value.0.here in
    let is : c.in-Some-eq44.field-0 ≡ 44 = cc in
    rw (p.1, p.2) (separator_refused _ _ _ _ _ (next.order, next.value.0.place, next.value.1) here.0 is c.in_err-space_end-in-Some-eq44.ensures.value.0, c.in_err-space_end-in-Some-eq44.ensures.value.1)

pub returns-clause-cost : goal.returns-clause-cost
returns-clause-cost c =
    let next = c.in_ok-next.ensures in
    elim c.match-next.branch [
      | in-Some-eq44+in_ok-space_end-in-Some-eq44 w ↦
          let taken = w.in_ok-space_end-in-Some-eq44.ensures in
          rw (w.looks-is, w.to-is) (omega (arith, next.cost.0, next.behind, taken.cost.0, taken.cost.1), omega (arith, next.cost.0, next.behind, taken.cost.0, taken.cost.1))
      | in_default w ↦ rw (w.looks-is, w.to-is) (omega (arith, next.cost.0, next.cost.1), omega (arith, next.cost.0, next.cost.1))
      | in_default-2 w ↦ rw (w.looks-is, w.to-is) (omega (arith, next.cost.0, next.cost.1), omega (arith, next.cost.0, next.cost.1))
    ]

pub returns-clause-value : goal.returns-clause-value
returns-clause-value c = read (goal.at.returns-clause-value c).After-slice
