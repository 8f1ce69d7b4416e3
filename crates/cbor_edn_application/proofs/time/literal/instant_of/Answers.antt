use Rattle.std.proofs.Common.{ℤ, subst, sym, rules}
use denote.Enum.Bare.{same_true, same_false}
use mir.Val.{SFits}
use Rattle.std.specs.Int.{w128}
use Rattle.std.proofs.Math.Facts.{to_z-of_z}
use Rattle.std.proofs.lemmas.Result.{IfOk-weaker, IfErr-weaker}
use Rattle.cbor_edn_core.specs.contracts.access.TypeMismatch.{the_type}
use Rattle.cbor_edn_core.specs.tree.View.{item_tree}
use Rattle.cbor_edn_conversions.specs.Times.{time_literal}
use Rattle.cbor_edn_application.specs.TimeSteps.{BecomesTime, StaysFor, integer_literal, decimal_literal}
use Rattle.cbor_edn_application.proofs.StepAnswers.{no_number, becomes_as, stays_as, integer_steps, decimal_steps, large_stays, in_range, no_integer}
use Rattle.cbor_edn_application.proofs.time.literal.instant_of.Goals as goal

pub returns-in_default-clause-refused : goal.returns-in_default-clause-refused
returns-in_default-clause-refused c = no_number (item_tree c.args.item.now) (sym c.in_default.ensures)

pub returns-then-eq-clause-refused : goal.returns-then-eq-clause-refused
returns-then-eq-clause-refused c =
    large_stays (item_tree c.args.item.now) c.in-Some.text.now c.in-Some.indicator (sym c.in-Some.ensures)
    (in_range _ c.in-Err.mismatch c.in-Err.ensures.words (same_true the_type (search rules) _ _ (sym c.if-eq.ensures))) c.in-Err.ensures.refused

pub returns-in-Ok-clause-instant : goal.returns-in-Ok-clause-instant
returns-in-Ok-clause-instant c =
    let fits : SFits w128 c.in-Ok.integer = search rules in
    IfOk-weaker c.instant_of_integer.result _ _
    (λ i is. becomes_as (time_literal (item_tree c.args.item.now)) (integer_literal c.in-Ok.integer c.in-Some.indicator) i.seconds i.nanoseconds
    (integer_steps (item_tree c.args.item.now) c.in-Some.text.now c.in-Some.indicator (sym c.in-Some.ensures) c.in-Ok.integer c.in-Ok.ensures.found)
    (subst (λ (z : ℤ). BecomesTime (integer_literal z c.in-Some.indicator) i.seconds i.nanoseconds) (to_z-of_z fits) is))
    c.instant_of_integer.ensures.instant

pub returns-in-Ok-clause-refused : goal.returns-in-Ok-clause-refused
returns-in-Ok-clause-refused c =
    let fits : SFits w128 c.in-Ok.integer = search rules in
    IfErr-weaker c.instant_of_integer.result _ _
    (λ e is. stays_as (time_literal (item_tree c.args.item.now)) (integer_literal c.in-Ok.integer c.in-Some.indicator) e.now
    (integer_steps (item_tree c.args.item.now) c.in-Some.text.now c.in-Some.indicator (sym c.in-Some.ensures) c.in-Ok.integer c.in-Ok.ensures.found)
    (subst (λ (z : ℤ). StaysFor (integer_literal z c.in-Some.indicator) e.now) (to_z-of_z fits) is))
    c.instant_of_integer.ensures.refused

pub returns-else-eq-clause-instant : goal.returns-else-eq-clause-instant
returns-else-eq-clause-instant c =
    IfOk-weaker c.instant_of_decimal.result _ _
    (λ i is. becomes_as (time_literal (item_tree c.args.item.now)) (decimal_literal c.in-Some.text.now c.in-Some.indicator) i.seconds i.nanoseconds
    (decimal_steps (item_tree c.args.item.now) c.in-Some.text.now c.in-Some.indicator (sym c.in-Some.ensures) (no_integer _ c.in-Err.mismatch c.in-Err.ensures.words (same_false the_type _ _ (sym c.if-eq.ensures)))) is)
    c.instant_of_decimal.ensures.instant

pub returns-else-eq-clause-refused : goal.returns-else-eq-clause-refused
returns-else-eq-clause-refused c =
    IfErr-weaker c.instant_of_decimal.result _ _
    (λ e is. stays_as (time_literal (item_tree c.args.item.now)) (decimal_literal c.in-Some.text.now c.in-Some.indicator) e.now
    (decimal_steps (item_tree c.args.item.now) c.in-Some.text.now c.in-Some.indicator (sym c.in-Some.ensures) (no_integer _ c.in-Err.mismatch c.in-Err.ensures.words (same_false the_type _ _ (sym c.if-eq.ensures)))) is)
    c.instant_of_decimal.ensures.refused
