use Rattle.std.proofs.Common.{List, ℕ, subst, sym, ap, ◌∙◌}
use Rattle.cbor_edn_application.specs.TimeSteps.{BecomesTime, decimal_literal}
use Rattle.cbor_edn_application.proofs.StepAnswers.{decimal_becomes, decimal_stays}
use Rattle.cbor_edn_application.proofs.time.literal.instant_of_decimal.Goals as goal

pub returns-in-Ok-clause-instant : goal.returns-in-Ok-clause-instant
returns-in-Ok-clause-instant c =
    subst (λ (x : List ℕ). BecomesTime (decimal_literal x c.args.indicator) c.in-Ok.instant.seconds c.in-Ok.instant.nanoseconds) c.as_bytes.ensures.value
    (decimal_becomes c.as_bytes.result.now c.in-Ok.instant.seconds c.in-Ok.instant.nanoseconds c.args.indicator (sym c.is_some.ensures ∙ c.if-is_some.false) c.in-Ok.ensures.ok.0 c.in-Ok.ensures.ok.1)

pub returns-in-Err-clause-refused : goal.returns-in-Err-clause-refused
returns-in-Err-clause-refused c = λ wrap.
    ap (λ (x : List ℕ). decimal_literal x c.args.indicator wrap) (sym c.as_bytes.ensures.value)
    ∙ (decimal_stays c.as_bytes.result.now c.args.indicator c.in-Err.refusal (sym c.is_some.ensures ∙ c.if-is_some.false) (λ e. c.in-Err.ensures.unreadable cc) (λ e. c.in-Err.ensures.out_of_range cc) wrap
    ∙ cc (c.message_of.ensures))
