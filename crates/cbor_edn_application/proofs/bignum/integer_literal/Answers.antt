use Rattle.std.proofs.Common.{Some, sym, ap, ◌∙◌}
use Rattle.std.specs.Prelude.{option_map, string_bytes}
use Rattle.cbor_edn_conversions.specs.Bignums.{bignum_integer, if_same_integer}
use Rattle.cbor_edn_application.proofs.BignumBytes.{least_none}
use Rattle.cbor_edn_application.proofs.Magnitudes.{text_is, never_none}
use Rattle.cbor_edn_application.proofs.bignum.integer_literal.Goals as goal

pub returns-then-number-eq340282366920938463463374607431768211455-clause-none :
    goal.returns-then-number-eq340282366920938463463374607431768211455-clause-none
returns-then-number-eq340282366920938463463374607431768211455-clause-none c = λ w.
    ap (λ tag. if_same_integer w (bignum_integer tag c.args.number)) c.if-tag-eq3.true
    ∙ (ap (λ n. if_same_integer w (bignum_integer 3 n)) c.if-number-eq340282366920938463463374607431768211455.true ∙ least_none w)

pub returns-in-Some-clause-none : goal.returns-in-Some-clause-none
returns-in-Some-clause-none c =
    never_none c.new_number.result _ _
    (text_is c.args.tag c.args.number c.deref.result.now c.ranges.number.fits (ap (λ t. Some t) c.deref.ensures ∙ (ap (option_map string_bytes) (sym c.in-Some.is) ∙ c.in_ok-text.ensures)))
    c.new_number.ensures.none
