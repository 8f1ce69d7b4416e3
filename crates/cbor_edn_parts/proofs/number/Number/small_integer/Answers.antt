use Rattle.std.proofs.Common.{refl, ap, ◌∙◌}
use Rattle.cbor_edn_parts.specs.Leaves.{number_bytes}
use Rattle.cbor_edn_parts.specs.internal.NumberReading.{without_sign}
use Rattle.cbor_edn_parts.proofs.lemmas.number.NumberTexts.{number_texts}
use Rattle.cbor_edn_parts.proofs.lemmas.number.NumberParts.{minus_is, decimal_by, longer}
use Rattle.cbor_edn_parts.proofs.number.Number.small_integer.Goals as goal

pub returns-clause-some : goal.returns-clause-some
returns-clause-some c =
    let t = number_bytes c.args.self.now in
    let s = c.as_str.result.now in
    let sign = c.split_sign-is_negative in
    let bytes = c.as_bytes.result.now in
    decimal_by t bytes ((number_texts t).1 c.args.self.now.spelled) (c.as_bytes.ensures.value ∙ (sign.ensures.rest ∙ ap without_sign c.as_str.ensures)) c.in_ok-magnitude.ensures.some.0
    sign.result.0 c.in_ok-magnitude.magnitude _ (minus_is t s sign.result.0 c.as_str.ensures sign.ensures.sign) c.in_ok-magnitude.ensures.some.1 c.signed.ensures

pub returns-in_err-magnitude-clause-none : goal.returns-in_err-magnitude-clause-none
returns-in_err-magnitude-clause-none c = λ _.
    let bytes = c.as_bytes.result.now in
    longer (number_bytes c.args.self.now) bytes 19 (c.as_bytes.ensures.value ∙ (c.split_sign-is_negative.ensures.rest ∙ ap without_sign c.as_str.ensures))
    (λ numeral. c.in_err-magnitude.ensures.none refl numeral)
