use Rattle.std.proofs.Common.{ℕ, List, IsTrue}
use Rattle.cbor_edn_parts.specs.Leaves.{number_bytes}
use Rattle.cbor_edn_parts.specs.number.Number.{IsNumber}
use Rattle.cbor_edn_parts.specs.internal.NumberTokens.{is_number}
use Rattle.cbor_edn_parts.proofs.lemmas.number.NumberTexts.{number_texts}
use Rattle.cbor_edn_parts.proofs.lemmas.number.NumberParts.{minus_is, digits_are, base_is, too_large, integer_by}
use Rattle.cbor_edn_parts.proofs.number.Number.integer.Goals as goal

is : (t : List ℕ) → IsTrue (is_number t) → IsNumber t
is t e = (number_texts t).1 e

pub returns-in-Ok-clause-some : goal.returns-in-Ok-clause-some
returns-in-Ok-clause-some c =
    let t = number_bytes c.args.self.now in
    let s = c.as_str.result.now in
    let sign = c.split_sign-is_negative in
    let base = c.split_base-radix in
    let d = digits_are t s sign.result.1.now base.result.1.now c.as_str.ensures sign.ensures.rest base.ensures.digits in
    let b = base_is t s sign.result.1.now base.result.0 c.as_str.ensures sign.ensures.rest base.ensures.base in
    integer_by t base.result.1.now base.result.0 (is t c.args.self.now.spelled) d b sign.result.0 c.in-Ok.magnitude _
    (minus_is t s sign.result.0 c.as_str.ensures sign.ensures.sign) c.in-Ok.ensures.value.0.0 c.in-Ok.ensures.value.1 c.signed.ensures.value

pub returns-in-Err-clause-none : goal.returns-in-Err-clause-none
returns-in-Err-clause-none c = λ _.
    let t = number_bytes c.args.self.now in
    let s = c.as_str.result.now in
    let sign = c.split_sign-is_negative in
    let base = c.split_base-radix in
    let d = digits_are t s sign.result.1.now base.result.1.now c.as_str.ensures sign.ensures.rest base.ensures.digits in
    let b = base_is t s sign.result.1.now base.result.0 c.as_str.ensures sign.ensures.rest base.ensures.base in
    too_large t base.result.1.now base.result.0 (is t c.args.self.now.spelled) d b c.in-Err.ensures.value
