use Rattle.std.proofs.Common.{◌∙◌}
use Rattle.cbor_edn_parts.specs.Leaves.{number_bytes}
use Rattle.cbor_edn_parts.proofs.lemmas.number.NumberParts.{digits_are, base_is, integer_texts_by}
use Rattle.cbor_edn_parts.proofs.number.Number.is_integer.Goals as goal

pub returns : goal.returns
returns c =
    let t = number_bytes c.args.self.now in
    let s = c.as_str.result.now in
    let sign = c.split_sign in
    let base = c.split_base-radix in
    let d = digits_are t s sign.result.1.now base.result.1.now c.as_str.ensures sign.ensures.rest base.ensures.digits in
    let b = base_is t s sign.result.1.now base.result.0 c.as_str.ensures sign.ensures.rest base.ensures.base in
    integer_texts_by t c.as_bytes.result.now base.result.0 c.is_numeral.result (c.as_bytes.ensures.value ∙ d) b c.is_numeral.ensures
