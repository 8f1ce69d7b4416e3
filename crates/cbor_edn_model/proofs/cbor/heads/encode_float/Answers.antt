use Rattle.std.proofs.Common.{ℕ, ◌++◌, Option, Some, ap, ◌∙◌}
use Rattle.cbor_edn_model.specs.declared.cbor.heads.Width.{Width}
use Rattle.cbor_edn_model.specs.cbor.Value.{Value, float, head}
use Rattle.cbor_edn_model.specs.cbor.Meaning.{◌>>=◌}
use Rattle.cbor_edn_model.proofs.cbor.heads.encode_float.Goals as goal

pub returns : goal.returns
returns c =
    let width = c.in_ok-width.width in
    let make : Width → Option Value = λ w. Some (float w c.args.float) in
    (float width c.args.float, ap (λ o. o >>= make) c.in_ok-width.ensures.value, c.in_ok-encode_head.ensures ∙ ap (λ (n : ℕ). c.args.out.now.items ++ head 7 width n) c.float_bits.ensures.bits)
