use Rattle.std.proofs.Common.{◌≡◌, ◌++◌, refl, ap, ◌∙◌}
use Rattle.cbor_edn_model.specs.cbor.Value.{encoding}
use Rattle.cbor_edn_model.specs.cbor.Meaning.{magnitude_bytes, tagged_bytes, without_zeros}
use Rattle.cbor_edn_model.proofs.cbor.heads.encode_bignum.Goals as goal

pub returns-in_ok-encode_tagged-in-None : goal.returns-in_ok-encode_tagged-in-None
unfolding magnitude_bytes
returns-in_ok-encode_tagged-in-None c =
    let bytes : c.without_zeros.result.now ≡ magnitude_bytes c.args.number = c.without_zeros.ensures ∙ ap without_zeros c.to_be_bytes-bytes.ensures in
    (tagged_bytes c.args.tag (magnitude_bytes c.args.number), rw c.in-None.is refl, c.in_ok-encode_tagged-in-None.ensures ∙ ap (λ bs. c.args.out.now.items ++ encoding (tagged_bytes c.args.tag bs)) bytes)
