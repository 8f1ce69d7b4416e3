use Rattle.std.proofs.Common.{◌≡◌, length, ap, arith}
use Rattle.cbor_edn_parts.specs.declared.string.StringKind.{StringKind}
use Rattle.cbor_edn_parts.specs.string.Contents.{hex_literal, kind_literal}
use Rattle.cbor_edn_stream.proofs.lemmas.Narrow.{hex_narrow}
use Rattle.cbor_edn_stream.proofs.columns.literal_len.Goals as goal

pub returns-in-Bytes : goal.returns-in-Bytes
returns-in-Bytes c =
    let same : length (kind_literal c.args.kind c.args.content.now) ≡ length (hex_literal c.args.content.now) = ap (λ (k : StringKind). length (kind_literal k c.args.content.now)) c.in-Bytes.is in
    omega (arith, same, hex_narrow c.args.content.now)
