use Rattle.cbor_edn_parts.proofs.lemmas.string.StringLiterals.{hex_is_literal, bytes_all}
use Rattle.cbor_edn_parts.proofs.string.Literal.hex.Goals as goal

pub invariant_of-result : goal.invariant_of-result
invariant_of-result c = rw c.in_ok-text.ensures (record { spelled = hex_is_literal c.args.bytes.now (bytes_all c.args.bytes.now c.type_inv.bytes) })
