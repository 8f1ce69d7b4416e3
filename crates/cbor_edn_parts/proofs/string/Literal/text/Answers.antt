use Rattle.cbor_edn_parts.proofs.lemmas.string.StringLiterals.{text_is_literal, bytes_all}
use Rattle.cbor_edn_parts.proofs.string.Literal.text.Goals as goal

pub invariant_of-result : goal.invariant_of-result
invariant_of-result c = rw c.in_ok-text.ensures (record { spelled = text_is_literal c.args.text.now (bytes_all c.args.text.now c.type_inv.text) })
