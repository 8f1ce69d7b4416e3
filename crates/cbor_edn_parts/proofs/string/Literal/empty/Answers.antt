use Rattle.cbor_edn_parts.specs.declared.string.StringKind.TheVariants.{Bytes, Text}
use Rattle.cbor_edn_parts.proofs.lemmas.string.StringLiterals.{empty_is_literal}
use Rattle.cbor_edn_parts.proofs.string.Literal.empty.Goals as goal
use Rattle.cbor_edn_parts.proofs.string.Literal.empty.Goals.{in-Bytes, in-Text}

pub invariant_of-result : goal.invariant_of-result
invariant_of-result c = elim c.match-kind.branch [
  | in-Bytes w ↦ rw w.text-is (record { spelled = empty_is_literal Bytes })
  | in-Text w ↦ rw w.text-is (record { spelled = empty_is_literal Text })
]
