use Rattle.cbor_edn_parts.specs.internal.LiteralTokens as tokens
use Rattle.cbor_edn_parts.proofs.lemmas.base.Tokens.{taken}
use Rattle.cbor_edn_parts.proofs.string.read.ellipsis_at.Goals as goal

pub invariant_of-result : goal.invariant_of-result
invariant_of-result c = record { spelled = taken tokens.ellipsis _ _ _ c.in_ok-text.ensures.value }
