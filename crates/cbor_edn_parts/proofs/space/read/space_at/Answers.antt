use Rattle.cbor_edn_parts.specs.internal.SpaceTokens as tokens
use Rattle.cbor_edn_parts.proofs.lemmas.base.Tokens.{taken}
use Rattle.cbor_edn_parts.proofs.space.read.space_at.Goals as goal

pub invariant_of-result : goal.invariant_of-result
invariant_of-result c = record { spelled = rw c.slice.ensures (taken tokens.space _ _ _ c.in_ok-to.ensures.value.1) }
