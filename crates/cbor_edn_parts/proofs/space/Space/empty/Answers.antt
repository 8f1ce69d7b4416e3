use Rattle.std.proofs.Common.{refl}
use Rattle.cbor_edn_parts.specs.internal.Lex.{munch}
use Rattle.cbor_edn_parts.proofs.space.Space.empty.Goals as goal

pub invariant_of-result : goal.invariant_of-result
unfolding munch
invariant_of-result c = record { spelled = refl }
