-- The laws of `by_prefix`, as lemmas have them.
use Rattle.cbor_edn_conversions.proofs.resolving.Turning.{resolvers_by_prefix}
use Rattle.cbor_edn_conversions.proofs.laws.by_prefix.Goals as goal

pub returns : goal.returns
returns c = resolvers_by_prefix
