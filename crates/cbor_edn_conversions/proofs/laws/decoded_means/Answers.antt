-- The laws of meaning, as lemmas have them.
use Rattle.cbor_edn_conversions.proofs.resolving.Turning.{none_resolved, decoded_unresolved}
use Rattle.cbor_edn_conversions.proofs.laws.decoded_means.Goals as goal

pub returns-clause-none : goal.returns-clause-none
returns-clause-none c = none_resolved

pub returns-clause-decoded : goal.returns-clause-decoded
returns-clause-decoded c = decoded_unresolved
