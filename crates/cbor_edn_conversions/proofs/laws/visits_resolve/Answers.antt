-- The laws of visits that replace literals, as lemmas have them.
use Rattle.cbor_edn_conversions.proofs.resolving.Turning.{visits_resolve, visits_resolve_exactly}
use Rattle.cbor_edn_conversions.proofs.laws.visits_resolve.Goals as goal

pub returns-clause-values : goal.returns-clause-values
returns-clause-values c = visits_resolve

pub returns-clause-exactly : goal.returns-clause-exactly
returns-clause-exactly c = visits_resolve_exactly
