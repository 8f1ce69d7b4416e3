-- The laws of `nest_as_meant`, as lemmas have them.
use Rattle.cbor_edn_conversions.proofs.nesting.Meant.{nests_as_meant, decoded_is_direct}
use Rattle.cbor_edn_conversions.proofs.laws.nest_as_meant.Goals as goal

pub returns-clause-within : goal.returns-clause-within
returns-clause-within c = nests_as_meant

pub returns-clause-decoded : goal.returns-clause-decoded
returns-clause-decoded c = decoded_is_direct
