-- The laws of `visits_exist`, as lemmas have them.
use Rattle.cbor_edn_conversions.proofs.resolving.Existing.{tag_visits_exist, literal_visits_exist}
use Rattle.cbor_edn_conversions.proofs.laws.visits_exist.Goals as goal

pub returns-clause-tags : goal.returns-clause-tags
returns-clause-tags c = tag_visits_exist

pub returns-clause-literals : goal.returns-clause-literals
returns-clause-literals c = literal_visits_exist
