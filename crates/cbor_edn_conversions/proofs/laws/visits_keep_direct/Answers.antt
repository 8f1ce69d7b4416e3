-- The laws of `visits_keep_direct`, as lemmas have them.
use Rattle.cbor_edn_conversions.proofs.nesting.DirectVisits.{tag_visits_keep_direct, literal_visits_keep_direct}
use Rattle.cbor_edn_conversions.proofs.laws.visits_keep_direct.Goals as goal

pub returns-clause-tags : goal.returns-clause-tags
returns-clause-tags c = tag_visits_keep_direct

pub returns-clause-literals : goal.returns-clause-literals
returns-clause-literals c = literal_visits_keep_direct
