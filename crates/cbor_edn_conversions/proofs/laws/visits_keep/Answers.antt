-- The laws of visits that keep a meaning, as lemmas have them.
use Rattle.cbor_edn_conversions.proofs.resolving.Turning.{tag_visits_keep, tag_visits_keep_exactly, literal_visits_keep, literal_visits_keep_exactly}
use Rattle.cbor_edn_conversions.proofs.laws.visits_keep.Goals as goal

pub returns-clause-tags : goal.returns-clause-tags
returns-clause-tags c = tag_visits_keep

pub returns-clause-tags_exactly : goal.returns-clause-tags_exactly
returns-clause-tags_exactly c = tag_visits_keep_exactly

pub returns-clause-literals : goal.returns-clause-literals
returns-clause-literals c = literal_visits_keep

pub returns-clause-literals_exactly : goal.returns-clause-literals_exactly
returns-clause-literals_exactly c = literal_visits_keep_exactly
