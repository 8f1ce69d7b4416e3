-- The laws of `visits_items`, as lemmas have them.
use Rattle.cbor_edn_conversions.proofs.resolving.Turning.{tag_visits_items, literal_visits_items, tag_visits_turn_items, literal_visits_turn_items}
use Rattle.cbor_edn_conversions.proofs.laws.visits_items.Goals as goal

pub returns-clause-tags : goal.returns-clause-tags
returns-clause-tags c = tag_visits_items

pub returns-clause-literals : goal.returns-clause-literals
returns-clause-literals c = literal_visits_items

pub returns-clause-tags_turn : goal.returns-clause-tags_turn
returns-clause-tags_turn c = tag_visits_turn_items

pub returns-clause-literals_turn : goal.returns-clause-literals_turn
returns-clause-literals_turn c = literal_visits_turn_items
