-- The laws of `visited_once`, as lemmas have them.
use Rattle.cbor_edn_conversions.proofs.resolving.Turning.{tags_visited_once, literals_visited_once, tag_items_once, literal_items_once}
use Rattle.cbor_edn_conversions.proofs.laws.visited_once.Goals as goal

pub returns-clause-tags : goal.returns-clause-tags
returns-clause-tags c = tags_visited_once

pub returns-clause-literals : goal.returns-clause-literals
returns-clause-literals c = literals_visited_once

pub returns-clause-tag_items : goal.returns-clause-tag_items
returns-clause-tag_items c = tag_items_once

pub returns-clause-literal_items : goal.returns-clause-literal_items
returns-clause-literal_items c = literal_items_once
