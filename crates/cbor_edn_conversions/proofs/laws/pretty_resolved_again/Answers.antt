-- The laws of `pretty_resolved_again`, as lemmas have them.
use Rattle.cbor_edn_conversions.proofs.conversions.ConversionsKept.{pretty_resolved_again, pretty_resolved_in_turn, items_resolved_back}
use Rattle.cbor_edn_conversions.proofs.laws.pretty_resolved_again.Goals as goal

pub returns-clause-one_visit : goal.returns-clause-one_visit
returns-clause-one_visit c = pretty_resolved_again

pub returns-clause-in_turn : goal.returns-clause-in_turn
returns-clause-in_turn c = pretty_resolved_in_turn

pub returns-clause-of_items : goal.returns-clause-of_items
returns-clause-of_items c = items_resolved_back
