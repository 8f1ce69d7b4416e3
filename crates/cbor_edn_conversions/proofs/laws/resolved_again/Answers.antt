-- The laws of `resolved_again`, as lemmas have them.
use Rattle.cbor_edn_conversions.proofs.resolving.Turning.{resolved_again, resolved_in_turn, items_resolved_again, answers_resolved_again}
use Rattle.cbor_edn_conversions.proofs.laws.resolved_again.Goals as goal

pub returns-clause-one_visit : goal.returns-clause-one_visit
returns-clause-one_visit c = resolved_again

pub returns-clause-in_turn : goal.returns-clause-in_turn
returns-clause-in_turn c = resolved_in_turn

pub returns-clause-of_items : goal.returns-clause-of_items
returns-clause-of_items c = items_resolved_again

pub returns-clause-of_answers : goal.returns-clause-of_answers
returns-clause-of_answers c = answers_resolved_again
