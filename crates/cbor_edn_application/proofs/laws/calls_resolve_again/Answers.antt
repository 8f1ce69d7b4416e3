-- The laws of `calls_resolve_again`, as lemmas have them.
use Rattle.cbor_edn_application.proofs.ResolvedAgain.{sequences_resolved_again, items_resolved_again, sequences_mean_again, items_mean_again}
use Rattle.cbor_edn_application.proofs.laws.calls_resolve_again.Goals as goal

pub returns-clause-sequences : goal.returns-clause-sequences
returns-clause-sequences c = sequences_resolved_again

pub returns-clause-items : goal.returns-clause-items
returns-clause-items c = items_resolved_again

pub returns-clause-any_sequences : goal.returns-clause-any_sequences
returns-clause-any_sequences c = sequences_mean_again

pub returns-clause-any_items : goal.returns-clause-any_items
returns-clause-any_items c = items_mean_again
