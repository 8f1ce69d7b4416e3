-- The laws of `shown_keeps`, as lemmas have them.
use Rattle.cbor_edn_conversions.proofs.embedded.ShownMeanings.{show_keeps, shown_means, shown_means_alone}
use Rattle.cbor_edn_conversions.proofs.laws.shown_keeps.Goals as goal

pub returns-clause-calls : goal.returns-clause-calls
returns-clause-calls c = show_keeps

pub returns-clause-items : goal.returns-clause-items
returns-clause-items c = shown_means

pub returns-clause-alone : goal.returns-clause-alone
returns-clause-alone c = shown_means_alone
