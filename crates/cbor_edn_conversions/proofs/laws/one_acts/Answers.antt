-- The laws of `one_acts`, as lemmas have them.
use Rattle.cbor_edn_conversions.proofs.conversions.OneActs.{pretty_by_number, resolved_by_prefix}
use Rattle.cbor_edn_conversions.proofs.laws.one_acts.Goals as goal

pub returns-clause-tags : goal.returns-clause-tags
returns-clause-tags c = pretty_by_number

pub returns-clause-literals : goal.returns-clause-literals
returns-clause-literals c = resolved_by_prefix
