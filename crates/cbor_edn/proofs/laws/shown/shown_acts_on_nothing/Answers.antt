use Rattle.cbor_edn.proofs.Shown.{shown_acts_on_nothing, named_acts_on_nothing}
use Rattle.cbor_edn.proofs.laws.shown.shown_acts_on_nothing.Goals as goal

pub returns-clause-shown : goal.returns-clause-shown
returns-clause-shown c = shown_acts_on_nothing

pub returns-clause-named : goal.returns-clause-named
returns-clause-named c = named_acts_on_nothing
