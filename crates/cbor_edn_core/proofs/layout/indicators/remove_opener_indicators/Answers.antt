use Rattle.cbor_edn_model.specs.tree.TreeLeaves.{texts}
use Rattle.cbor_edn_core.proofs.lemmas.layout.ViewsWithoutIndicators.{no_opener}
use Rattle.cbor_edn_core.proofs.layout.indicators.remove_opener_indicators.Goals as goal

pub returns-in_default : goal.returns-in_default
returns-in_default c = no_opener texts c.args.item.now.inner (λ w. c.in_default.not-Enclosed w.0 w.1 w.2)
