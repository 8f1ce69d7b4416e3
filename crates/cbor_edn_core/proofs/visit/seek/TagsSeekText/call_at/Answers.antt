use Rattle.cbor_edn_model.proofs.lemmas.visit.VisitsOfParts.{reached_not}
use Rattle.cbor_edn_core.specs.tree.View.{item_tree}
use Rattle.cbor_edn_core.proofs.lemmas.visit.SoughtChains.{no_arguments}
use Rattle.cbor_edn_core.proofs.visit.seek.TagsSeekText.call_at.Goals as goal

pub returns-in_default-clause-reached : goal.returns-in_default-clause-reached
returns-in_default-clause-reached g c = reached_not (no_arguments (item_tree c.args.item.now) c.in_default.ensures.refused.1)
