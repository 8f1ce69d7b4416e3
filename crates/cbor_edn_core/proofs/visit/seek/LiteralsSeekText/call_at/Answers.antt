use Rattle.std.proofs.Common.{refl}
use Rattle.cbor_edn_model.proofs.lemmas.visit.VisitsOfParts.{reached_not}
use Rattle.cbor_edn_core.specs.tree.View.{item_tree}
use Rattle.cbor_edn_core.proofs.lemmas.visit.SoughtChains.{no_literal_arguments}
use Rattle.cbor_edn_core.proofs.visit.seek.LiteralsSeekText.call_at.Goals as goal

pub returns-then-not-may_have_prefix-clause-reached : goal.returns-then-not-may_have_prefix-clause-reached
returns-then-not-may_have_prefix-clause-reached g c = reached_not (no_literal_arguments (item_tree c.args.item.now) (c.if-not-may_have_prefix.ensures refl))
