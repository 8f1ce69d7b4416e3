use Rattle.std.proofs.Common.{sym, ap, ◌∙◌}
use Rattle.cbor_edn_model.specs.tree.TreeLeaves.{texts}
use Rattle.cbor_edn_model.specs.access.Paths.{items_in}
use Rattle.cbor_edn_model.proofs.lemmas.access.CountedItems.{element_items}
use Rattle.cbor_edn_core.specs.tree.View.{view_items, view_some}
use Rattle.cbor_edn_core.proofs.lemmas.tree.Views.{view_sequence_is}
use Rattle.cbor_edn_core.proofs.access.lending.SequenceItemsMut.new.Goals as goal

pub returns-in-Some : goal.returns-in-Some
returns-in-Some c =
    c.new.ensures ∙ sym (element_items (view_items texts c.in-Some.items))
    ∙ sym (ap items_in (view_sequence_is texts c.args.sequence.now ∙ ap (view_some texts _) c.in-Some.is))
