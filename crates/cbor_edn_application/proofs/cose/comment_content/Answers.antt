use Rattle.cbor_edn_core.specs.tree.View.{item_tree, standalone_tree}
use Rattle.cbor_edn_model.specs.tree.TreeLeaves.{texts}
use Rattle.cbor_edn_application.specs.Comments.{message_reply}
use Rattle.cbor_edn_application.proofs.CoseCalls.{inside_comments}
use Rattle.cbor_edn_application.proofs.KnownResults.{on_some}
use Rattle.cbor_edn_application.proofs.TagContents.{nothing_inside}
use Rattle.cbor_edn_application.proofs.cose.comment_content.Goals as goal

pub returns-in-Some : goal.returns-in-Some
returns-in-Some c =
    inside_comments (message_reply c.args.name.now c.args.structure) (standalone_tree c.args.content.now) _ (item_tree c.in-Some.array.now) (item_tree c.comment_array.new.array) _ (c.in-Some.ensures.value texts)
    (on_some c.at_mut.result _ c.in-Some.is (c.at_mut.follows.holds c.comment_array.new.array) texts) c.comment_array.ensures

pub returns-in-None : goal.returns-in-None
returns-in-None c = absurd (nothing_inside (standalone_tree c.args.content.now) (c.in-None.ensures.value texts))
