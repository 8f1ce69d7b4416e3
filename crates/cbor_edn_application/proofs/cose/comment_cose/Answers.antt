use Rattle.std.proofs.Common.{sym, ap, ◌∙◌}
use Rattle.std.specs.Prelude.{option_map}
use Rattle.cbor_edn_core.specs.tree.View.{item_tree, standalone_tree}
use Rattle.cbor_edn_model.specs.tree.TreeLeaves.{texts}
use Rattle.cbor_edn_model.specs.visit.Seeking.{number}
use Rattle.cbor_edn_application.proofs.CoseCalls.{message_comments, no_message, message_content}
use Rattle.cbor_edn_application.proofs.KnownResults.{ok_is}
use Rattle.cbor_edn_application.proofs.cose.comment_cose.Goals as goal

pub returns-in_default : goal.returns-in_default
returns-in_default c = no_message (number c.args.tag) (item_tree c.args.item.now) (sym c.called_message.ensures ∙ ap (option_map _) c.in_default.is)

pub returns-in-Ok : goal.returns-in-Ok
returns-in-Ok c =
    message_comments (number c.args.tag) c.in-Some.name.now c.in-Some.structure (item_tree c.args.item.now) _ (standalone_tree c.in-Ok.content.now) (standalone_tree c.comment_content.new.content) _
    (sym c.called_message.ensures ∙ ap (option_map _) c.in-Some.is) (c.in-Ok.ensures.found texts) (c.get_tagged_mut.follows.holds c.comment_content.new.content (ok_is c.get_tagged_mut.result _ c.in-Ok.is) texts) c.comment_content.ensures

pub returns-in-Err : goal.returns-in-Err
returns-in-Err c = absurd (message_content (number c.args.tag) (item_tree c.args.item.now) (c.in-Some.name.now, c.in-Some.structure) (sym c.called_message.ensures ∙ ap (option_map _) c.in-Some.is) (c.in-Err.ensures.refused.1 texts))
