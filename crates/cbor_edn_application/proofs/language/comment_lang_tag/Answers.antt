use Rattle.std.proofs.Common.{true, ◌≡◌, ◌∙◌, sym}
use Rattle.cbor_edn_core.specs.tree.View.{item_tree, standalone_tree}
use Rattle.cbor_edn_model.specs.tree.TreeLeaves.{texts}
use Rattle.cbor_edn_model.specs.visit.Seeking.{number}
use Rattle.cbor_edn_conversions.specs.Annotations.{with_direction, is_called_tag}
use Rattle.cbor_edn_application.proofs.KnownResults.{ok_is}
use Rattle.cbor_edn_application.proofs.TagContents.{tag_acts, called_content, language_acts, other_acts}
use Rattle.cbor_edn_application.proofs.language.comment_lang_tag.Goals as goal

pub returns-then-not-is_language_tag : goal.returns-then-not-is_language_tag
returns-then-not-is_language_tag c =
    other_acts (number c.args.tag) (item_tree c.args.item.now) (sym c.is_language_tag.ensures ∙ c.if-not-is_language_tag.true)

pub returns-in-Ok : goal.returns-in-Ok
returns-in-Ok c =
    language_acts (number c.args.tag) (item_tree c.args.item.now) _ _ (sym c.is_language_tag.ensures ∙ c.if-not-is_language_tag.false)
    (tag_acts with_direction (item_tree c.args.item.now) _ (standalone_tree c.in-Ok.content.now) (standalone_tree c.comment_content.new.content) _ (c.in-Ok.ensures.found texts)
    (c.get_tagged_mut.follows.holds c.comment_content.new.content (ok_is c.get_tagged_mut.result _ c.in-Ok.is) texts) c.comment_content.ensures)

pub returns-in-Err : goal.returns-in-Err
returns-in-Err c =
    let called : is_called_tag (number c.args.tag) 38 (item_tree c.args.item.now) ≡ true = sym c.is_language_tag.ensures ∙ c.if-not-is_language_tag.false in
    absurd (called_content (number c.args.tag) 38 (item_tree c.args.item.now) called (c.in-Err.ensures.refused.1 texts))
