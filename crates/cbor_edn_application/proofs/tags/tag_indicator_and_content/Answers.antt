use Rattle.std.proofs.Common.{Some, option_map, sym, ap, ◌∙◌}
use Rattle.cbor_edn_core.specs.tree.View.{item_tree, standalone_tree}
use Rattle.cbor_edn_application.proofs.TagParts.{no_tag, another_tag, this_tag, has_content}
use Rattle.cbor_edn_application.proofs.tags.tag_indicator_and_content.Goals as goal

pub returns-in_err-number : goal.returns-in_err-number
returns-in_err-number c = ap (option_map _) c.from_residual.ensures ∙ sym (no_tag c.args.tag (item_tree c.args.item.now) (sym c.in_err-number.ensures))

pub returns-then-number-tag : goal.returns-then-number-tag
returns-then-number-tag c = sym (another_tag c.args.tag c.in_ok-number.number c.in_ok-number.indicator (item_tree c.args.item.now) (sym c.in_ok-number.ensures) c.if-number-tag.true)

pub returns-in-Ok : goal.returns-in-Ok
returns-in-Ok c =
    ap (λ w. Some (c.args.tag, c.in_ok-number.indicator, w)) c.item.ensures
    ∙ this_tag c.args.tag c.in_ok-number.number c.in_ok-number.indicator (standalone_tree c.in-Ok.content.now) (item_tree c.args.item.now) (sym c.in_ok-number.ensures) c.if-number-tag.false c.in-Ok.ensures.found

pub returns-in-Err : goal.returns-in-Err
returns-in-Err c = absurd (has_content c.in_ok-number.number c.in_ok-number.indicator (item_tree c.args.item.now) (sym c.in_ok-number.ensures) c.in-Err.ensures.refused.1)
