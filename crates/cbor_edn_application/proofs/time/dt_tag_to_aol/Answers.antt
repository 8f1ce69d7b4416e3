use Rattle.std.proofs.Common.{true, Some, sym, ap, refl}
use Rattle.cbor_edn_core.specs.tree.View.{item_tree}
use Rattle.cbor_edn_model.specs.visit.Seeking.{number}
use Rattle.cbor_edn_conversions.specs.Conversions.{reply, called_tag, without_tag}
use Rattle.cbor_edn_conversions.specs.Times.{time_literal, time_of_tag, pretty_time}
use Rattle.cbor_edn_application.proofs.Replies.{none_acts, acts_as}
use Rattle.cbor_edn_application.proofs.TimeCalls.{other_tag, of_tag}
use Rattle.cbor_edn_application.proofs.time.dt_tag_to_aol.Goals as goal

pub returns-then-tag-ne1 : goal.returns-then-tag-ne1
unfolding pretty_time
returns-then-tag-ne1 c =
    none_acts (time_of_tag (called_tag (number c.args.tag) (item_tree c.args.item.now))) (item_tree c.args.item.now) (item_tree c.args.item.now) (other_tag c.args.tag (item_tree c.args.item.now) c.if-tag-ne1.true) refl

pub returns-in_default : goal.returns-in_default
unfolding pretty_time
returns-in_default c =
    none_acts (time_of_tag (called_tag (number c.args.tag) (item_tree c.args.item.now))) (item_tree c.args.item.now) (item_tree c.args.item.now) (ap time_of_tag (sym c.in_default.ensures)) refl

pub returns : goal.returns
unfolding pretty_time
returns c =
    let converted = of_tag c.args.tag c.in-Some.indicator (item_tree c.in-Some.content.now) (item_tree c.args.item.now) c.if-tag-ne1.false c.in-Some.ensures in
    acts_as (λ w. reply w (Some (without_tag c.in-Some.indicator 1 (time_literal (item_tree c.in-Some.content.now) true)))) (pretty_time (number c.args.tag)) (item_tree c.args.item.now) _ _
    (ap (reply (item_tree c.args.item.now)) converted)
    (c.reply.ensures (without_tag c.in-Some.indicator 1 (time_literal (item_tree c.in-Some.content.now) true)) c.tag_literal-conversion.ensures.converted c.tag_literal-conversion.ensures.refused)
