use Rattle.std.proofs.Common.{◌≡◌, Some, string_bytes, sym, ap, ◌∙◌, refl}
use Rattle.cbor_edn_core.specs.tree.View.{item_tree}
use Rattle.cbor_edn_model.specs.visit.Seeking.{prefix_and_text}
use Rattle.cbor_edn_conversions.specs.Conversions.{reply}
use Rattle.cbor_edn_conversions.specs.Times.{time_item, time_of_literal, resolve_time}
use Rattle.cbor_edn_application.proofs.Replies.{none_acts, acts_as}
use Rattle.cbor_edn_application.proofs.time.dt_aol_to_item.Goals as goal

pub returns-in_default : goal.returns-in_default
unfolding resolve_time
returns-in_default c =
    none_acts (time_of_literal (string_bytes c.args.prefix) (string_bytes c.args.text)) (item_tree c.args.item.now) (item_tree c.args.item.now)
    (ap (λ p. time_of_literal p (string_bytes c.args.text)) (sym c.as_str.ensures.value) ∙ c.in_default.ensures.other (string_bytes c.args.text)) refl

pub returns : goal.returns
unfolding resolve_time
returns c =
    let converted : time_of_literal (string_bytes c.args.prefix) (string_bytes c.args.text) ≡ Some (time_item c.in-Some.wrap c.as_str-2.result.now) =
    ap (λ p. time_of_literal p (string_bytes c.args.text)) (sym c.as_str.ensures.value)
    ∙ (c.in-Some.ensures.time (string_bytes c.args.text) ∙ ap (λ t. Some (time_item c.in-Some.wrap t)) (sym c.as_str-2.ensures.value)) in
    acts_as (λ w. reply w (Some (time_item c.in-Some.wrap c.as_str-2.result.now))) (resolve_time (prefix_and_text (string_bytes c.args.prefix) (string_bytes c.args.text)))
    (item_tree c.args.item.now) _ _ (ap (reply (item_tree c.args.item.now)) converted)
    (c.reply.ensures (time_item c.in-Some.wrap c.as_str-2.result.now) c.time_item-conversion.ensures.converted c.time_item-conversion.ensures.refused)
