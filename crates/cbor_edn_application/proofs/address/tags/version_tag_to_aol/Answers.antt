use Rattle.std.proofs.Common.{rules, arith, true, Some, None, ◌≡◌, refl, ap, ◌∙◌}
use Rattle.std.proofs.lemmas.Grind.{common_steps}
use Rattle.cbor_edn_core.specs.visit.Callbacks.{error_answer}
use Rattle.cbor_edn_core.specs.tree.View.{item_tree}
use Rattle.cbor_edn_model.specs.visit.Seeking.{number}
use Rattle.cbor_edn_conversions.specs.Conversions.{called_tag, without_tag}
use Rattle.cbor_edn_conversions.specs.Addresses.{address_tag, address_literal, address_of_tag, pretty_address}
use Rattle.cbor_edn_application.specs.Placing.{with_placed}
use Rattle.cbor_edn_application.proofs.AddressTags.{no_parts, parts_are, literal_is}
use Rattle.cbor_edn_application.proofs.Replies.{none_acts, done_acts, stays_for}
use Rattle.cbor_edn_application.proofs.TagParts.{parts}
use Rattle.cbor_edn_application.proofs.address.tags.version_tag_to_aol.Goals as goal

pub returns-in_default : goal.returns-in_default
unfolding pretty_address
returns-in_default c =
    let n = c.address_tag.result in
    let w = item_tree c.args.item.now in
    let none : None ≡ called_tag (number n) w = first_of (search rules, grind (arith, common_steps), cc) in
    none_acts (address_of_tag (called_tag (number (address_tag c.args.version)) w)) w w (no_parts c.args.version n w c.address_tag.ensures none) refl

pub returns-in_ok-put-in-Ok : goal.returns-in_ok-put-in-Ok
unfolding pretty_address
returns-in_ok-put-in-Ok c =
    let version = c.args.version in
    let n = c.address_tag.result in
    let w = item_tree c.args.item.now in
    let i = c.in-Some.indicator in
    let x = item_tree c.in-Some.content.now in
    let are : Some (parts n i x) ≡ called_tag (number n) w = first_of (search rules, grind (arith, common_steps), cc) in
    let called = parts_are version n w c.address_tag.ensures i x are in
    done_acts (address_of_tag (called_tag (number (address_tag version)) w)) w (with_placed version true x c.in-Ok.placed) (item_tree c.put.new.tag)
    (literal_is version n w c.address_tag.ensures i x are ∙ ap (λ c. Some c) c.in-Ok.ensures.converted) (c.in_ok-put-in-Ok.ensures.put i x called)

pub returns-in-Err : goal.returns-in-Err
unfolding pretty_address
returns-in-Err c =
    let version = c.args.version in
    let n = c.address_tag.result in
    let w = item_tree c.args.item.now in
    let i = c.in-Some.indicator in
    let x = item_tree c.in-Some.content.now in
    let are : Some (parts n i x) ≡ called_tag (number n) w = first_of (search rules, grind (arith, common_steps), cc) in
    stays_for (λ e. e.now) (address_of_tag (called_tag (number (address_tag version)) w)) (without_tag i (address_tag version) (address_literal x version true)) w c.in-Err.fault (error_answer c.refusal.result)
    (literal_is version n w c.address_tag.ensures i x are) c.in-Err.ensures.refused c.refusal.ensures
