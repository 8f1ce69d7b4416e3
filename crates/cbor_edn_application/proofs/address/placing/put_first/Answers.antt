use Rattle.std.proofs.Common.{[], ◌∷◌, ap, ◌∙◌}
use Rattle.cbor_edn_core.specs.tree.View.{item_tree}
use Rattle.cbor_edn_model.specs.access.Paths.{with_at, with_item}
use Rattle.cbor_edn_conversions.specs.Addresses.{address_tag}
use Rattle.cbor_edn_conversions.specs.Conversions.{tag_tree}
use Rattle.cbor_edn_application.proofs.FirstItems.{content_with_first}
use Rattle.cbor_edn_application.proofs.address.placing.put_first.Goals as goal

pub returns-clause-put : goal.returns-clause-put
returns-clause-put c = λ i w called.
    let n = c.address_tag.result in
    let old = item_tree c.args.tag.now in
    let x = item_tree c.args.literal in
    let first = item_tree c.replace_inside-first.result in
    let literal = c.replace_inside-first.ensures.put n old c.in_ok-put_into_tag.ensures.tagged in
    let element = c.replace_inside-content.ensures.put n (with_at (0 ∷ 0 ∷ []) x old) literal in
    let content = c.replace_inside-content.ensures.before n (with_at (0 ∷ 0 ∷ []) x old) literal in
    c.replace_inside.ensures.put n (with_at (0 ∷ []) first (with_at (0 ∷ 0 ∷ []) x old)) element
    ∙ (ap (tag_tree n) (content ∙ content_with_first (address_tag c.args.version) i w old x first called) ∙ ap (λ n. tag_tree n (with_item 0 x w)) c.address_tag.ensures)
