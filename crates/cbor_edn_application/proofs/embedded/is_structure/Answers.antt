use Rattle.std.proofs.Common.{◌||◌, sym, ap, ◌∙◌}
use Rattle.std.specs.Prelude.{is_some}
use Rattle.cbor_edn_core.specs.tree.View.{item_tree}
use Rattle.cbor_edn_model.specs.access.Accessed.{tag_head, array_items}
use Rattle.cbor_edn_application.proofs.EmbeddedCalls.{structure_tests}
use Rattle.cbor_edn_application.proofs.embedded.is_structure.Goals as goal

pub returns : goal.returns
returns c =
    let w = item_tree c.args.item.now in
    c.any_of.ensures
    ∙ (ap (λ b. (b || c.is_array-array.result) || c.is_map-map.result) (c.is_some-tag.ensures ∙ ap is_some c.get_tag_head.ensures)
    ∙ (ap (λ b. (is_some (tag_head w) || b) || c.is_map-map.result) c.is_array-array.ensures
    ∙ (ap (λ b. (is_some (tag_head w) || is_some (array_items w)) || b) c.is_map-map.ensures ∙ sym (structure_tests w))))
