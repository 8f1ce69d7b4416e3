use Rattle.std.proofs.Common.{◌≡◌, [], map, rules, ap, ◌∙◌}
use Rattle.cbor_edn_core.specs.tree.Constructed.{element_tree}
use Rattle.cbor_edn_core.specs.tree.View.{item_tree}
use Rattle.cbor_edn_model.specs.tree.Constructed.{comma_inside}
use Rattle.cbor_edn_model.specs.tree.Items.{Array}
use Rattle.cbor_edn_model.specs.tree.Trees.{Tree, OneItem, ElementTree, LastTree, ListTree}
use Rattle.cbor_edn_application.proofs.Lists.{all_of_vec}
use Rattle.cbor_edn.specs.Elements.{elements}
use Rattle.cbor_edn.proofs.long_arrays.array_sequence.Goals as goal

pub returns : goal.returns
returns c =
    let h = c.in_ok-array.ensures in
    let holds = h.2 in
    let array = all_of_vec (λ xs. item_tree c.in_ok-array.array ≡ ListTree Array (comma_inside (map element_tree xs))) c.args.items.items h.1 h.0 holds.0 (holds.1 ∙ search rules) h.3 h.4 in
    c.of_item.ensures ∙ ap (λ (t : Tree OneItem). elements (LastTree (ElementTree t) [])) array
