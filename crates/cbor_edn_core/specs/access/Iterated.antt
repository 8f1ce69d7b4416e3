-- What the iterators over the parts of an item have left.
use Rattle.std.specs.Prelude.{List, [], ◌++◌, map, Option, Some, None, option_to_list, option_map}
use Rattle.std.specs.Slice.Iter.{iter_rest}
use Rattle.std.specs.declared.slice.Iter.{Iter}
use Rattle.cbor_edn_model.specs.tree.Trees.{Tree, OneItem}
use Rattle.cbor_edn_core.specs.tree.View.{Item, item_tree}
use Rattle.cbor_edn_core.specs.declared.access.iterators.ArrayItems.{ArrayItems}
use Rattle.cbor_edn_core.specs.declared.access.iterators.MapItems.{MapItems}

abbrev pub row_left : {X : Type 0} → Option (Iter X) → List X
row_left None = []
row_left (Some row) = iter_rest row

abbrev pub items_left : ArrayItems → List Item
items_left it = map (λ p. p.0) (row_left it.row) ++ option_to_list (option_map (λ x. x.now) it.last)

abbrev pub pairs_left : MapItems → List (Item × Item)
pairs_left it = map (λ p. (p.0.key, p.0.value)) (row_left it.row) ++ option_to_list (option_map (λ x. (x.now.key, x.now.value)) it.last)

abbrev pub both_trees : Item × Item → Tree OneItem × Tree OneItem
both_trees p = (item_tree p.0, item_tree p.1)
