-- What the iterators that lend the parts of items and sequences have left.
use Rattle.std.specs.Prelude.{List, [], ◌++◌, map, Option, Some, None, option_to_list, option_map}
use Rattle.std.specs.Slice.Iter.{iter_mut_rest}
use Rattle.std.specs.declared.slice.IterMut.{IterMut}
use Rattle.cbor_edn_core.specs.tree.View.{Item}
use Rattle.cbor_edn_core.specs.declared.access.lending.ArrayItemsMut.{ArrayItemsMut}
use Rattle.cbor_edn_core.specs.declared.access.lending.MapItemsMut.{MapItemsMut}
use Rattle.cbor_edn_core.specs.declared.access.lending.SequenceItemsMut.{SequenceItemsMut}

abbrev pub row_to_lend : {X : Type 0} → Option (IterMut X) → List X
row_to_lend None = []
row_to_lend (Some row) = iter_mut_rest row

abbrev pub items_to_lend : ArrayItemsMut → List Item
items_to_lend it = map (λ p. p.0) (row_to_lend it.row) ++ option_to_list (option_map (λ x. x.now) it.last)

abbrev pub pairs_to_lend : MapItemsMut → List (Item × Item)
pairs_to_lend it = map (λ p. (p.0.key, p.0.value)) (row_to_lend it.row) ++ option_to_list (option_map (λ x. (x.now.key, x.now.value)) it.last)

abbrev pub sequence_items_to_lend : SequenceItemsMut → List Item
sequence_items_to_lend it = items_to_lend it.items
