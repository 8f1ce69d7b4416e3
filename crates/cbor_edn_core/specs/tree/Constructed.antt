-- The trees of items that are made from Rust values.
use Rattle.std.specs.Prelude.{List, [], Option}
use Rattle.std.specs.Iterator.{Count, IsFinite, Drains}
use Rattle.cbor_edn_model.specs.tree.Items.{Elements, Pairs}
use Rattle.cbor_edn_core.specs.tree.View as view
use Rattle.cbor_edn_core.specs.tree.View.{item_tree}
use Rattle.cbor_edn_model.specs.tree.Trees.{Tree, OneEntry, ElementTree, PairTree}

-- of what a constructor is handed: the iterator that it becomes can be asked for its next item until it ends
abbrev pub Ends : {U It : Type 0} → (U → It → Type 0) → (It → Type 0) → (It → Count) → U → Type 0
Ends {U} {It} becomes can_next remaining given = (it : It) → becomes given it → can_next it × IsFinite (remaining it)

-- P holds of all items that come of it, in order
abbrev pub OfAll : {U It X : Type 0} → (U → It → Type 0) → (It → Option X → It → Type 0) → U → (List X → Type 0) → Type 0
OfAll {U} {It} {X} becomes steps given P = (it : It) × (xs : List X) × becomes given it × Drains steps it xs × P xs

-- an item as an entry of a list
abbrev pub element_tree : view.Item → Tree (OneEntry Elements)
element_tree x = ElementTree (item_tree x)

-- a key and its value as an entry of a map, without space: `1:2`
abbrev pub pair_tree : view.Item × view.Item → Tree (OneEntry Pairs)
pair_tree p = PairTree (item_tree p.0) [] [] (item_tree p.1)
