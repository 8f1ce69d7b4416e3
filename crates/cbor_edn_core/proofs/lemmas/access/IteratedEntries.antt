-- The entries of a list are what an iterator over it has left.
use Rattle.std.proofs.Common.{◌≡◌, ℕ, List, [], ◌∷◌, ◌++◌, length, map, Option, Some, None, refl, sym, ap, ◌∙◌}
use Rattle.std.specs.Borrow.{Bor, MutBor}
use Rattle.std.specs.declared.slice.Iter.{Iter}
use Rattle.std.specs.declared.slice.IterMut.{IterMut}
use Rattle.cbor_edn_parts.specs.declared.space.Space.{Space}
use Rattle.cbor_edn_parts.specs.declared.space.MandatorySpace.{MandatorySpace}
use Rattle.cbor_edn_parts.specs.declared.space.Separator.{Separator}
use Rattle.cbor_edn_parts.specs.declared.space.ListEnd.{ListEnd}
use Rattle.cbor_edn_parts.specs.declared.number.Number.{Number}
use Rattle.cbor_edn_parts.specs.declared.string.Literal.{Literal}
use Rattle.cbor_edn_parts.specs.declared.string.Ellipsis.{Ellipsis}
use Rattle.cbor_edn_model.specs.access.Accessed.{entries, element, key_and_value}
use Rattle.cbor_edn_model.specs.tree.Items.{Row}
use Rattle.cbor_edn_model.specs.tree.TreeLeaves.{texts}
use Rattle.cbor_edn_model.specs.tree.Rows.{entries_onto}
use Rattle.cbor_edn_model.specs.tree.Trees.{Tree, OneEntry, LastTree, ElementTree}
use Rattle.cbor_edn_core.specs.access.Iterated.{both_trees, row_left, pairs_left}
use Rattle.cbor_edn_core.specs.access.IteratedMut.{row_to_lend, pairs_to_lend}
use Rattle.cbor_edn_core.specs.declared.access.iterators.MapItems.{MapItems}
use Rattle.cbor_edn_core.specs.declared.access.lending.MapItemsMut.{MapItemsMut}
use Rattle.cbor_edn_core.specs.declared.tree.PairOf.{PairOf}
use Rattle.cbor_edn_core.specs.tree.View.{Pair, item_tree, seen, seen_pair, view_items, view_pair, view_pairs}
use Rattle.cbor_edn_core.specs.declared.tree.ItemsOf.{ItemsOf, out-ItemsOf}
use Rattle.cbor_edn_core.specs.declared.tree.PairsOf.{PairsOf, out-PairsOf}
use Rattle.cbor_edn_core.proofs.lemmas.tree.Views.{view_items_is, view_pairs_is}

module _ {A B : Type 0} {k : Row} (f : A → Tree (OneEntry k) × List ℕ) (g : Tree (OneEntry k) → B) where
  entries_are : (ps : List A) (e : Tree (OneEntry k)) (s : List ℕ) → map g (entries (entries_onto (map f ps) (LastTree e s))) ≡ map (λ p. g (f p).0) ps ++ (g e ∷ [])
  entries_are [] e s = refl
  entries_are (p ∷ ps) e s = ap (λ r. g (f p).0 ∷ r) (entries_are ps e s)

map_to_last : {A B C : Type 0} (f : B → C) (g : A → B) (ps : List A) (x : B) → map f (map g ps ++ (x ∷ [])) ≡ map (λ p. f (g p)) ps ++ (f x ∷ [])
map_to_last f g [] x = refl
map_to_last f g (p ∷ ps) x = ap (λ r. f (g p) ∷ r) (map_to_last f g ps x)

abbrev Entries : Type 0
Entries = ItemsOf Space MandatorySpace Separator ListEnd Number Literal Ellipsis

abbrev PairEntries : Type 0
PairEntries = PairsOf Space MandatorySpace Separator ListEnd Number Literal Ellipsis

pub elements_are : (x : Entries) → map item_tree (map (λ p. p.0) (out-ItemsOf Space MandatorySpace Separator ListEnd Number Literal Ellipsis x).row.items ++ ((out-ItemsOf Space MandatorySpace Separator ListEnd Number Literal Ellipsis x).last ∷ [])) ≡ map element (entries (view_items texts x))
elements_are x =
    let parts = out-ItemsOf Space MandatorySpace Separator ListEnd Number Literal Ellipsis x in
    map_to_last item_tree (λ p. p.0) parts.row.items parts.last
    ∙ sym (entries_are (seen texts) element parts.row.items (ElementTree (item_tree parts.last)) _)
    ∙ sym (ap (λ m. map element (entries m)) (view_items_is texts x))

pub pairs_are : (x : PairEntries) → map both_trees (map (λ p. (p.0.key, p.0.value)) (out-PairsOf Space MandatorySpace Separator ListEnd Number Literal Ellipsis x).row.items ++ (((out-PairsOf Space MandatorySpace Separator ListEnd Number Literal Ellipsis x).last.key, (out-PairsOf Space MandatorySpace Separator ListEnd Number Literal Ellipsis x).last.value) ∷ [])) ≡ map key_and_value (entries (view_pairs texts x))
pairs_are x =
    let parts = out-PairsOf Space MandatorySpace Separator ListEnd Number Literal Ellipsis x in
    map_to_last both_trees (λ p. (p.0.key, p.0.value)) parts.row.items (parts.last.key, parts.last.value)
    ∙ sym (entries_are (seen_pair texts) key_and_value parts.row.items (view_pair texts parts.last) _)
    ∙ sym (ap (λ m. map key_and_value (entries m)) (view_pairs_is texts x))

pub no_more : {X : Type 0} (xs : List X) → length xs ≡ 0 → xs ≡ []
no_more [] e = refl
no_more (x ∷ xs) e = absurd cc

-- where the row is at its end, the last pair is left alone
pub last_pair : (it : MapItems) (row : Option (Iter (Pair × Separator))) (last : Bor Pair) → row_left it.row ≡ [] → it.last ≡ Some last → row_left row ≡ []
    → pairs_left it ≡ (last.now.key, last.now.value) ∷ pairs_left (record { row = row; last = None })
last_pair it row last ended is empty = rw (ended, is, empty) refl

-- the same of pairs that are lent
pub last_lent : (it : MapItemsMut) (row : Option (IterMut (Pair × Separator))) (last : MutBor Pair) (left : Option (MutBor Pair)) → row_to_lend it.row ≡ [] → it.last ≡ Some last → left ≡ None
    → row_to_lend row ≡ [] → pairs_to_lend it ≡ (last.now.key, last.now.value) ∷ pairs_to_lend (record { row = row; last = left })
last_lent it row last left ended is gone empty = rw (ended, is, gone, empty) refl
