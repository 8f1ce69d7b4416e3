-- The items in a part of a Rust tree, by their numbers.
use Rattle.std.proofs.Common.{◌≡◌, ℕ, zero, suc, ◌*◌, ◌/◌, ◌%◌, ◌<◌, ◌≤◌, List, [], ◌∷◌, ◌++◌, length, map, Some, None, refl, sym, ap, ◌∙◌, arith}
use Rattle.std.specs.Prelude.{slice_get, get_or, option_map}
use Rattle.std.specs.List.{flat_map}
use Rattle.cbor_edn_model.specs.access.Accessed.{entries, key_and_value}
use Rattle.cbor_edn_model.specs.tree.TreeLeaves.{Ghosts}
use Rattle.cbor_edn_model.specs.access.Paths.{items_in}
use Rattle.cbor_edn_model.specs.tree.Rows.{entries_onto}
use Rattle.cbor_edn_model.specs.tree.Trees.{Tree, OneItem, OneEntry, LastTree, LastPieceTree, ElementTree}
use Rattle.cbor_edn_model.specs.tree.Items as kind
use Rattle.cbor_edn_model.specs.internal.Counted.{past_of, IsCounted}
use Rattle.cbor_edn_model.proofs.lemmas.access.CountedItems.{key_items, value_items, row_items, pieces_items, in_part, in_part_less, in_rest, past_rest, got_within, got_last, got_past, one_more, past_within}
use Rattle.cbor_edn_core.specs.tree.View.{seen_pair, seen_piece, seen_string, view_item, view_items, view_pair, view_pairs, view_piece, view_string, view_strings, row_onto}
use Rattle.cbor_edn_core.specs.declared.tree.ItemOf.{ItemOf}
use Rattle.cbor_edn_core.specs.declared.tree.ItemsOf.{ItemsOf, out-ItemsOf}
use Rattle.cbor_edn_core.specs.declared.tree.PairOf.{PairOf}
use Rattle.cbor_edn_core.specs.declared.tree.PairsOf.{PairsOf, out-PairsOf}
use Rattle.cbor_edn_core.specs.declared.tree.PieceOf.{PieceOf}
use Rattle.cbor_edn_core.specs.declared.tree.CborStringOf.{CborStringOf}
use Rattle.cbor_edn_core.specs.declared.tree.StringsOf.{StringsOf, out-StringsOf}
use Rattle.cbor_edn_core.proofs.lemmas.tree.Views.{view_items_is, view_pairs_is, view_strings_is}

module _ {S P M O N T D : Type 0} (leaves : Ghosts S P M O N T D) where
  -- ---- elements

  elements : (ps : List (ItemOf S P M O N T D × M)) (w : ItemOf S P M O N T D) (s : List ℕ)
      → items_in (row_onto leaves ps (LastTree (ElementTree (view_item leaves w)) s)) ≡ map (λ p. view_item leaves p.0) ps ++ (view_item leaves w ∷ [])
  elements [] w s = refl
  elements (p ∷ ps) w s = ap (λ r. view_item leaves p.0 ∷ r) (elements ps w s)

  module _ (x : ItemsOf S P M O N T D) where
    abbrev row : List (ItemOf S P M O N T D × M)
    row = (out-ItemsOf S P M O N T D x).row.items

    abbrev last : Tree OneItem
    last = view_item leaves (out-ItemsOf S P M O N T D x).last

    items_are : items_in (view_items leaves x) ≡ map (λ p. view_item leaves p.0) row ++ (last ∷ [])
    items_are = ap items_in (view_items_is leaves x) ∙ elements row (out-ItemsOf S P M O N T D x).last _

    pub element_within : (i : ℕ) (d : ItemOf S P M O N T D × M) → i < length row → d ≡ get_or row i d → Some (view_item leaves d.0) ≡ slice_get (items_in (view_items leaves x)) i
    element_within i d lt e = got_within (λ p. view_item leaves p.0) row last i d lt e ∙ sym (ap (λ l. slice_get l i) items_are)

    pub element_last : (i : ℕ) → i ≡ length row → Some last ≡ slice_get (items_in (view_items leaves x)) i
    element_last i e = got_last (λ p. view_item leaves p.0) row last i e ∙ sym (ap (λ l. slice_get l i) items_are)

    pub element_past : (i : ℕ) → length row < i → None ≡ slice_get (items_in (view_items leaves x)) i
    element_past i lt = got_past (λ p. view_item leaves p.0) row last i lt ∙ sym (ap (λ l. slice_get l i) items_are)

    pub elements_number : length (items_in (view_items leaves x)) ≡ suc (length row)
    elements_number = ap length items_are ∙ one_more (λ p. view_item leaves p.0) row last

  -- ---- pairs

  pairs : (ps : List (PairOf S P M O N T D × M)) (w : Tree (OneEntry kind.Pairs)) (s : List ℕ)
      → entries (entries_onto (map (seen_pair leaves) ps) (LastTree w s)) ≡ map (λ p. view_pair leaves p.0) ps ++ (w ∷ [])
  pairs [] w s = refl
  pairs (p ∷ ps) w s = ap (λ r. view_pair leaves p.0 ∷ r) (pairs ps w s)

  module _ (x : PairsOf S P M O N T D) where
    abbrev pair_row : List (PairOf S P M O N T D × M)
    pair_row = (out-PairsOf S P M O N T D x).row.items

    abbrev last_pair : Tree (OneEntry kind.Pairs)
    last_pair = view_pair leaves (out-PairsOf S P M O N T D x).last

    pairs_are : entries (view_pairs leaves x) ≡ map (λ p. view_pair leaves p.0) pair_row ++ (last_pair ∷ [])
    pairs_are = ap entries (view_pairs_is leaves x) ∙ pairs pair_row last_pair _

    pub pair_within : (k : ℕ) (d : PairOf S P M O N T D × M) → k < length pair_row → d ≡ get_or pair_row k d → Some (view_pair leaves d.0) ≡ slice_get (entries (view_pairs leaves x)) k
    pair_within k d lt e = got_within (λ p. view_pair leaves p.0) pair_row last_pair k d lt e ∙ sym (ap (λ l. slice_get l k) pairs_are)

    pub pair_last : (k : ℕ) → k ≡ length pair_row → Some last_pair ≡ slice_get (entries (view_pairs leaves x)) k
    pair_last k e = got_last (λ p. view_pair leaves p.0) pair_row last_pair k e ∙ sym (ap (λ l. slice_get l k) pairs_are)

    pub pair_past : (k : ℕ) → length pair_row < k → None ≡ slice_get (entries (view_pairs leaves x)) k
    pair_past k lt = got_past (λ p. view_pair leaves p.0) pair_row last_pair k lt ∙ sym (ap (λ l. slice_get l k) pairs_are)

    halves : (i : ℕ) → i % 2 ≡ 0 → i ≡ 2 * (i / 2)
    halves i e = omega (arith, e)

    odd_halves : (i : ℕ) → (i % 2 ≡ 0 → ⊥) → i ≡ suc (2 * (i / 2))
    odd_halves i e = omega (arith, e)

    pub key_at : (i : ℕ) (d : PairOf S P M O N T D) → i % 2 ≡ 0 → Some (view_pair leaves d) ≡ slice_get (entries (view_pairs leaves x)) (i / 2) → Some (view_item leaves d.key) ≡ slice_get (items_in (view_pairs leaves x)) i
    key_at i d even is = ap (option_map (λ e. (key_and_value e).0)) is ∙ sym (key_items (view_pairs leaves x) (i / 2)) ∙ ap (slice_get (items_in (view_pairs leaves x))) (sym (halves i even))

    pub value_at : (i : ℕ) (d : PairOf S P M O N T D) → (i % 2 ≡ 0 → ⊥) → Some (view_pair leaves d) ≡ slice_get (entries (view_pairs leaves x)) (i / 2) → Some (view_item leaves d.value) ≡ slice_get (items_in (view_pairs leaves x)) i
    value_at i d odd is = ap (option_map (λ e. (key_and_value e).1)) is ∙ sym (value_items (view_pairs leaves x) (i / 2)) ∙ ap (slice_get (items_in (view_pairs leaves x))) (sym (odd_halves i odd))

    pub no_pair_at : (i : ℕ) → None ≡ slice_get (entries (view_pairs leaves x)) (i / 2) → None ≡ slice_get (items_in (view_pairs leaves x)) i
    no_pair_at i is = by_parity (i % 2) refl
      where
        none_even : i % 2 ≡ 0 → None ≡ slice_get (items_in (view_pairs leaves x)) i
        none_even even = ap (option_map (λ e. (key_and_value e).0)) is ∙ sym (key_items (view_pairs leaves x) (i / 2)) ∙ ap (slice_get (items_in (view_pairs leaves x))) (sym (halves i even))

        none_odd : (i % 2 ≡ 0 → ⊥) → None ≡ slice_get (items_in (view_pairs leaves x)) i
        none_odd odd = ap (option_map (λ e. (key_and_value e).1)) is ∙ sym (value_items (view_pairs leaves x) (i / 2)) ∙ ap (slice_get (items_in (view_pairs leaves x))) (sym (odd_halves i odd))

        by_parity : (b : ℕ) → b ≡ i % 2 → None ≡ slice_get (items_in (view_pairs leaves x)) i
        by_parity zero e = none_even (sym e)
        by_parity (suc b) e = none_odd (λ z. omega (arith, e, z))

  -- ---- pieces and strings

  abbrev piece_items_of : PieceOf S P M O N T D × S × S → List (Tree OneItem)
  piece_items_of p = items_in (view_piece leaves p.0)

  abbrev string_items_of : CborStringOf S P M O N T D × M → List (Tree OneItem)
  string_items_of p = items_in (view_string leaves p.0)

  module _ (x : CborStringOf S P M O N T D) where
    pieces_are : items_in (view_string leaves x) ≡ flat_map piece_items_of x.row.items ++ items_in (view_piece leaves x.last)
    pieces_are = pieces_items (seen_piece leaves) x.row.items (LastPieceTree (view_piece leaves x.last))

    pub item_in_piece : (i place left : ℕ) (d : PieceOf S P M O N T D × S × S) → IsCounted (map (λ p. length (piece_items_of p)) x.row.items) i (place, left)
        → slice_get x.row.items place ≡ Some d → slice_get (items_in (view_string leaves x)) i ≡ slice_get (items_in (view_piece leaves d.0)) left
    item_in_piece i place left d c e = ap (λ l. slice_get l i) pieces_are ∙ in_part piece_items_of x.row.items (items_in (view_piece leaves x.last)) i place left d c e

    pub item_in_last : (i place left : ℕ) → IsCounted (map (λ p. length (piece_items_of p)) x.row.items) i (place, left)
        → length x.row.items ≤ place → slice_get (items_in (view_string leaves x)) i ≡ slice_get (items_in (view_piece leaves x.last)) left
    item_in_last i place left c le = ap (λ l. slice_get l i) pieces_are ∙ in_rest piece_items_of x.row.items (items_in (view_piece leaves x.last)) i place left c le

    pub before_last : (i place left : ℕ) → IsCounted (map (λ p. length (piece_items_of p)) x.row.items) i (place, left)
        → place < length x.row.items → None ≡ past_of (length (items_in (view_string leaves x))) i
    before_last i place left c lt =
        past_within _ i (in_part_less piece_items_of x.row.items (items_in (view_piece leaves x.last)) i place left c lt)
        ∙ ap (λ l. past_of (length l) i) (sym pieces_are)

    pub past_last : (i place left : ℕ) → IsCounted (map (λ p. length (piece_items_of p)) x.row.items) i (place, left)
        → length x.row.items ≤ place → past_of (length (items_in (view_piece leaves x.last))) left ≡ past_of (length (items_in (view_string leaves x))) i
    past_last i place left c le =
        past_rest piece_items_of x.row.items (items_in (view_piece leaves x.last)) i place left c le
        ∙ ap (λ l. past_of (length l) i) (sym pieces_are)

  module _ (x : StringsOf S P M O N T D) where
    abbrev string_row : List (CborStringOf S P M O N T D × M)
    string_row = (out-StringsOf S P M O N T D x).row.items

    abbrev last_string : CborStringOf S P M O N T D
    last_string = (out-StringsOf S P M O N T D x).last

    strings_are : items_in (view_strings leaves x) ≡ flat_map string_items_of string_row ++ items_in (view_string leaves last_string)
    strings_are = ap items_in (view_strings_is leaves x) ∙ row_items (seen_string leaves) string_row _

    pub item_in_string : (i place left : ℕ) (d : CborStringOf S P M O N T D × M) → IsCounted (map (λ p. length (string_items_of p)) string_row) i (place, left)
        → slice_get string_row place ≡ Some d → slice_get (items_in (view_strings leaves x)) i ≡ slice_get (items_in (view_string leaves d.0)) left
    item_in_string i place left d c e = ap (λ l. slice_get l i) strings_are ∙ in_part string_items_of string_row (items_in (view_string leaves last_string)) i place left d c e

    pub item_in_last_string : (i place left : ℕ) → IsCounted (map (λ p. length (string_items_of p)) string_row) i (place, left)
        → length string_row ≤ place → slice_get (items_in (view_strings leaves x)) i ≡ slice_get (items_in (view_string leaves last_string)) left
    item_in_last_string i place left c le = ap (λ l. slice_get l i) strings_are ∙ in_rest string_items_of string_row (items_in (view_string leaves last_string)) i place left c le
