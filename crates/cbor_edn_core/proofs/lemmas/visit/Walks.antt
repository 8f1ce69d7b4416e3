-- Visits of tags and of literals, put together from those of the parts of Rust values, and how deep these nest.
use Rattle.std.proofs.Common.{ℕ, zero, suc, max, ◌+◌, ◌*◌, ◌<◌, ◌≤◌, ◌≡◌, List, [], ◌∷◌, ◌++◌, Option, Some, None, Bool, Ok, Vec, Global, length, map, take, drop, set, get_or, arith, refl, sym, ap, ◌∙◌, subst, append_assoc, add-one}
use Rattle.std.proofs.Math.Seq.{take-suc-set, drop-cons}
use Rattle.std.proofs.lemmas.List.{take_more, take_all, set_split, take-append-drop, drop-drop}
use Rattle.std.specs.Global.{Box}
use Rattle.cbor_edn_parts.specs.declared.base.indicator.Indicator.{Indicator}
use Rattle.cbor_edn_model.specs.visit.Depth.{depth}
use Rattle.cbor_edn_model.specs.tree.Items as kind
use Rattle.cbor_edn_model.specs.tree.Items.{Row}
use Rattle.cbor_edn_model.specs.tree.TreeLeaves.{Ghosts}
use Rattle.cbor_edn_model.specs.text.ListHeads.{view_list_head}
use Rattle.cbor_edn_model.specs.tree.Rows.{entries_onto, pieces_onto}
use Rattle.cbor_edn_model.specs.visit.Seeking.{CallArguments, SoughtCall, VisitItem, VisitParts, of_number, of_float, of_name, of_tag, of_simple, of_list, of_string, of_stream, of_literal, of_last_piece, of_ellipsis, of_embedded, of_pieces, of_pieces_cut, of_none_inside, of_all_inside, of_last, of_more, of_more_cut, of_nothing, of_sequence, VisitEntry, of_element, of_pair, of_pair_cut, of_chunk}
use Rattle.cbor_edn_model.specs.tree.Trees.{Rule, Tree, OneItem, OnePiece, OneString, OneEntry, Rest, Standalone, Seq, ListTree, EnclosedTree, EmbeddedTree, LastPieceTree, PlusTree, ElementTree, PairTree, ChunkTree, FullTree, LastTree, MoreTree}
use Rattle.cbor_edn_model.specs.visit.Visits.{Ending, whole, cut}
use Rattle.cbor_edn_model.specs.declared.text.list_head.ListHeadOf.{ListHeadOf}
use Rattle.cbor_edn_model.specs.declared.text.opener.Opener.{Opener}
use Rattle.cbor_edn_model.specs.declared.text.opener.OpenerKind.{OpenerKind}
use Rattle.cbor_edn_model.specs.declared.text.opener.OpenerKind.TheVariants as opener
use Rattle.cbor_edn_model.specs.internal.Depths.{entries_depth, pieces_depth}
use Rattle.cbor_edn_model.specs.internal.Reaching.{Reaches, VisitIf, VisitKey, of_key, SoughtFront, SoughtPieces}
use Rattle.cbor_edn_model.proofs.lemmas.visit.RowDepths.{depth_entries, depth_pieces}
use Rattle.cbor_edn_model.proofs.lemmas.visit.VisitsOfParts.{measure_if, then_if}
use Rattle.cbor_edn_core.specs.declared.tree.InnerItemOf.{InnerItemOf}
use Rattle.cbor_edn_core.specs.declared.tree.InnerItemOf.TheVariants as inner
use Rattle.cbor_edn_core.specs.declared.tree.ItemOf.{ItemOf}
use Rattle.cbor_edn_core.specs.declared.tree.ItemListOf.{ItemListOf}
use Rattle.cbor_edn_core.specs.declared.tree.ItemListOf.TheVariants as item_list
use Rattle.cbor_edn_core.specs.declared.tree.ItemsOf.{ItemsOf, out-ItemsOf, roll-ItemsOf, out-roll-ItemsOf}
use Rattle.cbor_edn_core.specs.declared.tree.PairOf.{PairOf}
use Rattle.cbor_edn_core.specs.declared.tree.PairListOf.{PairListOf}
use Rattle.cbor_edn_core.specs.declared.tree.PairListOf.TheVariants as pair_list
use Rattle.cbor_edn_core.specs.declared.tree.PairsOf.{PairsOf, out-PairsOf, roll-PairsOf, out-roll-PairsOf}
use Rattle.cbor_edn_core.specs.declared.tree.CborStringOf.{CborStringOf}
use Rattle.cbor_edn_core.specs.declared.tree.PieceOf.{PieceOf}
use Rattle.cbor_edn_core.specs.declared.tree.PieceOf.TheVariants as piece
use Rattle.cbor_edn_core.specs.declared.tree.StreamOf.{StreamOf, out-StreamOf, roll-StreamOf}
use Rattle.cbor_edn_core.specs.declared.tree.StringsOf.{StringsOf, out-StringsOf, roll-StringsOf, out-roll-StringsOf}
use Rattle.cbor_edn_core.specs.declared.tree.StandaloneItemOf.{StandaloneItemOf}
use Rattle.cbor_edn_core.specs.declared.tree.SequenceOf.{SequenceOf, out-SequenceOf, roll-SequenceOf}
use Rattle.cbor_edn_core.specs.tree.View.{seen, seen_pair, seen_piece, seen_string, view_inner, view_item, view_items, view_list, view_pair, view_pair_list, view_pairs, view_piece, view_sequence, view_some, view_standalone, view_stream, view_string, view_strings}
use Rattle.cbor_edn_core.proofs.lemmas.tree.Views.{view_items_is, view_items_made, view_pairs_is, view_pairs_made, view_string_at, view_strings_is, view_strings_made, view_stream_is, view_stream_made, view_sequence_is, view_sequence_made}

-- ---- what a struct is once its fields are written one after another

module _ {O M C E N L D : Type 0} where
  module _ (x : ItemsOf O M C E N L D) (row : Vec (ItemOf O M C E N L D × C) Global) where
    abbrev pub items_rowed : ItemsOf O M C E N L D
    items_rowed = roll-ItemsOf O M C E N L D (record { row = row; last = (out-ItemsOf O M C E N L D x).last; end = (out-ItemsOf O M C E N L D x).end })

    items_rowed_out : out-ItemsOf O M C E N L D items_rowed ≡ record { row = row; last = (out-ItemsOf O M C E N L D x).last; end = (out-ItemsOf O M C E N L D x).end }
    items_rowed_out = out-roll-ItemsOf O M C E N L D (record { row = row; last = (out-ItemsOf O M C E N L D x).last; end = (out-ItemsOf O M C E N L D x).end })

    items_rowed_last : (out-ItemsOf O M C E N L D items_rowed).last ≡ (out-ItemsOf O M C E N L D x).last
    items_rowed_last = ap (λ f. f.last) items_rowed_out

    items_rowed_end : (out-ItemsOf O M C E N L D items_rowed).end ≡ (out-ItemsOf O M C E N L D x).end
    items_rowed_end = ap (λ f. f.end) items_rowed_out

    module _ (i : ItemOf O M C E N L D) (e : E) where
      abbrev pub items_reached : ItemsOf O M C E N L D
      items_reached = roll-ItemsOf O M C E N L D (record { row = (out-ItemsOf O M C E N L D items_rowed).row; last = i; end = e })

      items_reached_out : out-ItemsOf O M C E N L D items_reached ≡ record { row = (out-ItemsOf O M C E N L D items_rowed).row; last = i; end = e }
      items_reached_out = out-roll-ItemsOf O M C E N L D (record { row = (out-ItemsOf O M C E N L D items_rowed).row; last = i; end = e })

      items_reached_last : (out-ItemsOf O M C E N L D items_reached).last ≡ i
      items_reached_last = ap (λ f. f.last) items_reached_out

      items_reached_is : items_reached ≡ roll-ItemsOf O M C E N L D (record { row = row; last = i; end = e })
      items_reached_is = ap (λ f. roll-ItemsOf O M C E N L D (record { row = f.row; last = i; end = e })) items_rowed_out

      abbrev pub items_done : ItemOf O M C E N L D → ItemsOf O M C E N L D
      items_done j = roll-ItemsOf O M C E N L D (record { row = (out-ItemsOf O M C E N L D items_reached).row; last = j; end = (out-ItemsOf O M C E N L D items_reached).end })

      items_done_is : (j : ItemOf O M C E N L D) → items_done j ≡ roll-ItemsOf O M C E N L D (record { row = row; last = j; end = e })
      items_done_is j =
          ap (λ f. roll-ItemsOf O M C E N L D (record { row = f.row; last = j; end = f.end })) items_reached_out
          ∙ ap (λ f. roll-ItemsOf O M C E N L D (record { row = f.row; last = j; end = e })) items_rowed_out

  module _ (x : PairsOf O M C E N L D) (row : Vec (PairOf O M C E N L D × C) Global) where
    abbrev pub pairs_rowed : PairsOf O M C E N L D
    pairs_rowed = roll-PairsOf O M C E N L D (record { row = row; last = (out-PairsOf O M C E N L D x).last; end = (out-PairsOf O M C E N L D x).end })

    pairs_rowed_out : out-PairsOf O M C E N L D pairs_rowed ≡ record { row = row; last = (out-PairsOf O M C E N L D x).last; end = (out-PairsOf O M C E N L D x).end }
    pairs_rowed_out = out-roll-PairsOf O M C E N L D (record { row = row; last = (out-PairsOf O M C E N L D x).last; end = (out-PairsOf O M C E N L D x).end })

    pairs_rowed_last : (out-PairsOf O M C E N L D pairs_rowed).last ≡ (out-PairsOf O M C E N L D x).last
    pairs_rowed_last = ap (λ f. f.last) pairs_rowed_out

    pairs_rowed_end : (out-PairsOf O M C E N L D pairs_rowed).end ≡ (out-PairsOf O M C E N L D x).end
    pairs_rowed_end = ap (λ f. f.end) pairs_rowed_out

    abbrev pub pairs_done : PairOf O M C E N L D → E → PairsOf O M C E N L D
    pairs_done p e = roll-PairsOf O M C E N L D (record { row = (out-PairsOf O M C E N L D pairs_rowed).row; last = p; end = e })

    pairs_done_is : (p : PairOf O M C E N L D) (e : E) → pairs_done p e ≡ roll-PairsOf O M C E N L D (record { row = row; last = p; end = e })
    pairs_done_is p e = ap (λ f. roll-PairsOf O M C E N L D (record { row = f.row; last = p; end = e })) pairs_rowed_out

  module _ (x : StringsOf O M C E N L D) (row : Vec (CborStringOf O M C E N L D × C) Global) where
    abbrev pub strings_rowed : StringsOf O M C E N L D
    strings_rowed = roll-StringsOf O M C E N L D (record { row = row; last = (out-StringsOf O M C E N L D x).last; end = (out-StringsOf O M C E N L D x).end })

    strings_rowed_out : out-StringsOf O M C E N L D strings_rowed ≡ record { row = row; last = (out-StringsOf O M C E N L D x).last; end = (out-StringsOf O M C E N L D x).end }
    strings_rowed_out = out-roll-StringsOf O M C E N L D (record { row = row; last = (out-StringsOf O M C E N L D x).last; end = (out-StringsOf O M C E N L D x).end })

    strings_rowed_last : (out-StringsOf O M C E N L D strings_rowed).last ≡ (out-StringsOf O M C E N L D x).last
    strings_rowed_last = ap (λ f. f.last) strings_rowed_out

    abbrev pub strings_done : CborStringOf O M C E N L D → StringsOf O M C E N L D
    strings_done s = roll-StringsOf O M C E N L D (record { row = (out-StringsOf O M C E N L D strings_rowed).row; last = s; end = (out-StringsOf O M C E N L D strings_rowed).end })

    strings_done_is : (s : CborStringOf O M C E N L D) → strings_done s ≡ roll-StringsOf O M C E N L D (record { row = row; last = s; end = (out-StringsOf O M C E N L D x).end })
    strings_done_is s = ap (λ f. roll-StringsOf O M C E N L D (record { row = f.row; last = s; end = f.end })) strings_rowed_out

-- ---- how deep parts nest

entries_at : {A : Type 0} {k : Row} (look : A → Tree (OneEntry k) × List ℕ) (xs : List A) (i : ℕ) (d : A) → i < length xs → depth (look (get_or xs i d)).0 ≤ entries_depth (map look xs)
entries_at look [] i d h = absurd (omega arith)
entries_at look (x ∷ xs) zero d h = omega arith
entries_at look (x ∷ xs) (suc i) d h = let a = entries_at look xs i d (omega arith) in omega (arith, a)

pieces_at : {A : Type 0} (look : A → Tree OnePiece × List ℕ × List ℕ) (xs : List A) (i : ℕ) (d : A) → i < length xs → depth (look (get_or xs i d)).0 ≤ pieces_depth (map look xs)
pieces_at look [] i d h = absurd (omega arith)
pieces_at look (x ∷ xs) zero d h = omega arith
pieces_at look (x ∷ xs) (suc i) d h = let a = pieces_at look xs i d (omega arith) in omega (arith, a)

module _ {O M C E N L D : Type 0} (leaves : Ghosts O M C E N L D) where
  tag_falls : (x : InnerItemOf O M C E N L D) (l : Opener) (b : Box (StandaloneItemOf O M C E N L D)) (y : StandaloneItemOf O M C E N L D) (n : ℕ) (i : Option Indicator) → x ≡ inner.Enclosed l b → l.kind ≡ opener.Tag i n → y ≡ b.value
      → depth (view_inner leaves x) ≡ suc (depth (view_standalone leaves y))
  unfolding depth
  tag_falls x l b y n i is tag read = ap (λ x. depth (view_inner leaves x)) is ∙ ap (λ k. depth (EnclosedTree k (view_standalone leaves b.value))) tag ∙ ap (λ y. suc (depth (view_standalone leaves y))) (sym read)

  array_falls : (x : InnerItemOf O M C E N L D) (b : Box (ItemListOf O M C E N L D)) (y : ItemListOf O M C E N L D) → x ≡ inner.Array b → y ≡ b.value → depth (view_inner leaves x) ≡ suc (depth (view_list leaves y))
  unfolding depth
  array_falls x b y is read = ap (λ x. depth (view_inner leaves x)) is ∙ ap (λ y. suc (depth (view_list leaves y))) (sym read)

  map_falls : (x : InnerItemOf O M C E N L D) (b : Box (PairListOf O M C E N L D)) (y : PairListOf O M C E N L D) → x ≡ inner.Map b → y ≡ b.value → depth (view_inner leaves x) ≡ suc (depth (view_pair_list leaves y))
  unfolding depth
  map_falls x b y is read = ap (λ x. depth (view_inner leaves x)) is ∙ ap (λ y. suc (depth (view_pair_list leaves y))) (sym read)

  string_falls : (x : InnerItemOf O M C E N L D) (b : Box (CborStringOf O M C E N L D)) (y : CborStringOf O M C E N L D) → x ≡ inner.String b → y ≡ b.value → depth (view_inner leaves x) ≡ depth (view_string leaves y)
  unfolding depth
  string_falls x b y is read = ap depth (view_string_at leaves x b y is read)

  stream_falls : (x : InnerItemOf O M C E N L D) (b : Box (StreamOf O M C E N L D)) (y : StreamOf O M C E N L D) → x ≡ inner.Stream b → y ≡ b.value → depth (view_inner leaves x) ≡ depth (view_strings leaves (out-StreamOf O M C E N L D y).strings)
  unfolding depth
  stream_falls x b y is read = ap (λ x. depth (view_inner leaves x)) is ∙ ap (λ y. depth (view_stream leaves y)) (sym read) ∙ ap depth (view_stream_is leaves y)

  embedded_falls : (x : PieceOf O M C E N L D) (b : Box (SequenceOf O M C E N L D)) (i : Option Indicator) (y : SequenceOf O M C E N L D) → x ≡ piece.Embedded i b → y ≡ b.value → depth (view_piece leaves x) ≡ suc (depth (view_sequence leaves y))
  unfolding depth
  embedded_falls x b i y is read = ap (λ x. depth (view_piece leaves x)) is ∙ ap (λ y. suc (depth (view_sequence leaves y))) (sym read)

  sequence_falls : (x : SequenceOf O M C E N L D) (m : ItemsOf O M C E N L D) → (out-SequenceOf O M C E N L D x).items ≡ Some m → depth (view_sequence leaves x) ≡ depth (view_items leaves m)
  unfolding depth
  sequence_falls x m is = ap depth (view_sequence_is leaves x) ∙ ap (λ o. depth (view_some leaves (leaves.space (out-SequenceOf O M C E N L D x).before) o)) is

  list_falls : (x : ItemListOf O M C E N L D) (h : ListHeadOf M) (s : O) (m : ItemsOf O M C E N L D) → x ≡ item_list.Present h s m → depth (view_list leaves x) ≡ depth (view_items leaves m)
  unfolding depth
  list_falls x h s m is = ap (λ x. depth (view_list leaves x)) is

  pair_list_falls : (x : PairListOf O M C E N L D) (h : ListHeadOf M) (s : O) (m : PairsOf O M C E N L D) → x ≡ pair_list.Present h s m → depth (view_pair_list leaves x) ≡ depth (view_pairs leaves m)
  unfolding depth
  pair_list_falls x h s m is = ap (λ x. depth (view_pair_list leaves x)) is

  standalone_depth : (x : StandaloneItemOf O M C E N L D) → depth (view_standalone leaves x) ≡ depth (view_item leaves x.item)
  unfolding depth
  standalone_depth x = refl

  items_depth : (x : ItemsOf O M C E N L D) → depth (view_items leaves x) ≡ max (entries_depth (map (seen leaves) (out-ItemsOf O M C E N L D x).row.items)) (depth (view_item leaves (out-ItemsOf O M C E N L D x).last))
  unfolding depth
  items_depth x = ap depth (view_items_is leaves x) ∙ depth_entries (map (seen leaves) (out-ItemsOf O M C E N L D x).row.items) (LastTree (ElementTree (view_item leaves (out-ItemsOf O M C E N L D x).last)) (leaves.end (out-ItemsOf O M C E N L D x).end))

  pairs_depth : (x : PairsOf O M C E N L D) → depth (view_pairs leaves x) ≡ max (entries_depth (map (seen_pair leaves) (out-PairsOf O M C E N L D x).row.items)) (depth (view_pair leaves (out-PairsOf O M C E N L D x).last))
  unfolding depth
  pairs_depth x = ap depth (view_pairs_is leaves x) ∙ depth_entries (map (seen_pair leaves) (out-PairsOf O M C E N L D x).row.items) (LastTree (view_pair leaves (out-PairsOf O M C E N L D x).last) (leaves.end (out-PairsOf O M C E N L D x).end))

  pair_depth : (x : PairOf O M C E N L D) → depth (view_pair leaves x) ≡ max (depth (view_item leaves x.key)) (depth (view_item leaves x.value))
  unfolding depth
  pair_depth x = refl

  element_depth : (x : ItemOf O M C E N L D × C) → depth (seen leaves x).0 ≡ depth (view_item leaves x.0)
  unfolding depth
  element_depth x = refl

  chunk_depth : (x : CborStringOf O M C E N L D × C) → depth (seen_string leaves x).0 ≡ depth (view_string leaves x.0)
  unfolding depth
  chunk_depth x = refl

  string_depth : (x : CborStringOf O M C E N L D) → depth (view_string leaves x) ≡ max (pieces_depth (map (seen_piece leaves) x.row.items)) (depth (view_piece leaves x.last))
  unfolding depth
  string_depth x = depth_pieces (map (seen_piece leaves) x.row.items) (LastPieceTree (view_piece leaves x.last))

  strings_depth : (x : StringsOf O M C E N L D) → depth (view_strings leaves x) ≡ max (entries_depth (map (seen_string leaves) (out-StringsOf O M C E N L D x).row.items)) (depth (view_string leaves (out-StringsOf O M C E N L D x).last))
  unfolding depth
  strings_depth x = ap depth (view_strings_is leaves x) ∙ depth_entries (map (seen_string leaves) (out-StringsOf O M C E N L D x).row.items) (LastTree (ChunkTree (view_string leaves (out-StringsOf O M C E N L D x).last)) (leaves.end (out-StringsOf O M C E N L D x).end))

-- ---- rows

entries_append : {A : Type 0} {k : Row} (look : A → Tree (OneEntry k) × List ℕ) (ps qs : List A) (m : Tree (Rest k)) → entries_onto (map look (ps ++ qs)) m ≡ entries_onto (map look ps) (entries_onto (map look qs) m)
entries_append look [] qs m = refl
entries_append look (p ∷ ps) qs m = ap (λ r. MoreTree (look p).0 (look p).1 r) (entries_append look ps qs m)

pieces_append : {A : Type 0} (look : A → Tree OnePiece × List ℕ × List ℕ) (ps qs : List A) (w : Tree OneString) → pieces_onto (map look (ps ++ qs)) w ≡ pieces_onto (map look ps) (pieces_onto (map look qs) w)
pieces_append look [] qs w = refl
pieces_append look (p ∷ ps) qs w = ap (λ r. PlusTree (look p).0 (look p).1 (look p).2 r) (pieces_append look ps qs w)

module _ {IsSought : Tree OneItem → CallArguments → Type 0} where
  module _ {k : Row} where
    module _ {A : Type 0} (look : A → Tree (OneEntry k) × List ℕ) where
      -- the entry at n joins those before it
      pub entry_more : (xs ys : List A) (x y : A) (n : ℕ) (cs ds : List SoughtCall) → n < length xs → length ys ≡ length xs → get_or xs n x ≡ x
          → SoughtFront IsSought (map look (take n xs)) cs (map look (take n ys)) whole
          → VisitEntry IsSought k (look x).0 (look x).1 ds (look y).0 (look y).1 whole
          → SoughtFront IsSought (map look (take (n + 1) xs)) (cs ++ ds) (map look (take (n + 1) (set ys n y))) whole
      entry_more xs ys x y n cs ds h e is v w m o es r u =
          let front : take (n + 1) xs ≡ take n xs ++ x ∷ [] = take_more xs n x h ∙ ap (λ z. take n xs ++ z ∷ []) is in
          let back : take (n + 1) (set ys n y) ≡ take n ys ++ y ∷ [] = rw add-one (take-suc-set ys n y (omega arith)) in
          rw (front, back, entries_append look (take n xs) (x ∷ []) m, entries_append look (take n ys) (y ∷ []) o, append_assoc cs ds es)
          (v (MoreTree (look x).0 (look x).1 m) (MoreTree (look y).0 (look y).1 o) (ds ++ es) r (of_more w u refl))

      -- the visit is cut short at the entry at n, and those behind it stay
      pub entry_cut : (xs ys : List A) (x y : A) (n : ℕ) (cs ds : List SoughtCall) → n < length xs → length ys ≡ length xs → get_or xs n x ≡ x → drop n ys ≡ drop n xs
          → SoughtFront IsSought (map look (take n xs)) cs (map look (take n ys)) whole
          → VisitEntry IsSought k (look x).0 (look x).1 ds (look y).0 (look y).1 cut
          → SoughtFront IsSought (map look xs) (cs ++ ds) (map look (set ys n y)) cut
      entry_cut xs ys x y n cs ds h e is same v w m =
          let rest = drop (n + 1) xs in
          let left : drop (n + 1) ys ≡ rest = sym (drop-drop 1 n ys) ∙ ap (drop 1) same ∙ drop-drop 1 n xs in
          let here : drop n xs ≡ x ∷ rest = rw add-one (drop-cons xs n x h ∙ ap (λ z. z ∷ drop (suc n) xs) is) in
          let before : xs ≡ take n xs ++ x ∷ rest = sym (take-append-drop n xs) ∙ ap (λ z. take n xs ++ z) here in
          let after : set ys n y ≡ take n ys ++ y ∷ rest = rw (← left, add-one) (set_split ys n y (omega arith)) in
          let behind = entries_onto (map look rest) m in
          subst (λ z. VisitParts IsSought _ (entries_onto (map look z) m) (cs ++ ds) (entries_onto (map look (set ys n y)) m) cut) (sym before)
          (rw (after, entries_append look (take n xs) (x ∷ rest) m, entries_append look (take n ys) (y ∷ rest) m)
          (v (MoreTree (look x).0 (look x).1 behind) (MoreTree (look y).0 (look y).1 behind) ds cut (of_more_cut w)))

      pub entries_all : (xs ys : List A) (n : ℕ) (cs : List SoughtCall) → length xs ≤ n → length ys ≡ length xs
          → SoughtFront IsSought (map look (take n xs)) cs (map look (take n ys)) whole → SoughtFront IsSought (map look xs) cs (map look ys) whole
      entries_all xs ys n cs h e v = rw (take_all n xs h, take_all n ys (omega arith)) at v

  module _ {A : Type 0} (look : A → Tree OnePiece × List ℕ × List ℕ) where
    -- the same of pieces; the spaces stay
    pub piece_more : (xs ys : List A) (x y : A) (n : ℕ) (cs ds : List SoughtCall) → n < length xs → length ys ≡ length xs → get_or xs n x ≡ x
        → (look y).1 ≡ (look x).1 → (look y).2 ≡ (look x).2
        → SoughtPieces IsSought (map look (take n xs)) cs (map look (take n ys)) whole
        → VisitParts IsSought _ (look x).0 ds (look y).0 whole
        → SoughtPieces IsSought (map look (take (n + 1) xs)) (cs ++ ds) (map look (take (n + 1) (set ys n y))) whole
    piece_more xs ys x y n cs ds h e is s t v w m o es r u =
        let front : take (n + 1) xs ≡ take n xs ++ x ∷ [] = take_more xs n x h ∙ ap (λ z. take n xs ++ z ∷ []) is in
        let back : take (n + 1) (set ys n y) ≡ take n ys ++ y ∷ [] = rw add-one (take-suc-set ys n y (omega arith)) in
        rw (front, back, pieces_append look (take n xs) (x ∷ []) m, pieces_append look (take n ys) (y ∷ []) o, append_assoc cs ds es)
        (v (PlusTree (look x).0 (look x).1 (look x).2 m) (PlusTree (look y).0 (look y).1 (look y).2 o) (ds ++ es) r (rw (s, t) (of_pieces w u refl)))

    pub piece_cut : (xs ys : List A) (x y : A) (n : ℕ) (cs ds : List SoughtCall) → n < length xs → length ys ≡ length xs → get_or xs n x ≡ x → drop n ys ≡ drop n xs
        → (look y).1 ≡ (look x).1 → (look y).2 ≡ (look x).2
        → SoughtPieces IsSought (map look (take n xs)) cs (map look (take n ys)) whole
        → VisitParts IsSought _ (look x).0 ds (look y).0 cut
        → SoughtPieces IsSought (map look xs) (cs ++ ds) (map look (set ys n y)) cut
    piece_cut xs ys x y n cs ds h e is same s t v w m =
        let rest = drop (n + 1) xs in
        let left : drop (n + 1) ys ≡ rest = sym (drop-drop 1 n ys) ∙ ap (drop 1) same ∙ drop-drop 1 n xs in
        let here : drop n xs ≡ x ∷ rest = rw add-one (drop-cons xs n x h ∙ ap (λ z. z ∷ drop (suc n) xs) is) in
        let before : xs ≡ take n xs ++ x ∷ rest = sym (take-append-drop n xs) ∙ ap (λ z. take n xs ++ z) here in
        let after : set ys n y ≡ take n ys ++ y ∷ rest = rw (← left, add-one) (set_split ys n y (omega arith)) in
        let behind = pieces_onto (map look rest) m in
        subst (λ z. VisitParts IsSought _ (pieces_onto (map look z) m) (cs ++ ds) (pieces_onto (map look (set ys n y)) m) cut) (sym before)
        (rw (after, pieces_append look (take n xs) (x ∷ rest) m, pieces_append look (take n ys) (y ∷ rest) m)
        (v (PlusTree (look x).0 (look x).1 (look x).2 behind) (PlusTree (look y).0 (look y).1 (look y).2 behind) ds cut (rw (s, t) (of_pieces_cut w))))

  -- ---- a pair

  pub key_cut : {e f : Tree (OneEntry kind.Pairs)} {a : List ℕ} {cs : List SoughtCall} {r : Ending} → r ≡ cut → VisitKey IsSought e cs f r → VisitEntry IsSought _ e a cs f a cut
  key_cut is (of_key v) = of_pair_cut (rw is at v)

  pub key_then : {e : Tree (OneEntry kind.Pairs)} {v x y : Tree OneItem} {t u a b : List ℕ} {cs ds : List SoughtCall} {r : Ending} → VisitKey IsSought e cs (PairTree v t u x) whole → VisitItem IsSought x a ds y b r
      → VisitEntry IsSought _ e a (cs ++ ds) (PairTree v t u y) b r
  key_then (of_key v) w = of_pair v w refl

  -- a visit of a key leaves the value
  pub key_value : {w v x y : Tree OneItem} {s t u q : List ℕ} {cs : List SoughtCall} {r : Ending} → VisitKey IsSought (PairTree w s u x) cs (PairTree v t q y) r → y ≡ x
  key_value (of_key v) = refl

  -- ---- parts of Rust values

  walked : {k : Rule} {w x v y : Tree k} {cs : List SoughtCall} {r : Ending} → w ≡ x → v ≡ y → VisitParts IsSought _ x cs y r → VisitParts IsSought _ w cs v r
  walked e f p = rw (e, f) p

  module _ {O M C E N L D : Type 0} (leaves : Ghosts O M C E N L D) where
    pub number_walked : (x : InnerItemOf O M C E N L D) (n : N) (i : Option Indicator) → x ≡ inner.Number i n → VisitParts IsSought _ (view_inner leaves x) [] (view_inner leaves x) whole
    number_walked x n i is = walked (ap (view_inner leaves) is) (ap (view_inner leaves) is) of_number

    pub float_walked : (x : InnerItemOf O M C E N L D) (f : _) (i : Option Indicator) → x ≡ inner.NonFinite i f → VisitParts IsSought _ (view_inner leaves x) [] (view_inner leaves x) whole
    float_walked x f i is = walked (ap (view_inner leaves) is) (ap (view_inner leaves) is) of_float

    pub name_walked : (x : InnerItemOf O M C E N L D) (b : _) → x ≡ inner.Named b → VisitParts IsSought _ (view_inner leaves x) [] (view_inner leaves x) whole
    name_walked x b is = walked (ap (view_inner leaves) is) (ap (view_inner leaves) is) of_name

    pub tag_walked : (x : InnerItemOf O M C E N L D) (l : Opener) (b : Box (StandaloneItemOf O M C E N L D)) (y : StandaloneItemOf O M C E N L D) (n : ℕ) (i : Option Indicator) (k : OpenerKind) (v : Tree Standalone) (cs : List SoughtCall) (r : Ending)
        → x ≡ inner.Enclosed l b → l.kind ≡ opener.Tag i n → y ≡ b.value → k ≡ l.kind
        → VisitParts IsSought _ (view_standalone leaves y) cs v r → VisitParts IsSought _ (view_inner leaves x) cs (EnclosedTree k v) r
    tag_walked x l b y n i k v cs r is tag read same p = walked (ap (view_inner leaves) is ∙ ap (λ k. EnclosedTree k (view_standalone leaves b.value)) tag ∙ ap (λ y. EnclosedTree (opener.Tag i n) (view_standalone leaves y)) (sym read)) (ap (λ k. EnclosedTree k v) (same ∙ tag)) (of_tag p)

    pub simple_walked : (x : InnerItemOf O M C E N L D) (l : Opener) (b : Box (StandaloneItemOf O M C E N L D)) (k : OpenerKind) (v : Tree Standalone) → x ≡ inner.Enclosed l b → l.kind ≡ opener.Simple → k ≡ l.kind → v ≡ view_standalone leaves b.value
        → VisitParts IsSought _ (view_inner leaves x) [] (EnclosedTree k v) whole
    simple_walked x l b k v is simple same stays = walked (ap (view_inner leaves) is ∙ ap (λ k. EnclosedTree k (view_standalone leaves b.value)) simple) (ap (λ k. EnclosedTree k v) (same ∙ simple) ∙ ap (EnclosedTree opener.Simple) stays) of_simple

    pub array_walked : (x z : InnerItemOf O M C E N L D) (b d : Box (ItemListOf O M C E N L D)) (y : ItemListOf O M C E N L D) (cs : List SoughtCall) (r : Ending) → x ≡ inner.Array b → y ≡ b.value → z ≡ inner.Array d
        → VisitParts IsSought _ (view_list leaves y) cs (view_list leaves d.value) r → VisitParts IsSought _ (view_inner leaves x) cs (view_inner leaves z) r
    array_walked x z b d y cs r is read put p = walked (ap (view_inner leaves) is ∙ ap (λ y. ListTree kind.Array (view_list leaves y)) (sym read)) (ap (view_inner leaves) put) (of_list p)

    pub map_walked : (x z : InnerItemOf O M C E N L D) (b d : Box (PairListOf O M C E N L D)) (y : PairListOf O M C E N L D) (cs : List SoughtCall) (r : Ending) → x ≡ inner.Map b → y ≡ b.value → z ≡ inner.Map d
        → VisitParts IsSought _ (view_pair_list leaves y) cs (view_pair_list leaves d.value) r → VisitParts IsSought _ (view_inner leaves x) cs (view_inner leaves z) r
    map_walked x z b d y cs r is read put p = walked (ap (view_inner leaves) is ∙ ap (λ y. ListTree kind.Map (view_pair_list leaves y)) (sym read)) (ap (view_inner leaves) put) (of_list p)

    pub literal_alone_walked : (x : InnerItemOf O M C E N L D) (l : L) (i : Option Indicator) → x ≡ inner.Literal i l → VisitParts IsSought _ (view_inner leaves x) [] (view_inner leaves x) whole
    literal_alone_walked x l i is = walked (ap (view_inner leaves) is) (ap (view_inner leaves) is) (of_string (of_last_piece of_literal))

    pub string_walked : (x z : InnerItemOf O M C E N L D) (b d : Box (CborStringOf O M C E N L D)) (y : CborStringOf O M C E N L D) (cs : List SoughtCall) (r : Ending) → x ≡ inner.String b → y ≡ b.value → z ≡ inner.String d
        → VisitParts IsSought _ (view_string leaves y) cs (view_string leaves d.value) r → VisitParts IsSought _ (view_inner leaves x) cs (view_inner leaves z) r
    string_walked x z b d y cs r is read put p = walked (view_string_at leaves x b y is read) (view_string_at leaves z d d.value put refl) (of_string p)

    pub stream_walked : (x z : InnerItemOf O M C E N L D) (b d : Box (StreamOf O M C E N L D)) (y : StreamOf O M C E N L D) (m : StringsOf O M C E N L D) (cs : List SoughtCall) (r : Ending) → x ≡ inner.Stream b → y ≡ b.value → z ≡ inner.Stream d
        → d.value ≡ roll-StreamOf O M C E N L D (record (out-StreamOf O M C E N L D y) { strings = m })
        → VisitParts IsSought _ (view_strings leaves (out-StreamOf O M C E N L D y).strings) cs (view_strings leaves m) r → VisitParts IsSought _ (view_inner leaves x) cs (view_inner leaves z) r
    stream_walked x z b d y m cs r is read put made p = walked (ap (view_inner leaves) is ∙ ap (view_stream leaves) (sym read) ∙ view_stream_is leaves y) (ap (view_inner leaves) put ∙ ap (view_stream leaves) made ∙ view_stream_made leaves (record (out-StreamOf O M C E N L D y) { strings = m })) (of_stream p)

    pub literal_walked : (x : PieceOf O M C E N L D) (l : L) (i : Option Indicator) → x ≡ piece.Literal i l → VisitParts IsSought _ (view_piece leaves x) [] (view_piece leaves x) whole
    literal_walked x l i is = walked (ap (view_piece leaves) is) (ap (view_piece leaves) is) of_literal

    pub ellipsis_walked : (x : PieceOf O M C E N L D) (d : D) → x ≡ piece.Ellipsis d → VisitParts IsSought _ (view_piece leaves x) [] (view_piece leaves x) whole
    ellipsis_walked x d is = walked (ap (view_piece leaves) is) (ap (view_piece leaves) is) of_ellipsis

    pub embedded_walked : (x : PieceOf O M C E N L D) (b : Box (SequenceOf O M C E N L D)) (i j : Option Indicator) (y : SequenceOf O M C E N L D) (v : Tree Seq) (cs : List SoughtCall) (r : Ending) → x ≡ piece.Embedded i b → y ≡ b.value → j ≡ i
        → VisitParts IsSought _ (view_sequence leaves y) cs v r → VisitParts IsSought _ (view_piece leaves x) cs (EmbeddedTree v j) r
    embedded_walked x b i j y v cs r is read same p = walked (ap (view_piece leaves) is ∙ ap (λ y. EmbeddedTree (view_sequence leaves y) i) (sym read)) (ap (EmbeddedTree v) same) (of_embedded p)

    pub nothing_walked : (x z : SequenceOf O M C E N L D) → (out-SequenceOf O M C E N L D x).items ≡ None → z ≡ roll-SequenceOf O M C E N L D (out-SequenceOf O M C E N L D x)
        → VisitParts IsSought _ (view_sequence leaves x) [] (view_sequence leaves z) whole
    nothing_walked x z is made =
        let none = ap (view_some leaves (leaves.space (out-SequenceOf O M C E N L D x).before)) is in
        walked (view_sequence_is leaves x ∙ none) (ap (view_sequence leaves) made ∙ view_sequence_made leaves (out-SequenceOf O M C E N L D x) ∙ none) of_nothing

    pub sequence_walked : (x z : SequenceOf O M C E N L D) (m n : ItemsOf O M C E N L D) (cs : List SoughtCall) (r : Ending) → (out-SequenceOf O M C E N L D x).items ≡ Some m
        → z ≡ roll-SequenceOf O M C E N L D (record (out-SequenceOf O M C E N L D x) { items = Some n })
        → VisitParts IsSought _ (view_items leaves m) cs (view_items leaves n) r → VisitParts IsSought _ (view_sequence leaves x) cs (view_sequence leaves z) r
    sequence_walked x z m n cs r is made p = walked (view_sequence_is leaves x ∙ ap (view_some leaves (leaves.space (out-SequenceOf O M C E N L D x).before)) is) (ap (view_sequence leaves) made ∙ view_sequence_made leaves (record (out-SequenceOf O M C E N L D x) { items = Some n })) (of_sequence p)

    pub list_walked : (x : ItemListOf O M C E N L D) (h : ListHeadOf M) (s : O) (m : ItemsOf O M C E N L D) (v : Tree (Rest kind.Elements)) (cs : List SoughtCall) (r : Ending) → x ≡ item_list.Present h s m
        → VisitParts IsSought _ (view_items leaves m) cs v r → VisitParts IsSought _ (view_list leaves x) cs (FullTree (view_list_head leaves h) (leaves.space s) v) r
    list_walked x h s m v cs r is p = walked (ap (view_list leaves) is) refl (of_all_inside p)

    pub empty_list_walked : (x : ItemListOf O M C E N L D) (i : Option Indicator) (s : O) → x ≡ item_list.Absent i s → VisitParts IsSought _ (view_list leaves x) [] (view_list leaves x) whole
    empty_list_walked x i s is = walked (ap (view_list leaves) is) (ap (view_list leaves) is) of_none_inside

    pub pair_list_walked : (x : PairListOf O M C E N L D) (h : ListHeadOf M) (s : O) (m : PairsOf O M C E N L D) (v : Tree (Rest kind.Pairs)) (cs : List SoughtCall) (r : Ending) → x ≡ pair_list.Present h s m
        → VisitParts IsSought _ (view_pairs leaves m) cs v r → VisitParts IsSought _ (view_pair_list leaves x) cs (FullTree (view_list_head leaves h) (leaves.space s) v) r
    pair_list_walked x h s m v cs r is p = walked (ap (view_pair_list leaves) is) refl (of_all_inside p)

    pub empty_pair_list_walked : (x : PairListOf O M C E N L D) (i : Option Indicator) (s : O) → x ≡ pair_list.Absent i s → VisitParts IsSought _ (view_pair_list leaves x) [] (view_pair_list leaves x) whole
    empty_pair_list_walked x i s is = walked (ap (view_pair_list leaves) is) (ap (view_pair_list leaves) is) of_none_inside

    -- the visit stops in the row
    items_cut : (x y : ItemsOf O M C E N L D) (f : _) (cs : List SoughtCall) (r : Ending) → y ≡ roll-ItemsOf O M C E N L D f → f.last ≡ (out-ItemsOf O M C E N L D x).last → f.end ≡ (out-ItemsOf O M C E N L D x).end → r ≡ cut
        → SoughtFront IsSought (map (seen leaves) (out-ItemsOf O M C E N L D x).row.items) cs (map (seen leaves) f.row.items) cut
        → VisitParts IsSought _ (view_items leaves x) cs (view_items leaves y) r
    items_cut x y f cs r is same_last same_list_end end v =
        let rest = LastTree (ElementTree (view_item leaves (out-ItemsOf O M C E N L D x).last)) (leaves.end (out-ItemsOf O M C E N L D x).end) in
        let left : view_items leaves y ≡ entries_onto (map (seen leaves) f.row.items) rest = ap (view_items leaves) is ∙ view_items_made leaves f ∙ (λ i. entries_onto (map (seen leaves) f.row.items) (LastTree (ElementTree (view_item leaves (same_last i))) (leaves.end (same_list_end i)))) in
        rw end (walked (view_items_is leaves x) left (v rest))

    -- it goes on to the last item
    items_walked : (x y : ItemsOf O M C E N L D) (f : _) (l : ItemOf O M C E N L D) (s : E) (cs ds : List SoughtCall) (r : Ending) → y ≡ roll-ItemsOf O M C E N L D f → l ≡ (out-ItemsOf O M C E N L D x).last → s ≡ (out-ItemsOf O M C E N L D x).end
        → SoughtFront IsSought (map (seen leaves) (out-ItemsOf O M C E N L D x).row.items) cs (map (seen leaves) f.row.items) whole
        → VisitItem IsSought (view_item leaves l) (leaves.end s) ds (view_item leaves f.last) (leaves.end f.end) r
        → VisitParts IsSought _ (view_items leaves x) (cs ++ ds) (view_items leaves y) r
    items_walked x y f l s cs ds r is same_last same_list_end v w =
        let rest = λ (a : ItemOf O M C E N L D) (b : E). LastTree (ElementTree (view_item leaves a)) (leaves.end b) in
        let old : view_items leaves x ≡ entries_onto (map (seen leaves) (out-ItemsOf O M C E N L D x).row.items) (LastTree (ElementTree (view_item leaves l)) (leaves.end s)) = view_items_is leaves x ∙ (λ i. entries_onto (map (seen leaves) (out-ItemsOf O M C E N L D x).row.items) (LastTree (ElementTree (view_item leaves (sym same_last i))) (leaves.end (sym same_list_end i)))) in
        walked old (ap (view_items leaves) is ∙ view_items_made leaves f) (v _ _ ds r (of_last (of_element w)))

    pairs_cut : (x y : PairsOf O M C E N L D) (f : _) (cs : List SoughtCall) (r : Ending) → y ≡ roll-PairsOf O M C E N L D f → f.last ≡ (out-PairsOf O M C E N L D x).last → f.end ≡ (out-PairsOf O M C E N L D x).end → r ≡ cut
        → SoughtFront IsSought (map (seen_pair leaves) (out-PairsOf O M C E N L D x).row.items) cs (map (seen_pair leaves) f.row.items) cut
        → VisitParts IsSought _ (view_pairs leaves x) cs (view_pairs leaves y) r
    pairs_cut x y f cs r is same_last same_list_end end v =
        let rest = LastTree (view_pair leaves (out-PairsOf O M C E N L D x).last) (leaves.end (out-PairsOf O M C E N L D x).end) in
        let left : view_pairs leaves y ≡ entries_onto (map (seen_pair leaves) f.row.items) rest = ap (view_pairs leaves) is ∙ view_pairs_made leaves f ∙ (λ i. entries_onto (map (seen_pair leaves) f.row.items) (LastTree (view_pair leaves (same_last i)) (leaves.end (same_list_end i)))) in
        rw end (walked (view_pairs_is leaves x) left (v rest))

    pairs_walked : (x y : PairsOf O M C E N L D) (f : _) (l : PairOf O M C E N L D) (s : E) (cs ds : List SoughtCall) (r : Ending) → y ≡ roll-PairsOf O M C E N L D f → l ≡ (out-PairsOf O M C E N L D x).last → s ≡ (out-PairsOf O M C E N L D x).end
        → SoughtFront IsSought (map (seen_pair leaves) (out-PairsOf O M C E N L D x).row.items) cs (map (seen_pair leaves) f.row.items) whole
        → VisitEntry IsSought _ (view_pair leaves l) (leaves.end s) ds (view_pair leaves f.last) (leaves.end f.end) r
        → VisitParts IsSought _ (view_pairs leaves x) (cs ++ ds) (view_pairs leaves y) r
    pairs_walked x y f l s cs ds r is same_last same_list_end v w =
        let old : view_pairs leaves x ≡ entries_onto (map (seen_pair leaves) (out-PairsOf O M C E N L D x).row.items) (LastTree (view_pair leaves l) (leaves.end s)) = view_pairs_is leaves x ∙ (λ i. entries_onto (map (seen_pair leaves) (out-PairsOf O M C E N L D x).row.items) (LastTree (view_pair leaves (sym same_last i)) (leaves.end (sym same_list_end i)))) in
        walked old (ap (view_pairs leaves) is ∙ view_pairs_made leaves f) (v _ _ ds r (of_last w))

    strings_cut : (x y : StringsOf O M C E N L D) (f : _) (cs : List SoughtCall) (r : Ending) → y ≡ roll-StringsOf O M C E N L D f → f.last ≡ (out-StringsOf O M C E N L D x).last → f.end ≡ (out-StringsOf O M C E N L D x).end → r ≡ cut
        → SoughtFront IsSought (map (seen_string leaves) (out-StringsOf O M C E N L D x).row.items) cs (map (seen_string leaves) f.row.items) cut
        → VisitParts IsSought _ (view_strings leaves x) cs (view_strings leaves y) r
    strings_cut x y f cs r is same_last same_list_end end v =
        let rest = LastTree (ChunkTree (view_string leaves (out-StringsOf O M C E N L D x).last)) (leaves.end (out-StringsOf O M C E N L D x).end) in
        let left : view_strings leaves y ≡ entries_onto (map (seen_string leaves) f.row.items) rest = ap (view_strings leaves) is ∙ view_strings_made leaves f ∙ (λ i. entries_onto (map (seen_string leaves) f.row.items) (LastTree (ChunkTree (view_string leaves (same_last i))) (leaves.end (same_list_end i)))) in
        rw end (walked (view_strings_is leaves x) left (v rest))

    strings_walked : (x y : StringsOf O M C E N L D) (f : _) (l : CborStringOf O M C E N L D) (cs ds : List SoughtCall) (r : Ending) → y ≡ roll-StringsOf O M C E N L D f → l ≡ (out-StringsOf O M C E N L D x).last → f.end ≡ (out-StringsOf O M C E N L D x).end
        → SoughtFront IsSought (map (seen_string leaves) (out-StringsOf O M C E N L D x).row.items) cs (map (seen_string leaves) f.row.items) whole
        → VisitParts IsSought _ (view_string leaves l) ds (view_string leaves f.last) r
        → VisitParts IsSought _ (view_strings leaves x) (cs ++ ds) (view_strings leaves y) r
    strings_walked x y f l cs ds r is same_last same_list_end v w =
        let old : view_strings leaves x ≡ entries_onto (map (seen_string leaves) (out-StringsOf O M C E N L D x).row.items) (LastTree (ChunkTree (view_string leaves l)) (leaves.end f.end)) = view_strings_is leaves x ∙ (λ i. entries_onto (map (seen_string leaves) (out-StringsOf O M C E N L D x).row.items) (LastTree (ChunkTree (view_string leaves (sym same_last i))) (leaves.end (sym same_list_end i)))) in
        walked old (ap (view_strings leaves) is ∙ view_strings_made leaves f) (v _ _ ds r (of_last (of_chunk w)))

    -- the visit stops in the row, or goes on to the last one, as the code writes the fields
    pub items_row_cut : (x : ItemsOf O M C E N L D) (row : Vec (ItemOf O M C E N L D × C) Global) (cs : List SoughtCall) (r : Ending) → r ≡ cut
        → SoughtFront IsSought (map (seen leaves) (out-ItemsOf O M C E N L D x).row.items) cs (map (seen leaves) row.items) cut
        → VisitParts IsSought _ (view_items leaves x) cs (view_items leaves (items_rowed x row)) r
    items_row_cut x row cs r end v = items_cut x (items_rowed x row) (record { row = row; last = (out-ItemsOf O M C E N L D x).last; end = (out-ItemsOf O M C E N L D x).end }) cs r refl refl refl end v

    pub items_last_walked : (x : ItemsOf O M C E N L D) (row : Vec (ItemOf O M C E N L D × C) Global) (i : ItemOf O M C E N L D) (e : E) (cs ds : List SoughtCall) (r : Ending)
        → SoughtFront IsSought (map (seen leaves) (out-ItemsOf O M C E N L D x).row.items) cs (map (seen leaves) row.items) whole
        → VisitItem IsSought (view_item leaves (out-ItemsOf O M C E N L D (items_rowed x row)).last) (leaves.end (out-ItemsOf O M C E N L D (items_rowed x row)).end) ds (view_item leaves i) (leaves.end e) r
        → VisitParts IsSought _ (view_items leaves x) (cs ++ ds) (view_items leaves (items_reached x row i e)) r
    items_last_walked x row i e cs ds r v w =
        items_walked x (items_reached x row i e) (record { row = row; last = i; end = e }) (out-ItemsOf O M C E N L D (items_rowed x row)).last (out-ItemsOf O M C E N L D (items_rowed x row)).end cs ds r
        (items_reached_is x row i e) (items_rowed_last x row) (items_rowed_end x row) v w

    pub items_all_walked : {X : Type 0} (x : ItemsOf O M C E N L D) (row : Vec (ItemOf O M C E N L D × C) Global) (i j : ItemOf O M C E N L D) (e : E) (b : Bool) (cs ds es : List SoughtCall) (r : Ending)
        → SoughtFront IsSought (map (seen leaves) (out-ItemsOf O M C E N L D x).row.items) cs (map (seen leaves) row.items) whole
        → Reaches {E = X} IsSought (view_item leaves (out-ItemsOf O M C E N L D (items_rowed x row)).last) (leaves.end (out-ItemsOf O M C E N L D (items_rowed x row)).end) ds (view_item leaves i) (leaves.end e) (Ok b)
        → VisitIf IsSought b (view_item leaves (out-ItemsOf O M C E N L D (items_reached x row i e)).last) es (view_item leaves j) r
        → VisitParts IsSought _ (view_items leaves x) (cs ++ (ds ++ es)) (view_items leaves (items_done x row i e j)) r
    items_all_walked x row i j e b cs ds es r v q w =
        let u = subst (λ l. VisitIf IsSought b (view_item leaves l) es (view_item leaves j) r) (items_reached_last x row i e) w in
        items_walked x (items_done x row i e j) (record { row = row; last = j; end = e }) (out-ItemsOf O M C E N L D (items_rowed x row)).last (out-ItemsOf O M C E N L D (items_rowed x row)).end cs (ds ++ es) r
        (items_done_is x row i e j) (items_rowed_last x row) (items_rowed_end x row) v (then_if b (view_item leaves j) es r q u)

    pub pairs_row_cut : (x : PairsOf O M C E N L D) (row : Vec (PairOf O M C E N L D × C) Global) (cs : List SoughtCall) (r : Ending) → r ≡ cut
        → SoughtFront IsSought (map (seen_pair leaves) (out-PairsOf O M C E N L D x).row.items) cs (map (seen_pair leaves) row.items) cut
        → VisitParts IsSought _ (view_pairs leaves x) cs (view_pairs leaves (pairs_rowed x row)) r
    pairs_row_cut x row cs r end v = pairs_cut x (pairs_rowed x row) (record { row = row; last = (out-PairsOf O M C E N L D x).last; end = (out-PairsOf O M C E N L D x).end }) cs r refl refl refl end v

    pub pairs_all_walked : (x : PairsOf O M C E N L D) (row : Vec (PairOf O M C E N L D × C) Global) (p : PairOf O M C E N L D) (e : E) (cs ds : List SoughtCall) (r : Ending)
        → SoughtFront IsSought (map (seen_pair leaves) (out-PairsOf O M C E N L D x).row.items) cs (map (seen_pair leaves) row.items) whole
        → VisitEntry IsSought _ (view_pair leaves (out-PairsOf O M C E N L D (pairs_rowed x row)).last) (leaves.end (out-PairsOf O M C E N L D (pairs_rowed x row)).end) ds (view_pair leaves p) (leaves.end e) r
        → VisitParts IsSought _ (view_pairs leaves x) (cs ++ ds) (view_pairs leaves (pairs_done x row p e)) r
    pairs_all_walked x row p e cs ds r v w =
        pairs_walked x (pairs_done x row p e) (record { row = row; last = p; end = e }) (out-PairsOf O M C E N L D (pairs_rowed x row)).last (out-PairsOf O M C E N L D (pairs_rowed x row)).end cs ds r
        (pairs_done_is x row p e) (pairs_rowed_last x row) (pairs_rowed_end x row) v w

    pub strings_row_cut : (x : StringsOf O M C E N L D) (row : Vec (CborStringOf O M C E N L D × C) Global) (cs : List SoughtCall) (r : Ending) → r ≡ cut
        → SoughtFront IsSought (map (seen_string leaves) (out-StringsOf O M C E N L D x).row.items) cs (map (seen_string leaves) row.items) cut
        → VisitParts IsSought _ (view_strings leaves x) cs (view_strings leaves (strings_rowed x row)) r
    strings_row_cut x row cs r end v = strings_cut x (strings_rowed x row) (record { row = row; last = (out-StringsOf O M C E N L D x).last; end = (out-StringsOf O M C E N L D x).end }) cs r refl refl refl end v

    pub strings_all_walked : (x : StringsOf O M C E N L D) (row : Vec (CborStringOf O M C E N L D × C) Global) (s : CborStringOf O M C E N L D) (cs ds : List SoughtCall) (r : Ending)
        → SoughtFront IsSought (map (seen_string leaves) (out-StringsOf O M C E N L D x).row.items) cs (map (seen_string leaves) row.items) whole
        → VisitParts IsSought _ (view_string leaves (out-StringsOf O M C E N L D (strings_rowed x row)).last) ds (view_string leaves s) r
        → VisitParts IsSought _ (view_strings leaves x) (cs ++ ds) (view_strings leaves (strings_done x row s)) r
    strings_all_walked x row s cs ds r v w =
        strings_walked x (strings_done x row s) (record { row = row; last = s; end = (out-StringsOf O M C E N L D x).end }) (out-StringsOf O M C E N L D (strings_rowed x row)).last cs ds r
        (strings_done_is x row s) (strings_rowed_last x row) refl v w

-- ---- how far the measures of parts fall

module _ {O M C E N L D : Type 0} (leaves : Ghosts O M C E N L D) where
  module _ (t : ℕ) where
    pub tag_less : (x : InnerItemOf O M C E N L D) (l : Opener) (b : Box (StandaloneItemOf O M C E N L D)) (y : StandaloneItemOf O M C E N L D) (n : ℕ) (i : Option Indicator) → x ≡ inner.Enclosed l b → l.kind ≡ opener.Tag i n → y ≡ b.value
        → 16 * depth (view_inner leaves x) + 5 ≡ t → 16 * depth (view_standalone leaves y) + 7 < t
    tag_less x l b y n i is tag read d = let f = tag_falls leaves x l b y n i is tag read in omega (arith, d, f)

    pub array_less : (x : InnerItemOf O M C E N L D) (b : Box (ItemListOf O M C E N L D)) (y : ItemListOf O M C E N L D) → x ≡ inner.Array b → y ≡ b.value → 16 * depth (view_inner leaves x) + 5 ≡ t → 16 * depth (view_list leaves y) + 9 < t
    array_less x b y is read d = let f = array_falls leaves x b y is read in omega (arith, d, f)

    pub map_less : (x : InnerItemOf O M C E N L D) (b : Box (PairListOf O M C E N L D)) (y : PairListOf O M C E N L D) → x ≡ inner.Map b → y ≡ b.value → 16 * depth (view_inner leaves x) + 5 ≡ t → 16 * depth (view_pair_list leaves y) + 10 < t
    map_less x b y is read d = let f = map_falls leaves x b y is read in omega (arith, d, f)

    pub string_less : (x : InnerItemOf O M C E N L D) (b : Box (CborStringOf O M C E N L D)) (y : CborStringOf O M C E N L D) → x ≡ inner.String b → y ≡ b.value → 16 * depth (view_inner leaves x) + 5 ≡ t → 16 * depth (view_string leaves y) + 2 < t
    string_less x b y is read d = let f = string_falls leaves x b y is read in omega (arith, d, f)

    pub stream_less : (x : InnerItemOf O M C E N L D) (b : Box (StreamOf O M C E N L D)) (y : StreamOf O M C E N L D) → x ≡ inner.Stream b → y ≡ b.value → 16 * depth (view_inner leaves x) + 5 ≡ t → 16 * depth (view_strings leaves (out-StreamOf O M C E N L D y).strings) + 4 < t
    stream_less x b y is read d = let f = stream_falls leaves x b y is read in omega (arith, d, f)

    pub embedded_less : (x : PieceOf O M C E N L D) (b : Box (SequenceOf O M C E N L D)) (i : Option Indicator) (y : SequenceOf O M C E N L D) → x ≡ piece.Embedded i b → y ≡ b.value → 16 * depth (view_piece leaves x) + 0 ≡ t → 16 * depth (view_sequence leaves y) + 9 < t
    embedded_less x b i y is read d = let f = embedded_falls leaves x b i y is read in omega (arith, d, f)

    pub sequence_less : (x : SequenceOf O M C E N L D) (m : ItemsOf O M C E N L D) → (out-SequenceOf O M C E N L D x).items ≡ Some m → 16 * depth (view_sequence leaves x) + 9 ≡ t → 16 * depth (view_items leaves m) + 8 < t
    sequence_less x m is d = let f = sequence_falls leaves x m is in omega (arith, d, f)

    pub list_less : (x : ItemListOf O M C E N L D) (h : ListHeadOf M) (s : O) (m : ItemsOf O M C E N L D) → x ≡ item_list.Present h s m → 16 * depth (view_list leaves x) + 9 ≡ t → 16 * depth (view_items leaves m) + 8 < t
    list_less x h s m is d = let f = list_falls leaves x h s m is in omega (arith, d, f)

    pub pair_list_less : (x : PairListOf O M C E N L D) (h : ListHeadOf M) (s : O) (m : PairsOf O M C E N L D) → x ≡ pair_list.Present h s m → 16 * depth (view_pair_list leaves x) + 10 ≡ t → 16 * depth (view_pairs leaves m) + 9 < t
    pair_list_less x h s m is d = let f = pair_list_falls leaves x h s m is in omega (arith, d, f)

    pub standalone_less : (x : StandaloneItemOf O M C E N L D) (b : Bool) (w : Tree OneItem) → 16 * depth (view_standalone leaves x) + 7 ≡ t → measure_if b w ≤ 16 * depth (view_item leaves x.item) + 6 → measure_if b w < t
    standalone_less x b w d le = let f = standalone_depth leaves x in omega (arith, d, le, f)

    pub key_less : (x : PairOf O M C E N L D) (b : Bool) (w : Tree OneItem) → 16 * depth (view_pair leaves x) + 7 ≡ t → measure_if b w ≤ 16 * depth (view_item leaves x.key) + 6 → measure_if b w < t
    key_less x b w d le = let f = pair_depth leaves x in omega (arith, d, le, f)

    pub value_less : (x : PairOf O M C E N L D) (b : Bool) (w : Tree OneItem) → 16 * depth (view_pair leaves x) + 8 ≡ t → measure_if b w ≤ 16 * depth (view_item leaves x.value) + 6 → measure_if b w < t
    value_less x b w d le = let f = pair_depth leaves x in omega (arith, d, le, f)

    pub last_key_less : (x : PairOf O M C E N L D) → 16 * depth (view_pair leaves x) + 8 ≡ t → 16 * depth (view_pair leaves x) + 7 < t
    last_key_less x d = omega (arith, d)

    pub items_row_less : (x : ItemsOf O M C E N L D) → 16 * depth (view_items leaves x) + 8 ≡ t → 16 * entries_depth (map (seen leaves) (out-ItemsOf O M C E N L D x).row.items) + 7 < t
    items_row_less x d = let f = items_depth leaves x in omega (arith, d, f)

    pub items_last_less : (x : ItemsOf O M C E N L D) (row : Vec (ItemOf O M C E N L D × C) Global) (i : ItemOf O M C E N L D) (e : E) (b : Bool) → 16 * depth (view_items leaves x) + 8 ≡ t
        → measure_if b (view_item leaves i) ≤ 16 * depth (view_item leaves (out-ItemsOf O M C E N L D (items_rowed x row)).last) + 6
        → measure_if b (view_item leaves (out-ItemsOf O M C E N L D (items_reached x row i e)).last) < t
    items_last_less x row i e b d le =
        let f = items_depth leaves x in
        let same : depth (view_item leaves (out-ItemsOf O M C E N L D (items_rowed x row)).last) ≡ depth (view_item leaves (out-ItemsOf O M C E N L D x).last) = ap (λ l. depth (view_item leaves l)) (items_rowed_last x row) in
        let m : measure_if b (view_item leaves i) < t = omega (arith, d, le, f, same) in
        subst (λ l. measure_if b (view_item leaves l) < t) (sym (items_reached_last x row i e)) m

    pub pairs_row_less : (x : PairsOf O M C E N L D) → 16 * depth (view_pairs leaves x) + 9 ≡ t → 16 * entries_depth (map (seen_pair leaves) (out-PairsOf O M C E N L D x).row.items) + 8 < t
    pairs_row_less x d = let f = pairs_depth leaves x in omega (arith, d, f)

    pub pairs_last_less : (x : PairsOf O M C E N L D) (row : Vec (PairOf O M C E N L D × C) Global) → 16 * depth (view_pairs leaves x) + 9 ≡ t → 16 * depth (view_pair leaves (out-PairsOf O M C E N L D (pairs_rowed x row)).last) + 8 < t
    pairs_last_less x row d =
        let f = pairs_depth leaves x in
        let same : depth (view_pair leaves (out-PairsOf O M C E N L D (pairs_rowed x row)).last) ≡ depth (view_pair leaves (out-PairsOf O M C E N L D x).last) = ap (λ l. depth (view_pair leaves l)) (pairs_rowed_last x row) in
        omega (arith, d, f, same)

    pub string_row_less : (x : CborStringOf O M C E N L D) → 16 * depth (view_string leaves x) + 2 ≡ t → 16 * pieces_depth (map (seen_piece leaves) x.row.items) + 1 < t
    string_row_less x d = let f = string_depth leaves x in omega (arith, d, f)

    pub string_last_less : (x : CborStringOf O M C E N L D) → 16 * depth (view_string leaves x) + 2 ≡ t → 16 * depth (view_piece leaves x.last) + 0 < t
    string_last_less x d = let f = string_depth leaves x in omega (arith, d, f)

    pub strings_row_less : (x : StringsOf O M C E N L D) → 16 * depth (view_strings leaves x) + 4 ≡ t → 16 * entries_depth (map (seen_string leaves) (out-StringsOf O M C E N L D x).row.items) + 3 < t
    strings_row_less x d = let f = strings_depth leaves x in omega (arith, d, f)

    pub strings_last_less : (x : StringsOf O M C E N L D) (row : Vec (CborStringOf O M C E N L D × C) Global) → 16 * depth (view_strings leaves x) + 4 ≡ t → 16 * depth (view_string leaves (out-StringsOf O M C E N L D (strings_rowed x row)).last) + 2 < t
    strings_last_less x row d =
        let f = strings_depth leaves x in
        let same : depth (view_string leaves (out-StringsOf O M C E N L D (strings_rowed x row)).last) ≡ depth (view_string leaves (out-StringsOf O M C E N L D x).last) = ap (λ l. depth (view_string leaves l)) (strings_rowed_last x row) in
        omega (arith, d, f, same)

    pub element_less : (xs : List (ItemOf O M C E N L D × C)) (i : ℕ) (x : ItemOf O M C E N L D × C) (b : Bool) (w : Tree OneItem) → i < length xs → get_or xs i x ≡ x → 16 * entries_depth (map (seen leaves) xs) + 7 ≡ t
        → measure_if b w ≤ 16 * depth (view_item leaves x.0) + 6 → measure_if b w < t
    element_less xs i x b w h is d le =
        let a : depth (seen leaves x).0 ≤ entries_depth (map (seen leaves) xs) = subst (λ z. depth (seen leaves z).0 ≤ entries_depth (map (seen leaves) xs)) is (entries_at (seen leaves) xs i x h) in
        let e = element_depth leaves x in
        omega (arith, d, le, a, e)

    pub row_key_less : (xs : List (PairOf O M C E N L D × C)) (i : ℕ) (x : PairOf O M C E N L D × C) → i < length xs → get_or xs i x ≡ x → 16 * entries_depth (map (seen_pair leaves) xs) + 8 ≡ t → 16 * depth (view_pair leaves x.0) + 7 < t
    row_key_less xs i x h is d =
        let a : depth (view_pair leaves x.0) ≤ entries_depth (map (seen_pair leaves) xs) = subst (λ z. depth (seen_pair leaves z).0 ≤ entries_depth (map (seen_pair leaves) xs)) is (entries_at (seen_pair leaves) xs i x h) in
        omega (arith, d, a)

    pub row_value_less : (xs : List (PairOf O M C E N L D × C)) (i : ℕ) (x : PairOf O M C E N L D × C) (b : Bool) (w : Tree OneItem) → i < length xs → get_or xs i x ≡ x → 16 * entries_depth (map (seen_pair leaves) xs) + 8 ≡ t
        → measure_if b w ≤ 16 * depth (view_item leaves x.0.value) + 6 → measure_if b w < t
    row_value_less xs i x b w h is d le =
        let a : depth (view_pair leaves x.0) ≤ entries_depth (map (seen_pair leaves) xs) = subst (λ z. depth (seen_pair leaves z).0 ≤ entries_depth (map (seen_pair leaves) xs)) is (entries_at (seen_pair leaves) xs i x h) in
        let f = pair_depth leaves x.0 in
        omega (arith, d, le, a, f)

    pub chunk_less : (xs : List (CborStringOf O M C E N L D × C)) (i : ℕ) (x : CborStringOf O M C E N L D × C) → i < length xs → get_or xs i x ≡ x → 16 * entries_depth (map (seen_string leaves) xs) + 3 ≡ t → 16 * depth (view_string leaves x.0) + 2 < t
    chunk_less xs i x h is d =
        let a : depth (seen_string leaves x).0 ≤ entries_depth (map (seen_string leaves) xs) = subst (λ z. depth (seen_string leaves z).0 ≤ entries_depth (map (seen_string leaves) xs)) is (entries_at (seen_string leaves) xs i x h) in
        let e = chunk_depth leaves x in
        omega (arith, d, a, e)

    pub piece_less : (xs : List (PieceOf O M C E N L D × O × O)) (i : ℕ) (x : PieceOf O M C E N L D × O × O) → i < length xs → get_or xs i x ≡ x → 16 * pieces_depth (map (seen_piece leaves) xs) + 1 ≡ t → 16 * depth (view_piece leaves x.0) + 0 < t
    piece_less xs i x h is d =
        let a : depth (view_piece leaves x.0) ≤ pieces_depth (map (seen_piece leaves) xs) = subst (λ z. depth (seen_piece leaves z).0 ≤ pieces_depth (map (seen_piece leaves) xs)) is (pieces_at (seen_piece leaves) xs i x h) in
        omega (arith, d, a)
