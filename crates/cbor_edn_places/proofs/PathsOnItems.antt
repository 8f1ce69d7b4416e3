-- A first path is told by items alone, whatever the spaces.
use Rattle.std.proofs.Common.{◌≡◌, ℕ, Bool, true, false, List, [], ◌∷◌, ◌++◌, map, length, Option, Some, None, refl, sym, ap, ◌∙◌}
use Rattle.std.specs.Prelude.{slice_get, option_map, ◌||◌, if◌then◌else◌, nat_le}
use Rattle.std.proofs.lemmas.List.{append-nil, length-map, map-append}
use Rattle.std.proofs.lemmas.Option.{slice_get-map}
use Rattle.cbor_edn_model.specs.declared.text.opener.OpenerKind.TheVariants as opener
use Rattle.cbor_edn_model.specs.access.Paths.{items_in}
use Rattle.cbor_edn_model.specs.cbor.Meaning.{means}
use Rattle.cbor_edn_model.specs.tree.Items.{Sort, Item, Array, Map, Node, Number, Float, Listed, Tagged, Named, Simple, String, Stream, Literal, Ellipsis, Embedded, LastPiece, Plus, Element, Pair, Chunk, End, Then}
use Rattle.cbor_edn_model.specs.tree.Trees.{Rule, OneItem, OnePiece, OneString, OneEntry, Inside, Rest, Seq, Standalone, Tree, NumberTree, FloatTree, NamedTree, EnclosedTree, ListTree, StringTree, StreamTree, LiteralTree, EllipsisTree, EmbeddedTree, LastPieceTree, PlusTree, ElementTree, PairTree, ChunkTree, EmptyTree, FullTree, LastTree, MoreTree, NothingTree, SequenceTree, StandaloneTree, Of, items}
use Rattle.cbor_edn_places.specs.Places.{is_structure, is_open, places_in, AllMean, IsFirstPath}

-- ---- the items right below

abbrev inner : {s : Sort} → Node s → List (Node Item)
inner (Number x p) = []
inner (Float f p) = []
inner (Listed k p m) = inner m
inner (Tagged n p w) = w ∷ []
inner (Named b) = []
inner (Simple w) = []
inner (String w) = inner w
inner (Stream m) = inner m
inner (Literal x p) = []
inner (Ellipsis x) = []
inner (Embedded m p) = inner m
inner (LastPiece q) = inner q
inner (Plus q w) = inner q ++ inner w
inner (Element w) = w ∷ []
inner (Pair v w) = v ∷ w ∷ []
inner (Chunk w) = inner w
inner End = []
inner (Then e m) = inner e ++ inner m

abbrev inner_of : (s : Rule) → Of s → List (Node Item)
inner_of OneItem x = inner x
inner_of OnePiece x = inner x
inner_of OneString x = inner x
inner_of (OneEntry k) x = inner x
inner_of (Inside k) x = inner x.1
inner_of (Rest k) x = inner x
inner_of Seq x = inner x
inner_of Standalone x = x ∷ []

abbrev all_items : List (Tree OneItem) → List (Node Item)
all_items xs = map (λ (x : Tree OneItem). items x) xs

pub below_items : {s : Rule} (w : Tree s) → all_items (items_in w) ≡ inner_of s (items w)
unfolding items
below_items (NumberTree x p) = refl
below_items (FloatTree f p) = refl
below_items (NamedTree b) = refl
below_items (EnclosedTree (opener.Tag p n) w) = below_items w
below_items (EnclosedTree opener.Simple w) = refl
below_items (ListTree k w) = below_items w
below_items (StringTree w) = below_items w
below_items (StreamTree ms m) = below_items m
below_items (LiteralTree x p) = refl
below_items (EllipsisTree x) = refl
below_items (EmbeddedTree w p) = below_items w
below_items (LastPieceTree q) = below_items q
below_items (PlusTree q s t w) = map-append _ (items_in q) (items_in w) ∙ (ap (λ xs. xs ++ all_items (items_in w)) (below_items q) ∙ ap (λ xs. inner (items q) ++ xs) (below_items w))
below_items (ElementTree w) = refl
below_items (PairTree v s t w) = refl
below_items (ChunkTree w) = below_items w
below_items (EmptyTree p s) = refl
below_items (FullTree h s m) = below_items m
below_items (LastTree e s) = below_items e ∙ sym (append-nil (inner (items e)))
below_items (MoreTree e s m) = map-append _ (items_in e) (items_in m) ∙ (ap (λ xs. xs ++ all_items (items_in m)) (below_items e) ∙ ap (λ xs. inner (items e) ++ xs) (below_items m))
below_items (NothingTree s) = refl
below_items (SequenceTree s m) = below_items m
below_items (StandaloneTree s w t) = refl

abbrev structure : Node Item → Bool
structure (Listed k p m) = true
structure (Tagged n p w) = true
structure _ = false

structure_is : (x : Tree OneItem) → is_structure x ≡ structure (items x)
unfolding items
structure_is (NumberTree x p) = refl
structure_is (FloatTree f p) = refl
structure_is (NamedTree b) = refl
structure_is (EnclosedTree (opener.Tag p n) w) = refl
structure_is (EnclosedTree opener.Simple w) = refl
structure_is (ListTree Array w) = refl
structure_is (ListTree Map w) = refl
structure_is (StringTree w) = refl
structure_is (StreamTree ms m) = refl

-- ---- the same items

-- a tree of the same items at the same place
there : (xs ys : List (Tree OneItem)) (i : ℕ) (y : Tree OneItem) → all_items xs ≡ all_items ys → slice_get ys i ≡ Some y → (x : Tree OneItem) × (slice_get xs i ≡ Some x) × (items x ≡ items y)
there xs ys i y same got = by (slice_get xs i) refl
  where
    at : option_map (λ (x : Tree OneItem). items x) (slice_get xs i) ≡ Some (items y)
    at = sym (slice_get-map (λ (x : Tree OneItem). items x) xs i) ∙ (ap (λ l. slice_get l i) same ∙ (slice_get-map (λ (x : Tree OneItem). items x) ys i ∙ ap (option_map (λ (x : Tree OneItem). items x)) got))

    by : (o : Option (Tree OneItem)) → slice_get xs i ≡ o → (x : Tree OneItem) × (slice_get xs i ≡ Some x) × (items x ≡ items y)
    by None is = let bad : ◌≡◌ {A = Option (Node Item)} None (Some (items y)) = sym (ap (option_map (λ (x : Tree OneItem). items x)) is) ∙ at in absurd cc
    by (Some x) is = let e : ◌≡◌ {A = Option (Node Item)} (Some (items x)) (Some (items y)) = sym (ap (option_map (λ (x : Tree OneItem). items x)) is) ∙ at in (x, is, cc)

same_places : (x y : Tree OneItem) → items x ≡ items y → all_items (places_in x) ≡ all_items (places_in y)
same_places x y same = by (is_open x) (is_open y) both
  where
    inside : all_items (items_in x) ≡ all_items (items_in y)
    inside = below_items x ∙ (ap inner same ∙ sym (below_items y))

    both : is_open x ≡ is_open y
    both = ap (λ b. b || nat_le (length (items_in x)) 64) (structure_is x ∙ (ap structure same ∙ sym (structure_is y)))
        ∙ ap (λ n. is_structure y || nat_le n 64) (sym (length-map (items_in x) (λ (x : Tree OneItem). items x)) ∙ (ap length inside ∙ length-map (items_in y) (λ (x : Tree OneItem). items x)))

    by : (a b : Bool) → a ≡ b → all_items (if a then items_in x else []) ≡ all_items (if b then items_in y else [])
    by true true e = inside
    by true false e = absurd cc
    by false true e = absurd cc
    by false false e = refl

all_mean : (xs ys : List (Tree OneItem)) → all_items xs ≡ all_items ys → AllMean xs → AllMean ys
all_mean xs ys same h j y got none = let x = there xs ys j y same got in h j x.0 x.1 (ap means x.2 ∙ none)

first_path : (path : List ℕ) (xs ys : List (Tree OneItem)) → all_items xs ≡ all_items ys → IsFirstPath xs path → IsFirstPath ys path
first_path [] xs ys same h = all_mean xs ys same h
first_path (i ∷ path) xs ys same (x, first, rest) =
    let y = there ys xs i x (sym same) first.there in (
      y.0,
      record {
        there = y.1;
        valueless = ap means y.2 ∙ first.valueless;
        before = λ j z less got none. let u = there xs ys j z same got in first.before j u.0 less u.1 (ap means u.2 ∙ none);
      },
      first_path path (places_in x) (places_in y.0) (same_places x y.0 (sym y.2)) rest,
    )

pub same_first_path : (v w : Tree Seq) (path : List ℕ) → items v ≡ items w → IsFirstPath (items_in v) path → IsFirstPath (items_in w) path
same_first_path v w path same h = first_path path (items_in v) (items_in w) (below_items v ∙ (ap inner same ∙ sym (below_items w))) h
