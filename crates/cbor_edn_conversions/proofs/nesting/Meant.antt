-- Direct items nest no deeper than those of the values that they mean, and decoded items are direct.
use Rattle.std.proofs.Common.{ℕ, suc, max, ◌≤◌, ◌≡◌, ◌≢◌, eqb, Bool, true, false, cond, List, [], ◌∷◌, Option, Some, refl, sym, ap, ◌∙◌, subst, arith}
use Rattle.std.proofs.lemmas.Bool.{eqb-true, eqb-false}
use Rattle.cbor_edn_parts.specs.declared.string.StringKind.{StringKind}
use Rattle.cbor_edn_model.specs.declared.text.keyword.NamedSimple.{NamedSimple}
use Rattle.cbor_edn_model.specs.declared.text.keyword.NamedSimple.TheVariants.{False, True, Null, Undefined}
use Rattle.cbor_edn_model.specs.declared.cbor.heads.Width.{Width}
use Rattle.cbor_edn_model.specs.cbor.Decoded as decoded
use Rattle.cbor_edn_model.specs.cbor.Decoded.{item_of, items_of, chunk_items, simple_item}
use Rattle.cbor_edn_model.specs.tree.Items as kind
use Rattle.cbor_edn_model.specs.tree.Items.{Row, Elements, Strings, Bracketed, Array, Map, entries_of, Sort, Item, Piece, Pieces, Entry, Entries, Node, Number, Float, Listed, Tagged, Named, Simple, String, Stream, Literal, Ellipsis, Embedded, LastPiece, Plus, Element, Pair, Chunk, End, Then, nesting}
use Rattle.cbor_edn_model.specs.cbor.Meaning.{◌>>=◌, MeaningOf, RowOf, EntryOf, width_of, length_of, row_len, list_value, listed, one_more, means_simple, simple_of, named_number, means}
use Rattle.cbor_edn_model.specs.cbor.Value as values
use Rattle.cbor_edn_model.specs.cbor.Value.{Value, unsigned, negative, string, chunks, array, cbor_map, tag, simple, float, Values, no_values, value, Pairs, no_pairs, pair, Fits, ValuesFit, PairsFit, IsSimple}
use Rattle.cbor_edn_model.proofs.lemmas.cbor.Decoding.{item_means}
use Rattle.cbor_edn_model.proofs.lemmas.cbor.MeaningSteps.{both_steps, some_is}
use Rattle.cbor_edn_conversions.specs.Resolving.{Resolver, means_by}
use Rattle.cbor_edn_conversions.specs.Nesting.{IsDirect, HasNoKeyword}
use Rattle.cbor_edn_conversions.specs.NestingLaws.{NestsAsMeant, DecodedIsDirect}

-- ---- strings nest nothing

piece_flat : (p : Node Piece) → IsDirect p → nesting p ≡ 0
piece_flat (Literal x i) d = refl
piece_flat (Ellipsis x) d = refl
piece_flat (Embedded m i) d = absurd d

string_flat : (w : Node Pieces) → IsDirect w → nesting w ≡ 0
string_flat (LastPiece p) d = piece_flat p d
string_flat (Plus p w) d = let a = piece_flat p d.0 in let b = string_flat w d.1 in omega (arith, a, b)

entry_flat : (e : Node (Entry Strings)) → IsDirect e → nesting e ≡ 0
entry_flat (Chunk w) d = string_flat w d

strings_flat : (m : Node (Entries Strings)) → IsDirect m → nesting m ≡ 0
strings_flat End d = refl
strings_flat (Then e m) d = let a = entry_flat e d.0 in let b = strings_flat m d.1 in omega (arith, a, b)

-- ---- what is meant

-- how deep the items of what is meant nest
abbrev entry_nesting : (k : Row) → EntryOf k → ℕ
entry_nesting Elements v = nesting (item_of v)
entry_nesting kind.Pairs p = max (nesting (item_of p.0)) (nesting (item_of p.1))
entry_nesting Strings c = 0

abbrev row_nesting : (k : Row) → RowOf k → ℕ
row_nesting Elements vs = nesting (items_of vs)
row_nesting kind.Pairs ps = nesting (decoded.pairs_of ps)
row_nesting Strings cs = 0

abbrev meant_nesting : (s : Sort) → MeaningOf s → ℕ
meant_nesting Item v = nesting (item_of v)
meant_nesting Piece c = 0
meant_nesting Pieces c = 0
meant_nesting (Entry k) x = entry_nesting k x
meant_nesting (Entries k) r = row_nesting k r

one_more_nests : (k : Row) (x : EntryOf k) (r : RowOf k) → row_nesting k (one_more k x r) ≡ max (entry_nesting k x) (row_nesting k r)
one_more_nests Elements x r = refl
one_more_nests kind.Pairs x r = refl
one_more_nests Strings x r = refl

list_nests : (k : Bracketed) (w : Option Width) (r : RowOf (entries_of k)) → nesting (item_of (list_value k w r)) ≡ suc (row_nesting (entries_of k) r)
list_nests Array w r = refl
list_nests Map w r = refl

-- a simple value without a keyword nests one level
numbered_nests : (n : ℕ) (w : Node Item) → means_simple w ≡ Some (simple n) → HasNoKeyword w → nesting (item_of (simple n)) ≡ 1
numbered_nests n w is none = by_test 20 False refl _ (by_test 21 True refl _ (by_test 22 Null refl _ (by_test 23 Undefined refl _ refl)))
  where
    by_bool : (t : Bool) (k : ℕ) (b : NamedSimple) → named_number b ≡ k → eqb n k ≡ t → (x : Node Item) → nesting x ≡ 1 → nesting (cond t (Named b) x) ≡ 1
    by_bool true k b keyword e x h = absurd (none b (is ∙ ap (λ (m : ℕ). Some (simple m)) (eqb-true n k e ∙ sym keyword)))
    by_bool false k b keyword e x h = h

    by_test : (k : ℕ) (b : NamedSimple) → named_number b ≡ k → (x : Node Item) → nesting x ≡ 1 → nesting (cond (eqb n k) (Named b) x) ≡ 1
    by_test k b keyword x h = by_bool (eqb n k) k b keyword refl x h

-- only a number stands in `simple(..)`
simple_nests : (w : Node Item) (v : Value) → means_simple w ≡ Some v → HasNoKeyword w → suc (nesting w) ≤ nesting (item_of v)
simple_nests (Number x i) v e none =
    let (n, read, is) = both_steps (simple_of x i) (λ n. Some (simple n)) v e in
    let h = numbered_nests n (Number x i) (e ∙ sym is) none in
    subst (λ v. 1 ≤ nesting (item_of v)) (some_is (simple n) v is) (omega (arith, h))
simple_nests (Float f i) v e none = absurd cc
simple_nests (Listed k i m) v e none = absurd cc
simple_nests (Tagged n i w) v e none = absurd cc
simple_nests (Named b) v e none = absurd cc
simple_nests (Simple w) v e none = absurd cc
simple_nests (String w) v e none = absurd cc
simple_nests (Stream m) v e none = absurd cc

module _ (R : Resolver) where
  pub nests : {s : Sort} (x : Node s) (y : MeaningOf s) → IsDirect x → means_by R x ≡ Some y → nesting x ≤ meant_nesting s y
  unfolding means_by
  nests (Number x i) y d e = omega arith
  nests (Float f i) y d e = omega arith
  nests (Listed k i m) y d e =
      let (r, row, rest) = both_steps (means_by R m) (listed k i) y e in
      let (w, width, is) = both_steps (length_of i (row_len (entries_of k) r)) (λ w. Some (list_value k w r)) y rest in
      let h = nests m r d row in
      let same = list_nests k w r in
      subst (λ v. suc (nesting m) ≤ nesting (item_of v)) (some_is (list_value k w r) y is) (omega (arith, h, same))
  nests (Tagged n i w) y d e =
      let (b, width, rest) = both_steps (width_of i n) (λ b. means_by R w >>= λ v. Some (tag b n v)) y e in
      let (v, content, is) = both_steps (means_by R w) (λ v. Some (tag b n v)) y rest in
      let h = nests w v d content in
      subst (λ v. suc (nesting w) ≤ nesting (item_of v)) (some_is (tag b n v) y is) (omega (arith, h))
  nests (Named b) y d e = omega arith
  nests (Simple w) y d e = simple_nests w y e d
  nests (String w) y d e = let h = string_flat w d in omega (arith, h)
  nests (Stream m) y d e = let h = strings_flat m d in omega (arith, h)
  nests (Literal x i) y d e = omega arith
  nests (Ellipsis x) y d e = omega arith
  nests (Embedded m i) y d e = absurd d
  nests (LastPiece p) y d e = let h = piece_flat p d in omega (arith, h)
  nests (Plus p w) y d e = let h = string_flat (Plus p w) d in omega (arith, h)
  nests (Element w) y d e = nests w y d e
  nests (Pair v w) y d e =
      let (a, key, rest) = both_steps (means_by R v) (λ a. means_by R w >>= λ b. Some (a, b)) y e in
      let (b, content, is) = both_steps (means_by R w) (λ b. Some (a, b)) y rest in
      let h = nests v a d.0 key in
      let k = nests w b d.1 content in
      subst (λ (p : Value × Value). max (nesting v) (nesting w) ≤ max (nesting (item_of p.0)) (nesting (item_of p.1))) (some_is (a, b) y is) (omega (arith, h, k))
  nests (Chunk w) y d e = let h = string_flat w d in omega (arith, h)
  nests (End {k}) y d e = omega arith
  nests (Then {k} f m) y d e =
      let (a, first, rest) = both_steps (means_by R f) (λ a. means_by R m >>= λ r. Some (one_more k a r)) y e in
      let (r, row, is) = both_steps (means_by R m) (λ r. Some (one_more k a r)) y rest in
      let h = nests f a d.0 first in
      let g = nests m r d.1 row in
      let same = one_more_nests k a r in
      subst (λ (r : RowOf k). max (nesting f) (nesting m) ≤ row_nesting k r) (some_is (one_more k a r) y is) (omega (arith, h, g, same))

pub nests_as_meant : NestsAsMeant
nests_as_meant R = (nests R, nests R)

-- ---- decoded items

chunks_direct : (k : StringKind) (cs : List values.Chunk) → IsDirect (chunk_items k cs)
chunks_direct k [] = tt
chunks_direct k (c ∷ cs) = (tt, chunks_direct k cs)

-- a keyword, or what has none
keyword_direct : (n k : ℕ) (b : NamedSimple) (x : Node Item) → (means x ≡ Some (simple n) → n ≢ k → IsDirect x) → means (cond (eqb n k) (Named b) x) ≡ Some (simple n) → IsDirect (cond (eqb n k) (Named b) x)
keyword_direct n k b x other e = by_test (eqb n k) refl e
  where
    by_test : (t : Bool) → eqb n k ≡ t → means (cond t (Named b) x) ≡ Some (simple n) → IsDirect (cond t (Named b) x)
    by_test true is e = tt
    by_test false is e = other e (eqb-false n k is)

abbrev simple_value : ℕ → Option Value
simple_value n = Some (simple n)

same_number : (n m : ℕ) → simple_value n ≡ simple_value m → n ≡ m
same_number n m e = cc

numbered_direct : (n : ℕ) (w : Node Item) → means (Simple w) ≡ Some (simple n) → n ≢ 20 → n ≢ 21 → n ≢ 22 → n ≢ 23 → HasNoKeyword w
unfolding means
numbered_direct n w is f t u v False e = f (same_number n 20 (sym is ∙ e))
numbered_direct n w is f t u v True e = t (same_number n 21 (sym is ∙ e))
numbered_direct n w is f t u v Null e = u (same_number n 22 (sym is ∙ e))
numbered_direct n w is f t u v Undefined e = v (same_number n 23 (sym is ∙ e))

simple_direct : (n : ℕ) → IsSimple n → IsDirect (simple_item n)
simple_direct n fit =
    keyword_direct n 20 False _ (λ a f. keyword_direct n 21 True _ (λ b t. keyword_direct n 22 Null _ (λ c u. keyword_direct n 23 Undefined _ (λ d v. numbered_direct n _ d f t u v) c) b) a) (item_means (simple n) fit)

mutual
  item_direct : (v : Value) → Fits v → IsDirect (item_of v)
  item_direct (unsigned w n) fit = tt
  item_direct (negative w n) fit = tt
  item_direct (string k w bs) fit = tt
  item_direct (chunks k []) fit = tt
  item_direct (chunks k (c ∷ cs)) fit = chunks_direct k (c ∷ cs)
  item_direct (array w vs) fit = items_direct vs fit.1
  item_direct (cbor_map w ps) fit = pairs_direct ps fit.1
  item_direct (tag w n v) fit = item_direct v fit.1
  item_direct (simple n) fit = simple_direct n fit
  item_direct (float w f) fit = tt

  items_direct : (vs : Values) → ValuesFit vs → IsDirect (items_of vs)
  items_direct no_values fit = tt
  items_direct (value v vs) fit = (item_direct v fit.0, items_direct vs fit.1)

  pairs_direct : (ps : Pairs) → PairsFit ps → IsDirect (decoded.pairs_of ps)
  pairs_direct no_pairs fit = tt
  pairs_direct (pair k v ps) fit = ((item_direct k fit.0, item_direct v fit.1), pairs_direct ps fit.2)

pub decoded_is_direct : DecodedIsDirect
decoded_is_direct = (item_direct, items_direct)
