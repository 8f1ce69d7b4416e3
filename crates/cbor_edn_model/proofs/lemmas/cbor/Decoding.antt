-- What is decoded: the tree of an item that means its value, and what refusals say.
use Rattle.std.proofs.Common.{◌≡◌, ℕ, ◌+◌, ◌^◌, ◌<◌, Bool, true, false, cond, ltb, eqb, List, [], ◌∷◌, length, map, Option, Some, None, refl, sym, ap, ◌∙◌, arith, inl, inr}
use Rattle.std.specs.Prelude.{pos, negsuc, ◌&&◌}
use Rattle.std.specs.Fmt.{signed_decimal}
use Rattle.std.proofs.lemmas.Bool.{cases_lt, cases_eq, lt-ltb, le-ltb, eq-eqb, ne_eqb}
use Rattle.std.proofs.lemmas.Bool.Decides.{nat_tests}
use Rattle.cbor_edn_parts.specs.internal.NumberReading.{integer_of}
use Rattle.cbor_edn_parts.proofs.lemmas.number.Decimals.{integer_of_decimal}
use Rattle.cbor_edn_parts.specs.declared.base.indicator.Indicator.{Indicator}
use Rattle.cbor_edn_parts.specs.declared.base.indicator.Indicator.TheVariants as indicator
use Rattle.cbor_edn_parts.specs.declared.string.StringKind.{StringKind}
use Rattle.cbor_edn_parts.specs.declared.string.StringKind.TheVariants.{Bytes, Text}
use Rattle.cbor_edn_parts.specs.string.Contents.{Content}
use Rattle.cbor_edn_model.specs.declared.cbor.heads.Width.{Width}
use Rattle.cbor_edn_model.specs.declared.cbor.heads.Width.TheVariants.{Immediate, One, Two, Four, Eight}
use Rattle.cbor_edn_model.specs.declared.text.keyword.NonFinite.{NonFinite}
use Rattle.cbor_edn_model.specs.tree.Items as kind
use Rattle.cbor_edn_model.specs.tree.Items.{Row, Strings, Bracketed, Array, Map, entries_of, Node, Item, Items, Entry, Entries, Number, Float, Listed, Tagged, Simple, String, Stream, Element, Pair, End, Then}
use Rattle.cbor_edn_model.specs.tree.Trees.{Tree, OneEntry, Rest, items}
use Rattle.cbor_edn_model.specs.cbor.Value.{Value, unsigned, negative, Chunk, string, chunks, array, cbor_map, tag, simple, float, Values, no_values, value, values_len, Pairs, no_pairs, pair, pairs_len, limit_of, IsSimple, IsFloatWidth, ArgumentFits, LengthFits, ChunkFits, ChunksFit, Fits, ValuesFit, PairsFit}
use Rattle.cbor_edn_model.specs.cbor.Meaning.{shortest, fitting, width_of, length_of, means_integer, bignum, chunk_of, string_of, chunks_of, stream_of, is_simple, simple_number, means, listed}
use Rattle.cbor_edn_model.specs.cbor.Decoded as decoded
use Rattle.cbor_edn_model.specs.cbor.Decoded.{indicator_of, list_indicator, definite_pieces, chunk_items, chunked_item, simple_item, float_indicator, item_of, items_of}
use Rattle.cbor_edn_model.specs.internal.Regular.{in_front, list_inside, regular}
use Rattle.cbor_edn_model.proofs.lemmas.cbor.DecodedLiterals.{literal_again, empty_again}
use Rattle.cbor_edn_model.proofs.lemmas.cbor.MeaningSteps.{bind}

-- ---- the items of a regular tree

-- what stands in a row, if anything
abbrev pub row_items : {k : Row} → Option (Tree (Rest k)) → Node (Entries k)
row_items None = End
row_items (Some m) = items m

inside_items : (k : Bracketed) (i : Option Indicator) (m : Option (Tree (Rest (entries_of k)))) → items (list_inside i m) ≡ (i, row_items m)
unfolding items
inside_items k i None = refl
inside_items k None (Some m) = refl
inside_items k (Some i) (Some m) = refl

in_front_items : {k : Row} (e : Tree (OneEntry k)) (m : Option (Tree (Rest k))) → items (in_front e m) ≡ Then (items e) (row_items m)
unfolding items
in_front_items e None = refl
in_front_items e (Some m) = refl

-- The tree of an item has this item: not so that of a stream without strings, which is of no value.
abbrev Again : Node Item → Type 0
Again x = items (regular x) ≡ x

abbrev RowAgain : {k : Row} → Node (Entries k) → Type 0
RowAgain m = row_items (regular m) ≡ m

listed_again : (k : Bracketed) (i : Option Indicator) (m : Node (Entries (entries_of k))) → RowAgain m → Again (Listed k i m)
unfolding items regular
listed_again k i m e = ap (λ p. Listed k p.0 p.1) (inside_items k i (regular m)) ∙ ap (Listed k i) e

then_again : {k : Row} (e : Node (Entry k)) (m : Node (Entries k)) → items (regular e) ≡ e → RowAgain m → RowAgain (Then e m)
unfolding items regular
then_again e m first others = in_front_items (regular e) (regular m) ∙ ap (λ y. Then y (row_items (regular m))) first ∙ ap (Then e) others

pair_again : (x y : Node Item) → Again x → Again y → items (regular (Pair x y)) ≡ Pair x y
unfolding items regular
pair_again x y first second = ap (λ z. Pair z (items (regular y))) first ∙ ap (Pair x) second

element_again : (x : Node Item) → Again x → items (regular (Element x)) ≡ Element x
unfolding items regular
element_again x e = ap Element e

chunk_items_again : (k : StringKind) (cs : List Chunk) → RowAgain (chunk_items k cs)
unfolding items regular
chunk_items_again k [] = refl
chunk_items_again k (c ∷ cs) = then_again (kind.Chunk (definite_pieces k c)) (chunk_items k cs) refl (chunk_items_again k cs)

-- of a row that is not empty
stream_again : (e : Node (Entry Strings)) (m : Node (Entries Strings)) → RowAgain (Then e m) → Again (Stream (Then e m))
unfolding items regular
stream_again e m again = ap Stream again

chunked_again : (k : StringKind) (cs : List Chunk) → Again (chunked_item k cs)
unfolding items regular
chunked_again k [] = refl
chunked_again k (c ∷ cs) = stream_again (kind.Chunk (definite_pieces k c)) (chunk_items k cs) (chunk_items_again k (c ∷ cs))

either : (b : Bool) (x y : Node Item) → Again x → Again y → Again (cond b x y)
either true x y first second = first
either false x y first second = second

simple_again : (n : ℕ) → Again (simple_item n)
unfolding items regular
simple_again n = either (eqb n 20) _ _ refl (either (eqb n 21) _ _ refl (either (eqb n 22) _ _ refl (either (eqb n 23) _ _ refl refl)))

mutual
  unfolding items regular

  pub items_again : (v : Value) → Again (item_of v)
  items_again (unsigned w n) = refl
  items_again (negative w n) = refl
  items_again (string k w bs) = refl
  items_again (chunks k cs) = chunked_again k cs
  items_again (array w vs) = listed_again Array (list_indicator w (values_len vs)) (items_of vs) (row_again vs)
  items_again (cbor_map w ps) = listed_again Map (list_indicator w (pairs_len ps)) (decoded.pairs_of ps) (pair_row_again ps)
  items_again (tag w n v) = ap (Tagged n (indicator_of w n)) (items_again v)
  items_again (simple n) = simple_again n
  items_again (float w f) = refl

  pub row_again : (vs : Values) → RowAgain (items_of vs)
  row_again no_values = refl
  row_again (value v vs) = then_again (Element (item_of v)) (items_of vs) (element_again (item_of v) (items_again v)) (row_again vs)

  pair_row_again : (ps : Pairs) → RowAgain (decoded.pairs_of ps)
  pair_row_again no_pairs = refl
  pair_row_again (pair k v ps) = then_again (Pair (item_of k) (item_of v)) (decoded.pairs_of ps) (pair_again (item_of k) (item_of v) (items_again k) (items_again v)) (pair_row_again ps)

-- ---- the item of a value means the value

abbrev below : ℕ → ℕ → Type 0
below n limit = ltb n limit ≡ true

abbrev not_below : ℕ → ℕ → Type 0
not_below n limit = ltb n limit ≡ false

fits : (w : Width) (n : ℕ) → ArgumentFits w n → fitting w n ≡ Some w
fits w n lt = let e : ltb n (limit_of w) ≡ true = lt-ltb n (limit_of w) lt in rw e refl

below_64 : (w : Width) (n : ℕ) → ArgumentFits w n → n < 2 ^ 64
below_64 Immediate n lt = omega arith
below_64 One n lt = omega arith
below_64 Two n lt = omega arith
below_64 Four n lt = omega arith
below_64 Eight n lt = lt

-- the shortest width, of what no shorter one fits
is_shortest : (w : Width) (n : ℕ) → ArgumentFits w n → indicator_of w n ≡ None → shortest n ≡ w
is_shortest Immediate n lt none = let a : below n 24 = lt-ltb n 24 lt in rw a refl
is_shortest One n lt none =
    elim (cases_lt n 24) [
      | inl small ↦ (let a : below n 24 = lt-ltb n 24 small in let wrong = rw a at none in absurd cc)
      | inr le ↦ (let a : not_below n 24 = le-ltb n 24 le in let b : below n (2 ^ 8) = lt-ltb n (2 ^ 8) lt in rw (a, b) refl)
    ]
is_shortest Two n lt none =
    elim (cases_lt n (2 ^ 8)) [
      | inl small ↦ (let a : below n (2 ^ 8) = lt-ltb n (2 ^ 8) small in let wrong = rw a at none in absurd cc)
      | inr le ↦ (let a : not_below n 24 = le-ltb n 24 (omega arith) in let b : not_below n (2 ^ 8) = le-ltb n (2 ^ 8) le in let c : below n (2 ^ 16) = lt-ltb n (2 ^ 16) lt in rw (a, b, c) refl)
    ]
is_shortest Four n lt none =
    elim (cases_lt n (2 ^ 16)) [
      | inl small ↦ (let a : below n (2 ^ 16) = lt-ltb n (2 ^ 16) small in let wrong = rw a at none in absurd cc)
      | inr le ↦ (let a : not_below n 24 = le-ltb n 24 (omega arith) in let b : not_below n (2 ^ 8) = le-ltb n (2 ^ 8) (omega arith) in let c : not_below n (2 ^ 16) = le-ltb n (2 ^ 16) le in let d : below n (2 ^ 32) = lt-ltb n (2 ^ 32) lt in rw (a, b, c, d) refl)
    ]
is_shortest Eight n lt none =
    elim (cases_lt n (2 ^ 32)) [
      | inl small ↦ (let a : below n (2 ^ 32) = lt-ltb n (2 ^ 32) small in let wrong = rw a at none in absurd cc)
      | inr le ↦ (let a : not_below n 24 = le-ltb n 24 (omega arith) in let b : not_below n (2 ^ 8) = le-ltb n (2 ^ 8) (omega arith) in let c : not_below n (2 ^ 16) = le-ltb n (2 ^ 16) (omega arith) in let d : not_below n (2 ^ 32) = le-ltb n (2 ^ 32) le in rw (a, b, c, d) refl)
    ]

-- the indicator of a width names it
abbrev Names : Option Indicator → Width → Type 0
Names None w = Unit {0}
Names (Some indicator.Indefinite) w = ⊥
Names (Some indicator.Immediate) w = w ≡ Immediate
Names (Some indicator.One) w = w ≡ One
Names (Some indicator.Two) w = w ≡ Two
Names (Some indicator.Four) w = w ≡ Four
Names (Some indicator.Eight) w = w ≡ Eight

names_if : (b : Bool) (i : Indicator) (w : Width) → Names (Some i) w → Names (cond b (Some i) None) w
names_if true i w h = h
names_if false i w h = tt

names : (w : Width) (n : ℕ) → Names (indicator_of w n) w
names Immediate n = tt
names One n = names_if (ltb n 24) indicator.One One refl
names Two n = names_if (ltb n (2 ^ 8)) indicator.Two Two refl
names Four n = names_if (ltb n (2 ^ 16)) indicator.Four Four refl
names Eight n = names_if (ltb n (2 ^ 32)) indicator.Eight Eight refl

-- an indicator that names the width, of an argument and of a list
by_name : (i : Option Indicator) (w : Width) (n : ℕ) → ArgumentFits w n → Names i w → (i ≡ None → shortest n ≡ w) → (width_of i n ≡ Some w) × (length_of i n ≡ Some (Some w))
by_name None w n lt named short = let e : width_of None n ≡ Some w = ap (λ v. fitting v n) (short refl) ∙ fits w n lt in (e, ap (λ o. bind o (λ v. Some (Some v))) e)
by_name (Some indicator.Indefinite) w n lt named short = absurd named
by_name (Some indicator.Immediate) w n lt named short = let e : width_of (Some indicator.Immediate) n ≡ Some w = ap (λ v. fitting v n) (sym named) ∙ fits w n lt in (e, ap (λ o. bind o (λ v. Some (Some v))) e)
by_name (Some indicator.One) w n lt named short = let e : width_of (Some indicator.One) n ≡ Some w = ap (λ v. fitting v n) (sym named) ∙ fits w n lt in (e, ap (λ o. bind o (λ v. Some (Some v))) e)
by_name (Some indicator.Two) w n lt named short = let e : width_of (Some indicator.Two) n ≡ Some w = ap (λ v. fitting v n) (sym named) ∙ fits w n lt in (e, ap (λ o. bind o (λ v. Some (Some v))) e)
by_name (Some indicator.Four) w n lt named short = let e : width_of (Some indicator.Four) n ≡ Some w = ap (λ v. fitting v n) (sym named) ∙ fits w n lt in (e, ap (λ o. bind o (λ v. Some (Some v))) e)
by_name (Some indicator.Eight) w n lt named short = let e : width_of (Some indicator.Eight) n ≡ Some w = ap (λ v. fitting v n) (sym named) ∙ fits w n lt in (e, ap (λ o. bind o (λ v. Some (Some v))) e)

width_again : (w : Width) (n : ℕ) → ArgumentFits w n → (width_of (indicator_of w n) n ≡ Some w) × (length_of (indicator_of w n) n ≡ Some (Some w))
width_again w n lt = by_name (indicator_of w n) w n lt (names w n) (is_shortest w n lt)

length_again : (w : Option Width) (n : ℕ) → LengthFits w n → length_of (list_indicator w n) n ≡ Some w
length_again None n lt = refl
length_again (Some w) n lt = (width_again w n lt).1

unsigned_means : (w : Width) (n : ℕ) → ArgumentFits w n → means (Number (signed_decimal (pos n)) (indicator_of w n)) ≡ Some (unsigned w n)
unfolding means
unsigned_means w n lt =
    let small = below_64 w n lt in
    let is : integer_of (signed_decimal (pos n)) ≡ Some (pos n) = integer_of_decimal (pos n) (omega arith) in
    let a : below n (2 ^ 64) = lt-ltb n (2 ^ 64) small in
    ap (λ o. bind o (means_integer (indicator_of w n))) is ∙ ap (λ b. cond b (bind (width_of (indicator_of w n) n) (λ w. Some (unsigned w n))) (bignum 2 n n (indicator_of w n))) a ∙ ap (λ o. bind o (λ w. Some (unsigned w n))) (width_again w n lt).0

negative_means : (w : Width) (n : ℕ) → ArgumentFits w n → means (Number (signed_decimal (negsuc n)) (indicator_of w n)) ≡ Some (negative w n)
unfolding means
negative_means w n lt =
    let small = below_64 w n lt in
    let is : integer_of (signed_decimal (negsuc n)) ≡ Some (negsuc n) = integer_of_decimal (negsuc n) (omega arith) in
    let a : below n (2 ^ 64) = lt-ltb n (2 ^ 64) small in
    ap (λ o. bind o (means_integer (indicator_of w n))) is ∙ ap (λ b. cond b (bind (width_of (indicator_of w n) n) (λ w. Some (negative w n))) (bignum 3 n (n + 1) (indicator_of w n))) a ∙ ap (λ o. bind o (λ w. Some (negative w n))) (width_again w n lt).0

-- ---- strings

-- an indicator that names a width is not that of a string of indefinite length
definite : (c : Content) (i : Option Indicator) (w : Width) → Names i w → string_of c i ≡ bind (chunk_of c i) (λ p. Some (string p.0 p.1.0 p.1.1))
definite (k, b ∷ bs) i w named = refl
definite (k, []) None w named = refl
definite (k, []) (Some indicator.Indefinite) w named = absurd named
definite (k, []) (Some _) w named = refl

chunk_is : (k : StringKind) (c : Chunk) → ChunkFits k c → chunk_of (k, c.1) (indicator_of c.0 (length c.1)) ≡ Some (k, c)
chunk_is k c fit = rw (fit.2, (width_again c.0 (length c.1) fit.0).0) refl

string_item_means : (k : StringKind) (c : Chunk) → ChunkFits k c → means (definite_pieces k c) ≡ Some (k, c.1)
unfolding means
string_item_means k c fit = literal_again k c.1 fit.1

string_means : (k : StringKind) (w : Width) (bs : List ℕ) → ChunkFits k (w, bs) → means (String (definite_pieces k (w, bs))) ≡ Some (string k w bs)
unfolding means
string_means k w bs fit =
    let i = indicator_of w (length bs) in
    ap (λ o. bind o (λ c. string_of c i)) (string_item_means k (w, bs) fit) ∙ definite (k, bs) i w (names w (length bs)) ∙ ap (λ o. bind o (λ p. Some (string p.0 p.1.0 p.1.1))) (chunk_is k (w, bs) fit)

abbrev of_kind : StringKind → List Chunk → List (StringKind × Chunk)
of_kind k cs = map (λ c. (k, c)) cs

chunk_items_mean : (k : StringKind) (cs : List Chunk) → ChunksFit k cs → means (chunk_items k cs) ≡ Some (of_kind k cs)
unfolding means
chunk_items_mean k [] fit = refl
chunk_items_mean k (c ∷ cs) fit =
    ap (λ o. bind (bind o (λ d. chunk_of d (indicator_of c.0 (length c.1)))) (λ x. bind (means (chunk_items k cs)) (λ r. Some (x ∷ r)))) (string_item_means k c fit.0)
    ∙ ap (λ o. bind o (λ x. bind (means (chunk_items k cs)) (λ r. Some (x ∷ r)))) (chunk_is k c fit.0)
    ∙ ap (λ o. bind o (λ r. Some ((k, c) ∷ r))) (chunk_items_mean k cs fit.1)

chunks_of_kind : (k : StringKind) (cs : List Chunk) → chunks_of k (of_kind k cs) ≡ Some cs
chunks_of_kind k [] = refl
chunks_of_kind Bytes (c ∷ cs) = ap (λ o. bind o (λ ds. Some (c ∷ ds))) (chunks_of_kind Bytes cs)
chunks_of_kind Text (c ∷ cs) = ap (λ o. bind o (λ ds. Some (c ∷ ds))) (chunks_of_kind Text cs)

chunks_mean : (k : StringKind) (cs : List Chunk) → ChunksFit k cs → means (chunked_item k cs) ≡ Some (chunks k cs)
unfolding means
chunks_mean k [] fit = ap (λ o. bind o (λ c. string_of c (Some indicator.Indefinite))) (empty_again k)
chunks_mean k (c ∷ cs) fit = ap (λ o. bind o stream_of) (chunk_items_mean k (c ∷ cs) fit) ∙ ap (λ o. bind o (λ ds. Some (chunks k ds))) (chunks_of_kind k (c ∷ cs))

-- ---- simple values and floating-point numbers

is_simple_true : (n : ℕ) → IsSimple n → is_simple n ≡ true
is_simple_true n (inl lt) = grind (arith, nat_tests)
is_simple_true n (inr wide) = grind (arith, nat_tests)

abbrev MeansSimple : ℕ → Node Item → Type 0
MeansSimple n x = means x ≡ Some (simple n)

-- the keyword of a number, or what has none
named_means : (n k : ℕ) (x y : Node Item) → MeansSimple k x → MeansSimple n y → MeansSimple n (cond (eqb n k) x y)
named_means n k x y named other =
    elim (cases_eq n k) [
      | inl same ↦ (let is : eqb n k ≡ true = eq-eqb n k same in rw is (named ∙ ap (λ (m : ℕ). Some (simple m)) (sym same)))
      | inr differs ↦ (let is : eqb n k ≡ false = ne_eqb n k differs in rw is other)
    ]

simple_number_again : (n : ℕ) → IsSimple n → simple_number None (pos n) ≡ Some n
simple_number_again n is = let e : is_simple n ≡ true = is_simple_true n is in ap (λ b. cond (b && true) (Some n) None) e

numbered_means : (n : ℕ) → IsSimple n → MeansSimple n (Simple (Number (signed_decimal (pos n)) None))
unfolding means
numbered_means n is =
    let read : integer_of (signed_decimal (pos n)) ≡ Some (pos n) = integer_of_decimal (pos n) (omega (arith, is)) in
    ap (λ o. bind (bind o (simple_number None)) (λ m. Some (simple m))) read ∙ ap (λ o. bind o (λ m. Some (simple m))) (simple_number_again n is)

simple_means : (n : ℕ) → IsSimple n → MeansSimple n (simple_item n)
unfolding means
simple_means n is = named_means n 20 _ _ refl (named_means n 21 _ _ refl (named_means n 22 _ _ refl (named_means n 23 _ _ refl (numbered_means n is))))

float_means : (w : Width) (f : NonFinite) → IsFloatWidth w → means (Float f (float_indicator w)) ≡ Some (float w f)
unfolding means
float_means Two f is = refl
float_means Four f is = refl
float_means Eight f is = refl
float_means Immediate f is = absurd is
float_means One f is = absurd is

-- ---- items

abbrev with_value : Node Item → Value → Option (Value × Value)
with_value w x = bind (means w) (λ y. Some (x, y))

abbrev with_key : Value → Value → Option (Value × Value)
with_key x y = Some (x, y)

abbrev in_front_of : Node (Entries kind.Pairs) → Value × Value → Option Pairs
in_front_of m p = bind (means m) (λ r. Some (pair p.0 p.1 r))

mutual
  unfolding means

  pub item_means : (v : Value) → Fits v → means (item_of v) ≡ Some v
  item_means (unsigned w n) fit = unsigned_means w n fit
  item_means (negative w n) fit = negative_means w n fit
  item_means (string k w bs) fit = string_means k w bs fit
  item_means (chunks k cs) fit = chunks_mean k cs fit
  item_means (array w vs) fit =
      let i = list_indicator w (values_len vs) in
      ap (λ o. bind o (listed Array i)) (items_mean vs fit.1) ∙ ap (λ o. bind o (λ w. Some (array w vs))) (length_again w (values_len vs) fit.0)
  item_means (cbor_map w ps) fit =
      let i = list_indicator w (pairs_len ps) in
      ap (λ o. bind o (listed Map i)) (pairs_mean ps fit.1) ∙ ap (λ o. bind o (λ w. Some (cbor_map w ps))) (length_again w (pairs_len ps) fit.0)
  item_means (tag w n v) fit =
      ap (λ o. bind o (λ d. bind (means (item_of v)) (λ u. Some (tag d n u)))) (width_again w n fit.0).0 ∙ ap (λ o. bind o (λ u. Some (tag w n u))) (item_means v fit.1)
  item_means (simple n) fit = simple_means n fit
  item_means (float w f) fit = float_means w f fit

  pub items_mean : (vs : Values) → ValuesFit vs → means (items_of vs) ≡ Some vs
  items_mean no_values fit = refl
  items_mean (value v vs) fit =
      ap (λ o. bind o (λ v. bind (means (items_of vs)) (λ vs. Some (value v vs)))) (item_means v fit.0) ∙ ap (λ o. bind o (λ vs. Some (value v vs))) (items_mean vs fit.1)

  pairs_mean : (ps : Pairs) → PairsFit ps → means (decoded.pairs_of ps) ≡ Some ps
  pairs_mean no_pairs fit = refl
  pairs_mean (pair k v ps) fit =
      ap (λ o. bind (bind o (with_value (item_of v))) (in_front_of (decoded.pairs_of ps))) (item_means k fit.0)
      ∙ ap (λ o. bind (bind o (with_key k)) (in_front_of (decoded.pairs_of ps))) (item_means v fit.1)
      ∙ ap (λ o. bind o (λ r. Some (pair k v r))) (pairs_mean ps fit.2)
