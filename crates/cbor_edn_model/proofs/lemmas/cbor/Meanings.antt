-- What items mean can be encoded.
use Rattle.std.proofs.Common.{◌≡◌, ℕ, ℤ, pos, negsuc, zero, suc, ◌+◌, ◌^◌, ◌<◌, ◌≤◌, List, [], ◌∷◌, ◌++◌, length, Bool, true, false, ◌&&◌, cond, ltb, Option, Some, None, refl, sym, ap, subst, inl, inr, arith}
use Rattle.std.specs.List.{AllByRecursion}
use Rattle.std.specs.Int.{byte_at, bytes_high_first}
use Rattle.std.proofs.lemmas.Bool.{cases_lt, lt-ltb, le-ltb, ltb-true}
use Rattle.std.proofs.lemmas.Bool.Decides.{nat_tests}
use Rattle.std.proofs.lemmas.List.Elements.{All-nil, All-cons, All-head, All-tail}
use Rattle.cbor_edn_parts.specs.internal.NumberReading.{integer_of}
use Rattle.cbor_edn_parts.specs.declared.base.indicator.Indicator.{Indicator}
use Rattle.cbor_edn_parts.specs.declared.base.indicator.Indicator.TheVariants as indicator
use Rattle.cbor_edn_parts.specs.declared.string.StringKind.{StringKind}
use Rattle.cbor_edn_parts.specs.declared.string.StringKind.TheVariants.{Bytes, Text}
use Rattle.cbor_edn_parts.specs.string.Contents.{Content}
use Rattle.cbor_edn_model.specs.declared.cbor.heads.Width.{Width}
use Rattle.cbor_edn_model.specs.declared.cbor.heads.Width.TheVariants.{Immediate, One, Two, Four, Eight}
use Rattle.cbor_edn_model.specs.tree.Items.{Row, Elements, Pairs, Strings, Bracketed, Array, Map, entries_of, Sort, Item, Piece, Pieces, Entry, Entries, Node, Number, Float, Listed, Tagged, Named, Simple, String, Stream, Literal, Ellipsis, Embedded, LastPiece, Plus, Element, Pair, Chunk, End, Then}
use Rattle.cbor_edn_model.specs.declared.text.keyword.NamedSimple.{NamedSimple}
use Rattle.cbor_edn_model.specs.declared.text.keyword.NamedSimple.TheVariants.{False, True, Null, Undefined}
use Rattle.cbor_edn_model.specs.cbor.Value as values
use Rattle.cbor_edn_model.specs.cbor.Value.{Value, unsigned, negative, string, chunks, tag, simple, float, limit_of, IsSimple, IsFloatWidth, ArgumentFits, LengthFits, AreBytes, is_content, ChunkFits, ChunksFit, Fits, ValuesFit, PairsFit, values_len, pairs_len, head, string_major, open_head, break, list_encoding, chunk_encoding, chunk_encodings, encoding, encodings, pair_encodings}
use Rattle.cbor_edn_model.specs.cbor.Meaning.{◌>>=◌, shortest, fitting, width_of, length_of, without_zeros, magnitude_bytes, tagged_bytes, no_indicator, bignum, means_integer, float_width, named_number, is_simple, is_shortest, simple_number, simple_of, means_simple, pieces_indicator, chunk_of, string_of, chunks_of, stream_of, MeaningOf, EntryOf, RowOf, row_len, list_value, listed, no_entries, one_more, means}
use Rattle.cbor_edn_model.specs.internal.Encoding.{entry_encoding, row_encoding, string_encodings}
use Rattle.cbor_edn_model.proofs.lemmas.cbor.MeaningSteps.{if_both, both_steps, some_if, some_is}

narrow : (n limit : ℕ) (w x : Width) → (n < limit → ArgumentFits w n) → ArgumentFits x n → ArgumentFits (cond (ltb n limit) w x) n
narrow n limit w x below otherwise =
    elim (cases_lt n limit) [
      | inl lt ↦ (let is : ltb n limit ≡ true = lt-ltb n limit lt in rw is (below lt))
      | inr le ↦ (let is : ltb n limit ≡ false = le-ltb n limit le in rw is otherwise)
    ]

pub shortest_fits : (n : ℕ) → n < 2 ^ 64 → ArgumentFits (shortest n) n
shortest_fits n lt =
    narrow n 24 Immediate _ (λ h. h) (narrow n (2 ^ 8) One _ (λ h. h) (narrow n (2 ^ 16) Two _ (λ h. h) (narrow n (2 ^ 32) Four Eight (λ h. h) lt)))

fitting_fits : (w x : Width) (n : ℕ) → fitting w n ≡ Some x → ArgumentFits x n
fitting_fits w x n e = let s = some_if (ltb n (limit_of w)) w x e in subst (λ v. ArgumentFits v n) s.1 (ltb-true n (limit_of w) s.0)

pub width_fits : (i : Option Indicator) (w : Width) (n : ℕ) → width_of i n ≡ Some w → ArgumentFits w n
width_fits None w n e = fitting_fits (shortest n) w n e
width_fits (Some indicator.Indefinite) w n e = absurd cc
width_fits (Some indicator.Immediate) w n e = fitting_fits Immediate w n e
width_fits (Some indicator.One) w n e = fitting_fits One w n e
width_fits (Some indicator.Two) w n e = fitting_fits Two w n e
width_fits (Some indicator.Four) w n e = fitting_fits Four w n e
width_fits (Some indicator.Eight) w n e = fitting_fits Eight w n e

definite_fits : (i : Option Indicator) (w : Option Width) (n : ℕ) → (width_of i n >>= λ v. Some (Some v)) ≡ Some w → LengthFits w n
definite_fits i w n e = let b = both_steps (width_of i n) (λ v. Some (Some v)) w e in subst (λ o. LengthFits o n) (some_is (Some b.0) w b.2) (width_fits i b.0 n b.1)

pub length_fits : (i : Option Indicator) (w : Option Width) (n : ℕ) → length_of i n ≡ Some w → LengthFits w n
length_fits (Some indicator.Indefinite) w n e = subst (λ o. LengthFits o n) (some_is None w e) tt
length_fits None w n e = definite_fits None w n e
length_fits (Some indicator.Immediate) w n e = definite_fits (Some indicator.Immediate) w n e
length_fits (Some indicator.One) w n e = definite_fits (Some indicator.One) w n e
length_fits (Some indicator.Two) w n e = definite_fits (Some indicator.Two) w n e
length_fits (Some indicator.Four) w n e = definite_fits (Some indicator.Four) w n e
length_fits (Some indicator.Eight) w n e = definite_fits (Some indicator.Eight) w n e

-- ---- bignums

byte_below : (i n : ℕ) → byte_at i n < 256
byte_below zero n = omega arith
byte_below (suc i) n = omega arith

high_first : (k n : ℕ) → AllByRecursion (λ b. b < 256) (bytes_high_first k n) × (length (bytes_high_first k n) ≡ k)
high_first zero n = (tt, refl)
high_first (suc k) n = let r = high_first k n in ((byte_below k n, r.0), ap suc r.1)

all_of : (bs : List ℕ) → AllByRecursion (λ b. b < 256) bs → AreBytes bs
all_of [] all = All-nil (λ b. b < 256)
all_of (b ∷ bs) all = All-cons (λ b. b < 256) b bs all.0 (all_of bs all.1)

stripped : (bs : List ℕ) → AllByRecursion (λ b. b < 256) bs → AreBytes (without_zeros bs) × (length (without_zeros bs) ≤ length bs)
stripped [] all = (All-nil (λ b. b < 256), omega arith)
stripped (zero ∷ bs) all = let r = stripped bs all.1 in (r.0, omega (arith, r.1))
stripped (suc b ∷ bs) all = (all_of (suc b ∷ bs) all, omega arith)

magnitude_fits : (n : ℕ) → AreBytes (magnitude_bytes n) × (length (magnitude_bytes n) ≤ 16)
unfolding magnitude_bytes
magnitude_fits n = let r = high_first 16 n in let s = stripped (bytes_high_first 16 n) r.0 in (s.0, omega (arith, s.1, r.1))

pub tagged_fits : (number n : ℕ) → number < 24 → Fits (tagged_bytes number (magnitude_bytes n))
tagged_fits number n lt = let m = magnitude_fits n in (lt, (shortest_fits (length (magnitude_bytes n)) (omega (arith, m.1)), m.0, refl))

no_indicator_is : (i : Option Indicator) (v w : Value) → no_indicator i v ≡ Some w → v ≡ w
no_indicator_is None v w e = some_is v w e
no_indicator_is (Some i) v w e = absurd cc

no_indicator_if : (b : Bool) (i : Option Indicator) (v w : Value) → cond b (no_indicator i v) None ≡ Some w → v ≡ w
no_indicator_if true i v w e = no_indicator_is i v w e
no_indicator_if false i v w e = absurd cc

bignum_fits : (number n magnitude : ℕ) (i : Option Indicator) (v : Value) → number < 24 → bignum number n magnitude i ≡ Some v → Fits v
bignum_fits number n magnitude i v lt e = subst Fits (no_indicator_if (ltb magnitude (2 ^ 128)) i (tagged_bytes number (magnitude_bytes n)) v e) (tagged_fits number n lt)

-- ---- items

number_fits : (b : Bool) (make : Width → Value) (i : Option Indicator) (n : ℕ) (big : Option Value) (v : Value) → ((w : Width) → ArgumentFits w n → Fits (make w)) → (big ≡ Some v → Fits v) → cond b (width_of i n >>= λ w. Some (make w)) big ≡ Some v → Fits v
number_fits true make i n big v made large e = let b = both_steps (width_of i n) (λ w. Some (make w)) v e in subst Fits (some_is (make b.0) v b.2) (made b.0 (width_fits i b.0 n b.1))
number_fits false make i n big v made large e = large e

integer_fits : (i : Option Indicator) (z : ℤ) (v : Value) → means_integer i z ≡ Some v → Fits v
integer_fits i (pos n) v e = number_fits (ltb n (2 ^ 64)) (λ w. unsigned w n) i n (bignum 2 n n i) v (λ w lt. lt) (bignum_fits 2 n n i v (omega arith)) e
integer_fits i (negsuc n) v e = number_fits (ltb n (2 ^ 64)) (λ w. negative w n) i n (bignum 3 n (n + 1) i) v (λ w lt. lt) (bignum_fits 3 n (n + 1) i v (omega arith)) e

-- ---- floating-point and simple values

float_fits : (i : Option Indicator) (w : Width) → float_width i ≡ Some w → IsFloatWidth w
float_fits None w e = subst IsFloatWidth (some_is Two w e) tt
float_fits (Some indicator.Two) w e = subst IsFloatWidth (some_is Two w e) tt
float_fits (Some indicator.Four) w e = subst IsFloatWidth (some_is Four w e) tt
float_fits (Some indicator.Eight) w e = subst IsFloatWidth (some_is Eight w e) tt
float_fits (Some _) w e = absurd cc

named_fits : (b : NamedSimple) → IsSimple (named_number b)
named_fits False = inl (omega arith)
named_fits True = inl (omega arith)
named_fits Null = inl (omega arith)
named_fits Undefined = inl (omega arith)

is_simple_fits : (n : ℕ) → is_simple n ≡ true → IsSimple n
is_simple_fits n e = grind (arith, nat_tests)

simple_number_fits : (i : Option Indicator) (z : ℤ) (n : ℕ) → simple_number i z ≡ Some n → IsSimple n
simple_number_fits i (pos m) n e = let b = some_if (is_simple m && is_shortest i m) m n e in subst IsSimple b.1 (is_simple_fits m (if_both (is_simple m) (is_shortest i m) b.0).0)
simple_number_fits i (negsuc m) n e = absurd cc

simple_fits : (w : Node Item) (v : Value) → means_simple w ≡ Some v → Fits v
simple_fits (Number x i) v e =
    let a = both_steps (simple_of x i) (λ n. Some (simple n)) v e in
    let b = both_steps (integer_of x) (simple_number i) a.0 a.1 in
    subst Fits (some_is (simple a.0) v a.2) (simple_number_fits i b.0 a.0 b.2)
simple_fits _ v e = absurd cc

-- ---- strings

both_bytes : (xs ys : List ℕ) → AreBytes (xs ++ ys) → AreBytes xs × AreBytes ys
both_bytes [] ys all = (All-nil (λ b. b < 256), all)
both_bytes (x ∷ xs) ys all =
    let rest = both_bytes xs ys (All-tail (λ b. b < 256) x (xs ++ ys) all) in
    (All-cons (λ b. b < 256) x xs (All-head (λ b. b < 256) x (xs ++ ys) all) rest.0, rest.1)

pub if_content : {A : Type 0} (b : Bool) (o : Option A) (x : A) → cond b o None ≡ Some x → (b ≡ true) × (o ≡ Some x)
if_content true o x e = (refl, e)
if_content false o x e = absurd cc

abbrev pub given_chunk : StringKind → List ℕ → Width → Option (StringKind × values.Chunk)
given_chunk k bs w = Some (k, (w, bs))

chunk_fits : (k : StringKind) (bs : List ℕ) (i : Option Indicator) (p : StringKind × values.Chunk) → chunk_of (k, bs) i ≡ Some p → AreBytes (chunk_encoding p.0 p.1) → ChunkFits p.0 p.1
chunk_fits k bs i p e all =
    let a = if_content (is_content k bs) (width_of i (length bs) >>= given_chunk k bs) p e in
    let b = both_steps (width_of i (length bs)) (given_chunk k bs) p a.1 in
    let is : (k, (b.0, bs)) ≡ p = some_is (k, (b.0, bs)) p b.2 in
    let content = (both_bytes (head (string_major p.0) p.1.0 (length p.1.1)) p.1.1 all).1 in
    subst (λ (q : StringKind × values.Chunk). AreBytes q.1.1 → ChunkFits q.0 q.1) is (λ h. (width_fits i b.0 (length bs) b.1, h, a.0)) content

abbrev pub string_value : StringKind × values.Chunk → Option Value
string_value p = Some (string p.0 p.1.0 p.1.1)

definite_string_fits : (k : StringKind) (bs : List ℕ) (i : Option Indicator) (v : Value) → (chunk_of (k, bs) i >>= string_value) ≡ Some v → AreBytes (encoding v) → Fits v
definite_string_fits k bs i v e =
    let a = both_steps (chunk_of (k, bs) i) string_value v e in
    subst (λ v. AreBytes (encoding v) → Fits v) (some_is (string a.0.0 a.0.1.0 a.0.1.1) v a.2) (chunk_fits k bs i a.0 a.1)

string_fits : (c : Content) (i : Option Indicator) (v : Value) → string_of c i ≡ Some v → AreBytes (encoding v) → Fits v
string_fits (k, []) (Some indicator.Indefinite) v e = subst (λ v. AreBytes (encoding v) → Fits v) (some_is (chunks k []) v e) (λ h. tt)
string_fits (k, []) None v e = definite_string_fits k [] None v e
string_fits (k, []) (Some indicator.Immediate) v e = definite_string_fits k [] (Some indicator.Immediate) v e
string_fits (k, []) (Some indicator.One) v e = definite_string_fits k [] (Some indicator.One) v e
string_fits (k, []) (Some indicator.Two) v e = definite_string_fits k [] (Some indicator.Two) v e
string_fits (k, []) (Some indicator.Four) v e = definite_string_fits k [] (Some indicator.Four) v e
string_fits (k, []) (Some indicator.Eight) v e = definite_string_fits k [] (Some indicator.Eight) v e
string_fits (k, b ∷ bs) i v e = definite_string_fits k (b ∷ bs) i v e

abbrev pub StringsFit : List (StringKind × values.Chunk) → Type 0
StringsFit [] = Unit {0}
StringsFit (p ∷ ps) = ChunkFits p.0 p.1 × StringsFit ps

chunk_in_front : (k : StringKind) (c : values.Chunk) (ps : List (StringKind × values.Chunk)) (cs : List values.Chunk) → (chunks_of k ps >>= λ cs. Some (c ∷ cs)) ≡ Some cs
    → ((cs : List values.Chunk) → chunks_of k ps ≡ Some cs → (string_encodings ps ≡ chunk_encodings k cs) × (StringsFit ps → ChunksFit k cs))
    → (string_encodings ((k, c) ∷ ps) ≡ chunk_encodings k cs) × (StringsFit ((k, c) ∷ ps) → ChunksFit k cs)
chunk_in_front k c ps cs e others =
    let a = both_steps (chunks_of k ps) (λ cs. Some (c ∷ cs)) cs e in
    let o = others a.0 a.1 in
    subst (λ cs. (string_encodings ((k, c) ∷ ps) ≡ chunk_encodings k cs) × (StringsFit ((k, c) ∷ ps) → ChunksFit k cs)) (some_is (c ∷ a.0) cs a.2) (ap (λ (l : List ℕ). chunk_encoding k c ++ l) o.0, λ h. (h.0, o.1 h.1))

-- the chunks of a stream, all of its kind
pub chunks_are : (k : StringKind) (ps : List (StringKind × values.Chunk)) (cs : List values.Chunk) → chunks_of k ps ≡ Some cs → (string_encodings ps ≡ chunk_encodings k cs) × (StringsFit ps → ChunksFit k cs)
chunks_are k [] cs e = subst (λ cs. ([] ≡ chunk_encodings k cs) × (Unit {0} → ChunksFit k cs)) (some_is [] cs e) (refl, λ h. tt)
chunks_are Bytes ((Bytes, c) ∷ ps) cs e = chunk_in_front Bytes c ps cs e (chunks_are Bytes ps)
chunks_are Text ((Text, c) ∷ ps) cs e = chunk_in_front Text c ps cs e (chunks_are Text ps)
chunks_are Bytes ((Text, c) ∷ ps) cs e = absurd cc
chunks_are Text ((Bytes, c) ∷ ps) cs e = absurd cc

-- ---- rows

abbrev EntryFits : (k : Row) → EntryOf k → Type 0
EntryFits Elements v = Fits v
EntryFits Pairs p = Fits p.0 × Fits p.1
EntryFits Strings p = ChunkFits p.0 p.1

abbrev RowFits : (k : Row) → RowOf k → Type 0
RowFits Elements vs = ValuesFit vs
RowFits Pairs ps = PairsFit ps
RowFits Strings ps = StringsFit ps

-- What can be encoded, if the encoding is of bytes: a node may have texts of other numbers.
abbrev pub MeaningFits : (s : Sort) → MeaningOf s → Type 0
MeaningFits Item v = AreBytes (encoding v) → Fits v
MeaningFits Piece c = Unit {0}
MeaningFits Pieces c = Unit {0}
MeaningFits (Entry k) x = AreBytes (entry_encoding k x) → EntryFits k x
MeaningFits (Entries k) r = AreBytes (row_encoding k r) → RowFits k r

list_bytes : (w : Option Width) (major n : ℕ) (parts : List ℕ) → AreBytes (list_encoding major w n parts) → AreBytes parts
list_bytes (Some w) major n parts all = (both_bytes (head major w n) parts all).1
list_bytes None major n parts all = (both_bytes parts (break ∷ []) (All-tail (λ b. b < 256) (open_head major) (parts ++ break ∷ []) all)).0

list_fits : (k : Bracketed) (w : Option Width) (r : RowOf (entries_of k)) → LengthFits w (row_len (entries_of k) r) → MeaningFits (Entries (entries_of k)) r → AreBytes (encoding (list_value k w r)) → Fits (list_value k w r)
list_fits Array w vs lt fits all = (lt, fits (list_bytes w 4 (values_len vs) (encodings vs) all))
list_fits Map w ps lt fits all = (lt, fits (list_bytes w 5 (pairs_len ps) (pair_encodings ps) all))

listed_fits : (k : Bracketed) (i : Option Indicator) (r : RowOf (entries_of k)) (v : Value) → MeaningFits (Entries (entries_of k)) r → listed k i r ≡ Some v → AreBytes (encoding v) → Fits v
listed_fits k i r v fits e =
    let b = both_steps (length_of i (row_len (entries_of k) r)) (λ w. Some (list_value k w r)) v e in
    subst (λ v. AreBytes (encoding v) → Fits v) (some_is (list_value k b.0 r) v b.2) (list_fits k b.0 r (length_fits i b.0 (row_len (entries_of k) r) b.1) fits)

abbrev pub stream_value : StringKind → List values.Chunk → Option Value
stream_value k cs = Some (chunks k cs)

stream_fits : (ps : List (StringKind × values.Chunk)) (v : Value) → MeaningFits (Entries Strings) ps → stream_of ps ≡ Some v → AreBytes (encoding v) → Fits v
stream_fits [] v fits e = absurd cc
stream_fits (p ∷ ps) v fits e =
    let a = both_steps (chunks_of p.0 (p ∷ ps)) (stream_value p.0) v e in
    let are = chunks_are p.0 (p ∷ ps) a.0 a.1 in
    let parts : AreBytes (encoding (chunks p.0 a.0)) → AreBytes (string_encodings (p ∷ ps)) = λ all. subst AreBytes (sym are.0) (list_bytes None (string_major p.0) 0 (chunk_encodings p.0 a.0) all) in
    subst (λ v. AreBytes (encoding v) → Fits v) (some_is (chunks p.0 a.0) v a.2) (λ all. are.1 (fits (parts all)))

no_entries_fit : (k : Row) → RowFits k (no_entries k)
no_entries_fit Elements = tt
no_entries_fit Pairs = tt
no_entries_fit Strings = tt

one_more_fits : (k : Row) (x : EntryOf k) (r : RowOf k) → MeaningFits (Entry k) x → MeaningFits (Entries k) r → MeaningFits (Entries k) (one_more k x r)
one_more_fits Elements v vs first others all = let b = both_bytes (encoding v) (encodings vs) all in (first b.0, others b.1)
one_more_fits Pairs p ps first others all =
    let b = both_bytes (encoding p.0 ++ encoding p.1) (pair_encodings ps) all in
    let f = first b.0 in
    (f.0, f.1, others b.1)
one_more_fits Strings p ps first others all = let b = both_bytes (chunk_encoding p.0 p.1) (string_encodings ps) all in (first b.0, others b.1)

pub meaning_fits : {s : Sort} (w : Node s) (v : MeaningOf s) → means w ≡ Some v → MeaningFits s v
unfolding means
meaning_fits (Number x i) v e = let b = both_steps (integer_of x) (means_integer i) v e in λ all. integer_fits i b.0 v b.2
meaning_fits (Float f i) v e = let b = both_steps (float_width i) (λ w. Some (float w f)) v e in λ all. subst Fits (some_is (float b.0 f) v b.2) (float_fits i b.0 b.1)
meaning_fits (Tagged n i w) v e =
    let a = both_steps (width_of i n) (λ d. means w >>= λ x. Some (tag d n x)) v e in
    let b = both_steps (means w) (λ x. Some (tag a.0 n x)) v a.2 in
    subst (λ v. AreBytes (encoding v) → Fits v) (some_is (tag a.0 n b.0) v b.2) (λ all. (width_fits i a.0 n a.1, meaning_fits w b.0 b.1 (both_bytes (head 6 a.0 n) (encoding b.0) all).1))
meaning_fits (Named b) v e = λ all. subst Fits (some_is (simple (named_number b)) v e) (named_fits b)
meaning_fits (Simple w) v e = λ all. simple_fits w v e
meaning_fits (Listed k i m) v e = let b = both_steps (means m) (listed k i) v e in listed_fits k i b.0 v (meaning_fits m b.0 b.1) b.2
meaning_fits (String w) v e =
    let a = both_steps (means w) (λ c. pieces_indicator w >>= string_of c) v e in
    let b = both_steps (pieces_indicator w) (string_of a.0) v a.2 in
    string_fits a.0 b.0 v b.2
meaning_fits (Stream m) v e = let b = both_steps (means m) stream_of v e in stream_fits b.0 v (meaning_fits m b.0 b.1) b.2
meaning_fits (Literal x i) v e = tt
meaning_fits (Ellipsis x) v e = tt
meaning_fits (Embedded m i) v e = tt
meaning_fits (LastPiece p) v e = tt
meaning_fits (Plus p w) v e = tt
meaning_fits (Element w) v e = meaning_fits w v e
meaning_fits (Pair x y) v e =
    let a = both_steps (means x) (λ p. means y >>= λ q. Some (p, q)) v e in
    let b = both_steps (means y) (λ q. Some (a.0, q)) v a.2 in
    let is : (a.0, b.0) ≡ v = some_is (a.0, b.0) v b.2 in
    λ all. let parts = both_bytes (encoding v.0) (encoding v.1) all in
    (subst (λ (p : Value × Value). AreBytes (encoding p.0) → Fits p.0) is (meaning_fits x a.0 a.1) parts.0, subst (λ (p : Value × Value). AreBytes (encoding p.1) → Fits p.1) is (meaning_fits y b.0 b.1) parts.1)
meaning_fits (Chunk w) v e =
    let a = both_steps (means w) (λ c. pieces_indicator w >>= chunk_of c) v e in
    let b = both_steps (pieces_indicator w) (chunk_of a.0) v a.2 in
    chunk_fits a.0.0 a.0.1 b.0 v b.2
meaning_fits (End {k}) v e = λ all. subst (RowFits k) (some_is (no_entries k) v e) (no_entries_fit k)
meaning_fits (Then {k} f m) v e =
    let a = both_steps (means f) (λ x. means m >>= λ xs. Some (one_more k x xs)) v e in
    let b = both_steps (means m) (λ xs. Some (one_more k a.0 xs)) v a.2 in
    subst (MeaningFits (Entries k)) (some_is (one_more k a.0 b.0) v b.2) (one_more_fits k a.0 b.0 (meaning_fits f a.0 a.1) (meaning_fits m b.0 b.1))
