-- What is pushed by parts is the encoding of the whole.
use Rattle.std.proofs.Common.{◌≡◌, ℕ, ℤ, pos, negsuc, ◌+◌, ◌^◌, ◌<◌, ◌≤◌, Bool, false, cond, ltb, List, [], ◌∷◌, ◌++◌, length, map, drop, get_or, drop-cons, add-one, Option, Some, None, Result, Ok, Err, refl, sym, ap, subst, ◌∙◌, append_assoc, arith}
use Rattle.std.specs.Prelude.{unsigned_abs}
use Rattle.std.proofs.lemmas.Bool.{le-ltb}
use Rattle.std.proofs.lemmas.Bool.Decides.{nat_tests}
use Rattle.std.proofs.lemmas.List.{append-nil}
use Rattle.cbor_edn_parts.specs.declared.base.error.Fault.{Fault}
use Rattle.cbor_edn_parts.specs.declared.base.error.Fault.TheVariants.{Memory, Told}
use Rattle.cbor_edn_parts.specs.declared.base.error.InconsistentEdn.{InconsistentEdn}
use Rattle.cbor_edn_parts.specs.declared.base.indicator.Indicator.{Indicator}
use Rattle.cbor_edn_parts.specs.number.Number.{HasInteger}
use Rattle.cbor_edn_parts.specs.internal.NumberReading.{integer_of}
use Rattle.cbor_edn_parts.proofs.lemmas.number.NumberParts.{integer_reads, integer_read}
use Rattle.cbor_edn_model.specs.declared.cbor.heads.Width.{Width}
use Rattle.cbor_edn_model.specs.tree.Items.{Row, Elements, Pairs, Strings, Bracketed, Array, Map, entries_of, Node, Item, Number, Listed, Tagged, Items}
use Rattle.cbor_edn_model.specs.tree.Trees.{Tree, OneItem, OneEntry, Rest, LastTree, ElementTree, PairTree, EmptyTree, FullTree, ListHead, head_indicator, items}
use Rattle.cbor_edn_model.specs.tree.Rows.{entries_onto}
use Rattle.cbor_edn_model.specs.cbor.Value.{Value, Values, tag, AreBytes, head, encoding, encodings, Enc, EncAll}
use Rattle.cbor_edn_model.specs.cbor.Meaning.{◌>>=◌, width_of, length_of, means_integer, is_simple, simple_number, simple_of, EntryOf, RowOf, row_len, list_value, listed, no_entries, one_more, means}
use Rattle.cbor_edn_model.specs.internal.Encoding.{Encodes, Finds, list_head, list_end, major_of, entry_encoding, row_encoding, row_items}
use Rattle.cbor_edn_model.proofs.lemmas.cbor.MeaningSteps.{both_steps, some_is}
use Rattle.cbor_edn_model.proofs.lemmas.cbor.Meanings.{meaning_fits}

abbrev pub Pushed : Type 0
Pushed = Result (Unit {0}) (Fault InconsistentEdn)

-- ---- numbers

abbrev if_small : Bool → Option Value → Option Value
if_small small v = cond small v None

if_large : (n limit : ℕ) (v : Option Value) → limit ≤ n → if_small (ltb n limit) v ≡ None
if_large n limit v le = let is : ltb n limit ≡ false = le-ltb n limit le in rw is refl

not_small : (n : ℕ) (v w : Option Value) → 2 ^ 64 ≤ n → cond (ltb n (2 ^ 64)) v w ≡ w
not_small n v w le = let is : ltb n (2 ^ 64) ≡ false = le-ltb n (2 ^ 64) le in rw is refl

pub too_large : (i : Option Indicator) (z : ℤ) → 2 ^ 128 ≤ unsigned_abs z → means_integer i z ≡ None
too_large i (pos n) le = not_small n _ _ (omega arith) ∙ if_large n (2 ^ 128) _ le
too_large i (negsuc n) le = not_small n _ _ (omega arith) ∙ if_large (n + 1) (2 ^ 128) _ (omega arith)

-- The integer of a literal whose magnitude is below that, put to a use that larger ones do not have.
no_integer : {A : Type 0} (use_of : ℤ → Option A) (x : List ℕ) → ((z : ℤ) → 2 ^ 128 ≤ unsigned_abs z → use_of z ≡ None) → ((z : ℤ) → HasInteger x z → 2 ^ 128 ≤ unsigned_abs z) → (integer_of x >>= use_of) ≡ None
no_integer {A} use_of x useless large = by_answer (integer_of x) (λ z e. useless z (large z (integer_read x z e)))
  where
    by_answer : (o : Option ℤ) → ((z : ℤ) → o ≡ Some z → use_of z ≡ None) → (o >>= use_of) ≡ None
    by_answer None none = refl
    by_answer (Some z) none = none z refl

-- a literal of that magnitude, or what is no literal
pub no_number : (x : List ℕ) (i : Option Indicator) → ((z : ℤ) → HasInteger x z → 2 ^ 128 ≤ unsigned_abs z) → means (Number x i) ≡ None
unfolding means
no_number x i large = no_integer (means_integer i) x (too_large i) large

too_large_to_be_simple : (i : Option Indicator) (n : ℕ) → 2 ^ 128 ≤ n → simple_number i (pos n) ≡ None
too_large_to_be_simple i n le = let is : is_simple n ≡ false = grind (arith, nat_tests) in rw is refl

never_simple : (i : Option Indicator) (z : ℤ) → 2 ^ 128 ≤ unsigned_abs z → simple_number i z ≡ None
never_simple i (pos n) le = too_large_to_be_simple i n le
never_simple i (negsuc n) le = refl

pub no_simple : (x : List ℕ) (i : Option Indicator) → ((z : ℤ) → HasInteger x z → 2 ^ 128 ≤ unsigned_abs z) → simple_of x i ≡ None
no_simple x i large = no_integer (simple_number i) x (never_simple i) large

pub number_means : (x : List ℕ) (i : Option Indicator) (z : ℤ) → HasInteger x z → means (Number x i) ≡ means_integer i z
unfolding means
number_means x i z e = rw (integer_reads x z e) refl

-- ---- tags

pub tag_pushed : (n : ℕ) (i : Option Indicator) (w : Node Item) (old middle new : List ℕ) (r : Pushed) → Encodes (λ d. head 6 d n) (width_of i n) old middle (Ok tt) → Encodes encoding (means w) middle new r → Encodes encoding (means (Tagged n i w)) old new r
unfolding means
tag_pushed n i w old middle new (Ok u) width content =
    (tag width.0 n content.0, rw (width.1, content.1) refl, content.2 ∙ ap (λ (l : List ℕ). l ++ encoding content.0) width.2 ∙ append_assoc old (head 6 width.0 n) (encoding content.0))
tag_pushed n i w old middle new (Err (Told e)) width content = rw (width.1, content) refl
tag_pushed n i w old middle new (Err (Memory e)) width content = tt

pub tag_stops : (n : ℕ) (i : Option Indicator) (w : Node Item) (old middle new : List ℕ) (f : Fault InconsistentEdn) → Encodes (λ d. head 6 d n) (width_of i n) old middle (Err f) → Encodes encoding (means (Tagged n i w)) old new (Err f)
unfolding means
tag_stops n i w old middle new (Told e) width = rw width refl
tag_stops n i w old middle new (Memory e) width = tt

-- ---- one entry, and more

abbrev more : (k : Row) → Option (EntryOf k) → Option (RowOf k) → Option (RowOf k)
more k o p = o >>= λ x. p >>= λ r. Some (one_more k x r)

one_more_encoding : (k : Row) (x : EntryOf k) (r : RowOf k) → row_encoding k (one_more k x r) ≡ entry_encoding k x ++ row_encoding k r
one_more_encoding Elements v vs = refl
one_more_encoding Pairs p ps = refl
one_more_encoding Strings p ps = refl

no_encoding : (k : Row) → row_encoding k (no_entries k) ≡ []
no_encoding Elements = refl
no_encoding Pairs = refl
no_encoding Strings = refl

one_more_len : (k : Row) (x : EntryOf k) (r : RowOf k) → row_len k (one_more k x r) ≡ row_len k r + 1
one_more_len Elements v vs = refl
one_more_len Pairs p ps = refl
one_more_len Strings p ps = omega arith

no_len : (k : Row) → row_len k (no_entries k) ≡ 0
no_len Elements = refl
no_len Pairs = refl
no_len Strings = refl

then_encoded : (k : Row) (o : Option (EntryOf k)) (p : Option (RowOf k)) (old middle new : List ℕ) (r : Pushed) → Encodes (entry_encoding k) o old middle (Ok tt) → Encodes (row_encoding k) p middle new r → Encodes (row_encoding k) (more k o p) old new r
then_encoded k o p old middle new (Ok u) first others = (
  one_more k first.0 others.0,
  rw (first.1, others.1) refl,
  others.2 ∙ ap (λ (l : List ℕ). l ++ row_encoding k others.0) first.2 ∙ append_assoc old (entry_encoding k first.0) (row_encoding k others.0) ∙ ap (λ (l : List ℕ). old ++ l) (sym (one_more_encoding k first.0 others.0)),
)
then_encoded k o p old middle new (Err (Told e)) first others = rw (first.1, others) refl
then_encoded k o p old middle new (Err (Memory e)) first others = tt

stops : (k : Row) (o : Option (EntryOf k)) (p : Option (RowOf k)) (old middle new : List ℕ) (f : Fault InconsistentEdn) → Encodes (entry_encoding k) o old middle (Err f) → Encodes (row_encoding k) (more k o p) old new (Err f)
stops k o p old middle new (Told e) first = rw first refl
stops k o p old middle new (Memory e) first = tt

-- nothing, and the last entry
last_encoded : (k : Row) (o : Option (EntryOf k)) (old middle new : List ℕ) (r : Pushed) → middle ≡ old → Encodes (entry_encoding k) o middle new r → Encodes (row_encoding k) (more k o (Some (no_entries k))) old new r
last_encoded k o old middle new (Ok u) same last =
    let whole : row_encoding k (one_more k last.0 (no_entries k)) ≡ entry_encoding k last.0 = one_more_encoding k last.0 (no_entries k) ∙ ap (λ (l : List ℕ). entry_encoding k last.0 ++ l) (no_encoding k) ∙ append-nil (entry_encoding k last.0) in
    (one_more k last.0 (no_entries k), rw last.1 refl, last.2 ∙ ap (λ (l : List ℕ). l ++ entry_encoding k last.0) same ∙ ap (λ (l : List ℕ). old ++ l) (sym whole))
last_encoded k o old middle new (Err (Told e)) same last = rw last refl
last_encoded k o old middle new (Err (Memory e)) same last = tt

-- ---- rows

pub row_then_last : (k : Row) (ps : List (Tree (OneEntry k) × List ℕ)) (w : Tree (OneEntry k)) (s old middle new : List ℕ) (r : Pushed) → Encodes (row_encoding k) (means (row_items ps)) old middle (Ok tt) → Encodes (entry_encoding k) (means (items w)) middle new r
    → Encodes (row_encoding k) (means (items (entries_onto ps (LastTree w s)))) old new r
unfolding means items
row_then_last k [] w s old middle new r row last =
    let none : no_entries k ≡ row.0 = some_is (no_entries k) row.0 row.1 in
    last_encoded k (means (items w)) old middle new r (row.2 ∙ ap (λ vs. old ++ row_encoding k vs) (sym none) ∙ ap (λ (l : List ℕ). old ++ l) (no_encoding k) ∙ append-nil old) last
row_then_last k (p ∷ ps) w s old middle new r row last =
    let a = both_steps (means (items p.0)) (λ v. means (row_items ps) >>= λ vs. Some (one_more k v vs)) row.0 row.1 in
    let b = both_steps (means (row_items ps)) (λ vs. Some (one_more k a.0 vs)) row.0 a.2 in
    let whole : one_more k a.0 b.0 ≡ row.0 = some_is (one_more k a.0 b.0) row.0 b.2 in
    let behind : middle ≡ (old ++ entry_encoding k a.0) ++ row_encoding k b.0 = row.2 ∙ ap (λ vs. old ++ row_encoding k vs) (sym whole) ∙ ap (λ (l : List ℕ). old ++ l) (one_more_encoding k a.0 b.0) ∙ sym (append_assoc old (entry_encoding k a.0) (row_encoding k b.0)) in
    let others = row_then_last k ps w s (old ++ entry_encoding k a.0) middle new r (b.0, b.1, behind) last in
    then_encoded k (means (items p.0)) (means (items (entries_onto ps (LastTree w s)))) old (old ++ entry_encoding k a.0) new r (a.0, a.1, refl) others

none_more : (k : Row) (o : Option (EntryOf k)) (p q : Option (RowOf k)) → (p ≡ None → q ≡ None) → more k o p ≡ None → more k o q ≡ None
none_more k None p q next e = refl
none_more k (Some v) None q next e = rw (next refl) refl
none_more k (Some v) (Some vs) q next e = absurd cc

row_none : (k : Row) (ps : List (Tree (OneEntry k) × List ℕ)) (m : Tree (Rest k)) → means (row_items ps) ≡ None → means (items (entries_onto ps m)) ≡ None
unfolding means items
row_none k [] m e = absurd cc
row_none k (p ∷ ps) m e = none_more k (means (items p.0)) (means (row_items ps)) (means (items (entries_onto ps m))) (row_none k ps m) e

pub row_stops : (k : Row) (ps : List (Tree (OneEntry k) × List ℕ)) (m : Tree (Rest k)) (old middle new : List ℕ) (f : Fault InconsistentEdn) → Encodes (row_encoding k) (means (row_items ps)) old middle (Err f) → Encodes (row_encoding k) (means (items (entries_onto ps m))) old new (Err f)
row_stops k ps m old middle new (Told e) row = row_none k ps m row
row_stops k ps m old middle new (Memory e) row = tt

-- ---- lists

row_length : (k : Row) (ps : List (Tree (OneEntry k) × List ℕ)) (w : Tree (OneEntry k)) (s : List ℕ) (r : RowOf k) → means (items (entries_onto ps (LastTree w s))) ≡ Some r → row_len k r ≡ length ps + 1
unfolding means items
row_length k [] w s r e =
    let a = both_steps (means (items w)) (λ v. Some (one_more k v (no_entries k))) r e in
    ap (row_len k) (sym (some_is (one_more k a.0 (no_entries k)) r a.2)) ∙ one_more_len k a.0 (no_entries k) ∙ ap (λ n. n + 1) (no_len k)
row_length k (p ∷ ps) w s r e =
    let a = both_steps (means (items p.0)) (λ v. means (items (entries_onto ps (LastTree w s))) >>= λ us. Some (one_more k v us)) r e in
    let b = both_steps (means (items (entries_onto ps (LastTree w s)))) (λ us. Some (one_more k a.0 us)) r a.2 in
    ap (row_len k) (sym (some_is (one_more k a.0 b.0) r b.2)) ∙ one_more_len k a.0 b.0 ∙ omega (arith, row_length k ps w s b.0 b.1)

-- a row of so many entries, if it means any
abbrev Counts : (k : Row) → Option (RowOf k) → ℕ → Type 0
Counts k o n = (r : RowOf k) → o ≡ Some r → row_len k r ≡ n

list_parts : (k : Bracketed) (w : Option Width) (r : RowOf (entries_of k)) → encoding (list_value k w r) ≡ list_head (major_of k) w (row_len (entries_of k) r) ++ (row_encoding (entries_of k) r ++ list_end w)
list_parts Array (Some w) r = ap (λ (l : List ℕ). head 4 w (row_len Elements r) ++ l) (sym (append-nil (row_encoding Elements r)))
list_parts Array None r = refl
list_parts Map (Some w) r = ap (λ (l : List ℕ). head 5 w (row_len Pairs r) ++ l) (sym (append-nil (row_encoding Pairs r)))
list_parts Map None r = refl

list_encoded : (k : Bracketed) (i : Option Indicator) (o : Option (RowOf (entries_of k))) (n : ℕ) (w : Option Width) (old first second new : List ℕ) → Counts (entries_of k) o n → length_of i n ≡ Some w → first ≡ old ++ list_head (major_of k) w n → Encodes (row_encoding (entries_of k)) o first second (Ok tt) → new ≡ second ++ list_end w
    → Encodes encoding (o >>= listed k i) old new (Ok tt)
list_encoded k i o n w old first second new counts width opened (r, meant, is) ended =
    let len : row_len (entries_of k) r ≡ n = counts r meant in
    let listed_is : listed k i r ≡ Some (list_value k w r) = ap (λ o. o >>= λ v. Some (list_value k v r)) (ap (length_of i) len ∙ width) in
    let before : first ≡ old ++ list_head (major_of k) w (row_len (entries_of k) r) = opened ∙ ap (λ m. old ++ list_head (major_of k) w m) (sym len) in
    let whole : new ≡ old ++ encoding (list_value k w r) =
    ended ∙ ap (λ (l : List ℕ). l ++ list_end w) (is ∙ ap (λ (l : List ℕ). l ++ row_encoding (entries_of k) r) before) ∙ append_assoc (old ++ list_head (major_of k) w (row_len (entries_of k) r)) (row_encoding (entries_of k) r) (list_end w) ∙ append_assoc old (list_head (major_of k) w (row_len (entries_of k) r)) (row_encoding (entries_of k) r ++ list_end w)
    ∙ ap (λ (l : List ℕ). old ++ l) (sym (list_parts k w r)) in
    (list_value k w r, ap (λ q. q >>= listed k i) meant ∙ listed_is, whole)

list_stops : (k : Bracketed) (i : Option Indicator) (o : Option (RowOf (entries_of k))) (old first second new : List ℕ) (f : Fault InconsistentEdn) → Encodes (row_encoding (entries_of k)) o first second (Err f) → Encodes encoding (o >>= listed k i) old new (Err f)
list_stops k i o old first second new (Told e) row = rw row refl
list_stops k i o old first second new (Memory e) row = tt

none_listed : (k : Bracketed) (i : Option Indicator) (o : Option (RowOf (entries_of k))) (n : ℕ) → Counts (entries_of k) o n → length_of i n ≡ None → (o >>= listed k i) ≡ None
none_listed k i None n counts none = refl
none_listed k i (Some r) n counts none = ap (λ q. q >>= λ w. Some (list_value k w r)) (ap (length_of i) (counts r refl) ∙ none)

list_unfit : (k : Bracketed) (i : Option Indicator) (o : Option (RowOf (entries_of k))) (n : ℕ) (old new : List ℕ) (f : Fault InconsistentEdn) → Counts (entries_of k) o n → Finds (length_of i n) (Err f) → Encodes encoding (o >>= listed k i) old new (Err f)
list_unfit k i o n old new (Told e) counts found = none_listed k i o n counts found
list_unfit k i o n old new (Memory e) counts found = tt

-- a list with entries
module _ (k : Bracketed) (h : ListHead) (s : List ℕ) (m : Tree (Rest (entries_of k))) (ps : List (Tree (OneEntry (entries_of k)) × List ℕ)) (w : Tree (OneEntry (entries_of k))) (t : List ℕ) (m_is : m ≡ entries_onto ps (LastTree w t)) (n : ℕ) (count : n ≡ length ps + 1) where
  counts : Counts (entries_of k) (means (items m)) n
  counts r meant = row_length (entries_of k) ps w t r (ap (λ t. means (items t)) (sym m_is) ∙ meant) ∙ sym count

  pub full_encoded : (v : Option Width) (old first second new : List ℕ) → length_of (head_indicator h) n ≡ Some v → first ≡ old ++ list_head (major_of k) v n → Encodes (row_encoding (entries_of k)) (means (items m)) first second (Ok tt) → new ≡ second ++ list_end v
      → Encodes encoding (means (Listed k (items (FullTree {k = k} h s m)).0 (items (FullTree {k = k} h s m)).1)) old new (Ok tt)
  unfolding means items
  full_encoded v old first second new width opened row ended = list_encoded k (head_indicator h) (means (items m)) n v old first second new counts width opened row ended

  pub full_stops : (old first second new : List ℕ) (f : Fault InconsistentEdn) → Encodes (row_encoding (entries_of k)) (means (items m)) first second (Err f) → Encodes encoding (means (Listed k (items (FullTree {k = k} h s m)).0 (items (FullTree {k = k} h s m)).1)) old new (Err f)
  unfolding means items
  full_stops old first second new f row = list_stops k (head_indicator h) (means (items m)) old first second new f row

  pub full_unfit : (old new : List ℕ) (f : Fault InconsistentEdn) → Finds (length_of (head_indicator h) n) (Err f) → Encodes encoding (means (Listed k (items (FullTree {k = k} h s m)).0 (items (FullTree {k = k} h s m)).1)) old new (Err f)
  unfolding means items
  full_unfit old new f found = list_unfit k (head_indicator h) (means (items m)) n old new f counts found

-- a list without entries
abbrev pub empty_encoding : Bracketed → Option Width → List ℕ
empty_encoding k w = list_head (major_of k) w 0 ++ list_end w

pub empty_encoded : (k : Bracketed) (i : Option Indicator) (s old new : List ℕ) (r : Pushed) → Encodes (empty_encoding k) (length_of i 0) old new r → Encodes encoding (means (Listed k (items (EmptyTree {k = k} i s)).0 (items (EmptyTree {k = k} i s)).1)) old new r
unfolding means items
empty_encoded k i s old new (Ok u) (w, width, is) =
    let counts : Counts (entries_of k) (Some (no_entries (entries_of k))) 0 = λ r e. ap (row_len (entries_of k)) (sym (some_is (no_entries (entries_of k)) r e)) ∙ no_len (entries_of k) in
    list_encoded k i (Some (no_entries (entries_of k))) 0 w old (old ++ list_head (major_of k) w 0) (old ++ list_head (major_of k) w 0) new counts width refl
    (no_entries (entries_of k), refl, sym (append-nil (old ++ list_head (major_of k) w 0)) ∙ ap (λ (l : List ℕ). (old ++ list_head (major_of k) w 0) ++ l) (sym (no_encoding (entries_of k)))) (is ∙ sym (append_assoc old (list_head (major_of k) w 0) (list_end w)))
empty_encoded k i s old new (Err (Told e)) none = none_listed k i (Some (no_entries (entries_of k))) 0 (λ r e. ap (row_len (entries_of k)) (sym (some_is (no_entries (entries_of k)) r e)) ∙ no_len (entries_of k)) none
empty_encoded k i s old new (Err (Memory e)) none = tt

-- ---- entries

pub element_encoded : (w : Tree OneItem) (old new : List ℕ) (r : Pushed) → Encodes encoding (means (items w)) old new r → Encodes (entry_encoding Elements) (means (items (ElementTree w))) old new r
unfolding means items
element_encoded w old new r pushed = pushed

pub pair_encoded : (v w : Tree OneItem) (s t old middle new : List ℕ) (r : Pushed) → Encodes encoding (means (items v)) old middle (Ok tt) → Encodes encoding (means (items w)) middle new r → Encodes (entry_encoding Pairs) (means (items (PairTree v s t w))) old new r
unfolding means items
pair_encoded v w s t old middle new (Ok u) key value =
    ((key.0, value.0), rw (key.1, value.1) refl, value.2 ∙ ap (λ (l : List ℕ). l ++ encoding value.0) key.2 ∙ append_assoc old (encoding key.0) (encoding value.0))
pair_encoded v w s t old middle new (Err (Told e)) key value = rw (key.1, value) refl
pair_encoded v w s t old middle new (Err (Memory e)) key value = tt

pub pair_stops : (v w : Tree OneItem) (s t old middle new : List ℕ) (f : Fault InconsistentEdn) → Encodes encoding (means (items v)) old middle (Err f) → Encodes (entry_encoding Pairs) (means (items (PairTree v s t w))) old new (Err f)
unfolding means items
pair_stops v w s t old middle new (Told e) key = rw key refl
pair_stops v w s t old middle new (Memory e) key = tt

-- ---- a loop over a row

-- Whatever is then put behind gives what pushing the whole row gives.
abbrev pub PushesRest : {k : Row} → List (Tree (OneEntry k) × List ℕ) → List (Tree (OneEntry k) × List ℕ) → List ℕ → List ℕ → Type 0
PushesRest {k} left all middle old = (r : Pushed) (new : List ℕ) → Encodes (row_encoding k) (means (row_items left)) middle new r → Encodes (row_encoding k) (means (row_items all)) old new r

means_step : {k : Row} (p : Tree (OneEntry k) × List ℕ) (ps : List (Tree (OneEntry k) × List ℕ)) → means (row_items (p ∷ ps)) ≡ more k (means (items p.0)) (means (row_items ps))
unfolding means
means_step p ps = refl

pub next_pushed : {k : Row} (p : Tree (OneEntry k) × List ℕ) (left all : List (Tree (OneEntry k) × List ℕ)) (old middle after : List ℕ) → Encodes (entry_encoding k) (means (items p.0)) middle after (Ok tt) → PushesRest (p ∷ left) all middle old → PushesRest left all after old
next_pushed {k} p left all old middle after one rest r new others = rest r new (rw (means_step p left) (then_encoded k (means (items p.0)) (means (row_items left)) middle after new r one others))

pub next_stops : {k : Row} (p : Tree (OneEntry k) × List ℕ) (left all : List (Tree (OneEntry k) × List ℕ)) (old middle after : List ℕ) (f : Fault InconsistentEdn) → Encodes (entry_encoding k) (means (items p.0)) middle after (Err f) → PushesRest (p ∷ left) all middle old
    → Encodes (row_encoding k) (means (row_items all)) old after (Err f)
next_stops {k} p left all old middle after f one rest = rest (Err f) after (rw (means_step p left) (stops k (means (items p.0)) (means (row_items left)) middle after after f one))

pub all_pushed : {k : Row} (all : List (Tree (OneEntry k) × List ℕ)) (old new : List ℕ) → PushesRest [] all new old → Encodes (row_encoding k) (means (row_items all)) old new (Ok tt)
unfolding means
all_pushed {k} all old new rest = rest (Ok tt) new (no_entries k, refl, sym (append-nil new) ∙ ap (λ (l : List ℕ). new ++ l) (sym (no_encoding k)))

pub rest_at : {A B : Type 0} (f : A → B) (xs : List A) (i : ℕ) (x : A) → i < length xs → x ≡ get_or xs i x → map f (drop i xs) ≡ f x ∷ map f (drop (i + 1) xs)
rest_at f xs i x lt is = ap (map f) (drop-cons xs i x lt) ∙ rw (← is, add-one) refl

-- ---- into nothing

pub item_encoded : (w : Node Item) (old new : List ℕ) → old ≡ [] → AreBytes new → Encodes encoding (means w) old new (Ok tt) → (v : Value) × (means w ≡ Some v) × Enc new v
item_encoded w old new empty bytes pushed =
    let is : new ≡ encoding pushed.0 = pushed.2 ∙ ap (λ (l : List ℕ). l ++ encoding pushed.0) empty in
    (pushed.0, pushed.1, (meaning_fits w pushed.0 pushed.1 (subst AreBytes is bytes), is))

pub items_encoded : (m : Items) (old new : List ℕ) → old ≡ [] → AreBytes new → Encodes encodings (means m) old new (Ok tt) → (vs : Values) × (means m ≡ Some vs) × EncAll new vs
items_encoded m old new empty bytes pushed =
    let is : new ≡ encodings pushed.0 = pushed.2 ∙ ap (λ (l : List ℕ). l ++ encodings pushed.0) empty in
    (pushed.0, pushed.1, (meaning_fits m pushed.0 pushed.1 (subst AreBytes is bytes), is))
