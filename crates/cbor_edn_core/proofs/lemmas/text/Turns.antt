-- What the reader gives at a place, from what it gives for the parts, as the parser meets them.
use Rattle.std.proofs.Common.{ℕ, zero, suc, List, [], ◌∷◌, ◌++◌, ◌≡◌, ◌≢◌, ◌+◌, ◌-◌, ◌<◌, ◌≤◌, length, drop, refl, sym, ap, ◌∙◌, arith, length-append, length-drop, map, Some, None, Ok, Err, Bool, true, false, Option, Result}
use Rattle.std.specs.Prelude.{eqb, cond}
use Rattle.std.proofs.lemmas.List.{map-append}
use Rattle.std.proofs.lemmas.Bool.{false≢true, eq-eqb, ne_eqb, eqb-true, false_from_ne_true, both_ways}
use Rattle.cbor_edn_parts.specs.declared.base.error.ParseErrorKind.{ParseErrorKind}
use Rattle.cbor_edn_parts.specs.declared.base.error.ParseErrorKind.TheVariants.{Invalid, TooDeep}
use Rattle.cbor_edn_parts.specs.declared.base.error.Refusal.{Refusal}
use Rattle.cbor_edn_parts.specs.declared.base.error.Fault.{Fault}
use Rattle.cbor_edn_parts.specs.declared.base.error.Fault.TheVariants.{Memory, Told}
use Rattle.cbor_edn_parts.specs.declared.base.indicator.Indicator.{Indicator}
use Rattle.cbor_edn_parts.specs.base.Indicator.{indicator_at}
use Rattle.cbor_edn_parts.specs.base.Bytes.{is_closed}
use Rattle.cbor_edn_parts.specs.internal.Lex as lex
use Rattle.cbor_edn_parts.specs.internal.Lex.{Automaton, Accepts, munch}
use Rattle.cbor_edn_parts.specs.internal.SpaceTokens.{space, separator}
use Rattle.cbor_edn_parts.specs.internal.NumberTokens.{number}
use Rattle.cbor_edn_model.specs.tree.Items.{Row, Elements, Pairs, Bracketed, Array, Map, entries_of}
use Rattle.cbor_edn_model.specs.text.Spelling.{open_byte, close_byte}
use Rattle.cbor_edn_model.specs.tree.Trees.{Rule, OneItem, OneString, OneEntry, Inside, Rest, Seq, Standalone, ListHead, Tree, ListTree, StringTree, ElementTree, PairTree, EmptyTree, FullTree, LastTree, MoreTree, NothingTree, SequenceTree, StandaloneTree}
use Rattle.cbor_edn_model.specs.internal.Results.{◌>>=◌}
use Rattle.cbor_edn_model.specs.internal.Reading.{Read, token, byte, not_empty, number_item, list_item, string_item, stream_item, starts_string, keyword_at, plain_item, item, entry, list_head_of, inside, inside_full, more, rest, sequence, standalone, reads, reads_all, at_end}
use Rattle.cbor_edn_core.specs.internal.ParserResults.{Fails, ReadsEnd, behind_colon, with_separator, filled, parted}
use Rattle.cbor_edn_model.specs.internal.BytesAt.{IsNotAt}
use Rattle.cbor_edn_parts.specs.base.Refusals.{IfTold}
use Rattle.cbor_edn_parts.specs.declared.space.read.ItemEnd.{ItemEnd}
use Rattle.cbor_edn_model.specs.tree.Rows.{entries_onto}
use Rattle.cbor_edn_parts.proofs.lemmas.base.Tokens.{munch-took}
use Rattle.cbor_edn_model.proofs.lemmas.text.StepCounts.{reads-rule}

pub bind_fails : {A B : Type 0} (e : Fault Refusal) (r : Result A ParseErrorKind) (f : A → Result B ParseErrorKind) → Fails e r → Fails e (r >>= f)
bind_fails (Memory m) r f h = tt
bind_fails (Told x) r f h = rw h

pub bind_ok : {A B : Type 0} (r : Result A ParseErrorKind) (x : A) (f : A → Result B ParseErrorKind) → r ≡ Ok x → (r >>= f) ≡ f x
bind_ok r x f h = rw h

pub fails_at : {A : Type 0} (e : Fault Refusal) (r s : Result A ParseErrorKind) → s ≡ r → Fails e r → Fails e s
fails_at (Memory m) r s same h = tt
fails_at (Told x) r s same h = same ∙ h

-- what ends somewhere, as another reading that is the same
pub ends_same : {X Y : Type 0} (view : X → Y) (text : List ℕ) (r : Result (X × ItemEnd) (Fault Refusal)) (a b : Read Y) → b ≡ a → ReadsEnd view text r a → ReadsEnd view text r b
ends_same view text (Ok p) a b e h = e ∙ h
ends_same view text (Err x) a b e h = fails_at x a b e h

-- a scanned token, as the reader's

pub scan_fails : {State : Type 0} (T : Automaton State) (xs : List ℕ) (r : Refusal) → (lex.token T xs ≡ None) × (r.kind ≡ Invalid) → Fails (Told r) (token T xs)
scan_fails T xs r h = rw (h.0, h.1)

pub some_length : (x : List ℕ) → x ≢ [] → 0 < length x
some_length [] n = absurd (n refl)
some_length (c ∷ x) n = omega arith

-- a token and what follows it are what stood there
pub token_length : {State : Type 0} (T : Automaton State) (xs x q : List ℕ) → lex.token T xs ≡ Some (x, q) → length xs ≡ length x + length q
token_length T xs x q h = omega (arith, ap length (munch-took T T.start xs x q h).1, length-append x q)

-- where a token ends
pub token_end : {State : Type 0} (T : Automaton State) (text x : List ℕ) (from to : ℕ) → lex.token T (drop from text) ≡ Some (x, drop to text) → from ≤ length text → to ≤ length text → from + length x ≡ to
token_end T text x from to h begins ends = omega (arith, simp (length-drop) at (token_length T (drop from text) x (drop to text) h), begins, ends)

some_accepted : {State : Type 0} (T : Automaton State) (x : List ℕ) → T.final T.start ≡ false → Accepts T T.start x → 0 < length x
some_accepted T [] none a = absurd (both_ways (T.final T.start) none a)
some_accepted T (c ∷ x) none a = omega arith

-- a token that may not be empty ends behind where it begins
pub token_behind : {State : Type 0} (T : Automaton State) (text x : List ℕ) (from to : ℕ) → T.final T.start ≡ false → lex.token T (drop from text) ≡ Some (x, drop to text) → from ≤ length text → to ≤ length text → from < to
token_behind T text x from to none h begins ends = omega (arith, token_end T text x from to h begins ends, some_accepted T x none (munch-took T T.start (drop from text) x (drop to text) h).0)

pub scan_read : {State : Type 0} (T : Automaton State) (xs x q : List ℕ) → lex.token T xs ≡ Some (x, q) → token T xs ≡ Ok (x, q)
scan_read T xs x q h = rw h

pub byte_there : (b : ℕ) (xs ys : List ℕ) → xs ≡ b ∷ ys → byte b xs ≡ Ok ys
unfolding byte
byte_there b xs ys e = rw (e, eq-eqb b b refl)

pub byte_other : (b : ℕ) (xs : List ℕ) → IsNotAt b xs → byte b xs ≡ Err Invalid
unfolding byte
byte_other b [] n = refl
byte_other b (c ∷ xs) n = rw (ne_eqb c b n)

-- items

number_next : (limit : ℕ) (c : ℕ) (xs : List ℕ) → IsNotAt 91 (c ∷ xs) → IsNotAt 123 (c ∷ xs) → IsNotAt 40 (c ∷ xs) → keyword_at (c ∷ xs) ≡ None → starts_string (c ∷ xs) ≡ false → item reads limit (c ∷ xs) ≡ number_item reads limit (c ∷ xs)
unfolding item plain_item
number_next limit c xs a m s w n = rw (ne_eqb c 91 a, ne_eqb c 123 m, ne_eqb c 40 s, w, n) refl

no_number : token number [] ≡ Err Invalid
unfolding munch
no_number = refl

-- where nothing else begins
pub number_at : (limit : ℕ) (xs : List ℕ) → IsNotAt 91 xs → IsNotAt 123 xs → IsNotAt 40 xs → keyword_at xs ≡ None → starts_string xs ≡ false → reads limit OneItem xs ≡ number_item reads limit xs
unfolding item number_item
number_at limit [] a m s w n = reads-rule limit OneItem [] ∙ rw no_number refl
number_at limit (c ∷ xs) a m s w n = reads-rule limit OneItem (c ∷ xs) ∙ number_next limit c xs a m s w n

pub number_fails : (e : Fault Refusal) (limit : ℕ) (xs : List ℕ) → Fails e (token number xs) → Fails e (number_item reads limit xs)
unfolding number_item
number_fails e limit xs h = bind_fails e (token number xs) _ h

other_byte : (c b : ℕ) (xs : List ℕ) → starts_string (c ∷ xs) ≡ true → starts_string (b ∷ xs) ≡ false → eqb c b ≡ false
other_byte c b xs h n = false_from_ne_true (eqb c b) (λ e. both_ways (starts_string (b ∷ xs)) n (rw (eqb-true c b e) at h))

-- neither a keyword nor anything else than a string
abbrev pub Quoted : List ℕ → Type 0
Quoted xs = (keyword_at xs ≡ None) × (starts_string xs ≡ true)

string_next : (limit : ℕ) (c : ℕ) (xs : List ℕ) → Quoted (c ∷ xs) → item reads limit (c ∷ xs) ≡ string_item reads limit (c ∷ xs)
unfolding item plain_item starts_string
string_next limit c xs h = rw (other_byte c 91 xs h.1 refl, other_byte c 123 xs h.1 refl, other_byte c 40 xs h.1 refl, h.0, h.1) refl

pub string_at : (limit : ℕ) (xs : List ℕ) → Quoted xs → reads limit OneItem xs ≡ string_item reads limit xs
unfolding starts_string
string_at limit [] h = absurd (false≢true h.1)
string_at limit (c ∷ xs) h = reads-rule limit OneItem (c ∷ xs) ∙ string_next limit c xs h

pub string_item_fails : (e : Fault Refusal) (limit : ℕ) (xs : List ℕ) → Quoted xs → Fails e (reads limit OneString xs) → Fails e (reads limit OneItem xs)
unfolding string_item
string_item_fails e limit xs s h = fails_at e _ _ (string_at limit xs s) (bind_fails e (reads limit OneString xs) _ h)

pub string_item_read : (limit : ℕ) (xs r : List ℕ) (w : Tree OneString) → Quoted xs → reads limit OneString xs ≡ Ok (w, r) → reads limit OneItem xs ≡ Ok (StringTree w, r)
unfolding string_item
string_item_read limit xs r w s h = string_at limit xs s ∙ bind_ok (reads limit OneString xs) (w, r) _ h

pub stream_at : (limit : ℕ) (xs ys : List ℕ) → xs ≡ 40 ∷ ys → reads limit OneItem xs ≡ stream_item reads limit ys
unfolding item
stream_at limit xs ys e = reads-rule limit OneItem xs ∙ rw e

list_at : (limit : ℕ) (k : Bracketed) (xs ys : List ℕ) → xs ≡ open_byte k ∷ ys → reads limit OneItem xs ≡ list_item reads limit k ys
unfolding item
list_at limit Array xs ys e = reads-rule limit OneItem xs ∙ rw e
list_at limit Map xs ys e = reads-rule limit OneItem xs ∙ rw e

pub list_too_deep : (limit : ℕ) (k : Bracketed) (xs ys : List ℕ) → limit ≡ 0 → xs ≡ open_byte k ∷ ys → reads limit OneItem xs ≡ Err TooDeep
unfolding list_item
list_too_deep limit k xs ys none e = list_at limit k xs ys e ∙ rw none

inside_at : (limit : ℕ) (k : Bracketed) (xs ys : List ℕ) → 0 < limit → xs ≡ open_byte k ∷ ys → reads limit OneItem xs ≡ (reads (limit - 1) (Inside k) ys >>= λ w. byte (close_byte k) w.1 >>= λ r. Ok (ListTree k w.0, r))
unfolding list_item
inside_at zero k xs ys some e = absurd (omega arith)
inside_at (suc limit) k xs ys some e = let same : suc limit - 1 ≡ limit = omega arith in list_at (suc limit) k xs ys e ∙ rw same

pub list_fails : (e : Fault Refusal) (limit : ℕ) (k : Bracketed) (xs ys : List ℕ) → 0 < limit → xs ≡ open_byte k ∷ ys → Fails e (reads (limit - 1) (Inside k) ys) → Fails e (reads limit OneItem xs)
list_fails e limit k xs ys some at h = fails_at e _ _ (inside_at limit k xs ys some at) (bind_fails e (reads (limit - 1) (Inside k) ys) _ h)

pub list_open : (limit : ℕ) (k : Bracketed) (xs ys r : List ℕ) (w : Tree (Inside k)) → 0 < limit → xs ≡ open_byte k ∷ ys → reads (limit - 1) (Inside k) ys ≡ Ok (w, r) → IsNotAt (close_byte k) r → reads limit OneItem xs ≡ Err Invalid
list_open limit k xs ys r w some at h n = inside_at limit k xs ys some at ∙ bind_ok _ (w, r) _ h ∙ bind_fails (Told (record { kind = Invalid; offset = 0 })) (byte (close_byte k) r) (λ q. Ok (ListTree k w, q)) (byte_other (close_byte k) r n)

pub list_read : (limit : ℕ) (k : Bracketed) (xs ys r q : List ℕ) (w : Tree (Inside k)) → 0 < limit → xs ≡ open_byte k ∷ ys → reads (limit - 1) (Inside k) ys ≡ Ok (w, r) → r ≡ close_byte k ∷ q → reads limit OneItem xs ≡ Ok (ListTree k w, q)
list_read limit k xs ys r q w some at h close = inside_at limit k xs ys some at ∙ bind_ok _ (w, r) _ h ∙ bind_ok (byte (close_byte k) r) q (λ q. Ok (ListTree k w, q)) (byte_there (close_byte k) r q close)

-- what stands between brackets

pub inside_fails : (e : Fault Refusal) (limit : ℕ) (k : Bracketed) (xs r : List ℕ) (i : Option Indicator) → indicator_at xs ≡ (i, r) → Fails e (token space r) → Fails e (reads limit (Inside k) xs)
unfolding inside
inside_fails e limit k xs r i at h = fails_at e _ _ (reads-rule limit (Inside k) xs) (bind_fails e (token space (indicator_at xs).1) _ (rw at h))

inside_behind : (limit : ℕ) (k : Bracketed) (xs r s q : List ℕ) (i : Option Indicator) → indicator_at xs ≡ (i, r) → token space r ≡ Ok (s, q) → reads limit (Inside k) xs ≡ cond (is_closed q) (Ok (EmptyTree i s, q)) (inside_full reads limit k i s q)
unfolding inside
inside_behind limit k xs r s q i at h = reads-rule limit (Inside k) xs ∙ rw at (bind_ok (token space r) (s, q) _ h)

pub inside_empty : (limit : ℕ) (k : Bracketed) (xs r s q : List ℕ) (i : Option Indicator) → indicator_at xs ≡ (i, r) → token space r ≡ Ok (s, q) → is_closed q ≡ true → reads limit (Inside k) xs ≡ Ok (EmptyTree i s, q)
inside_empty limit k xs r s q i at h c = inside_behind limit k xs r s q i at h ∙ rw c

inside_open : (limit : ℕ) (k : Bracketed) (xs r s q : List ℕ) (i : Option Indicator) → indicator_at xs ≡ (i, r) → token space r ≡ Ok (s, q) → is_closed q ≡ false → reads limit (Inside k) xs ≡ (list_head_of i s >>= λ h. reads limit (Rest (entries_of k)) q >>= λ m. Ok (FullTree h.0 h.1 m.0, m.1))
unfolding inside_full
inside_open limit k xs r s q i at h c = inside_behind limit k xs r s q i at h ∙ rw c

-- an indicator without the space that it needs
pub inside_unparted : (limit : ℕ) (k : Bracketed) (xs r s q : List ℕ) (i : Option Indicator) → indicator_at xs ≡ (i, r) → token space r ≡ Ok (s, q) → is_closed q ≡ false → list_head_of i s ≡ Err Invalid → reads limit (Inside k) xs ≡ Err Invalid
inside_unparted limit k xs r s q i at h c n = inside_open limit k xs r s q i at h c ∙ bind_fails (Told (record { kind = Invalid; offset = 0 })) (list_head_of i s) _ n

pub inside_rest_fails : (e : Fault Refusal) (limit : ℕ) (k : Bracketed) (xs r s q t : List ℕ) (i : Option Indicator) (head : ListHead) → indicator_at xs ≡ (i, r) → token space r ≡ Ok (s, q) → is_closed q ≡ false → list_head_of i s ≡ Ok (head, t) → Fails e (reads limit (Rest (entries_of k)) q) → Fails e (reads limit (Inside k) xs)
inside_rest_fails e limit k xs r s q t i head at h c o f = fails_at e _ _ (inside_open limit k xs r s q i at h c ∙ bind_ok (list_head_of i s) (head, t) _ o) (bind_fails e (reads limit (Rest (entries_of k)) q) _ f)

pub inside_read : (limit : ℕ) (k : Bracketed) (xs r s q t p : List ℕ) (i : Option Indicator) (head : ListHead) (m : Tree (Rest (entries_of k))) → indicator_at xs ≡ (i, r) → token space r ≡ Ok (s, q) → is_closed q ≡ false → list_head_of i s ≡ Ok (head, t) → reads limit (Rest (entries_of k)) q ≡ Ok (m, p) → reads limit (Inside k) xs ≡ Ok (FullTree head t m, p)
inside_read limit k xs r s q t p i head m at h c o f = inside_open limit k xs r s q i at h c ∙ bind_ok (list_head_of i s) (head, t) _ o ∙ bind_ok (reads limit (Rest (entries_of k)) q) (m, p) _ f

-- the entries of arrays and maps

pub element_read : (limit : ℕ) (xs r : List ℕ) (w : Tree OneItem) → reads limit OneItem xs ≡ Ok (w, r) → reads limit (OneEntry Elements) xs ≡ Ok (ElementTree w, r)
unfolding entry
element_read limit xs r w h = reads-rule limit (OneEntry Elements) xs ∙ bind_ok (reads limit OneItem xs) (w, r) _ h

pub element_fails : (e : Fault Refusal) (limit : ℕ) (xs : List ℕ) → Fails e (reads limit OneItem xs) → Fails e (reads limit (OneEntry Elements) xs)
unfolding entry
element_fails e limit xs h = fails_at e _ _ (reads-rule limit (OneEntry Elements) xs) (bind_fails e (reads limit OneItem xs) _ h)

-- a pair behind its key, behind the space there, behind the colon, and behind the space there
abbrev BehindKey : ℕ → Tree OneItem → List ℕ → Read (Tree (OneEntry Pairs))
BehindKey limit v xs = token space xs >>= λ s. byte 58 s.1 >>= λ r. token space r >>= λ t. reads limit OneItem t.1 >>= λ w. Ok (PairTree v s.0 t.0 w.0, w.1)

pub pair_fails : (e : Fault Refusal) (limit : ℕ) (xs : List ℕ) → Fails e (reads limit OneItem xs) → Fails e (reads limit (OneEntry Pairs) xs)
unfolding entry
pair_fails e limit xs h = fails_at e _ _ (reads-rule limit (OneEntry Pairs) xs) (bind_fails e (reads limit OneItem xs) _ h)

behind_key : (limit : ℕ) (xs r : List ℕ) (v : Tree OneItem) → reads limit OneItem xs ≡ Ok (v, r) → reads limit (OneEntry Pairs) xs ≡ BehindKey limit v r
unfolding entry
behind_key limit xs r v h = reads-rule limit (OneEntry Pairs) xs ∙ bind_ok (reads limit OneItem xs) (v, r) _ h

pub pair_fails_before : (e : Fault Refusal) (limit : ℕ) (xs r : List ℕ) (v : Tree OneItem) → reads limit OneItem xs ≡ Ok (v, r) → Fails e (token space r) → Fails e (reads limit (OneEntry Pairs) xs)
pair_fails_before e limit xs r v h t = fails_at e _ _ (behind_key limit xs r v h) (bind_fails e (token space r) _ t)

before_colon : (limit : ℕ) (xs r s q : List ℕ) (v : Tree OneItem) → reads limit OneItem xs ≡ Ok (v, r) → token space r ≡ Ok (s, q) → reads limit (OneEntry Pairs) xs ≡ (byte 58 q >>= λ r. token space r >>= λ t. reads limit OneItem t.1 >>= λ w. Ok (PairTree v s t.0 w.0, w.1))
before_colon limit xs r s q v h t = behind_key limit xs r v h ∙ bind_ok (token space r) (s, q) _ t

pub pair_no_colon : (limit : ℕ) (xs r s q : List ℕ) (v : Tree OneItem) → reads limit OneItem xs ≡ Ok (v, r) → token space r ≡ Ok (s, q) → IsNotAt 58 q → reads limit (OneEntry Pairs) xs ≡ Err Invalid
pair_no_colon limit xs r s q v h t n = before_colon limit xs r s q v h t ∙ bind_fails (Told (record { kind = Invalid; offset = 0 })) (byte 58 q) _ (byte_other 58 q n)

pub pair_behind_colon : (limit : ℕ) (xs r s q p : List ℕ) (v : Tree OneItem) → reads limit OneItem xs ≡ Ok (v, r) → token space r ≡ Ok (s, q) → q ≡ 58 ∷ p → reads limit (OneEntry Pairs) xs ≡ behind_colon limit v s p
pair_behind_colon limit xs r s q p v h t c = before_colon limit xs r s q v h t ∙ bind_ok (byte 58 q) p _ (byte_there 58 q p c)

pub value_fails_before : (e : Fault Refusal) (limit : ℕ) (v : Tree OneItem) (s xs : List ℕ) → Fails e (token space xs) → Fails e (behind_colon limit v s xs)
value_fails_before e limit v s xs f = bind_fails e (token space xs) _ f

before_value : (limit : ℕ) (v : Tree OneItem) (s xs u o : List ℕ) → token space xs ≡ Ok (u, o) → behind_colon limit v s xs ≡ (reads limit OneItem o >>= λ w. Ok (PairTree v s u w.0, w.1))
before_value limit v s xs u o a = bind_ok (token space xs) (u, o) _ a

pub value_fails : (e : Fault Refusal) (limit : ℕ) (v : Tree OneItem) (s xs u o : List ℕ) → token space xs ≡ Ok (u, o) → Fails e (reads limit OneItem o) → Fails e (behind_colon limit v s xs)
value_fails e limit v s xs u o a f = fails_at e _ _ (before_value limit v s xs u o a) (bind_fails e (reads limit OneItem o) _ f)

pub value_read : (limit : ℕ) (v w : Tree OneItem) (s xs u o z : List ℕ) → token space xs ≡ Ok (u, o) → reads limit OneItem o ≡ Ok (w, z) → behind_colon limit v s xs ≡ Ok (PairTree v s u w, z)
value_read limit v w s xs u o z a f = before_value limit v s xs u o a ∙ bind_ok (reads limit OneItem o) (w, z) _ f

-- entries, one or more

pub with_separator_fails : (e : Fault Refusal) (limit : ℕ) (k : Row) (xs : List ℕ) → Fails e (reads limit (OneEntry k) xs) → Fails e (with_separator limit k xs)
with_separator_fails e limit k xs h = bind_fails e (reads limit (OneEntry k) xs) _ h

with_separator_behind : (limit : ℕ) (k : Row) (xs r : List ℕ) (w : Tree (OneEntry k)) → reads limit (OneEntry k) xs ≡ Ok (w, r) → with_separator limit k xs ≡ (token separator r >>= λ s. Ok ((w, s.0), s.1))
with_separator_behind limit k xs r w h = bind_ok (reads limit (OneEntry k) xs) (w, r) _ h

pub with_separator_fails_behind : (e : Fault Refusal) (limit : ℕ) (k : Row) (xs r : List ℕ) (w : Tree (OneEntry k)) → reads limit (OneEntry k) xs ≡ Ok (w, r) → Fails e (token separator r) → Fails e (with_separator limit k xs)
with_separator_fails_behind e limit k xs r w h t = fails_at e _ _ (with_separator_behind limit k xs r w h) (bind_fails e (token separator r) _ t)

pub with_separator_read : (limit : ℕ) (k : Row) (xs r s q : List ℕ) (w : Tree (OneEntry k)) → reads limit (OneEntry k) xs ≡ Ok (w, r) → token separator r ≡ Ok (s, q) → with_separator limit k xs ≡ Ok ((w, s), q)
with_separator_read limit k xs r s q w h t = with_separator_behind limit k xs r w h ∙ bind_ok (token separator r) (s, q) _ t

-- the same of an entry that was handed on
pub with_separator_entry : {X : Type 0} {k : Row} (view : X → Tree (OneEntry k)) (limit : ℕ) (xs r s q : List ℕ) (x y : X) → y ≡ x → reads limit (OneEntry k) xs ≡ Ok (view x, r) → token separator r ≡ Ok (s, q) → with_separator limit k xs ≡ Ok ((view y, s), q)
with_separator_entry {k} view limit xs r s q x y same h t = with_separator_read limit k xs r s q (view y) (h ∙ ap (λ z. Ok (view z, r)) (sym same)) t

-- behind an entry and its separator
abbrev Behind : (limit : ℕ) (k : Row) → (Tree (OneEntry k) × List ℕ) × List ℕ → Read (Tree (Rest k))
Behind limit k p = cond (is_closed p.1) (Ok (LastTree p.0.0 p.0.1, p.1)) (more reads limit k p.0.0 p.0.1 p.1)

bind_once : {B C D : Type 0} (r : Result B ParseErrorKind) (g : B → C) (h : C → Result D ParseErrorKind) → (r >>= λ b. h (g b)) ≡ ((r >>= λ b. Ok (g b)) >>= h)
bind_once (Err e) g h = refl
bind_once (Ok b) g h = refl

bind_twice : {A B C D : Type 0} (r : Result A ParseErrorKind) (f : A → Result B ParseErrorKind) (g : A → B → C) (h : C → Result D ParseErrorKind) → (r >>= λ a. f a >>= λ b. h (g a b)) ≡ ((r >>= λ a. f a >>= λ b. Ok (g a b)) >>= h)
bind_twice (Err e) f g h = refl
bind_twice (Ok a) f g h = bind_once (f a) (g a) h

rest_with_separator : (limit : ℕ) (k : Row) (xs : List ℕ) → reads limit (Rest k) xs ≡ (with_separator limit k xs >>= Behind limit k)
unfolding rest
rest_with_separator limit k xs = reads-rule limit (Rest k) xs ∙ bind_twice (reads limit (OneEntry k) xs) (λ e. token separator e.1) (λ e s. ((e.0, s.0), s.1)) (Behind limit k)

rest_fails : (e : Fault Refusal) (limit : ℕ) (k : Row) (xs : List ℕ) → Fails e (with_separator limit k xs) → Fails e (reads limit (Rest k) xs)
rest_fails e limit k xs h = fails_at e _ _ (rest_with_separator limit k xs) (bind_fails e (with_separator limit k xs) _ h)

rest_behind : (limit : ℕ) (k : Row) (xs s q : List ℕ) (w : Tree (OneEntry k)) → with_separator limit k xs ≡ Ok ((w, s), q) → reads limit (Rest k) xs ≡ Behind limit k ((w, s), q)
rest_behind limit k xs s q w h = rest_with_separator limit k xs ∙ bind_ok (with_separator limit k xs) ((w, s), q) _ h

rest_last : (limit : ℕ) (k : Row) (xs s q : List ℕ) (w : Tree (OneEntry k)) → with_separator limit k xs ≡ Ok ((w, s), q) → is_closed q ≡ true → reads limit (Rest k) xs ≡ Ok (LastTree w s, q)
rest_last limit k xs s q w h c = rest_behind limit k xs s q w h ∙ rw c refl

rest_open : (limit : ℕ) (k : Row) (xs s q : List ℕ) (w : Tree (OneEntry k)) → with_separator limit k xs ≡ Ok ((w, s), q) → is_closed q ≡ false → reads limit (Rest k) xs ≡ more reads limit k w s q
rest_open limit k xs s q w h c = rest_behind limit k xs s q w h ∙ rw c refl

rest_unparted : (limit : ℕ) (k : Row) (xs s q : List ℕ) (w : Tree (OneEntry k)) → with_separator limit k xs ≡ Ok ((w, s), q) → s ≡ [] → is_closed q ≡ false → reads limit (Rest k) xs ≡ Err Invalid
unfolding more not_empty
rest_unparted limit k xs s q w h none c = rest_open limit k xs s q w h c ∙ rw none refl

-- what stands behind an entry, refused in front of another one

pub parted_fails : (e : Fault Refusal) (xs : List ℕ) → Fails e (token separator xs) → Fails e (parted xs)
parted_fails e xs h = bind_fails e (token separator xs) _ h

pub parted_empty : (xs s q : List ℕ) → token separator xs ≡ Ok (s, q) → is_closed q ≡ false → s ≡ [] → parted xs ≡ Err Invalid
unfolding not_empty
parted_empty xs s q h c none = bind_ok (token separator xs) (s, q) _ h ∙ rw (c, none) refl

same_keyword : {A : Type 0} (r : Result A ParseErrorKind) (e keyword : ParseErrorKind) → r ≡ Err keyword → r ≡ Err e → e ≡ keyword
same_keyword r e keyword h a = cc

no_keyword : {A : Type 0} (r : Result A ParseErrorKind) (x : A) (keyword : ParseErrorKind) → r ≡ Err keyword → r ≡ Ok x → ⊥
no_keyword r x keyword h a = cc

-- behind the separator of an entry, by whether the row is at its end: the separator as it is told, and what is read
abbrev told : Bool → List ℕ × List ℕ → Read (List ℕ)
told closed s = cond closed (Ok s) (filled s)

module _ (limit : ℕ) (k : Row) (w : Tree (OneEntry k)) where
  abbrev handed : List ℕ × List ℕ → Read (Tree (OneEntry k) × List ℕ)
  handed s = Ok ((w, s.0), s.1)

  abbrev ended : Bool → List ℕ × List ℕ → Read (Tree (Rest k))
  ended closed s = cond closed (Ok (LastTree w s.0, s.1)) (more reads limit k w s.0 s.1)

  more_told : (keyword : ParseErrorKind) (s q : List ℕ) → filled (s, q) ≡ Err keyword → more reads limit k w s q ≡ Err keyword
  unfolding more not_empty
  more_told keyword [] q h = ap (λ (x : ParseErrorKind). Err x) (same_keyword (filled ([], q)) Invalid keyword h refl)
  more_told keyword (c ∷ s) q h = absurd (no_keyword (filled (c ∷ s, q)) (c ∷ s, q) keyword h refl)

  ended_told : (keyword : ParseErrorKind) (s : List ℕ × List ℕ) (closed : Bool) → told closed s ≡ Err keyword → ended closed s ≡ Err keyword
  ended_told keyword s true h = absurd (no_keyword (told true s) s keyword h refl)
  ended_told keyword s false h = more_told keyword s.0 s.1 h

  separator_told : (keyword : ParseErrorKind) (t : Read (List ℕ)) → (t >>= λ s. told (is_closed s.1) s) ≡ Err keyword → ((t >>= handed) >>= Behind limit k) ≡ Err keyword
  separator_told keyword (Err e) h = ap (λ (x : ParseErrorKind). Err x) (same_keyword _ e keyword h refl)
  separator_told keyword (Ok s) h = ended_told keyword s (is_closed s.1) h

rest_stops : (e : Fault Refusal) (limit : ℕ) (k : Row) (xs r : List ℕ) (w : Tree (OneEntry k)) → reads limit (OneEntry k) xs ≡ Ok (w, r) → Fails e (parted r) → Fails e (reads limit (Rest k) xs)
rest_stops (Memory m) limit k xs r w h f = tt
rest_stops (Told x) limit k xs r w h f =
    rest_with_separator limit k xs
    ∙ (ap (λ (o : Read (Tree (OneEntry k) × List ℕ)). o >>= Behind limit k) (with_separator_behind limit k xs r w h) ∙ separator_told limit k w x.kind (token separator r) f)

more_of : (limit : ℕ) (k : Row) (e : Tree (OneEntry k)) (s q : List ℕ) → s ≢ [] → more reads limit k e s q ≡ (reads limit (Rest k) q >>= λ m. Ok (MoreTree e s m.0, m.1))
unfolding more not_empty
more_of limit k e [] q n = absurd (n refl)
more_of limit k e (c ∷ s) q n = refl

-- entries so far, each with the separator behind it, in front of what is read next
abbrev pub with_row : {k : Row} → List (Tree (OneEntry k) × List ℕ) → Read (Tree (Rest k)) → Read (Tree (Rest k))
with_row ps (Ok p) = Ok (entries_onto ps p.0, p.1)
with_row ps (Err e) = Err e

with_fails : {k : Row} (e : Fault Refusal) (ps : List (Tree (OneEntry k) × List ℕ)) (r : Read (Tree (Rest k))) → Fails e r → Fails e (with_row ps r)
with_fails (Memory m) ps r h = tt
with_fails (Told x) ps r h = rw h

row_push : {k : Row} (ps : List (Tree (OneEntry k) × List ℕ)) (p : Tree (OneEntry k) × List ℕ) (m : Tree (Rest k)) → entries_onto ps (MoreTree p.0 p.1 m) ≡ entries_onto (ps ++ p ∷ []) m
row_push [] p m = refl
row_push (q ∷ ps) p m = ap (MoreTree q.0 q.1) (row_push ps p m)

with_push : {k : Row} (ps : List (Tree (OneEntry k) × List ℕ)) (p : Tree (OneEntry k) × List ℕ) (r : Read (Tree (Rest k))) → with_row ps (r >>= λ m. Ok (MoreTree p.0 p.1 m.0, m.1)) ≡ with_row (ps ++ p ∷ []) r
with_push {k} ps p (Ok m) = ap (λ (t : Tree (Rest k)). Ok (t, m.1)) (row_push ps p m.0)
with_push ps p (Err e) = refl

-- entries of declared values, and one more
pub with_more : {A : Type 0} {k : Row} (f : A → Tree (OneEntry k) × List ℕ) (xs : List A) (x : A) (w : Tree (OneEntry k)) (s : List ℕ) (r : Read (Tree (Rest k))) → f x ≡ (w, s) → with_row (map f xs ++ (w, s) ∷ []) r ≡ with_row (map f (xs ++ x ∷ [])) r
with_more f xs x w s r is = ap (λ ps. with_row ps r) (sym (map-append f xs (x ∷ []) ∙ ap (λ p. map f xs ++ p ∷ []) is))

-- The turns of a loop over entries, with those so far.
module _ (limit : ℕ) (k : Row) (total : Read (Tree (Rest k))) (ps : List (Tree (OneEntry k) × List ℕ)) (xs : List ℕ) (so_far : total ≡ with_row ps (reads limit (Rest k) xs)) where
  -- an entry or its separator is refused
  pub turn_fails : (e : Fault Refusal) → Fails e (with_separator limit k xs) → Fails e total
  turn_fails e h = fails_at e _ _ so_far (with_fails e ps _ (rest_fails e limit k xs h))

  -- what stands behind an entry is refused, or memory for one more
  pub turn_stops : (e : Fault Refusal) (r : List ℕ) (w : Tree (OneEntry k)) → reads limit (OneEntry k) xs ≡ Ok (w, r) → Fails e (parted r) → Fails e total
  turn_stops e r w h f = fails_at e _ _ so_far (with_fails e ps _ (rest_stops e limit k xs r w h f))

  module _ (w : Tree (OneEntry k)) (s q : List ℕ) (h : with_separator limit k xs ≡ Ok ((w, s), q)) where
    -- the last entry
    pub turn_last : is_closed q ≡ true → total ≡ Ok (entries_onto ps (LastTree w s), q)
    turn_last c = so_far ∙ ap (with_row ps) (rest_last limit k xs s q w h c)

    -- nothing between two entries
    pub turn_unparted : s ≡ [] → is_closed q ≡ false → total ≡ Err Invalid
    turn_unparted none c = so_far ∙ ap (with_row ps) (rest_unparted limit k xs s q w h none c)

    -- nothing between two entries, or no memory for one more
    pub turn_refused : (e : Fault Refusal) (at : ℕ) → IfTold {X = Unit {0}} (Err e) (λ r. (s ≡ []) × (r ≡ record { kind = Invalid; offset = at })) → is_closed q ≡ false → Fails e total
    turn_refused (Memory m) at h c = tt
    turn_refused (Told r) at h c = turn_unparted h.0 c ∙ ap (λ (x : Refusal). Err x.kind) (sym h.1)

    -- one entry more
    pub turn_more : s ≢ [] → is_closed q ≡ false → total ≡ with_row (ps ++ (w, s) ∷ []) (reads limit (Rest k) q)
    turn_more n c =
        so_far ∙ ap (with_row ps) (rest_open limit k xs s q w h c ∙ more_of limit k w s q n)
        ∙ with_push ps (w, s) (reads limit (Rest k) q)

-- the whole of a sequence

pub sequence_fails : (e : Fault Refusal) (limit : ℕ) (xs : List ℕ) → Fails e (token space xs) → Fails e (reads limit Seq xs)
unfolding sequence
sequence_fails e limit xs h = fails_at e _ _ (reads-rule limit Seq xs) (bind_fails e (token space xs) _ h)

sequence_behind : (limit : ℕ) (xs s r : List ℕ) → token space xs ≡ Ok (s, r) → reads limit Seq xs ≡ cond (is_closed r) (Ok (NothingTree s, r)) (reads limit (Rest Elements) r >>= λ m. Ok (SequenceTree s m.0, m.1))
unfolding sequence
sequence_behind limit xs s r h = reads-rule limit Seq xs ∙ bind_ok (token space xs) (s, r) _ h

pub sequence_empty : (limit : ℕ) (xs s r : List ℕ) → token space xs ≡ Ok (s, r) → is_closed r ≡ true → reads limit Seq xs ≡ Ok (NothingTree s, r)
sequence_empty limit xs s r h c = sequence_behind limit xs s r h ∙ rw c

pub sequence_rest_fails : (e : Fault Refusal) (limit : ℕ) (xs s r : List ℕ) → token space xs ≡ Ok (s, r) → is_closed r ≡ false → Fails e (reads limit (Rest Elements) r) → Fails e (reads limit Seq xs)
sequence_rest_fails e limit xs s r h c t = fails_at e (reads limit (Rest Elements) r >>= λ m. Ok (SequenceTree s m.0, m.1)) _ (sequence_behind limit xs s r h ∙ rw c) (bind_fails e (reads limit (Rest Elements) r) _ t)

pub sequence_full : (limit : ℕ) (xs s r q : List ℕ) (m : Tree (Rest Elements)) → token space xs ≡ Ok (s, r) → is_closed r ≡ false → reads limit (Rest Elements) r ≡ Ok (m, q) → reads limit Seq xs ≡ Ok (SequenceTree s m, q)
sequence_full limit xs s r q m h c t = sequence_behind limit xs s r h ∙ rw c (bind_ok (reads limit (Rest Elements) r) (m, q) _ t)

-- an item between spaces

pub standalone_fails : (e : Fault Refusal) (limit : ℕ) (xs : List ℕ) → Fails e (token space xs) → Fails e (reads limit Standalone xs)
unfolding standalone
standalone_fails e limit xs h = fails_at e _ _ (reads-rule limit Standalone xs) (bind_fails e (token space xs) _ h)

standalone_behind : (limit : ℕ) (xs s r : List ℕ) → token space xs ≡ Ok (s, r) → reads limit Standalone xs ≡ (reads limit OneItem r >>= λ w. token space w.1 >>= λ t. Ok (StandaloneTree s w.0 t.0, t.1))
unfolding standalone
standalone_behind limit xs s r h = reads-rule limit Standalone xs ∙ bind_ok (token space xs) (s, r) _ h

pub standalone_fails_item : (e : Fault Refusal) (limit : ℕ) (xs s r : List ℕ) → token space xs ≡ Ok (s, r) → Fails e (reads limit OneItem r) → Fails e (reads limit Standalone xs)
standalone_fails_item e limit xs s r h t = fails_at e _ _ (standalone_behind limit xs s r h) (bind_fails e (reads limit OneItem r) _ t)

standalone_item : (limit : ℕ) (xs s r q : List ℕ) (w : Tree OneItem) → token space xs ≡ Ok (s, r) → reads limit OneItem r ≡ Ok (w, q) → reads limit Standalone xs ≡ (token space q >>= λ t. Ok (StandaloneTree s w t.0, t.1))
standalone_item limit xs s r q w h t = standalone_behind limit xs s r h ∙ bind_ok (reads limit OneItem r) (w, q) _ t

pub standalone_fails_after : (e : Fault Refusal) (limit : ℕ) (xs s r q : List ℕ) (w : Tree OneItem) → token space xs ≡ Ok (s, r) → reads limit OneItem r ≡ Ok (w, q) → Fails e (token space q) → Fails e (reads limit Standalone xs)
standalone_fails_after e limit xs s r q w h t u = fails_at e _ _ (standalone_item limit xs s r q w h t) (bind_fails e (token space q) _ u)

pub standalone_read : (limit : ℕ) (xs s r q a p : List ℕ) (w : Tree OneItem) → token space xs ≡ Ok (s, r) → reads limit OneItem r ≡ Ok (w, q) → token space q ≡ Ok (a, p) → reads limit Standalone xs ≡ Ok (StandaloneTree s w a, p)
standalone_read limit xs s r q a p w h t u = standalone_item limit xs s r q w h t ∙ bind_ok (token space q) (a, p) _ u

-- all of a text

pub whole_fails : (e : Fault Refusal) (limit : ℕ) (s : Rule) (xs : List ℕ) → Fails e (reads limit s xs) → Fails e (reads_all limit s xs)
unfolding reads_all
whole_fails e limit s xs h = bind_fails e (reads limit s xs) at_end h

pub whole_trails : (limit : ℕ) (s : Rule) (xs r : List ℕ) (w : Tree s) → reads limit s xs ≡ Ok (w, r) → 0 < length r → reads_all limit s xs ≡ Err Invalid
unfolding reads_all
whole_trails limit s xs [] w h some = absurd (omega arith)
whole_trails limit s xs (c ∷ r) w h some = bind_ok (reads limit s xs) (w, c ∷ r) at_end h

pub whole_read : (limit : ℕ) (s : Rule) (xs r : List ℕ) (w : Tree s) → reads limit s xs ≡ Ok (w, r) → r ≡ [] → reads_all limit s xs ≡ Ok w
unfolding reads_all
whole_read limit s xs r w h none = bind_ok (reads limit s xs) (w, r) at_end h ∙ rw none
