-- What strings and items begin with, and where no plus sign joins what follows an item.
use Rattle.std.proofs.Common.{ℕ, List, [], ◌∷◌, ◌++◌, ◌≡◌, ◌≤◌, refl, ap, sym, ◌∙◌, arith, append_assoc}
use Rattle.std.specs.Prelude.{Bool, true, false, not, cond, eqb, ◌||◌, ◌&&◌, Option, Some, None}
use Rattle.std.proofs.lemmas.Bool.{agree_below, agree_below_at, and_parts, and_left, or_left, both_ways, eqb-true, false_from_ne_true}
use Rattle.std.proofs.lemmas.Bool.Decides.{nat_tests}
use Rattle.std.proofs.lemmas.Option.{same_Some}
use Rattle.cbor_edn_parts.specs.base.Bytes.{kind, follows, closing, begins, Follow, Closes, Begins}
use Rattle.cbor_edn_parts.specs.declared.base.bytes.Kind.{Kind}
use Rattle.cbor_edn_parts.specs.declared.base.bytes.Kind.TheVariants.{Control, Open, Less, Quote, Plus, Zero, One, TwoToSeven, EightOrNine, Dot, B, E, HexLetter, O, P, X, Letter}
use Rattle.std.specs.Fmt.{decimal}
use Rattle.cbor_edn_parts.specs.base.Indicator.{indicator_text}
use Rattle.cbor_edn_parts.specs.internal.Lex.{Accepts, Is, munch}
use Rattle.cbor_edn_parts.specs.space.Space.{IsListEnd, space as space_alone, comma}
use Rattle.cbor_edn_parts.specs.internal.SpaceTokens.{space, is_space, is_list_end, is_separator}
use Rattle.cbor_edn_parts.specs.number.Number.{Decimal}
use Rattle.cbor_edn_parts.specs.internal.NumberTokens.{number, number_step, is_number}
use Rattle.cbor_edn_parts.specs.internal.LiteralTokens.{literal, ellipsis, literal_step, ellipsis_step, next_dot, is_lower, is_upper, is_literal, is_ellipsis}
use Rattle.cbor_edn_parts.specs.internal.LiteralTokens as tokens
use Rattle.cbor_edn_parts.specs.declared.number.NumberState.{NumberState}
use Rattle.cbor_edn_parts.specs.declared.number.NumberState.TheVariants.{Start, Signed, Point}
use Rattle.cbor_edn_parts.specs.declared.string.LiteralState.TheVariants as in_literal
use Rattle.cbor_edn_parts.specs.declared.string.EllipsisState.{EllipsisState}
use Rattle.cbor_edn_parts.specs.declared.string.EllipsisState.TheVariants as in_ellipsis
use Rattle.cbor_edn_model.specs.tree.Items.{Row, Array, Map}
use Rattle.cbor_edn_model.specs.tree.Trees.{OneItem, OnePiece, OneString, OneEntry, Rest, Tree, NumberTree, FloatTree, NamedTree, EnclosedTree, ListTree, StringTree, StreamTree, LiteralTree, EllipsisTree, EmbeddedTree, LastPieceTree, PlusTree, ElementTree, PairTree, ChunkTree, LastTree, MoreTree, onto, starts_digits, starts_number, joins, NoPlus, Next}
use Rattle.cbor_edn_model.proofs.lemmas.text.Tested.{Tested}
use Rattle.cbor_edn_model.specs.declared.text.opener.OpenerKind.TheVariants as opener
use Rattle.cbor_edn_model.specs.declared.text.keyword.NamedSimple.TheVariants.{False}
use Rattle.cbor_edn_model.specs.declared.text.keyword.NonFinite.TheVariants.{Infinity}
use Rattle.cbor_edn_model.specs.internal.Reading.{starts_with, starts_string}
use Rattle.cbor_edn_parts.proofs.lemmas.base.ByteKinds.{is_digit, at_each, differs}
use Rattle.cbor_edn_parts.proofs.lemmas.base.Tokens.{munch-again, token_texts}
use Rattle.cbor_edn_parts.proofs.lemmas.space.SpaceTexts.{optional_texts, at_end_texts}
use Rattle.cbor_edn_model.proofs.lemmas.text.TagNumbers.{tag_digits}
use Rattle.cbor_edn_model.proofs.lemmas.text.Follows.{numeric, quoted, numeric-begins, numeric_start, number_some, Solid, Spaceless, solid_spaceless, halts_space, closes_solid, closes_follow, begins_solid, space_before, space_follow, separator_follow, separating_follow, colon_solid, colon_follow}

-- Tests of bytes as tests of their kinds.
by_kind : (f : Kind → Bool) (g : ℕ → Bool) → agree_below (λ c. f (kind c)) g 256 ≡ true → f Control ≡ false → ((c : ℕ) → 256 ≤ c → g c ≡ false) → (c : ℕ) → f (kind c) ≡ g c
by_kind f g agree none far = at_each f g (λ c small. agree_below_at (λ c. f (kind c)) g 256 c agree small) none far

abbrev plus : Kind → Bool
plus Plus = true
plus _ = false

abbrev dot : Kind → Bool
dot Dot = true
dot _ = false

plus_byte : (c : ℕ) → plus (kind c) ≡ eqb c 43
unfolding kind
plus_byte = by_kind plus (λ c. eqb c 43) refl refl (λ c far. grind (arith, nat_tests))

dot_byte : (c : ℕ) → dot (kind c) ≡ eqb c 46
unfolding kind
dot_byte = by_kind dot (λ c. eqb c 46) refl refl (λ c far. grind (arith, nat_tests))

pub digit_byte : (c : ℕ) → is_digit Decimal (kind c) ≡ tokens.is_digit c
unfolding kind
digit_byte = by_kind (is_digit Decimal) tokens.is_digit refl refl (λ c far. grind (arith, nat_tests))

abbrev pub quoted_at : ℕ → Bool
quoted_at c = eqb c 34 || eqb c 39 || eqb c 60 || is_lower c || is_upper c

pub quoted_byte : (c : ℕ) → quoted (kind c) ≡ quoted_at c
unfolding kind
quoted_byte = by_kind quoted quoted_at refl refl (λ c far. grind (arith, nat_tests))

-- ---- numbers

point_next : (k : Kind) (n : NumberState) → number_step k Point ≡ Some n → is_digit Decimal k ≡ true
point_next Zero n h = refl
point_next One n h = refl
point_next TwoToSeven n h = refl
point_next EightOrNine n h = refl
point_next _ n h = cc

point_digit : (x r : List ℕ) → Accepts number Point x → starts_digits (x ++ r) ≡ true
point_digit [] r v = cc
point_digit (d ∷ x) r v = sym (digit_byte d) ∙ point_next (kind d) v.0 v.1

point_dotless : (x r : List ℕ) → Accepts number Point x → starts_with 46 (x ++ r) ≡ false
unfolding kind
point_dotless [] r v = cc
point_dotless (d ∷ x) r v = differs (is_digit Decimal) d 46 (point_next (kind d) v.0 v.1) refl

-- whether a text whose first byte is of a kind begins as a number without sign
abbrev number_at : Kind → List ℕ → Bool
number_at k r = is_digit Decimal k || (dot k && starts_digits r)

starts_number_at : (c : ℕ) (r : List ℕ) → starts_number (c ∷ r) ≡ number_at (kind c) r
starts_number_at c r = rw (digit_byte c, dot_byte c)

signed_next : (k : Kind) (n : NumberState) (x r : List ℕ) → number_step k Signed ≡ Some n → Accepts number n x → number_at k (x ++ r) ≡ true
signed_next Zero n x r h v = refl
signed_next One n x r h v = refl
signed_next TwoToSeven n x r h v = refl
signed_next EightOrNine n x r h v = refl
signed_next Dot n x r h v = point_digit x r (rw (sym (same_Some _ _ h)) at v)
signed_next _ n x r h v = cc

pub signed_digit : (x r : List ℕ) → Accepts number Signed x → starts_number (x ++ r) ≡ true
signed_digit [] r v = cc
signed_digit (d ∷ x) r v = starts_number_at d (x ++ r) ∙ signed_next (kind d) v.0 x r v.1 v.2

joins_first : (k : Kind) (n : NumberState) (x r : List ℕ) → number_step k Start ≡ Some n → Accepts number n x → (plus k && not (starts_number (x ++ r))) ≡ false
joins_first Plus n x r e v = ap not (signed_digit x r (rw (sym (same_Some _ _ e)) at v))
joins_first _ n x r e v = refl

-- whether a text whose first byte is of a kind begins a string
abbrev string_at : Kind → List ℕ → Bool
string_at k r = quoted k || (dot k && starts_with 46 r)

starts_string_at : (c : ℕ) (r : List ℕ) → starts_string (c ∷ r) ≡ string_at (kind c) r
unfolding starts_string
starts_string_at c r = rw (quoted_byte c, dot_byte c)

string_first : (k : Kind) (n : NumberState) (x r : List ℕ) → number_step k Start ≡ Some n → Accepts number n x → string_at k (x ++ r) ≡ false
string_first Dot n x r e v = point_dotless x r (rw (sym (same_Some _ _ e)) at v)
string_first _ n x r e v = cc

-- A number's plus sign joins nothing.
pub number_joins : (c : ℕ) (x r : List ℕ) → is_number (c ∷ x) ≡ true → joins (c ∷ (x ++ r)) ≡ false
unfolding joins
number_joins c x r v = let a = (token_texts number (c ∷ x)).1 v in rw (← plus_byte c) (joins_first (kind c) a.0 x r a.1 a.2)

pub number_stringless : (c : ℕ) (x r : List ℕ) → is_number (c ∷ x) ≡ true → starts_string (c ∷ (x ++ r)) ≡ false
number_stringless c x r v = let a = (token_texts number (c ∷ x)).1 v in starts_string_at c (x ++ r) ∙ string_first (kind c) a.0 x r a.1 a.2

-- ---- strings

literal_by : {A : Type 0} (double single less lower upper : Bool) (a b c d : A) (n : A) → cond double (Some a) (cond single (Some b) (cond lower (Some c) (cond upper (Some d) None))) ≡ Some n → (double || single || less || lower || upper) ≡ true
literal_by true single less lower upper a b c d n e = refl
literal_by false true less lower upper a b c d n e = refl
literal_by false false true lower upper a b c d n e = refl
literal_by false false false true upper a b c d n e = refl
literal_by false false false false true a b c d n e = refl
literal_by false false false false false a b c d n e = cc

-- what a literal begins with
pub literal_begins : (c : ℕ) (x r : List ℕ) → is_literal (c ∷ x) ≡ true → starts_string (c ∷ r) ≡ true
unfolding starts_string
literal_begins c x r v = let a = (token_texts literal (c ∷ x)).1 v in or_left (quoted_at c) _ (literal_by (eqb c 34) (eqb c 39) (eqb c 60) (is_lower c) (is_upper c) _ _ _ _ a.0 a.1)

pub literal_some : is_literal [] ≡ true → ⊥
unfolding munch
literal_some v = both_ways false refl v

-- and what it does not
pub literal_differs : (b c : ℕ) (x : List ℕ) → literal_step b in_literal.Start ≡ None → is_literal (c ∷ x) ≡ true → eqb c b ≡ false
literal_differs b c x n v = let a = (token_texts literal (c ∷ x)).1 v in false_from_ne_true (eqb c b) (λ e. none_some (sym n ∙ (ap (λ d. literal_step d in_literal.Start) (sym (eqb-true c b e)) ∙ a.1)))
  where
    none_some : {A : Type 0} {x : A} → ◌≡◌ {A = Option A} None (Some x) → ⊥
    none_some e = absurd (cc)

dot_step : (c : ℕ) (m n : EllipsisState) → ellipsis_step c m ≡ Some n → (c ≡ 46) × (n ≡ next_dot m)
dot_step c m n e = by (eqb c 46) refl e
  where
    by : (b : Bool) → eqb c 46 ≡ b → cond b (Some (next_dot m)) None ≡ Some n → (c ≡ 46) × (n ≡ next_dot m)
    by true t e = (eqb-true c 46 t, sym (same_Some _ _ e))
    by false t e = absurd (cc)

-- An ellipsis begins with two dots.
pub ellipsis_begin : (x : List ℕ) → is_ellipsis x ≡ true → (y : List ℕ) × (x ≡ 46 ∷ 46 ∷ y)
ellipsis_begin x v = go x ((token_texts ellipsis x).1 v)
  where
    go : (x : List ℕ) → Is ellipsis x → (y : List ℕ) × (x ≡ 46 ∷ 46 ∷ y)
    go [] a = absurd (cc)
    go (c ∷ []) a = let s = dot_step c in_ellipsis.None a.0 a.1 in absurd (cc)
    go (c ∷ d ∷ y) a = let s = dot_step c in_ellipsis.None a.0 a.1 in let t = dot_step d a.0 a.2.0 a.2.1 in (y, cc)

abbrev strung : Kind → Bool
strung k = quoted k || dot k

strung-begins : (k : Kind) → strung k ≡ true → begins k ≡ true
strung-begins Dot h = refl
strung-begins Quote h = refl
strung-begins Less h = refl
strung-begins B h = refl
strung-begins E h = refl
strung-begins HexLetter h = refl
strung-begins O h = refl
strung-begins P h = refl
strung-begins X h = refl
strung-begins Letter h = refl
strung-begins _ h = cc

string-strung : (k : Kind) (r : List ℕ) → string_at k r ≡ true → strung k ≡ true
string-strung Dot r h = refl
string-strung _ r h = h

string-numberless : (k : Kind) (r : List ℕ) → string_at k r ≡ true → number_at k r ≡ false
string-numberless Dot [] h = cc
string-numberless Dot (d ∷ r) h = rw (eqb-true d 46 h)
string-numberless Quote r h = refl
string-numberless Less r h = refl
string-numberless B r h = refl
string-numberless E r h = refl
string-numberless HexLetter r h = refl
string-numberless O r h = refl
string-numberless P r h = refl
string-numberless X r h = refl
string-numberless Letter r h = refl
string-numberless _ r h = cc

follows-numberless : (k : Kind) (r : List ℕ) → follows k ≡ true → number_at k r ≡ false
follows-numberless Zero r h = cc
follows-numberless One r h = cc
follows-numberless TwoToSeven r h = cc
follows-numberless EightOrNine r h = cc
follows-numberless Dot r h = cc
follows-numberless _ r h = refl

first_strung : (c : ℕ) (r : List ℕ) → starts_string (c ∷ r) ≡ true → strung (kind c) ≡ true
first_strung c r h = string-strung (kind c) r (sym (starts_string_at c r) ∙ h)

-- A byte of a kind that is not `Open` is none of these.
abbrev pub Unopened : ℕ → Type 0
Unopened c = (eqb c 91 ≡ false) × (eqb c 123 ≡ false) × (eqb c 40 ≡ false)

unopened : (p : Kind → Bool) (c : ℕ) → p (kind c) ≡ true → p Open ≡ false → Unopened c
unfolding kind
unopened p c h o = (differs p c 91 h o, differs p c 123 h o, differs p c 40 h o)

pub number_unopened : (c : ℕ) (x : List ℕ) → is_number (c ∷ x) ≡ true → Unopened c
number_unopened c x v = unopened numeric c (numeric_start c x v) refl

pub string_unopened : (c : ℕ) (r : List ℕ) → starts_string (c ∷ r) ≡ true → Unopened c
string_unopened c r h = unopened strung c (first_strung c r h) refl

-- A plus sign in front of a string joins it.
pub joins_string : (t r : List ℕ) → is_space t ≡ true → starts_string r ≡ true → joins (43 ∷ (t ++ r)) ≡ true
unfolding joins starts_string
joins_string [] [] v h = absurd (cc)
joins_string [] (c ∷ r) v h = ap not (starts_number_at c r ∙ string-numberless (kind c) r (sym (starts_string_at c r) ∙ h))
joins_string (c ∷ t) r v h = ap not (starts_number_at c (t ++ r) ∙ follows-numberless (kind c) (t ++ r) (space_before c t t v))

-- ---- trees

-- What follows begins an item, and no plus sign stands there that joins it to another.
abbrev pub Starts : List ℕ → Type 0
Starts r = Begins r × (joins r ≡ false)

number_starts : (x r : List ℕ) → is_number x ≡ true → Starts (x ++ r)
number_starts [] r v = absurd (number_some v)
number_starts (c ∷ x) r v = (numeric-begins (kind c) (numeric_start c x v), number_joins c x r v)

pub string_starts : (xs : List ℕ) → starts_string xs ≡ true → Starts xs
unfolding joins starts_string kind
string_starts [] h = absurd (cc)
string_starts (c ∷ r) h = let s = first_strung c r h in (strung-begins (kind c) s, and_left (eqb c 43) _ (differs strung c 43 s refl))

pub piece_begins : (p : Tree OnePiece) (r : List ℕ) → Tested p → starts_string (onto p r) ≡ true
unfolding onto Tested starts_string
piece_begins (LiteralTree [] i) r v = absurd (literal_some v)
piece_begins (LiteralTree (c ∷ x) i) r v = literal_begins c x (x ++ (indicator_text i ++ r)) v
piece_begins (EllipsisTree x) r v = rw (ellipsis_begin x v).1
piece_begins (EmbeddedTree w i) r v = refl

pub string_begins : (w : Tree OneString) (r : List ℕ) → Tested w → starts_string (onto w r) ≡ true
unfolding onto Tested
string_begins (LastPieceTree p) r v = piece_begins p r v
string_begins (PlusTree p s t w) r v = piece_begins p _ v.0

pub item_starts : (w : Tree OneItem) (r : List ℕ) → Tested w → Starts (onto w r)
unfolding onto Tested kind joins
item_starts (NumberTree x i) r v = number_starts x (indicator_text i ++ r) v
item_starts (FloatTree Infinity i) r v = (refl, refl)
item_starts (FloatTree _ i) r v = (refl, refl)
item_starts (NamedTree False) r v = (refl, refl)
item_starts (NamedTree _) r v = (refl, refl)
item_starts (EnclosedTree (opener.Tag i n) w) r v = rw append_assoc (number_starts (decimal n) _ (tag_digits n v.0))
item_starts (EnclosedTree opener.Simple w) r v = (refl, refl)
item_starts (ListTree Array w) r v = (refl, refl)
item_starts (ListTree Map w) r v = (refl, refl)
item_starts (StringTree w) r v = string_starts (onto w r) (string_begins w r v)
item_starts (StreamTree ms m) r v = (refl, refl)

pub entry_starts : {k : Row} (e : Tree (OneEntry k)) (r : List ℕ) → Tested e → Starts (onto e r)
unfolding onto Tested
entry_starts (ElementTree w) r v = item_starts w r v
entry_starts (PairTree v s t w) r h = item_starts v _ h.0
entry_starts (ChunkTree w) r v = string_starts (onto w r) (string_begins w r v)

pub rest_starts : {k : Row} (m : Tree (Rest k)) (r : List ℕ) → Tested m → Starts (onto m r)
unfolding onto Tested
rest_starts (LastTree e s) r v = entry_starts e _ v.0
rest_starts (MoreTree e s m) r v = entry_starts e _ v.0

-- ---- what follows an item

no_plus_at : (s r : List ℕ) → is_space s ≡ true → Spaceless r → joins r ≡ false → NoPlus (s ++ r)
no_plus_at s r v h j = ((s, r), munch-again space space.start s r ((token_texts space s).1 v) (halts_space r h), j)

comma_no_plus : (x r : List ℕ) → is_space x ≡ true → NoPlus (x ++ (44 ∷ r))
unfolding joins kind
comma_no_plus x r v = no_plus_at x (44 ∷ r) v refl refl

separator_no_plus : (s r : List ℕ) → IsListEnd s → Solid r → joins r ≡ false → NoPlus (s ++ r)
separator_no_plus s r (space_alone h) o j = no_plus_at s r ((optional_texts s).0 h) (solid_spaceless r o) j
separator_no_plus _ r (comma {x = x} {y = y} h k) o j = rw (append_assoc x (44 ∷ y) r) (comma_no_plus x (y ++ r) ((optional_texts x).0 h))

pub space_next : (s r : List ℕ) → is_space s ≡ true → Solid r → Follow r → joins r ≡ false → Next (s ++ r)
space_next s r v o f j = (space_follow s r v f, no_plus_at s r v (solid_spaceless r o) j)

pub closes_joins : (r : List ℕ) → Closes r → joins r ≡ false
unfolding joins kind
closes_joins [] h = refl
closes_joins (c ∷ r) h = and_left (eqb c 43) _ (differs closing c 43 h refl)

pub end_next : (s r : List ℕ) → is_list_end s ≡ true → Closes r → Next (s ++ r)
end_next s r v h = (separator_follow s r v (closes_follow r h), separator_no_plus s r ((at_end_texts s).1 v) (closes_solid r h) (closes_joins r h))

pub more_next : {k : Row} (s : List ℕ) (m : Tree (Rest k)) (r : List ℕ) → is_separator s ≡ true → Tested m → Next (s ++ onto m r)
more_next s m r v vm = let b = rest_starts m r vm in (separating_follow s _ v, separator_no_plus s _ ((at_end_texts s).1 (and_parts _ _ v).1) (begins_solid _ b.0) b.1)

pub colon_next : (s r : List ℕ) → is_space s ≡ true → Next (s ++ (58 ∷ r))
unfolding joins
colon_next s r v = space_next s (58 ∷ r) v (colon_solid r) (colon_follow r) refl

pub last_next : (t r : List ℕ) → is_space t ≡ true → Closes r → Next (t ++ r)
last_next t r v h = space_next t r v (closes_solid r h) (closes_follow r h) (closes_joins r h)
