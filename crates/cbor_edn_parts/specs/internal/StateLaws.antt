-- A byte of a longer character leads to where more of them are taken, and never to an end.
use Rattle.std.specs.Prelude.{ℕ, ◌≡◌, Bool, true, false, ◌==◌, ◌||◌, ◌&&◌, not, nat_lt, ltb, Option, Some, None, refl}
use Rattle.std.specs.Char.{digit_value}
use Rattle.std.proofs.Common.{sym, ap, ◌∙◌, subst}
use Rattle.std.proofs.lemmas.Bool.{false≢true, both_ways, not-true, le-ltb, or_cases, and_left, and_right, cond-false, agree_below, agree_below_at}
use mathlib.Core.Logic.{⊎_elim}
use Rattle.cbor_edn_parts.specs.base.Bytes.{Kind, Other, IsLong, kind}
use Rattle.cbor_edn_parts.specs.internal.Lex.{Automaton}
use Rattle.cbor_edn_parts.specs.internal.SpaceTokens as spaces
use Rattle.cbor_edn_parts.specs.internal.SpaceTokens.{space_step, space_final}
use Rattle.cbor_edn_parts.specs.internal.NumberTokens as numbers
use Rattle.cbor_edn_parts.specs.internal.NumberTokens.{number_step, number_final}
use Rattle.cbor_edn_parts.specs.internal.LiteralTokens as literals
use Rattle.cbor_edn_parts.specs.internal.LiteralTokens.{with_digit, unit_digit, low_digit, braced_digit, escape_step, inside, literal_step, literal_final, ellipsis_final}
use Rattle.cbor_edn_parts.specs.declared.space.SpaceState.{SpaceState}
use Rattle.cbor_edn_parts.specs.declared.space.SpaceState.TheVariants as within
use Rattle.cbor_edn_parts.specs.declared.space.SpaceState.TheVariants.{InSlashes, InHash}
use Rattle.cbor_edn_parts.specs.declared.number.NumberState.{NumberState}
use Rattle.cbor_edn_parts.specs.declared.string.Quote.{Quote}
use Rattle.cbor_edn_parts.specs.declared.string.Quote.TheVariants.{Single, Double}
use Rattle.cbor_edn_parts.specs.declared.string.QuotedState.TheVariants.{Between, Backslash, Unit as Digits, High, HighBackslash, LowUnit, Brace, Braced}
use Rattle.cbor_edn_parts.specs.declared.string.LiteralState.{LiteralState}
use Rattle.cbor_edn_parts.specs.declared.string.LiteralState.TheVariants.{Start, Lower, Upper, Inside, Closed}
use Rattle.cbor_edn_parts.specs.declared.string.EllipsisState.{EllipsisState}

-- A test holds of each byte of a longer character, where a table of all bytes says so.
each_long : (p : ℕ → Bool) → agree_below (λ c. ltb c 128 || p c) (λ c. true) 256 ≡ true → (c : ℕ) → IsLong c → p c ≡ true
each_long p e c long =
    ⊎_elim
    (λ short. absurd (both_ways (ltb c 128) (le-ltb c 128 long.0) short))
    (λ h. h)
    (or_cases (ltb c 128) (p c) (agree_below_at (λ c. ltb c 128 || p c) (λ c. true) 256 c e long.1))

abbrev is_other : Kind → Bool
is_other Other = true
is_other _ = false

other_is : (k : Kind) → is_other k ≡ true → k ≡ Other
other_is Other e = refl
other_is _ e = absurd (false≢true e)

kind_long : (c : ℕ) → IsLong c → kind c ≡ Other
unfolding kind
kind_long c long = other_is (kind c) (each_long (λ c. is_other (kind c)) refl c long)

-- where a byte leads, one more leads back
abbrev Loops : {State : Type 0} → (State → Option State) → Option State → Type 0
Loops goes None = Unit {0}
Loops goes (Some n) = goes n ≡ Some n

-- `goes` is where each byte of a longer character leads
module _ {State : Type 0} (T : Automaton State) (goes : State → Option State) (same : (c : ℕ) → IsLong c → (m : State) → T.step c m ≡ goes m) where
  stays_by : ((m : State) → Loops goes (goes m)) → (c d : ℕ) → IsLong c → IsLong d → (m n : State) → T.step c m ≡ Some n → T.step d n ≡ Some n
  stays_by loops c d first second m n e = same d second n ∙ subst (Loops goes) (sym (same c first m) ∙ e) (loops m)

  inside_by : ((m : State) → T.final m ≡ true → goes m ≡ None) → (c : ℕ) → IsLong c → (m : State) → T.final m ≡ true → T.step c m ≡ None
  inside_by ends c long m e = same c long m ∙ ends m e

space_long : (c : ℕ) → IsLong c → (m : SpaceState) → spaces.space.step c m ≡ space_step Other m
space_long c long m = ap (λ k. space_step k m) (kind_long c long)

space_loops : (m : SpaceState) → Loops (space_step Other) (space_step Other m)
space_loops within.Between = tt
space_loops InSlashes = refl
space_loops InHash = refl

space_ends : (m : SpaceState) → space_final m ≡ true → space_step Other m ≡ None
space_ends within.Between e = refl
space_ends InSlashes e = absurd (false≢true e)
space_ends InHash e = absurd (false≢true e)

pub space_stays : (c d : ℕ) → IsLong c → IsLong d → (m n : SpaceState) → spaces.space.step c m ≡ Some n → spaces.space.step d n ≡ Some n
space_stays = stays_by spaces.space (space_step Other) space_long space_loops

pub space_inside : (c : ℕ) → IsLong c → (m : SpaceState) → space_final m ≡ true → spaces.space.step c m ≡ None
space_inside = inside_by spaces.space (space_step Other) space_long space_ends

number_long : (c : ℕ) → IsLong c → (m : NumberState) → numbers.number.step c m ≡ None
number_long c long m = ap (λ k. number_step k m) (kind_long c long)

pub number_stays : (c d : ℕ) → IsLong c → IsLong d → (m n : NumberState) → numbers.number.step c m ≡ Some n → numbers.number.step d n ≡ Some n
number_stays = stays_by numbers.number (λ m. None) number_long (λ m. tt)

pub number_inside : (c : ℕ) → IsLong c → (m : NumberState) → number_final m ≡ true → numbers.number.step c m ≡ None
number_inside = inside_by numbers.number (λ m. None) number_long (λ m e. refl)

-- Between two parts of a literal such a byte is a part, and elsewhere it leads no further.
abbrev literal_goes : LiteralState → Option LiteralState
literal_goes (Inside q Between) = Some (Inside q Between)
literal_goes _ = None

abbrev is_none : {A : Type 0} → Option A → Bool
is_none None = true
is_none (Some x) = false

none_is : {A : Type 0} (o : Option A) → is_none o ≡ true → o ≡ None
none_is None e = refl
none_is (Some x) e = absurd (false≢true e)

-- whether a scan stands between two parts
abbrev is_between : Quote → Option LiteralState → Bool
is_between Single (Some (Inside Single Between)) = true
is_between Double (Some (Inside Double Between)) = true
is_between _ _ = false

between_is : (q : Quote) (o : Option LiteralState) → is_between q o ≡ true → o ≡ Some (Inside q Between)
between_is Single (Some (Inside Single Between)) e = refl
between_is Double (Some (Inside Double Between)) e = refl
between_is _ _ e = absurd (false≢true e)

no_digit : (c : ℕ) → IsLong c → (n : ℕ) → with_digit n c ≡ None
no_digit c long n =
    cond-false _ _ _ (and_left (nat_lt (digit_value c) 16) _ (not-true (nat_lt (digit_value c) 16) (each_long (λ c. not (nat_lt (digit_value c) 16)) refl c long)))

is_not : (b c : ℕ) → agree_below (λ c. ltb c 128 || not (c == b)) (λ c. true) 256 ≡ true → IsLong c → (c == b) ≡ false
is_not b c e long = not-true (c == b) (each_long (λ c. not (c == b)) e c long)

literal_long : (c : ℕ) → IsLong c → (m : LiteralState) → literal_step c m ≡ literal_goes m
literal_long c long Start = none_is (literal_step c Start) (each_long (λ c. is_none (literal_step c Start)) refl c long)
literal_long c long Lower = none_is (literal_step c Lower) (each_long (λ c. is_none (literal_step c Lower)) refl c long)
literal_long c long Upper = none_is (literal_step c Upper) (each_long (λ c. is_none (literal_step c Upper)) refl c long)
literal_long c long (Inside Single Between) = between_is Single _ (each_long (λ c. is_between Single (literal_step c (Inside Single Between))) refl c long)
literal_long c long (Inside Double Between) = between_is Double _ (each_long (λ c. is_between Double (literal_step c (Inside Double Between))) refl c long)
literal_long c long (Inside Single Backslash) = ap (inside Single) (none_is (escape_step 39 c) (each_long (λ c. is_none (escape_step 39 c)) refl c long))
literal_long c long (Inside Double Backslash) = ap (inside Double) (none_is (escape_step 34 c) (each_long (λ c. is_none (escape_step 34 c)) refl c long))
literal_long c long (Inside q (Digits d n)) =
    ap (inside q) (cond-false (d == 0 && c == 123) _ _ (and_right (d == 0) (c == 123) (is_not 123 c refl long)) ∙ ap (unit_digit d) (no_digit c long n))
literal_long c long (Inside q (High h)) = ap (inside q) (cond-false (c == 92) _ _ (is_not 92 c refl long))
literal_long c long (Inside q (HighBackslash h)) = ap (inside q) (cond-false (c == 117) _ _ (is_not 117 c refl long))
literal_long c long (Inside q (LowUnit h d n)) = ap (λ o. inside q (low_digit h d o)) (no_digit c long n)
literal_long c long (Inside q Brace) = ap (λ o. inside q (braced_digit o)) (no_digit c long 0)
literal_long c long (Inside q (Braced n)) =
    ap (inside q) (cond-false (c == 125) _ _ (is_not 125 c refl long) ∙ ap braced_digit (no_digit c long n))
literal_long c long Closed = refl

literal_loops : (m : LiteralState) → Loops literal_goes (literal_goes m)
literal_loops (Inside q Between) = refl
literal_loops _ = tt

literal_ends : (m : LiteralState) → literal_final m ≡ true → literal_goes m ≡ None
literal_ends Closed e = refl
literal_ends _ e = absurd (false≢true e)

pub literal_stays : (c d : ℕ) → IsLong c → IsLong d → (m n : LiteralState) → literal_step c m ≡ Some n → literal_step d n ≡ Some n
literal_stays = stays_by literals.literal literal_goes literal_long literal_loops

pub literal_inside : (c : ℕ) → IsLong c → (m : LiteralState) → literal_final m ≡ true → literal_step c m ≡ None
literal_inside = inside_by literals.literal literal_goes literal_long literal_ends

ellipsis_long : (c : ℕ) → IsLong c → (m : EllipsisState) → literals.ellipsis.step c m ≡ None
ellipsis_long c long m = cond-false (c == 46) _ _ (is_not 46 c refl long)

pub ellipsis_stays : (c d : ℕ) → IsLong c → IsLong d → (m n : EllipsisState) → literals.ellipsis.step c m ≡ Some n → literals.ellipsis.step d n ≡ Some n
ellipsis_stays = stays_by literals.ellipsis (λ m. None) ellipsis_long (λ m. tt)

pub ellipsis_inside : (c : ℕ) → IsLong c → (m : EllipsisState) → ellipsis_final m ≡ true → literals.ellipsis.step c m ≡ None
ellipsis_inside = inside_by literals.ellipsis (λ m. None) ellipsis_long (λ m e. refl)
