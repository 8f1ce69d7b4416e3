-- The steps of a scan between two quotes, and the parts of the grammar.
use Rattle.std.proofs.Common.{ℕ, ◌≡◌, ◌≢◌, ◌<◌, ◌+◌, ◌*◌, List, [], ◌∷◌, ◌++◌, length, true, false, Option, Some, None, refl, sym, ◌∙◌, subst, arith, append_assoc, length-append}
use Rattle.std.specs.Prelude.{◌==◌, ◌||◌, ◌&&◌, nat_le, nat_lt, option_map, encode_utf8}
use Rattle.std.specs.Char.{IsScalar, digit_value}
use Rattle.std.specs.Char.Utf16.{is_high_surrogate, is_low_surrogate, surrogate_pair_char}
use Rattle.std.proofs.Math.Utf8.{scalar}
use Rattle.std.proofs.lemmas.Bool.{cond_both, eqb-true, eqb-false, ltb-true, ltb-false, leb-true, and_parts, or_cases}
use Rattle.std.proofs.lemmas.Bool.Decides.{nat_tests}
use Rattle.std.proofs.lemmas.Int.Digits.{digits_value_push}
use mathlib.Core.Logic.{⊎_elim}
use Rattle.cbor_edn_parts.specs.number.Number.{Hexadecimal, IsDigitOf, AreDigits}
use Rattle.cbor_edn_parts.specs.string.Literal.{letter_escape, hex_number, IsUnit, IsPart, raw, line_feed, carriage_return, quote, letter, unit, pair, braced}
use Rattle.cbor_edn_parts.specs.internal.LiteralTokens.{quote_byte, Step, is_scalar, whole, with_digit, unit_end, pair_end, raw_step, escape_step, unit_digit, low_digit, braced_digit, quoted_step, ends}
use Rattle.cbor_edn_parts.specs.declared.string.Quote.{Quote}
use Rattle.cbor_edn_parts.specs.declared.string.QuotedState.{QuotedState}
use Rattle.cbor_edn_parts.specs.declared.string.QuotedState.TheVariants.{Between, Backslash, Unit as Digits, High, HighBackslash, LowUnit, Brace, Braced}
use Rattle.cbor_edn_parts.proofs.lemmas.base.Each.{Each, end, next, each, all}
use Rattle.cbor_edn_parts.proofs.lemmas.number.NumberParts.{number_is}

-- ---- digits

number_push : (ds : List ℕ) (c : ℕ) → hex_number (ds ++ (c ∷ [])) ≡ 16 * hex_number ds + digit_value c
number_push ds c = let e = digits_value_push 16 ds c in omega (arith, number_is 16 ds, number_is 16 (ds ++ (c ∷ [])), e)

length_push : (ds : List ℕ) (c : ℕ) → length (ds ++ (c ∷ [])) ≡ length ds + 1
length_push ds c = length-append ds (c ∷ [])

each_push : {P : ℕ → Type 0} {ds : List ℕ} {c : ℕ} → Each P ds → P c → Each P (ds ++ (c ∷ []))
each_push end h = next h end
each_push (next p more) h = next p (each_push more h)

pushed : (ds : List ℕ) (c : ℕ) → ds ++ (c ∷ []) ≢ []
pushed [] c = λ e. cc
pushed (d ∷ ds) c = λ e. cc

-- ---- what a step leads to, by the bytes since the last part

-- the bytes p since the last part lead to a state
pub data Came : QuotedState → List ℕ → Type 0 where
  came_between : Came Between []
  came_backslash : Came Backslash (92 ∷ [])
  came_unit : {ds : List ℕ} → Each (IsDigitOf Hexadecimal) ds → length ds < 4 → Came (Digits (length ds) (hex_number ds)) (92 ∷ 117 ∷ ds)
  came_high : {hs : List ℕ} → IsUnit hs → is_high_surrogate (hex_number hs) ≡ true → Came (High (hex_number hs)) (92 ∷ 117 ∷ hs)
  came_high_backslash : {hs : List ℕ} → IsUnit hs → is_high_surrogate (hex_number hs) ≡ true → Came (HighBackslash (hex_number hs)) (92 ∷ 117 ∷ (hs ++ (92 ∷ [])))
  came_low : {hs ls : List ℕ} → IsUnit hs → is_high_surrogate (hex_number hs) ≡ true → Each (IsDigitOf Hexadecimal) ls → length ls < 4
      → Came (LowUnit (hex_number hs) (length ls) (hex_number ls)) (92 ∷ 117 ∷ (hs ++ (92 ∷ 117 ∷ ls)))
  came_brace : Came Brace (92 ∷ 117 ∷ 123 ∷ [])
  came_braced : {ds : List ℕ} → AreDigits Hexadecimal ds → Came (Braced (hex_number ds)) (92 ∷ 117 ∷ 123 ∷ ds)

-- A step either ends a part or leads on.
abbrev pub Leads : ℕ → List ℕ → Step → Type 0
Leads q p None = Unit {0}
Leads q p (Some (Between, b)) = IsPart q p b
Leads q p (Some (m, b)) = Came m p

from_raw : (q c : ℕ) → (c == q) ≡ false → Leads q (c ∷ []) (raw_step c)
from_raw q c other =
    cond_both (c == 92) _ _ (Leads q (c ∷ [])) (λ e. rw (eqb-true c 92 e) came_backslash)
    (λ ne. cond_both (c == 13) _ _ (Leads q (c ∷ [])) (λ e. rw (eqb-true c 13 e) carriage_return)
    (λ _. cond_both (c == 10 || (nat_le 32 c && nat_lt c 256)) _ _ (Leads q (c ∷ []))
    (λ e. ⊎_elim
    (λ lf. rw (eqb-true c 10 lf) line_feed)
    (λ some. let h = and_parts (nat_le 32 c) (nat_lt c 256) some in raw (leb-true 32 c h.0, ltb-true c 256 h.1) (eqb-false c q other) (eqb-false c 92 ne))
    (or_cases (c == 10) _ e))
    (λ _. tt)))

from_letter : (q c : ℕ) (o : Option ℕ) → letter_escape c ≡ o → Leads q (92 ∷ c ∷ []) (option_map (λ d. (Between, d ∷ [])) o)
from_letter q c None e = tt
from_letter q c (Some d) e = letter e

from_escape : (q c : ℕ) → Leads q (92 ∷ c ∷ []) (escape_step q c)
from_escape q c =
    cond_both (c == 117) _ _ (Leads q (92 ∷ c ∷ [])) (λ e. rw (eqb-true c 117 e) (came_unit end (omega arith)))
    (λ _. cond_both (c == q) _ _ (Leads q (92 ∷ c ∷ [])) (λ e. rw (eqb-true c q e) quote)
    (λ _. from_letter q c (letter_escape c) refl))

pub scalar_is : (n : ℕ) → is_scalar n ≡ scalar n
scalar_is n = grind (arith, nat_tests)

from_whole : (q : ℕ) (p : List ℕ) (n : ℕ) → (IsScalar n → IsPart q p (encode_utf8 n)) → Leads q p (whole n)
from_whole q p n is = cond_both (is_scalar n) _ _ (Leads q p) (λ e. is (sym (scalar_is n) ∙ e)) (λ _. tt)

-- one digit more, or none
by_digit : (ds : List ℕ) (c : ℕ) (P : Option ℕ → Type 0) → (IsDigitOf Hexadecimal c → P (Some (hex_number (ds ++ (c ∷ []))))) → P None → P (with_digit (hex_number ds) c)
by_digit ds c P some none =
    cond_both (nat_lt (digit_value c) 16 && nat_le (hex_number ds) 0x10FFFF) _ _ P
    (λ e. subst (λ n. P (Some n)) (number_push ds c) (some (ltb-true (digit_value c) 16 (and_parts (nat_lt (digit_value c) 16) _ e).0)))
    (λ _. none)

from_unit_end : (q : ℕ) (ds : List ℕ) → IsUnit ds → Leads q (92 ∷ 117 ∷ ds) (unit_end (hex_number ds))
from_unit_end q ds u =
    cond_both (is_high_surrogate (hex_number ds)) _ _ (Leads q (92 ∷ 117 ∷ ds)) (λ h. came_high u h) (λ _. from_whole q (92 ∷ 117 ∷ ds) (hex_number ds) (unit u))

from_unit : (q c : ℕ) (ds : List ℕ) → Each (IsDigitOf Hexadecimal) ds → length ds < 4 → Leads q (92 ∷ 117 ∷ (ds ++ (c ∷ []))) (unit_digit (length ds) (with_digit (hex_number ds) c))
from_unit q c ds digits few =
    by_digit ds c (λ o. Leads q (92 ∷ 117 ∷ (ds ++ (c ∷ []))) (unit_digit (length ds) o))
    (λ h. cond_both (nat_lt (length ds) 3) _ _ (Leads q (92 ∷ 117 ∷ (ds ++ (c ∷ []))))
    (λ e. let lt : length (ds ++ (c ∷ [])) < 4 = omega (arith, length_push ds c, ltb-true (length ds) 3 e) in
    subst (λ d. Came (Digits d (hex_number (ds ++ (c ∷ [])))) (92 ∷ 117 ∷ (ds ++ (c ∷ [])))) (length_push ds c) (came_unit (each_push digits h) lt))
    (λ e. from_unit_end q (ds ++ (c ∷ [])) ((all (each_push digits h), pushed ds c), omega (arith, length_push ds c, ltb-false (length ds) 3 e))))
    tt

none_of : (ds : List ℕ) → length ds ≡ 0 → ds ≡ []
none_of [] e = refl
none_of (d ∷ ds) e = absurd (omega arith)

from_brace : (q c : ℕ) (ds : List ℕ) → Each (IsDigitOf Hexadecimal) ds → length ds < 4 → Leads q (92 ∷ 117 ∷ (ds ++ (c ∷ []))) (quoted_step q c (Digits (length ds) (hex_number ds)))
from_brace q c ds digits few =
    cond_both (length ds == 0 && c == 123) _ _ (Leads q (92 ∷ 117 ∷ (ds ++ (c ∷ []))))
    (λ e. let h = and_parts (length ds == 0) (c == 123) e in rw (none_of ds (eqb-true (length ds) 0 h.0), eqb-true c 123 h.1) came_brace)
    (λ _. from_unit q c ds digits few)

-- the low surrogate behind a high one
from_pair_end : (q : ℕ) (hs ls : List ℕ) → IsUnit hs → is_high_surrogate (hex_number hs) ≡ true → IsUnit ls → Leads q (92 ∷ 117 ∷ (hs ++ (92 ∷ 117 ∷ ls))) (pair_end (hex_number hs) (hex_number ls))
from_pair_end q hs ls u high l =
    cond_both (is_high_surrogate (hex_number hs) && is_low_surrogate (hex_number ls)) _ _ (Leads q (92 ∷ 117 ∷ (hs ++ (92 ∷ 117 ∷ ls))))
    (λ e. from_whole q (92 ∷ 117 ∷ (hs ++ (92 ∷ 117 ∷ ls))) (surrogate_pair_char (hex_number hs) (hex_number ls)) (λ _. pair u high l (and_parts (is_high_surrogate (hex_number hs)) _ e).1))
    (λ _. tt)

from_low : (q c : ℕ) (hs ls : List ℕ) → IsUnit hs → is_high_surrogate (hex_number hs) ≡ true → Each (IsDigitOf Hexadecimal) ls → length ls < 4
    → Leads q (92 ∷ 117 ∷ (hs ++ (92 ∷ 117 ∷ (ls ++ (c ∷ []))))) (low_digit (hex_number hs) (length ls) (with_digit (hex_number ls) c))
from_low q c hs ls u high digits few =
    let p : List ℕ = 92 ∷ 117 ∷ (hs ++ (92 ∷ 117 ∷ (ls ++ (c ∷ [])))) in
    by_digit ls c (λ o. Leads q p (low_digit (hex_number hs) (length ls) o))
    (λ h. cond_both (nat_lt (length ls) 3) _ _ (Leads q p)
    (λ e. let lt : length (ls ++ (c ∷ [])) < 4 = omega (arith, length_push ls c, ltb-true (length ls) 3 e) in
    subst (λ d. Came (LowUnit (hex_number hs) d (hex_number (ls ++ (c ∷ [])))) p) (length_push ls c) (came_low u high (each_push digits h) lt))
    (λ e. from_pair_end q hs (ls ++ (c ∷ [])) u high ((all (each_push digits h), pushed ls c), omega (arith, length_push ls c, ltb-false (length ls) 3 e))))
    tt

from_braced_digit : (q c : ℕ) (ds : List ℕ) → Each (IsDigitOf Hexadecimal) ds → Leads q (92 ∷ 117 ∷ 123 ∷ (ds ++ (c ∷ []))) (braced_digit (with_digit (hex_number ds) c))
from_braced_digit q c ds digits = by_digit ds c (λ o. Leads q (92 ∷ 117 ∷ 123 ∷ (ds ++ (c ∷ []))) (braced_digit o)) (λ h. came_braced (all (each_push digits h), pushed ds c)) tt

from_braced : (q c : ℕ) (ds : List ℕ) → AreDigits Hexadecimal ds → Leads q (92 ∷ 117 ∷ 123 ∷ (ds ++ (c ∷ []))) (quoted_step q c (Braced (hex_number ds)))
from_braced q c ds digits =
    cond_both (c == 125) _ _ (Leads q (92 ∷ 117 ∷ 123 ∷ (ds ++ (c ∷ []))))
    (λ e. from_whole q _ (hex_number ds) (λ s. rw (eqb-true c 125 e) (braced digits s)))
    (λ _. from_braced_digit q c ds (each digits.0))

-- One step between two quotes, if the byte is not the quote that ends the text.
pub step_leads : (q : Quote) (c : ℕ) (m : QuotedState) (p : List ℕ) → Came m p → ends q c m ≡ false → Leads (quote_byte q) (p ++ (c ∷ [])) (quoted_step (quote_byte q) c m)
step_leads q c _ _ came_between other = from_raw (quote_byte q) c other
step_leads q c _ _ came_backslash other = from_escape (quote_byte q) c
step_leads q c _ _ (came_unit {ds = ds} each few) other = from_brace (quote_byte q) c ds each few
step_leads q c _ _ (came_high {hs = hs} u high) other =
    cond_both (c == 92) _ _ (Leads (quote_byte q) (92 ∷ 117 ∷ (hs ++ (c ∷ [])))) (λ e. rw (eqb-true c 92 e) (came_high_backslash u high)) (λ _. tt)
step_leads q c _ _ (came_high_backslash {hs = hs} u high) other =
    rw append_assoc (cond_both (c == 117) _ _ (Leads (quote_byte q) (92 ∷ 117 ∷ (hs ++ (92 ∷ c ∷ [])))) (λ e. rw (eqb-true c 117 e) (came_low u high end (omega arith))) (λ _. tt))
step_leads q c _ _ (came_low {hs = hs} {ls = ls} u high each few) other = rw append_assoc (from_low (quote_byte q) c hs ls u high each few)
step_leads q c _ _ came_brace other = from_braced_digit (quote_byte q) c [] end
step_leads q c _ _ (came_braced {ds = ds} digits) other = from_braced (quote_byte q) c ds digits
