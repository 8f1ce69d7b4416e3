-- What stands between two quotes leads from one state to another, and gives bytes.
use Rattle.std.proofs.Common.{ℕ, ◌≡◌, ◌≢◌, ◌≤◌, ◌+◌, ◌*◌, List, [], ◌∷◌, ◌++◌, length, true, false, Some, None, refl, sym, ap, ◌∙◌, subst, arith, append_assoc}
use Rattle.std.specs.Prelude.{◌==◌, ◌||◌, ◌&&◌, nat_le, nat_lt, option_map, encode_utf8, if◌then◌else◌}
use Rattle.std.specs.Char.{IsScalar, digit_value}
use Rattle.std.specs.Char.Utf16.{is_high_surrogate, is_low_surrogate, surrogate_pair_char}
use Rattle.std.specs.Str.Parse.{digits_value_after}
use Rattle.std.proofs.Math.Utf8.{scalar_cases}
use Rattle.std.proofs.lemmas.Bool.{cond-true, cond-false, ne_eqb, lt-ltb, le-ltb, le-leb, lt-leb, leb-true, ltb-true, and_from, and_parts, and_left, and_right, or_right}
use Rattle.std.proofs.lemmas.List.{append-nil}
use mathlib.Core.Logic.{⊎_elim}
use Rattle.cbor_edn_parts.specs.internal.Lex.{Accepts}
use Rattle.cbor_edn_parts.specs.space.Space.{IsPrintable}
use Rattle.cbor_edn_parts.specs.number.Number.{Hexadecimal, IsDigitOf}
use Rattle.cbor_edn_parts.specs.string.Literal.{letter_escape, hex_number, IsUnit, IsPart, raw, line_feed, carriage_return, quote, letter, unit, pair, braced, Decoded, nothing, part}
use Rattle.cbor_edn_parts.specs.internal.LiteralTokens as tokens
use Rattle.cbor_edn_parts.specs.internal.LiteralTokens.{quote_byte, Step, is_scalar, whole, with_digit, unit_end, pair_end, raw_step, escape_step, unit_digit, low_digit, braced_digit, quoted_step, ends, inside, decoded}
use Rattle.cbor_edn_parts.specs.declared.string.Quote.{Quote}
use Rattle.cbor_edn_parts.specs.declared.string.Quote.TheVariants.{Single, Double}
use Rattle.cbor_edn_parts.specs.declared.string.QuotedState.{QuotedState}
use Rattle.cbor_edn_parts.specs.declared.string.QuotedState.TheVariants.{Between, Unit as Digits, High, LowUnit, Brace, Braced}
use Rattle.cbor_edn_parts.specs.declared.string.LiteralState.TheVariants.{Inside}
use Rattle.cbor_edn_parts.proofs.lemmas.base.Each.{Each, end, next, each}
use Rattle.cbor_edn_parts.proofs.lemmas.string.LiteralSteps.{scalar_is}
use Rattle.cbor_edn_parts.proofs.lemmas.number.NumberParts.{number_is}

-- From m the bytes x lead to n, none of them the quote that ends the text, and b are the bytes of what ends on the way.
pub data Runs (q : Quote) : QuotedState → List ℕ → List ℕ → QuotedState → Type 0 where
  stop : {m : QuotedState} → Runs q m [] [] m
  go : {m n o : QuotedState} {c : ℕ} {x d b : List ℕ} → ends q c m ≡ false → quoted_step (quote_byte q) c m ≡ Some (n, d) → Runs q n x b o → Runs q m (c ∷ x) (d ++ b) o

runs_append : (q : Quote) {m n o : QuotedState} {x y b c : List ℕ} → Runs q m x b n → Runs q n y c o → Runs q m (x ++ y) (b ++ c) o
runs_append q stop r = r
runs_append q {c = b'} (go {d = d} {b = b} other e s) r = rw append_assoc (go other e (runs_append q s r))

-- one step that ends
last : (q : Quote) {m n : QuotedState} {c : ℕ} {d : List ℕ} → ends q c m ≡ false → quoted_step (quote_byte q) c m ≡ Some (n, d) → Runs q m (c ∷ []) d n
last q {m = m} {n = n} {c = c} {d = d} other e = subst (λ b. Runs q m (c ∷ []) b n) (append-nil d) (go other e stop)

pub runs_accepted : (q : Quote) {m n : QuotedState} {x b : List ℕ} (t : List ℕ) → Runs q m x b n → Accepts tokens.literal (Inside q n) t → Accepts tokens.literal (Inside q m) (x ++ t)
runs_accepted q t stop a = a
runs_accepted q t (go {m = m} {n = n} {c = c} other e r) a = (Inside q n, cond-false (ends q c m) _ _ other ∙ ap (inside q) e, runs_accepted q t r a)

pub runs_decoded : (q : Quote) {m n : QuotedState} {x b : List ℕ} (t : List ℕ) → Runs q m x b n → decoded q m (x ++ t) ≡ b ++ decoded q n t
unfolding decoded
runs_decoded q t stop = refl
runs_decoded q t (go {d = d} other e r) = rw (other, e, runs_decoded q t r, append_assoc)

-- ---- the parts

-- the bytes that end no text in either quotes
not_quote : (q : Quote) (c : ℕ) → c ≢ 34 → c ≢ 39 → (c == quote_byte q) ≡ false
not_quote Single c double single = ne_eqb c 39 single
not_quote Double c double single = ne_eqb c 34 double

pub raw_to : (c : ℕ) → IsPrintable c → c ≢ 92 → raw_step c ≡ Some (Between, c ∷ [])
raw_to c h ne =
    let cr : c ≢ 13 = λ e. omega arith in
    cond-false (c == 92) _ _ (ne_eqb c 92 ne) ∙ (cond-false (c == 13) _ _ (ne_eqb c 13 cr)
    ∙ cond-true (c == 10 || (nat_le 32 c && nat_lt c 256)) _ _ (or_right (c == 10) _ (and_from (nat_le 32 c) _ (le-leb 32 c h.0) (lt-ltb c 256 h.1))))

quote_to : (q : Quote) → escape_step (quote_byte q) (quote_byte q) ≡ Some (Between, quote_byte q ∷ [])
quote_to Single = refl
quote_to Double = refl

no_letter : (q : Quote) → letter_escape (quote_byte q) ≡ None
no_letter Single = refl
no_letter Double = refl

letter_to : (q : Quote) (c d : ℕ) → letter_escape c ≡ Some d → escape_step (quote_byte q) c ≡ Some (Between, d ∷ [])
letter_to q c d e =
    cond-false (c == 117) _ _ (ne_eqb c 117 (λ u. let none : letter_escape c ≡ None = rw u refl in absurd (cc)))
    ∙ (cond-false (c == quote_byte q) _ _ (ne_eqb c (quote_byte q) (λ u. let none : letter_escape c ≡ None = ap letter_escape u ∙ no_letter q in absurd (cc)))
    ∙ ap (option_map (λ n. (Between, n ∷ []))) e)

whole_to : (n : ℕ) → IsScalar n → whole n ≡ Some (Between, encode_utf8 n)
whole_to n s = cond-true (is_scalar n) _ _ (scalar_is n ∙ s)

digit_to : (n c : ℕ) → n ≤ 0x10FFFF → IsDigitOf Hexadecimal c → with_digit n c ≡ Some (16 * n + digit_value c)
digit_to n c small h = cond-true (nat_lt (digit_value c) 16 && nat_le n 0x10FFFF) _ _ (and_from (nat_lt (digit_value c) 16) _ (lt-ltb (digit_value c) 16 h) (le-leb n 0x10FFFF small))

no_brace : (c k : ℕ) → digit_value k ≡ 36 → IsDigitOf Hexadecimal c → (c == k) ≡ false
no_brace c k e h = ne_eqb c k (λ same. let as_brace : digit_value c ≡ digit_value k = ap digit_value same in absurd (omega arith))

-- the numbers of two surrogates are that of a character
pair_scalar : (h l : ℕ) → is_high_surrogate h ≡ true → is_low_surrogate l ≡ true → IsScalar (surrogate_pair_char h l)
pair_scalar h l high low =
    let n = surrogate_pair_char h l in
    let i = and_parts (nat_le 0xD800 h) _ high in
    let j = and_parts (nat_le 0xDC00 l) _ low in
    let above : 0xE000 ≤ n = omega arith in
    let below : n ≤ 0x10FFFF = omega (arith, leb-true 0xD800 h i.0, ltb-true h 0xDC00 i.1, leb-true 0xDC00 l j.0, ltb-true l 0xE000 j.1) in
    sym (scalar_is n) ∙ or_right (nat_lt n 0xD800) _ (and_from (nat_le 0xE000 n) _ (le-leb 0xE000 n above) (le-leb n 0x10FFFF below))

not_high : (n : ℕ) → IsScalar n → is_high_surrogate n ≡ false
not_high n s =
    ⊎_elim
    (λ h. and_left (nat_le 0xD800 n) _ (lt-leb 0xD800 n h))
    (λ h. and_right (nat_le 0xD800 n) _ (le-ltb n 0xDC00 (omega arith)))
    (scalar_cases n s)

-- Four digits lead from no digit to the end of a unit.
module _ (q : Quote) (f : ℕ → ℕ → QuotedState) (finish : ℕ → Step) where
  abbrev Takes : Type 0
  Takes = (d n c m : ℕ) → IsDigitOf Hexadecimal c → with_digit n c ≡ Some m → (ends q c (f d n) ≡ false) × (quoted_step (quote_byte q) c (f d n) ≡ (if nat_lt d 3 then Some (f (d + 1) m, []) else finish m))

  take_digit : Takes → (d n c : ℕ) {o : QuotedState} {x b : List ℕ} → nat_lt d 3 ≡ true → n ≤ 0x10FFFF → IsDigitOf Hexadecimal c → Runs q (f (d + 1) (16 * n + digit_value c)) x b o → Runs q (f d n) (c ∷ x) b o
  take_digit takes d n c few small h r =
      let t = takes d n c (16 * n + digit_value c) h (digit_to n c small h) in
      go t.0 (t.1 ∙ cond-true (nat_lt d 3) _ _ few) r

  take_unit : Takes → {ds : List ℕ} → Each (IsDigitOf Hexadecimal) ds → length ds ≡ 4 → {o : QuotedState} {b : List ℕ} → finish (hex_number ds) ≡ Some (o, b) → Runs q (f 0 0) ds b o
  take_unit takes end four e = absurd (omega arith)
  take_unit takes (next i end) four e = absurd (omega arith)
  take_unit takes (next i (next j end)) four e = absurd (omega arith)
  take_unit takes (next i (next j (next k end))) four e = absurd (omega arith)
  take_unit takes (next {c = a} i (next {c = b} j (next {c = c} k (next {c = d} l end)))) four e =
      let n : ℕ = 16 * (16 * (16 * 0 + digit_value a) + digit_value b) + digit_value c in
      let t = takes 3 n d (16 * n + digit_value d) l (digit_to n d (omega arith) l) in
      let number : 16 * n + digit_value d ≡ hex_number (a ∷ b ∷ c ∷ d ∷ []) = omega arith in
      take_digit takes 0 0 a refl (omega arith) i (take_digit takes 1 _ b refl (omega arith) j (take_digit takes 2 _ c refl (omega arith) k (last q t.0 (t.1 ∙ (ap finish number ∙ e)))))
  take_unit takes (next i (next j (next k (next l (next m more))))) four e = absurd (omega arith)

unit_takes : (q : Quote) → Takes q Digits unit_end
unit_takes q d n c m h e = (refl, cond-false (d == 0 && c == 123) _ _ (and_right (d == 0) (c == 123) (no_brace c 123 refl h)) ∙ ap (unit_digit d) e)

low_takes : (q : Quote) (high : ℕ) → Takes q (LowUnit high) (pair_end high)
low_takes q high d n c m h e = (refl, ap (low_digit high d) e)

-- `\u`
behind_u : (q : Quote) {x b : List ℕ} {o : QuotedState} → Runs q (Digits 0 0) x b o → Runs q Between (92 ∷ 117 ∷ x) b o
behind_u q r = go (not_quote q 92 (λ e. absurd (omega arith)) (λ e. absurd (omega arith))) refl (go refl refl r)

scalar_small : (n : ℕ) → IsScalar n → n ≤ 0x10FFFF
scalar_small n s = ⊎_elim (λ h. omega arith) (λ h. omega arith) (scalar_cases n s)

at_least : (n : ℕ) (ds : List ℕ) → n ≤ digits_value_after 16 n ds
at_least n [] = omega arith
at_least n (d ∷ ds) = omega (arith, at_least (n * 16 + digit_value d) ds)

-- digits up to the brace
braced_run : (q : Quote) (n total : ℕ) {ds : List ℕ} → Each (IsDigitOf Hexadecimal) ds → digits_value_after 16 n ds ≡ total → IsScalar total → Runs q (Braced n) (ds ++ (125 ∷ [])) (encode_utf8 total) Between
braced_run q n total end e s = last q refl (ap whole e ∙ whole_to total s)
braced_run q n total (next {c = c} {x = ds} h more) e s =
    let small : n ≤ 0x10FFFF = omega (arith, at_least n (c ∷ ds), scalar_small total s) in
    let turned : 16 * n + digit_value c ≡ n * 16 + digit_value c = omega arith in
    go refl (cond-false (c == 125) _ _ (no_brace c 125 refl h) ∙ ap braced_digit (digit_to n c small h))
    (braced_run q (16 * n + digit_value c) total more (ap (λ k. digits_value_after 16 k ds) turned ∙ e) s)

brace_run : (q : Quote) {ds : List ℕ} → Each (IsDigitOf Hexadecimal) ds → ds ≢ [] → IsScalar (hex_number ds) → Runs q Brace (ds ++ (125 ∷ [])) (encode_utf8 (hex_number ds)) Between
brace_run q end some s = absurd (some refl)
brace_run q (next {c = c} {x = ds} h more) some s =
    let turned : 16 * 0 + digit_value c ≡ 0 * 16 + digit_value c = omega arith in
    go refl (ap braced_digit (digit_to 0 c (omega arith) h))
    (braced_run q (16 * 0 + digit_value c) (hex_number (c ∷ ds)) more (ap (λ k. digits_value_after 16 k ds) turned ∙ number_is 16 (c ∷ ds)) s)

pair_run : (q : Quote) {hs ls : List ℕ} → IsUnit hs → is_high_surrogate (hex_number hs) ≡ true → IsUnit ls → is_low_surrogate (hex_number ls) ≡ true
    → Runs q Between (92 ∷ 117 ∷ (hs ++ (92 ∷ 117 ∷ ls))) (encode_utf8 (surrogate_pair_char (hex_number hs) (hex_number ls))) Between
pair_run q {hs = hs} {ls = ls} u high v low =
    let h = hex_number hs in
    let l = hex_number ls in
    let first : unit_end h ≡ Some (High h, []) = cond-true (is_high_surrogate h) _ _ high in
    let second : pair_end h l ≡ Some (Between, encode_utf8 (surrogate_pair_char h l)) =
    cond-true (is_high_surrogate h && is_low_surrogate l) _ _ (and_from (is_high_surrogate h) _ high low) ∙ whole_to (surrogate_pair_char h l) (pair_scalar h l high low) in
    behind_u q (runs_append q
    (take_unit q Digits unit_end (unit_takes q) (each u.0.0) u.1 first)
    (go refl refl (go refl refl (take_unit q (LowUnit h) (pair_end h) (low_takes q h) (each v.0.0) v.1 second))))

part_runs : (q : Quote) {x b : List ℕ} → IsPart (quote_byte q) x b → Runs q Between x b Between
part_runs q (raw {c = c} h other ne) = last q (ne_eqb c (quote_byte q) other) (raw_to c h ne)
part_runs q line_feed = last q (not_quote q 10 (λ e. absurd (omega arith)) (λ e. absurd (omega arith))) refl
part_runs q carriage_return = last q (not_quote q 13 (λ e. absurd (omega arith)) (λ e. absurd (omega arith))) refl
part_runs q quote = go (not_quote q 92 (λ e. absurd (omega arith)) (λ e. absurd (omega arith))) refl (last q refl (quote_to q))
part_runs q (letter {c = c} {d = d} e) = go (not_quote q 92 (λ e. absurd (omega arith)) (λ e. absurd (omega arith))) refl (last q refl (letter_to q c d e))
part_runs q (unit {ds = ds} u s) =
    let n = hex_number ds in
    behind_u q (take_unit q Digits unit_end (unit_takes q) (each u.0.0) u.1 (cond-false (is_high_surrogate n) _ _ (not_high n s) ∙ whole_to n s))
part_runs q (pair u high v low) = pair_run q u high v low
part_runs q (braced d s) = behind_u q (go refl refl (brace_run q (each d.0) d.1 s))

pub decoded_runs : (q : Quote) {x b : List ℕ} → Decoded (quote_byte q) x b → Runs q Between x b Between
decoded_runs q nothing = stop
decoded_runs q (part p more) = runs_append q (part_runs q p) (decoded_runs q more)
