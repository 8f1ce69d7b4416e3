-- The decimals that are written are those of instants.
use Rattle.std.proofs.Common.{ℕ, zero, suc, ℤ, pos, negsuc, unsigned_abs, ◌<ℤ◌, ◌+◌, ◌-◌, ◌*◌, ◌/◌, ◌%◌, ◌^◌, ◌<◌, ◌≤◌, ◌+ℤ◌, ◌*ℤ◌, ◌≡◌, ◌≢◌, List, [], ◌∷◌, ◌++◌, length, get_or, refl, sym, ap, ◌∙◌, arith, append_assoc}
use Rattle.std.specs.Fmt.{decimal}
use Rattle.std.proofs.lemmas.Fmt.{decimal_is_IsNumeral}
use Rattle.std.proofs.lemmas.List.{get_or_push, length-append}
use Rattle.std.proofs.Math.Nat.{pow-suc}
use Rattle.jiff_core.proofs.SignedLemmas.{signed_arith, one_part}
use Rattle.cbor_edn_times_and_addresses.specs.Time.{number}
use Rattle.cbor_edn_parts.proofs.lemmas.number.Decimals.{value_is}
use Rattle.cbor_edn_parts.specs.number.Number.{Sign, NoSign, PlusSign, MinusSign, sign_text, signed}
use Rattle.cbor_edn_times_and_addresses.specs.TimeDecimal.{IsNumberOf, pointed}
use Rattle.cbor_edn_times_and_addresses.specs.internal.TimeWriting.{padded, AreShortest, GetsFraction}
use Rattle.cbor_edn_times_and_addresses.proofs.TimeDigits.{padded_are, padded_number, padded_more}

-- one zero less at the end
pub zero_less : (n p : ℕ) → n % 10 ≡ 0 → 0 < n → n < 10 ^ p → p ≤ 9 → (n * 10 ^ (9 - p) ≡ n / 10 * 10 ^ (9 - (p - 1))) × (n / 10 < 10 ^ (p - 1)) × (2 ≤ p)
zero_less n zero e some bound high = absurd (omega arith)
zero_less n (suc zero) e some bound high = absurd (omega arith)
zero_less n (suc (suc p)) e some bound high =
    let less : suc (suc p) - 1 ≡ suc p = omega arith in
    let back : 9 - suc p ≡ suc (9 - suc (suc p)) = omega arith in
    let unit : 10 ^ suc (9 - suc (suc p)) ≡ 10 ^ (9 - suc (suc p)) * 10 = pow-suc 10 (9 - suc (suc p)) in
    let more : 10 ^ suc (suc p) ≡ 10 ^ suc p * 10 = pow-suc 10 (suc p) in
    let ten : n ≡ n / 10 * 10 = omega arith in
    rw less (rw back (ap (λ m. m * 10 ^ (9 - suc (suc p))) ten ∙ regroup (n / 10) (10 ^ (9 - suc (suc p))) (10 ^ suc (9 - suc (suc p))) unit, omega (arith, more), omega arith))
  where
    regroup : (a u v : ℕ) → v ≡ u * 10 → a * 10 * u ≡ a * v
    regroup a u v e = rw e (omega arith)

pub shortest : (n k number : ℕ) → n ≡ number * 10 ^ (9 - k) → k ≤ 9 → number < 10 ^ k → number % 10 ≢ 0 → AreShortest (padded k number) n
shortest n zero m e high bound last = absurd (omega arith)
shortest n (suc k) m e high bound last =
    let are = padded_are (suc k) m in
    let is = padded_number (suc k) m bound in
    let more = padded_more (suc k) m (omega arith) in
    let back : suc k - 1 ≡ k = omega arith in
    let front = padded_are k (m / 10) in
    let end : get_or (padded (suc k) m) (length (padded (suc k) m) - 1) 0 ≡ 48 + m % 10 =
    ap (λ i. get_or (padded (suc k) m) i 0) (omega (arith, are.0)) ∙ (ap (λ t. get_or t k 0) (more ∙ ap (λ j. padded j (m / 10) ++ (48 + m % 10) ∷ []) back) ∙ get_or_push (padded k (m / 10)) (48 + m % 10) 0 k front.0) in
    record {
      digits = are.1;
      places = omega (arith, are.0);
      value = e ∙ (ap (λ x. x * 10 ^ (9 - suc k)) (sym is) ∙ ap (λ l. number (padded (suc k) m) * 10 ^ (9 - l)) (sym are.0));
      last = λ z. last (omega (arith, end, z));
    }

not_plus : NoSign ≢ PlusSign
not_plus e = cc

minus_not_plus : MinusSign ≢ PlusSign
minus_not_plus e = cc

-- a sign, a number, a point and the fewest digits
pub pointed_by : (t front : List ℕ) (s : ℤ) (n w f : ℕ) (sign : Sign) → sign ≢ PlusSign → w < 2 ^ 64 → front ≡ sign_text sign ++ (decimal w ++ (46 ∷ [])) → GetsFraction front t f → n ≢ 0 → n < 1_000_000_000
    → s *ℤ pos 1_000_000_000 +ℤ pos n ≡ signed sign (w * 1_000_000_000 + f) → IsNumberOf t s n
pointed_by t front s n w f sign not w_in front_is g some n_in worth =
    let numeral = decimal_is_IsNumeral w w_in in
    let value = value_is w (omega (arith, w_in)) in
    pointed
    (record {
      sign = sign;
      whole = decimal w;
      fraction = g.digits;
      whole_is = numeral.0.1;
      fraction_is = g.digits_are.digits;
      places_in = g.digits_are.places;
      digit = λ e. let none = ap length e in omega (arith, none, numeral.0.0, length-append (decimal w) g.digits);
      spelled = g.spelled ∙ (ap (λ x. x ++ g.digits) front_is ∙ simp append_assoc);
      nanoseconds_in = n_in;
      worth = worth ∙ (ap (λ x. signed sign (x * 1_000_000_000 + f)) (sym value) ∙ ap (λ x. signed sign (number (decimal w) * 1_000_000_000 + x)) g.digits_are.value);
    })
    some not (ap decimal (sym value)) g.digits_are.last

pub positive_by : (t front : List ℕ) (s : ℤ) (n w : ℕ) → s ≡ pos w → w < 2 ^ 64 → front ≡ decimal w ++ (46 ∷ []) → GetsFraction front t n → n ≢ 0 → n < 1_000_000_000 → IsNumberOf t s n
positive_by t front s n w e w_in front_is g some n_in = pointed_by t front s n w n NoSign not_plus w_in front_is g some n_in (rw e refl)

pub negative_by : (t front : List ℕ) (s : ℤ) (n w f : ℕ) → s ≡ negsuc w → w < 2 ^ 64 → front ≡ 45 ∷ (decimal w ++ (46 ∷ [])) → GetsFraction front t f → f + n ≡ 1_000_000_000 → n ≢ 0 → n < 1_000_000_000 → IsNumberOf t s n
negative_by t front s n w f e w_in front_is g sum some n_in = pointed_by t front s n w f MinusSign minus_not_plus w_in front_is g some n_in (rw e (omega (arith, signed_arith)))

pub negative : (s : ℤ) → s <ℤ pos 0 → s ≡ negsuc (unsigned_abs (s +ℤ pos 1))
negative s h = omega (arith, signed_arith, one_part (s +ℤ pos 1))
