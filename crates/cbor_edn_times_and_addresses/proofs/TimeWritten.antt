-- An instant is written as one number.
use Rattle.std.proofs.Common.{ℕ, suc, ℤ, pos, ◌+◌, ◌-◌, ◌*◌, ◌%◌, ◌^◌, ◌<◌, ◌≤◌, ◌+ℤ◌, ◌*ℤ◌, ◌≡◌, ◌≢◌, inl, inr, List, [], ◌∷◌, length, get_or, take, refl, sym, ap, ◌∙◌, arith, lit<}
use Rattle.std.specs.Fmt.{decimal}
use Rattle.std.specs.Str.Parse.{AllDigits}
use Rattle.std.proofs.lemmas.Bool.{cases_order}
use Rattle.std.proofs.lemmas.List.{take_all}
use Rattle.std.proofs.lemmas.Nat.{pow-add, same_from_place}
use Rattle.std.proofs.lemmas.Str.Parse.{digit_at}
use Rattle.std.proofs.Math.Nat.{one-le-pow, pow-suc}
use Rattle.jiff_core.proofs.SignedLemmas.{signed_arith}
use Rattle.cbor_edn_times_and_addresses.specs.Time.{number, nanoseconds_of}
use Rattle.cbor_edn_parts.specs.number.Number.{Sign, NoSign, PlusSign, MinusSign, signed}
use Rattle.cbor_edn_times_and_addresses.specs.TimeDecimal.{HasDecimal, IsNumberOf, integer, pointed}
use Rattle.cbor_edn_times_and_addresses.specs.TimeLaws.{WrittenAs}
use Rattle.cbor_edn_times_and_addresses.proofs.TimeDigits.{number-lt, number_more, same_digits, plain_digit}
use Rattle.cbor_edn_times_and_addresses.proofs.TimeGrammar.{whole_number}
use Rattle.cbor_edn_times_and_addresses.proofs.TimeParts.{nanoseconds_bound}

-- digits that end in another digit than zero write no multiple of ten
last_digit : (ds : List ℕ) → AllDigits 10 ds → 0 < length ds → get_or ds (length ds - 1) 0 ≢ 48 → number ds % 10 ≢ 0
last_digit ds h some last multiple =
    let back : length ds - 1 + 1 ≡ length ds = omega arith in
    let more = number_more ds (length ds - 1) (omega arith) in
    let all : number (take (length ds - 1 + 1) ds) ≡ number ds = ap (λ k. number (take k ds)) back ∙ ap number (take_all (length ds) ds (omega arith)) in
    let digit = digit_at ds (length ds - 1) h (omega arith) in
    let is = plain_digit (get_or ds (length ds - 1) 0) digit in
    last (omega (arith, multiple, all, more, digit, is))

-- a longer fraction of the same nanoseconds ends in a zero
not_longer : (m n a b : ℕ) → a < b → b ≤ 9 → n % 10 ≢ 0 → m * 10 ^ (9 - a) ≡ n * 10 ^ (9 - b) → ⊥
not_longer m n a b less high last e =
    let k = b - a - 1 in
    let split : 9 - a ≡ suc (b - a - 1) + (9 - b) = omega arith in
    let unit : 10 ^ (9 - a) ≡ 10 ^ suc (b - a - 1) * 10 ^ (9 - b) = ap (λ i. 10 ^ i) split ∙ pow-add 10 (suc (b - a - 1)) (9 - b) in
    let ten : 10 ^ suc (b - a - 1) ≡ 10 ^ (b - a - 1) * 10 = pow-suc 10 (b - a - 1) in
    let whole : m * (10 ^ (b - a - 1) * 10) * 10 ^ (9 - b) ≡ n * 10 ^ (9 - b) = regroup m (10 ^ (b - a - 1) * 10) (10 ^ (9 - b)) (10 ^ (9 - a)) (unit ∙ ap (λ x. x * 10 ^ (9 - b)) ten) ∙ e in
    let some = one-le-pow (9 - b) 10 (lit< tt) in
    let same = same_from_place (m * (10 ^ (b - a - 1) * 10)) 0 n 0 (10 ^ (9 - b)) some some (omega (arith, whole)) in
    last (multiple m (10 ^ (b - a - 1)) n same.0)
  where
    regroup : (m u v w : ℕ) → w ≡ u * v → m * u * v ≡ m * w
    regroup m u v w e = rw e (omega arith)

    multiple : (m u n : ℕ) → m * (u * 10) ≡ n → n % 10 ≡ 0
    multiple m u n e = let ten : n ≡ m * u * 10 = omega arith in omega (arith, ten)

some_digits : (ds : List ℕ) → nanoseconds_of ds ≢ 0 → 0 < length ds
some_digits [] some = absurd (some (omega arith))
some_digits (c ∷ ds) some = omega arith

same_fraction : (ds es : List ℕ) → AllDigits 10 ds → AllDigits 10 es → length ds ≤ 9 → length es ≤ 9 → nanoseconds_of ds ≢ 0 → nanoseconds_of ds ≡ nanoseconds_of es
    → get_or ds (length ds - 1) 0 ≢ 48 → get_or es (length es - 1) 0 ≢ 48 → ds ≡ es
same_fraction ds es h k a b some e last end =
    let d = some_digits ds some in
    let f = some_digits es (λ z. some (e ∙ z)) in
    let len : length ds ≡ length es = elim (cases_order (length ds) (length es)) [
      | inl same ↦ same
      | inr (inl less) ↦ absurd (not_longer (number ds) (number es) (length ds) (length es) less b (last_digit es k f end) e)
      | inr (inr more) ↦ absurd (not_longer (number es) (number ds) (length es) (length ds) more a (last_digit ds h d last) (sym e))
    ] in
    let same : number ds * 10 ^ (9 - length ds) ≡ number es * 10 ^ (9 - length ds) = e ∙ ap (λ l. number es * 10 ^ (9 - l)) (sym len) in
    let unit = one-le-pow (9 - length ds) 10 (lit< tt) in
    same_digits ds es len h k (same_from_place (number ds) 0 (number es) 0 (10 ^ (9 - length ds)) unit unit (omega (arith, same))).0

fraction_in : (ds : List ℕ) → AllDigits 10 ds → length ds ≤ 9 → nanoseconds_of ds < 1_000_000_000
fraction_in ds h a = nanoseconds_bound (number ds) (length ds) (number-lt ds h) a

-- the sign, the seconds in front of the point and the nanoseconds behind it, by the instant
record SameParts (σ τ : Sign) (v w f g : ℕ) : Type 0 where
  pub sign : σ ≡ τ
  pub whole : v ≡ w
  pub fraction : f ≡ g
  pub some : f ≢ 0

same_parts : (σ τ : Sign) (v w f g n : ℕ) (s : ℤ) → σ ≢ PlusSign → τ ≢ PlusSign → f < 1_000_000_000 → g < 1_000_000_000 → n ≢ 0 → n < 1_000_000_000
    → s *ℤ pos 1_000_000_000 +ℤ pos n ≡ signed σ (v * 1_000_000_000 + f) → s *ℤ pos 1_000_000_000 +ℤ pos n ≡ signed τ (w * 1_000_000_000 + g) → SameParts σ τ v w f g
same_parts PlusSign τ v w f g n s p q a b some small d e = absurd (p refl)
same_parts NoSign PlusSign v w f g n s p q a b some small d e = absurd (q refl)
same_parts MinusSign PlusSign v w f g n s p q a b some small d e = absurd (q refl)
same_parts NoSign NoSign v w f g n s p q a b some small d e = record { sign = refl; whole = omega (arith, signed_arith); fraction = omega (arith, signed_arith); some = omega (arith, signed_arith) }
same_parts MinusSign MinusSign v w f g n s p q a b some small d e = record { sign = refl; whole = omega (arith, signed_arith); fraction = omega (arith, signed_arith); some = omega (arith, signed_arith) }
same_parts NoSign MinusSign v w f g n s p q a b some small d e = absurd (omega (arith, signed_arith))
same_parts MinusSign NoSign v w f g n s p q a b some small d e = absurd (omega (arith, signed_arith))

one_number : (t u : List ℕ) (s : ℤ) (n : ℕ) → IsNumberOf t s n → IsNumberOf u s n → t ≡ u
one_number t u s n (integer whole e) (integer also f) = e ∙ sym f
one_number t u s n (integer whole e) (pointed k some q w l) = absurd (some whole)
one_number t u s n (pointed h some p v l) (integer whole f) = absurd (some whole)
one_number t u s n (pointed h some p v last) (pointed k more q w end) =
    let same = same_parts h.sign k.sign (number h.whole) (number k.whole) (nanoseconds_of h.fraction) (nanoseconds_of k.fraction) n s p q (fraction_in h.fraction h.fraction_is h.places_in) (fraction_in k.fraction k.fraction_is k.places_in) some h.nanoseconds_in h.worth k.worth in
    let sign = same.sign in
    let whole : h.whole ≡ k.whole = v ∙ (ap decimal same.whole ∙ sym w) in
    let fraction = same_fraction h.fraction k.fraction h.fraction_is k.fraction_is h.places_in k.places_in same.some same.fraction last end in
    h.spelled ∙ (rw (sign, whole, fraction) (sym k.spelled))

number_back : (t : List ℕ) (s : ℤ) (n : ℕ) → IsNumberOf t s n → n ≢ 0 → HasDecimal t s n
number_back t s n (integer whole e) some = absurd (some whole)
number_back t s n (pointed h more p v last) some = h

pub written_as : (s : ℤ) (n : ℕ) → WrittenAs s n
written_as s n = record { one = λ t u h k. one_number t u s n h k; whole = λ t h none small. whole_number t s n h none small; back = λ t h some. number_back t s n h some }
