-- The decimals that are read are those of instants.
use Rattle.std.proofs.Common.{ℕ, ℤ, pos, neg_ℤ, unsigned_abs, ◌+◌, ◌*◌, ◌<◌, ◌≤◌, ◌+ℤ◌, ◌*ℤ◌, ◌≡◌, ◌≢◌, ◌↔◌, inl, inr, min, List, [], ◌∷◌, ◌++◌, length, get_or, take, drop, Bool, true, false, if◌then◌else◌, ◌==◌, refl, sym, ap, ◌∙◌, subst, arith}
use Rattle.std.specs.Int.{IsInRange, int_div_euclid, int_rem_euclid}
use Rattle.std.specs.Str.Parse.{AllDigits}
use Rattle.std.proofs.lemmas.Bool.{cases_order, eqb-true, ne_eqb}
use Rattle.std.proofs.lemmas.List.{get_or_append_left}
use Rattle.std.proofs.lemmas.Str.Parse.{digit_at}
use Rattle.jiff_core.proofs.SignedLemmas.{signed_arith}
use Rattle.cbor_edn_times_and_addresses.specs.Time.{number, nanoseconds_of, IsTimeStamp}
use Rattle.cbor_edn_parts.specs.number.Number.{Sign, NoSign, PlusSign, MinusSign, sign_text, signed}
use Rattle.cbor_edn_times_and_addresses.specs.TimeDecimal.{HasDecimal, IsOutOfRange}
use Rattle.cbor_edn_parts.specs.internal.NumberReading.{sign_of, without_sign}
use Rattle.cbor_edn_times_and_addresses.specs.internal.DecimalReading.{most_seconds, IsUnsigned, IsFirstPoint}
use Rattle.cbor_edn_times_and_addresses.proofs.TimeParts.{cut_at}

-- ---- the point

-- digits end at the first point
pub first_point_is : (t : List ℕ) (w f i : ℕ) (h : IsUnsigned t w f) → IsFirstPoint t i → length h.whole ≡ i
first_point_is t w f i h p =
    let k = cut_at t (length h.whole) h.whole 46 h.fraction h.spelled refl in
    elim (cases_order (length h.whole) i) [
      | inl same ↦ same
      | inr (inl below) ↦ absurd (p.before (length h.whole) below k.at)
      | inr (inr above) ↦
          let digit = digit_at h.whole i h.whole_is above in
          let there : get_or t i 0 ≡ get_or h.whole i 0 = ap (λ x. get_or x i 0) h.spelled ∙ get_or_append_left h.whole (46 ∷ h.fraction) 0 i above in
          absurd (omega (arith, p.point, digit, there))
    ]

pub has_point : (t : List ℕ) (w f : ℕ) (h : IsUnsigned t w f) → (length h.whole < length t) × (get_or t (length h.whole) 0 ≡ 46)
has_point t w f h = let k = cut_at t (length h.whole) h.whole 46 h.fraction h.spelled refl in (omega (arith, k.len), k.at)

-- its parts by the place of the point
pub record PointAt (t : List ℕ) (i w f : ℕ) : Type 0 where
  pub whole : AllDigits 10 (take i t)
  pub fraction : AllDigits 10 (drop (i + 1) t)
  pub places : length (drop (i + 1) t) ≤ 9
  pub digit : length t ≢ 1

nonempty : (a b : List ℕ) → a ++ b ≢ [] → length a + length b ≢ 0
nonempty [] [] some e = some refl
nonempty [] (c ∷ b) some e = omega (arith, e)
nonempty (c ∷ a) b some e = omega (arith, e)

pub point_at : (t : List ℕ) (i w f : ℕ) → IsUnsigned t w f → IsFirstPoint t i → PointAt t i w f
point_at t i w f h p =
    let k = cut_at t i h.whole 46 h.fraction h.spelled (first_point_is t w f i h p) in
    record {
      whole = subst (AllDigits 10) k.front h.whole_is;
      fraction = subst (AllDigits 10) k.back h.fraction_is;
      places = subst (λ x. length x ≤ 9) k.back h.places_in;
      digit = λ one. nonempty h.whole h.fraction h.digit (omega (arith, k.len, one, first_point_is t w f i h p));
    }

-- ---- the sign

pub signs : (sign : Sign) (u : List ℕ) → get_or u 0 0 ≢ 45 → get_or u 0 0 ≢ 43 → (sign_of (sign_text sign ++ u) ≡ sign) × (without_sign (sign_text sign ++ u) ≡ u)
signs PlusSign u a b = (refl, refl)
signs MinusSign u a b = (refl, refl)
signs NoSign u a b =
    let minus = ne_eqb (get_or u 0 0) 45 a in
    let plus = ne_eqb (get_or u 0 0) 43 b in
    let is : sign_of u ≡ NoSign = rw (minus, plus) refl in
    (is, ap (λ s. drop (length (sign_text s)) u) is)

begins : (a b : List ℕ) → AllDigits 10 a → IsInRange 46 57 (get_or (a ++ (46 ∷ b)) 0 0)
begins [] b h = (omega arith, omega arith)
begins (c ∷ a) b h = let d = digit_at (c ∷ a) 0 h (omega arith) in (omega (arith, d), omega (arith, d))

pub sign_parts : (t : List ℕ) (s : ℤ) (n : ℕ) (h : HasDecimal t s n) → (sign_of t ≡ h.sign) × (without_sign t ≡ h.whole ++ (46 ∷ h.fraction))
sign_parts t s n h =
    let first = begins h.whole h.fraction h.whole_is in
    let parts = signs h.sign (h.whole ++ (46 ∷ h.fraction)) (omega (arith, first)) (omega (arith, first)) in
    (ap sign_of h.spelled ∙ parts.0, ap without_sign h.spelled ∙ parts.1)

pub unsigned_at : (t : List ℕ) (s : ℤ) (n : ℕ) (h : HasDecimal t s n) → IsUnsigned (without_sign t) (min (number h.whole) most_seconds) (nanoseconds_of h.fraction)
unsigned_at t s n h = record {
  whole = h.whole;
  fraction = h.fraction;
  whole_is = h.whole_is;
  fraction_is = h.fraction_is;
  places_in = h.places_in;
  digit = h.digit;
  spelled = (sign_parts t s n h).1;
  seconds_are = refl;
  nanoseconds_are = refl;
}

front_of : (t : List ℕ) (c : ℕ) → c ≢ 0 → get_or t 0 0 ≡ c → t ≡ c ∷ drop 1 t
front_of [] c some e = absurd (omega (arith, some, e))
front_of (d ∷ t) c some e = ap (λ x. x ∷ t) e

signed_text_by : (t : List ℕ) (a b : Bool) → (get_or t 0 0 == 45) ≡ a → (get_or t 0 0 == 43) ≡ b →
    t ≡ sign_text (if a then MinusSign else if b then PlusSign else NoSign) ++ drop (length (sign_text (if a then MinusSign else if b then PlusSign else NoSign))) t
signed_text_by t true b e f = front_of t 45 (omega arith) (eqb-true (get_or t 0 0) 45 e)
signed_text_by t false true e f = front_of t 43 (omega arith) (eqb-true (get_or t 0 0) 43 f)
signed_text_by t false false e f = refl

pub signed_text : (t : List ℕ) → t ≡ sign_text (sign_of t) ++ without_sign t
signed_text t = signed_text_by t (get_or t 0 0 == 45) (get_or t 0 0 == 43) refl refl

pub signed_if : (sign : Sign) (b : Bool) (n : ℕ) → ((b ≡ true) ↔ (sign ≡ MinusSign)) → (if b then neg_ℤ (pos n) else pos n) ≡ signed sign n
signed_if MinusSign true n h = refl
signed_if MinusSign false n h = absurd (let e = h.1 refl in cc e)
signed_if PlusSign true n h = absurd (let e = h.0 refl in cc e)
signed_if PlusSign false n h = refl
signed_if NoSign true n h = absurd (let e = h.0 refl in cc e)
signed_if NoSign false n h = refl

-- ---- the range

-- seconds in the range are fewer than the most that are counted
few_seconds : (sign : Sign) (s : ℤ) (n w f : ℕ) → n < 1_000_000_000 → s *ℤ pos 1_000_000_000 +ℤ pos n ≡ signed sign (w * 1_000_000_000 + f) → IsTimeStamp s → w < 1_000_000_000_000
few_seconds NoSign s n w f small e h = omega (arith, signed_arith)
few_seconds PlusSign s n w f small e h = omega (arith, signed_arith)
few_seconds MinusSign s n w f small e h = omega (arith, signed_arith)

pub decimal_of : (t : List ℕ) (s : ℤ) (n w f : ℕ) → IsUnsigned (without_sign t) w f → n < 1_000_000_000 → s *ℤ pos 1_000_000_000 +ℤ pos n ≡ signed (sign_of t) (w * 1_000_000_000 + f) → IsTimeStamp s → HasDecimal t s n
decimal_of t s n w f h small e range =
    let few = few_seconds (sign_of t) s n w f small e range in
    let all : w ≡ number h.whole = omega (arith, few, h.seconds_are) in
    record {
      sign = sign_of t;
      whole = h.whole;
      fraction = h.fraction;
      whole_is = h.whole_is;
      fraction_is = h.fraction_is;
      places_in = h.places_in;
      digit = h.digit;
      spelled = signed_text t ∙ ap (λ u. sign_text (sign_of t) ++ u) h.spelled;
      nanoseconds_in = small;
      worth = e ∙ (ap (λ x. signed (sign_of t) (x * 1_000_000_000 + f)) all ∙ ap (λ x. signed (sign_of t) (number h.whole * 1_000_000_000 + x)) h.nanoseconds_are);
    }

-- one number is worth one instant
pub one_worth : (r s z : ℤ) (m n : ℕ) → m < 1_000_000_000 → n < 1_000_000_000 → r *ℤ pos 1_000_000_000 +ℤ pos m ≡ z → s *ℤ pos 1_000_000_000 +ℤ pos n ≡ z → (r ≡ s) × (m ≡ n)
one_worth r s z m n a b e f = (omega (arith, signed_arith), omega (arith, signed_arith))

record Floored (z : ℤ) : Type 0 where
  seconds : ℤ
  nanoseconds : ℕ
  small : nanoseconds < 1_000_000_000
  worth : seconds *ℤ pos 1_000_000_000 +ℤ pos nanoseconds ≡ z

floored : (z : ℤ) → Floored z
floored z = record {
  seconds = int_div_euclid z (pos 1_000_000_000);
  nanoseconds = unsigned_abs (int_rem_euclid z (pos 1_000_000_000));
  small = omega (arith, signed_arith);
  worth = omega (arith, signed_arith);
}

pub beyond : (t : List ℕ) (s : ℤ) (n w f : ℕ) → IsUnsigned (without_sign t) w f → n < 1_000_000_000 → s *ℤ pos 1_000_000_000 +ℤ pos n ≡ signed (sign_of t) (w * 1_000_000_000 + f) → ¬ IsTimeStamp s → IsOutOfRange t
beyond t s n w f h small e outside =
    let z = signed (sign_of t) (number h.whole * 1_000_000_000 + f) in
    let there = floored (signed (sign_of t) (number h.whole * 1_000_000_000 + f)) in
    record {
      seconds = there.seconds;
      nanoseconds = there.nanoseconds;
      decimal_is = record {
        sign = sign_of t;
        whole = h.whole;
        fraction = h.fraction;
        whole_is = h.whole_is;
        fraction_is = h.fraction_is;
        places_in = h.places_in;
        digit = h.digit;
        spelled = signed_text t ∙ ap (λ u. sign_text (sign_of t) ++ u) h.spelled;
        nanoseconds_in = there.small;
        worth = there.worth ∙ ap (λ x. signed (sign_of t) (number h.whole * 1_000_000_000 + x)) h.nanoseconds_are;
      };
      outside = λ range.
          let few = few_seconds (sign_of t) there.seconds there.nanoseconds (number h.whole) f there.small there.worth range in
          let all : w ≡ number h.whole = omega (arith, few, h.seconds_are) in
          let same = one_worth there.seconds s z there.nanoseconds n there.small small there.worth (e ∙ ap (λ x. signed (sign_of t) (x * 1_000_000_000 + f)) all) in
          outside (subst IsTimeStamp same.0 range);
    }

-- ---- one instant

same_digits : (a b c d : List ℕ) → AllDigits 10 a → AllDigits 10 c → a ++ (46 ∷ b) ≡ c ++ (46 ∷ d) → (a ≡ c) × (b ≡ d)
same_digits [] b [] d h k e = (refl, ap (drop 1) e)
same_digits [] b (x ∷ c) d h k e =
    let digit = digit_at (x ∷ c) 0 k (omega arith) in
    absurd (omega (arith, digit, ap (λ t. get_or t 0 0) e))
same_digits (x ∷ a) b [] d h k e =
    let digit = digit_at (x ∷ a) 0 h (omega arith) in
    absurd (omega (arith, digit, ap (λ t. get_or t 0 0) e))
same_digits (x ∷ a) b (y ∷ c) d h k e =
    let first : x ≡ y = ap (λ t. get_or t 0 0) e in
    let rest = same_digits a b c d h.1 k.1 (ap (drop 1) e) in
    (cc, rest.1)

pub one_decimal : (t : List ℕ) (r s : ℤ) (m n : ℕ) → HasDecimal t r m → HasDecimal t s n → (r ≡ s) × (m ≡ n)
one_decimal t r s m n h k =
    let a = sign_parts t r m h in
    let b = sign_parts t s n k in
    let parts = same_digits h.whole h.fraction k.whole k.fraction h.whole_is k.whole_is (sym a.1 ∙ b.1) in
    one_worth r s (signed k.sign (number k.whole * 1_000_000_000 + nanoseconds_of k.fraction)) m n h.nanoseconds_in k.nanoseconds_in
    (h.worth ∙ (ap (λ x. signed x (number h.whole * 1_000_000_000 + nanoseconds_of h.fraction)) (sym a.0 ∙ b.0) ∙ (ap (λ x. signed k.sign (number x * 1_000_000_000 + nanoseconds_of h.fraction)) parts.0 ∙ ap (λ x. signed k.sign (number k.whole * 1_000_000_000 + nanoseconds_of x)) parts.1)))
    k.worth
