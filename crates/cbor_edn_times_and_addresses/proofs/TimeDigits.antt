-- Numbers that are written with so many digits read back.
use Rattle.std.proofs.Common.{true, Result, Ok, Err, is_ok, OnOk, if◌then◌else◌, append_assoc, ℕ, zero, suc, ◌+◌, ◌-◌, ◌*◌, ◌/◌, ◌%◌, ◌^◌, ◌<◌, ◌≡◌, List, [], ◌∷◌, ◌++◌, length, take, get_or, refl, sym, ap, ◌∙◌, subst, arith}
use Rattle.std.specs.Char.{digit_value, is_ascii_digit}
use Rattle.std.specs.Str.Parse.{AllDigits}
use Rattle.std.proofs.lemmas.List.{append-nil, length_push}
use Rattle.std.specs.Int.{IsInRange}
use Rattle.std.proofs.lemmas.Int.Digits.{digits_value_push, digits_value_more, digits_push, digits_value-lt}
use Rattle.std.proofs.lemmas.Nat.{same_from_place}
use Rattle.std.proofs.lemmas.Str.Parse.{digit_from_value}
use Rattle.std.proofs.lemmas.Bool.Decides.{nat_tests}
use Rattle.std.proofs.Math.Nat.{pow-suc}
use Rattle.cbor_edn_parts.proofs.lemmas.number.NumberParts.{number_is}
use Rattle.cbor_edn_times_and_addresses.specs.Time.{number, HasDigits}
use Rattle.cbor_edn_times_and_addresses.specs.internal.TimeWriting.{padded}

-- ---- the number of digits

pub number-lt : (ds : List ℕ) → AllDigits 10 ds → number ds < 10 ^ length ds
number-lt ds h = subst (λ v. v < 10 ^ length ds) (number_is 10 ds) (digits_value-lt 10 ds h)

pub number_push : (ds : List ℕ) (c : ℕ) → number (ds ++ c ∷ []) ≡ number ds * 10 + digit_value c
number_push ds c = sym (number_is 10 (ds ++ c ∷ [])) ∙ (digits_value_push 10 ds c ∙ ap (λ v. v * 10 + digit_value c) (number_is 10 ds))

pub number_more : (ds : List ℕ) (i : ℕ) → i < length ds → number (take (i + 1) ds) ≡ number (take i ds) * 10 + digit_value (get_or ds i 0)
number_more ds i h = sym (number_is 10 (take (i + 1) ds)) ∙ (digits_value_more 10 ds i h ∙ ap (λ v. v * 10 + digit_value (get_or ds i 0)) (number_is 10 (take i ds)))

-- ---- digits of a number

pub padded_none : (t : List ℕ) (k n : ℕ) → k ≡ 0 → t ≡ t ++ padded k n
unfolding padded
padded_none t k n e = sym (append-nil t) ∙ ap (λ k. t ++ padded k n) (sym e)

pub padded_more : (k n : ℕ) → 0 < k → padded k n ≡ padded (k - 1) (n / 10) ++ (48 + n % 10) ∷ []
unfolding padded
padded_more zero n h = absurd (omega arith)
padded_more (suc k) n h = let back : k ≡ suc k - 1 = omega arith in ap (λ j. padded j (n / 10) ++ (48 + n % 10) ∷ []) back

digit_is : (d : ℕ) → d < 10 → digit_value (48 + d) ≡ d
digit_is d h = grind (arith, nat_tests)

pub padded_are : (k n : ℕ) → HasDigits k (padded k n)
unfolding padded
padded_are zero n = (refl, tt)
padded_are (suc k) n =
    let before = padded_are k (n / 10) in
    let last : n % 10 < 10 = omega arith in
    (length_push (padded k (n / 10)) (48 + n % 10) ∙ omega (arith, before.0), digits_push 10 (padded k (n / 10)) (48 + n % 10) before.1 (omega (arith, digit_is (n % 10) last)))

pub padded_number : (k n : ℕ) → n < 10 ^ k → number (padded k n) ≡ n
unfolding padded
padded_number zero n h = omega arith
padded_number (suc k) n h =
    let last : n % 10 < 10 = omega arith in
    let more : 10 ^ suc k ≡ 10 ^ k * 10 = pow-suc 10 k in
    let before = padded_number k (n / 10) (omega (arith, h, more)) in
    number_push (padded k (n / 10)) (48 + n % 10) ∙ omega (arith, before, digit_is (n % 10) last)

-- a push behind what was pushed before
pub pushed : {T E : Type 0} (r : Result T E) (old front new ds ch : List ℕ) (d : ℕ) → new ≡ (if is_ok r then front ++ ch else front) → ch ≡ d ∷ [] → front ≡ old ++ ds → OnOk r (new ≡ old ++ (ds ++ (d ∷ [])))
pushed (Ok x) old front new ds ch d n c f = n ∙ (ap (λ x. front ++ x) c ∙ (ap (λ x. x ++ (d ∷ [])) f ∙ append_assoc old ds (d ∷ [])))
pushed (Err e) old front new ds ch d n c f = tt

pub ascii_digit : (c : ℕ) → is_ascii_digit c ≡ true → (digit_value c ≡ c - 48) × (digit_value c < 10)
ascii_digit c e = grind (arith, nat_tests)

-- ---- digits by their number

pub plain_digit : (c : ℕ) → IsInRange 48 57 c → digit_value c ≡ c - 48
plain_digit c r = grind (arith, nat_tests)

same_digit : (x y : ℕ) → digit_value x < 10 → digit_value y < 10 → digit_value x ≡ digit_value y → x ≡ y
same_digit x y h k e =
    let a = digit_from_value x h in
    let b = digit_from_value y k in
    omega (arith, a, b, e, plain_digit x a, plain_digit y b)

-- digits of one length that write one number are the same
pub same_digits : (a b : List ℕ) → length a ≡ length b → AllDigits 10 a → AllDigits 10 b → number a ≡ number b → a ≡ b
same_digits [] [] len h k e = refl
same_digits [] (y ∷ b) len h k e = absurd (omega arith)
same_digits (x ∷ a) [] len h k e = absurd (omega arith)
same_digits (x ∷ a) (y ∷ b) len h k e =
    let rest : length a ≡ length b = omega arith in
    let both : digit_value x * 10 ^ length a + number a ≡ digit_value y * 10 ^ length a + number b = e ∙ ap (λ l. digit_value y * 10 ^ l + number b) (sym rest) in
    let place = same_from_place (digit_value x) (number a) (digit_value y) (number b) (10 ^ length a) (number-lt a h.1) (subst (λ l. number b < 10 ^ l) (sym rest) (number-lt b k.1)) both in
    let first = same_digit x y h.0 k.0 place.0 in
    let others = same_digits a b rest h.1 k.1 place.1 in
    cc
