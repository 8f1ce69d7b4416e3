-- Indices, digit by digit.
use Rattle.std.proofs.Common.{arith, ◌≡◌, ℕ, zero, suc, ◌+◌, ◌-◌, ◌*◌, ◌/◌, ◌%◌, ◌^◌, ◌<◌, ◌≤◌, true, false, [], ◌∷◌, ◌++◌, Option, Some, None, refl, ap, ◌∙◌}
use Rattle.std.specs.Prelude.{◌==◌, ◌&&◌, not, nat_le, nat_lt}
use Rattle.std.specs.Fmt.{decimal}
use Rattle.std.proofs.lemmas.Fmt.{decimal_digit, decimal_step}
use Rattle.std.proofs.lemmas.Bool.{leb-true, le-leb, ltb-true, lt-ltb, eqb-false, ne_eqb}
use Rattle.cbor_edn_paths.specs.internal.Places.{is_digit, first_digit, more_digits}
use Rattle.cbor_edn_paths.proofs.Insides.{choose, if_true, not_true, and_left, and_right, both}

digit_range : (c : ℕ) → is_digit c ≡ true → (48 ≤ c) × (c ≤ 57)
digit_range c h = (leb-true 48 c (and_left (nat_le 48 c) (nat_le c 57) h), leb-true c 57 (and_right (nat_le 48 c) (nat_le c 57) h))

abbrev pub BeginsWith : ℕ → Option ℕ → Type 0
BeginsWith c None = Unit {0}
BeginsWith c (Some n) = (decimal n ≡ c ∷ []) × (n < 2 ^ 64)

one_digit : (c : ℕ) → 48 ≤ c → c ≤ 57 → decimal (c - 48) ≡ c ∷ []
one_digit c low high = let same : 48 + (c - 48) ≡ c = omega arith in decimal_digit (c - 48) (omega arith) ∙ ap (λ b. b ∷ []) same

pub first_written : (c : ℕ) → BeginsWith c (first_digit c)
first_written c = choose (BeginsWith c) (is_digit c) (Some (c - 48)) None (λ h. let r = digit_range c h in (one_digit c r.0 r.1, omega (arith, r.0, r.1))) (λ h. tt)

abbrev pub GoesOn : ℕ → ℕ → Option ℕ → Type 0
GoesOn n c None = Unit {0}
GoesOn n c (Some m) = (decimal m ≡ decimal n ++ (c ∷ [])) × (m < 2 ^ 64)

positive : (n : ℕ) → (n ≡ 0 → ⊥) → 0 < n
positive zero h = absurd (h refl)
positive (suc n) h = omega arith

more_facts : (n c : ℕ) → (is_digit c && (not (n == 0) && nat_lt (10 * n + (c - 48)) (2 ^ 64))) ≡ true → (48 ≤ c) × (c ≤ 57) × (0 < n) × (10 * n + (c - 48) < 2 ^ 64)
more_facts n c h =
    let range = digit_range c (and_left (is_digit c) _ h) in
    let rest = and_right (is_digit c) _ h in
    let some = eqb-false n 0 (not_true (n == 0) (and_left (not (n == 0)) _ rest)) in
    (range.0, range.1, positive n some, ltb-true (10 * n + (c - 48)) (2 ^ 64) (and_right (not (n == 0)) _ rest))

last_digit : (n c m : ℕ) → 48 ≤ c → c ≤ 57 → 0 < n → m ≡ 10 * n + (c - 48) → m < 2 ^ 64 → decimal m ≡ decimal n ++ (c ∷ [])
last_digit n c m low high some is small =
    let quotient : m / 10 ≡ n = omega arith in
    let digit : 48 + m % 10 ≡ c = omega arith in
    decimal_step m (omega arith) small ∙ ap (λ k. decimal k ++ ((48 + m % 10) ∷ [])) quotient ∙ ap (λ b. decimal n ++ (b ∷ [])) digit

pub more_written : (n c : ℕ) → GoesOn n c (more_digits n c)
more_written n c = choose (GoesOn n c) (is_digit c && (not (n == 0) && nat_lt (10 * n + (c - 48)) (2 ^ 64))) (Some (10 * n + (c - 48))) None (λ h. let f = more_facts n c h in (last_digit n c (10 * n + (c - 48)) f.0 f.1 f.2 refl f.3, f.3)) (λ h. tt)

-- the digits of a number, read one by one
digit_there : (n : ℕ) → n < 10 → is_digit (48 + n) ≡ true
digit_there n h = both (nat_le 48 (48 + n)) (nat_le (48 + n) 57) (le-leb 48 (48 + n) (omega arith)) (le-leb (48 + n) 57 (omega arith))

pub first_read : (n : ℕ) → n < 10 → first_digit (48 + n) ≡ Some n
first_read n h = let same : 48 + n - 48 ≡ n = omega arith in if_true (is_digit (48 + n)) (Some (48 + n - 48)) None (digit_there n h) ∙ ap (λ m. Some m) same

some_front : (n : ℕ) → 10 ≤ n → not (n / 10 == 0) ≡ true
some_front n h = let apart : (n / 10 == 0) ≡ false = ne_eqb (n / 10) 0 (λ e. omega arith) in rw apart refl

more_there : (n : ℕ) → 10 ≤ n → n < 2 ^ 64 → (is_digit (48 + n % 10) && (not (n / 10 == 0) && nat_lt (10 * (n / 10) + (48 + n % 10 - 48)) (2 ^ 64))) ≡ true
more_there n some small =
    both (is_digit (48 + n % 10)) _ (digit_there (n % 10) (omega arith))
    (both (not (n / 10 == 0)) _ (some_front n some) (lt-ltb (10 * (n / 10) + (48 + n % 10 - 48)) (2 ^ 64) (omega arith)))

pub more_read : (n : ℕ) → 10 ≤ n → n < 2 ^ 64 → more_digits (n / 10) (48 + n % 10) ≡ Some n
more_read n some small =
    let same : 10 * (n / 10) + (48 + n % 10 - 48) ≡ n = omega arith in
    if_true (is_digit (48 + n % 10) && (not (n / 10 == 0) && nat_lt (10 * (n / 10) + (48 + n % 10 - 48)) (2 ^ 64))) (Some (10 * (n / 10) + (48 + n % 10 - 48))) None (more_there n some small) ∙ ap (λ m. Some m) same
