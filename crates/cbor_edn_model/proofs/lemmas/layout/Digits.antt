-- How many digits a number has.
use Rattle.std.proofs.Common.{ℕ, ◌+◌, ◌/◌, ◌%◌, ◌^◌, ◌<◌, ◌≤◌, ◌≡◌, [], ◌∷◌, length, ap, ◌∙◌, length-append, arith}
use Rattle.std.specs.Fmt.{decimal}
use Rattle.std.proofs.lemmas.Fmt.{decimal_digit, decimal_step, length-decimal-le}

pub one_digit : (n : ℕ) → n < 10 → length (decimal n) ≡ 1
one_digit n small = ap length (decimal_digit n small)

pub more_digits : (n : ℕ) → 10 ≤ n → n < 2 ^ 64 → length (decimal n) ≡ length (decimal (n / 10)) + 1
more_digits n large fits = ap length (decimal_step n large fits) ∙ length-append (decimal (n / 10)) ((48 + n % 10) ∷ [])

pub few_digits : (n : ℕ) → n < 2 ^ 64 → length (decimal n) ≤ 20
few_digits n fits = length-decimal-le 20 n (omega arith) (omega arith) fits
