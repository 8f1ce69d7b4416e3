-- The states that a sign and the decimal digits behind it lead to.
use Rattle.std.proofs.Common.{ℕ, ◌≡◌, ◌≤◌, Bool, true, false, Option, Some, refl, sym, subst, arith}
use Rattle.std.specs.Prelude.{ltb, ◌||◌}
use Rattle.std.proofs.lemmas.Bool.{agree_below, agree_below_at, or_cases, ltb-true, false≢true}
use mathlib.Core.Logic.{⊎_elim}
use Rattle.cbor_edn_parts.specs.base.Bytes.{kind}
use Rattle.cbor_edn_parts.specs.internal.NumberTokens as tokens
use Rattle.cbor_edn_parts.specs.internal.NumberTokens.{number_step}
use Rattle.cbor_edn_parts.specs.declared.number.NumberState.{NumberState}
use Rattle.cbor_edn_parts.specs.declared.number.NumberState.TheVariants.{Start, Signed, AfterZero, DecimalDigits}

pub sign_from_start : (c : ℕ) → c ≡ 45 → tokens.number.step c Start ≡ Some Signed
unfolding kind
sign_from_start c e = subst (λ b. tokens.number.step b Start ≡ Some Signed) (sym e) refl

pub zero_from_start : tokens.number.step 48 Start ≡ Some AfterZero
unfolding kind
zero_from_start = refl

pub zero_from_sign : tokens.number.step 48 Signed ≡ Some AfterZero
unfolding kind
zero_from_sign = refl

abbrev is_decimal : Option NumberState → Bool
is_decimal (Some DecimalDigits) = true
is_decimal _ = false

decimal_is : (o : Option NumberState) → is_decimal o ≡ true → o ≡ Some DecimalDigits
decimal_is (Some DecimalDigits) e = refl
decimal_is _ e = absurd (false≢true e)

-- where a table of all bytes says so
by_digit : (d : ℕ) (m : NumberState) → agree_below (λ c. ltb c d || ltb 57 c || is_decimal (number_step (kind c) m)) (λ c. true) 256 ≡ true → (c : ℕ) → d ≤ c → c ≤ 57 → tokens.number.step c m ≡ Some DecimalDigits
by_digit d m table c low high =
    ⊎_elim
    (λ out. ⊎_elim (λ below. absurd (omega (arith, low, ltb-true c d below))) (λ above. absurd (omega (arith, high, ltb-true 57 c above))) (or_cases (ltb c d) (ltb 57 c) out))
    (decimal_is (number_step (kind c) m))
    (or_cases (ltb c d || ltb 57 c) (is_decimal (number_step (kind c) m)) (agree_below_at (λ c. ltb c d || ltb 57 c || is_decimal (number_step (kind c) m)) (λ c. true) 256 c table (omega arith)))

pub digits_from_start : (c : ℕ) → 49 ≤ c → c ≤ 57 → tokens.number.step c Start ≡ Some DecimalDigits
unfolding kind
digits_from_start = by_digit 49 Start refl

pub digits_from_sign : (c : ℕ) → 49 ≤ c → c ≤ 57 → tokens.number.step c Signed ≡ Some DecimalDigits
unfolding kind
digits_from_sign = by_digit 49 Signed refl

pub digits_on : (c : ℕ) → 48 ≤ c → c ≤ 57 → tokens.number.step c DecimalDigits ≡ Some DecimalDigits
unfolding kind
digits_on = by_digit 48 DecimalDigits refl
