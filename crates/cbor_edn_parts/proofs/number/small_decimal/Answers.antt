use Rattle.std.proofs.Common.{ℕ, ◌<◌, ◌≤◌, ◌^◌, arith}
use Rattle.std.proofs.Math.Nat.{pow-le-pow_right}
use Rattle.std.proofs.lemmas.Grind.{common_steps}
use Rattle.std.proofs.lemmas.Str.Parse.{digit_at}
use mathlib.Core.Logic.{⊎_elim}
use Rattle.cbor_edn_parts.proofs.number.small_decimal.Goals as goal

-- a number of at most 18 digits
short : (n i : ℕ) → n < 10 ^ i → i < 19 → n < 10 ^ 18
short n i size few =
    let larger : 10 ^ i ≤ 10 ^ 18 = pow-le-pow_right {n = 10} (omega arith) {i = i} {j = 18} (omega arith) in
    omega arith

pub overflow_mul-number : goal.overflow_mul-number
overflow_mul-number c = omega (arith, short c.loop-byte.number c.loop-byte.byte-index c.loop-byte.invariant.size (omega arith))

pub overflow_add-number : goal.overflow_add-number
overflow_add-number c =
    let small : c.loop-byte.number < 10 ^ 18 = short c.loop-byte.number c.loop-byte.byte-index c.loop-byte.invariant.size (omega arith) in
    grind (arith, common_steps)

-- a byte that is no digit stands in no numeral
pub returns-then-not-is_ascii_digit-clause-none : goal.returns-then-not-is_ascii_digit-clause-none
returns-then-not-is_ascii_digit-clause-none c = λ _ numeral.
    let here = digit_at c.args.digits.now c.loop-byte.byte-index numeral.1 c.loop-byte-test.true in
    ⊎_elim (λ low. omega (arith, here.0, low)) (λ high. omega (arith, here.1, high)) c.if-not-is_ascii_digit.ensures.cases
