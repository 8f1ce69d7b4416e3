use Rattle.std.proofs.Common.{◌≤◌, ◌^◌, ◌*◌, ◌+◌, ◌≡◌, suc, get_or, sym, ap, ◌∙◌, arith, lit<}
use Rattle.std.proofs.Math.Nat.{pow-le-pow_right, pow-suc}
use Rattle.std.proofs.lemmas.Grind.{common_steps}
use Rattle.std.proofs.lemmas.Int.Digits.{digits_more}
use Rattle.cbor_edn_times_and_addresses.proofs.TimeDigits.{ascii_digit, number_more}
use Rattle.cbor_edn_times_and_addresses.proofs.time.read.read_digits.Goals as goal

pub overflow_mul-value : goal.overflow_mul-value
overflow_mul-value c =
    let p : 10 ^ c.loop-byte.byte-index ≤ 10 ^ 8 = pow-le-pow_right (lit< tt) {j = 8} (omega arith) in
    omega arith

pub overflow_add-value : goal.overflow_add-value
overflow_add-value c =
    let p : 10 ^ c.loop-byte.byte-index ≤ 10 ^ 8 = pow-le-pow_right (lit< tt) {j = 8} (omega arith) in
    omega arith

pub loop-byte-preserved : goal.loop-byte-preserved
loop-byte-preserved c =
    let l = c.loop-byte in
    let ds = c.args.digits.now in
    let digit = ascii_digit (get_or c.args.digits.now l.byte-index 0) (sym c.is_ascii_digit.ensures.value ∙ c.if-not-is_ascii_digit.false) in
    let more = number_more c.args.digits.now l.byte-index c.loop-byte-test.true in
    let place : l.byte-index + 1 ≡ suc l.byte-index = omega arith in
    let unit : 10 ^ (l.byte-index + 1) ≡ 10 ^ l.byte-index * 10 = ap (λ k. 10 ^ k) place ∙ pow-suc 10 l.byte-index in
    record {
      value = omega (arith, more, digit.0, digit.1, l.invariant.value);
      digits = digits_more 10 ds l.byte-index c.loop-byte-test.true l.invariant.digits (omega (arith, digit.1));
      rest = λ all. grind (arith, common_steps, l.invariant.rest all);
      bound = omega (arith, digit.0, digit.1, l.invariant.bound, unit);
    }
