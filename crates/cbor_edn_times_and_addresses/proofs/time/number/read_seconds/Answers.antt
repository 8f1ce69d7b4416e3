use Rattle.std.proofs.Common.{get_or, sym, ◌∙◌, arith}
use Rattle.std.proofs.lemmas.Grind.{common_steps}
use Rattle.std.proofs.lemmas.Int.Digits.{digits_more}
use Rattle.cbor_edn_times_and_addresses.proofs.TimeDigits.{ascii_digit, number_more}
use Rattle.cbor_edn_times_and_addresses.proofs.time.number.read_seconds.Goals as goal

pub loop-byte-preserved : goal.loop-byte-preserved
loop-byte-preserved c =
    let l = c.loop-byte in
    let ds = c.args.digits.now in
    let digit = ascii_digit (get_or c.args.digits.now l.byte-index 0) (sym c.is_ascii_digit.ensures.value ∙ c.if-not-is_ascii_digit.false) in
    let more = number_more c.args.digits.now l.byte-index c.loop-byte-test.true in
    let m = c.min-value.ensures in
    record {
      value = omega (arith, more, digit.0, digit.1, l.invariant.value);
      digits = digits_more 10 ds l.byte-index c.loop-byte-test.true l.invariant.digits (omega (arith, digit.1));
      rest = λ all. grind (arith, common_steps, l.invariant.rest all);
    }
