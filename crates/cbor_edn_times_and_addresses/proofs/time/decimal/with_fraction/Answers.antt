use Rattle.cbor_edn_times_and_addresses.specs.internal.TimeWriting.{padded}
use Rattle.cbor_edn_times_and_addresses.proofs.TimeDecimals.{shortest}
use Rattle.cbor_edn_times_and_addresses.proofs.time.decimal.with_fraction.Goals as goal

pub returns : goal.returns
returns c =
    let z = c.without_zeros-number in
    let e = z.ensures in
    record {
      digits = padded z.result.1 z.result.0;
      digits_are = shortest c.args.nanoseconds z.result.1 z.result.0 e.value e.places e.number e.digit;
      spelled = c.in_ok-push_digits.ensures;
    }
