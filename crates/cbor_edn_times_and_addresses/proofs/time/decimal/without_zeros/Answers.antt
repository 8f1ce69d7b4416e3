use Rattle.std.proofs.Common.{arith, ◌∙◌}
use Rattle.cbor_edn_times_and_addresses.proofs.TimeDecimals.{zero_less}
use Rattle.cbor_edn_times_and_addresses.proofs.time.decimal.without_zeros.Goals as goal

pub loop-number-preserved : goal.loop-number-preserved
loop-number-preserved c =
    let l = c.loop-number in
    let less = zero_less l.number l.places (omega arith) l.invariant.some l.invariant.bound l.invariant.places in
    record {
      value = l.invariant.value ∙ less.0;
      places = omega arith;
      bound = less.1;
      some = omega arith;
    }
