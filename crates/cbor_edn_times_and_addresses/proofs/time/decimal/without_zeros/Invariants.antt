use Rattle.std.proofs.Common.{◌≡◌, ◌<◌, ◌≤◌, ◌^◌, ◌*◌, ◌-◌}
use Rattle.cbor_edn_times_and_addresses.proofs.time.decimal.without_zeros.Given as goal

abbrev pub invariant-loop-number : goal.invariant-loop-number
invariant-loop-number l = record {
  value : l.nanoseconds ≡ l.number * 10 ^ (9 - l.places);
  places : l.places ≤ 9;
  bound : l.number < 10 ^ l.places;
  some : 0 < l.number;
}

abbrev pub decreases-loop-number : goal.decreases-loop-number
decreases-loop-number l = l.number
