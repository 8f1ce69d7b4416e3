use Rattle.std.proofs.Common.{◌≡◌, take, drop, min}
use Rattle.std.specs.Str.Parse.{AllDigits}
use Rattle.cbor_edn_times_and_addresses.specs.Time.{number}
use Rattle.cbor_edn_times_and_addresses.proofs.time.number.read_seconds.Given as goal

abbrev pub invariant-loop-byte : goal.invariant-loop-byte
invariant-loop-byte l = record {
  value : l.value ≡ min (number (take l.byte-index l.digits)) 1_000_000_000_000;
  digits : AllDigits 10 (take l.byte-index l.digits);
  rest : AllDigits 10 l.digits → AllDigits 10 (drop l.byte-index l.digits);
}
