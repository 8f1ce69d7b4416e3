use Rattle.std.proofs.Common.{◌≡◌, ◌<◌, ◌^◌, take, drop}
use Rattle.std.specs.Str.Parse.{AllDigits}
use Rattle.cbor_edn_times_and_addresses.specs.Time.{number}
use Rattle.cbor_edn_times_and_addresses.proofs.time.read.read_digits.Given as goal

abbrev pub invariant-loop-byte : goal.invariant-loop-byte
invariant-loop-byte l = record {
  value : l.value ≡ number (take l.byte-index l.digits);
  digits : AllDigits 10 (take l.byte-index l.digits);
  rest : AllDigits 10 l.digits → AllDigits 10 (drop l.byte-index l.digits);
  bound : l.value < 10 ^ l.byte-index;
}
