use Rattle.std.proofs.Common.{◌≡◌, ◌<◌, ◌^◌, drop}
use Rattle.std.specs.Str.Parse.{AllDigits, digits_value, digits_value_after}
use Rattle.cbor_edn_parts.proofs.number.small_decimal.Given as goal

abbrev pub invariant-loop-byte : goal.invariant-loop-byte
invariant-loop-byte l = record {
  size : l.number < 10 ^ l.byte-index;
  value : digits_value 10 l.digits ≡ digits_value_after 10 l.number (drop l.byte-index l.digits);
  digits : AllDigits 10 (drop l.byte-index l.digits) → AllDigits 10 l.digits;
}
