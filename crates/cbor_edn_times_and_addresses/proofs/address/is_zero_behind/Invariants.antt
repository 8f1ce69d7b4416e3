use Rattle.std.proofs.Common.{◌≡◌, drop}
use Rattle.cbor_edn_times_and_addresses.specs.internal.AddressReading.{is_zero_behind}
use Rattle.cbor_edn_times_and_addresses.proofs.address.is_zero_behind.Given as goal

abbrev pub invariant-loop-byte : goal.invariant-loop-byte
invariant-loop-byte l = is_zero_behind l.prefix_length l.bytes ≡ is_zero_behind l.left (drop l.byte-index l.bytes)
