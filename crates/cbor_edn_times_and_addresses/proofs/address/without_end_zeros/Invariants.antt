use Rattle.std.proofs.Common.{◌≡◌, length}
use Rattle.cbor_edn_times_and_addresses.specs.Address.{without_end_zeros}
use Rattle.cbor_edn_times_and_addresses.proofs.address.without_end_zeros.Given as goal

abbrev pub invariant-loop-kept : goal.invariant-loop-kept
invariant-loop-kept l = without_end_zeros l.kept ≡ without_end_zeros l.bytes

abbrev pub decreases-loop-kept : goal.decreases-loop-kept
decreases-loop-kept l = length l.kept
