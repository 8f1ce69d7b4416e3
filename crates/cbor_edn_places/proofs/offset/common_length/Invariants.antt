use Rattle.std.proofs.Common.{◌≡◌, ◌+◌, drop}
use Rattle.cbor_edn_places.specs.internal.Common.{common}
use Rattle.cbor_edn_places.proofs.offset.common_length.Given as goal

-- what is left in common
abbrev pub invariant-loop-at : goal.invariant-loop-at
invariant-loop-at l = common l.one l.other ≡ l.at + common (drop l.at l.one) (drop l.at l.other)
