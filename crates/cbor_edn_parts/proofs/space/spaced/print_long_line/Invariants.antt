use Rattle.std.proofs.Common.{◌≡◌, ◌++◌}
use Rattle.cbor_edn_parts.specs.base.Buffer.{buffer_bytes}
use Rattle.cbor_edn_parts.specs.space.Spacing.{line}
use Rattle.cbor_edn_parts.proofs.space.spaced.print_long_line.Given as goal

abbrev pub invariant-spaces : goal.invariant-spaces
invariant-spaces l = buffer_bytes l.out ≡ buffer_bytes l.fn.out ++ line l.counter
