use Rattle.std.proofs.Common.{◌≡◌, ◌++◌}
use Rattle.cbor_edn.proofs.long_arrays.joined.Given as goal

abbrev pub invariant-loop-item : goal.invariant-loop-item
invariant-loop-item g l = l.all.items ≡ l.fn.front.items ++ l.yielded
