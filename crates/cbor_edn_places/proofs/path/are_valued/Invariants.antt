use Rattle.std.proofs.Common.{◌≡◌}
use Rattle.cbor_edn_core.specs.tree.View.{sequence_tree}
use Rattle.cbor_edn_places.specs.internal.Levels.{NoneBefore}
use Rattle.cbor_edn_places.proofs.path.are_valued.Given as goal

-- each item so far means a value, and nothing changed
abbrev pub invariant-loop-number : goal.invariant-loop-number
invariant-loop-number l = record {
  same : sequence_tree l.sequence ≡ sequence_tree l.fn.sequence;
  path : l.path.items ≡ l.fn.path.items;
  before : NoneBefore (sequence_tree l.fn.sequence) l.fn.path.items l.number;
}
