use Rattle.std.proofs.Common.{◌≡◌, ◌++◌, map}
use Rattle.cbor_edn_core.specs.tree.Constructed.{pair_tree}
use Rattle.cbor_edn_core.specs.tree.View.{view_pair}
use Rattle.cbor_edn_model.specs.tree.TreeLeaves.{texts}
use Rattle.cbor_edn_core.proofs.tree.construct.bare_pairs.Given as goal

abbrev pub invariant-loop-entry : goal.invariant-loop-entry
invariant-loop-entry l = map (view_pair texts) l.pairs.items ++ map pair_tree l.entry-iterator.rest.items ≡ map pair_tree l.fn.entries.items
