use Rattle.std.proofs.Common.{◌≡◌, map}
use Rattle.std.specs.Prelude.{replicate}
use Rattle.cbor_edn_core.specs.tree.View.{item_tree}
use Rattle.cbor_edn.specs.Elements.{zero_item}
use Rattle.cbor_edn.proofs.long_arrays.zeros.Given as goal

abbrev pub invariant-loop : goal.invariant-loop
invariant-loop l = map item_tree l.items.items ≡ replicate l.counter zero_item
