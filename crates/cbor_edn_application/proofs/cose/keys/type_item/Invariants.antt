use Rattle.std.proofs.Common.{◌≡◌, map}
use Rattle.std.specs.Prelude.{option_and_then, pos}
use Rattle.cbor_edn_core.specs.access.Iterated.{pairs_left, both_trees}
use Rattle.cbor_edn_core.specs.tree.View.{item_tree}
use Rattle.cbor_edn_model.specs.access.Accessed.{map_items}
use Rattle.cbor_edn_conversions.specs.CoseKeys.{value_of}
use Rattle.cbor_edn_application.proofs.cose.keys.type_item.Given as goal

-- what is looked for stands in what is left
abbrev pub invariant-loop-opener : goal.invariant-loop-opener
invariant-loop-opener l =
    (goal.iterator-loop-opener).can_next l.opener-iterator
    × (goal.iterator-loop-opener).is_finite l.opener-iterator
    × (value_of (pos 1) (map both_trees (pairs_left l.opener-iterator)) ≡ option_and_then (value_of (pos 1)) (map_items (item_tree l.fn.key)))
