use Rattle.std.proofs.Common.{◌≡◌, map, drop}
use Rattle.cbor_edn_core.specs.tree.View.{seen, seen_pair}
use Rattle.cbor_edn_model.specs.tree.TreeLeaves.{texts}
use Rattle.cbor_edn_model.specs.internal.LayoutRows.{entry_without_indicators}
use Rattle.cbor_edn_model.proofs.lemmas.layout.Begun.{begun}
use Rattle.cbor_edn_core.proofs.layout.indicators.+remove_indicators.Given as goal

abbrev pub invariant-remove_row_indicators-loop-item : goal.invariant-remove_row_indicators-loop-item
invariant-remove_row_indicators-loop-item l =
    (map (seen texts) l.item-items ≡ begun entry_without_indicators l.item-index (map (seen texts) l.fn.row.items))
    × (drop l.item-index l.item-items ≡ drop l.item-index l.fn.row.items)

abbrev pub invariant-remove_pair_row_indicators-loop-pair : goal.invariant-remove_pair_row_indicators-loop-pair
invariant-remove_pair_row_indicators-loop-pair l =
    (map (seen_pair texts) l.pair-items ≡ begun entry_without_indicators l.pair-index (map (seen_pair texts) l.fn.row.items))
    × (drop l.pair-index l.pair-items ≡ drop l.pair-index l.fn.row.items)
