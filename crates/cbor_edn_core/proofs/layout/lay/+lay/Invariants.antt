use Rattle.std.proofs.Common.{◌≡◌, map, drop}
use Rattle.cbor_edn_core.specs.tree.View.{seen, seen_pair}
use Rattle.cbor_edn_model.specs.tree.TreeLeaves.{texts}
use Rattle.cbor_edn_model.specs.internal.LayoutRows.{laid_entry, entry_items}
use Rattle.cbor_edn_model.proofs.lemmas.layout.Begun.{begun}
use Rattle.cbor_edn_core.proofs.layout.lay.+lay.Given as goal

abbrev pub invariant-lay_row-loop-entry : goal.invariant-lay_row-loop-entry
invariant-lay_row-loop-entry l =
    (map (seen texts) l.entry-items ≡ begun (laid_entry l.fn.layout) l.entry-index (map (seen texts) l.fn.row.items))
    × (map entry_items (map (seen texts) l.entry-items) ≡ map entry_items (map (seen texts) l.fn.row.items))
    × (drop l.entry-index l.entry-items ≡ drop l.entry-index l.fn.row.items)

abbrev pub invariant-lay_pair_row-loop-entry : goal.invariant-lay_pair_row-loop-entry
invariant-lay_pair_row-loop-entry l =
    (map (seen_pair texts) l.entry-items ≡ begun (laid_entry l.fn.layout) l.entry-index (map (seen_pair texts) l.fn.row.items))
    × (map entry_items (map (seen_pair texts) l.entry-items) ≡ map entry_items (map (seen_pair texts) l.fn.row.items))
    × (drop l.entry-index l.entry-items ≡ drop l.entry-index l.fn.row.items)
