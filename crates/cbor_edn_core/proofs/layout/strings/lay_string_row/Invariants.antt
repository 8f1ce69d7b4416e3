use Rattle.std.proofs.Common.{◌≡◌, map}
use Rattle.cbor_edn_core.specs.tree.View.{seen_string}
use Rattle.cbor_edn_model.specs.tree.TreeLeaves.{texts}
use Rattle.cbor_edn_model.specs.internal.LayoutRows.{laid_entry, entry_items}
use Rattle.cbor_edn_model.proofs.lemmas.layout.Begun.{begun}
use Rattle.cbor_edn_core.proofs.layout.strings.lay_string_row.Given as goal

abbrev pub invariant-loop-entry : goal.invariant-loop-entry
invariant-loop-entry l =
    (map (seen_string texts) l.entry-items ≡ begun (laid_entry l.fn.layout) l.entry-index (map (seen_string texts) l.fn.row.items))
    × (map entry_items (map (seen_string texts) l.entry-items) ≡ map entry_items (map (seen_string texts) l.fn.row.items))
