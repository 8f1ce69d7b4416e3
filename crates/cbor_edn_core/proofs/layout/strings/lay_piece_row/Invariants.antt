use Rattle.std.proofs.Common.{◌≡◌, map}
use Rattle.cbor_edn_core.specs.tree.View.{seen_piece}
use Rattle.cbor_edn_model.specs.tree.TreeLeaves.{texts}
use Rattle.cbor_edn_model.specs.internal.LayoutRows.{laid_piece, piece_items}
use Rattle.cbor_edn_model.proofs.lemmas.layout.Begun.{begun}
use Rattle.cbor_edn_core.proofs.layout.strings.lay_piece_row.Given as goal

abbrev pub invariant-loop-entry : goal.invariant-loop-entry
invariant-loop-entry l =
    (map (seen_piece texts) l.entry-items ≡ begun (laid_piece l.fn.layout) l.entry-index (map (seen_piece texts) l.fn.row.items))
    × (map piece_items (map (seen_piece texts) l.entry-items) ≡ map piece_items (map (seen_piece texts) l.fn.row.items))
