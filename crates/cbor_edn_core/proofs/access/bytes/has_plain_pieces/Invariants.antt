use Rattle.std.proofs.Common.{◌≡◌, drop}
use Rattle.std.specs.List.{list_all}
use Rattle.cbor_edn_core.specs.tree.View.{piece_row_onto, view_piece}
use Rattle.cbor_edn_model.specs.access.Accessed.{pieces, is_plain_piece}
use Rattle.cbor_edn_model.specs.tree.TreeLeaves.{texts}
use Rattle.cbor_edn_model.specs.tree.Trees.{LastPieceTree}
use Rattle.cbor_edn_core.proofs.access.bytes.has_plain_pieces.Given as goal

abbrev pub invariant-loop-piece : goal.invariant-loop-piece
invariant-loop-piece l = let last = LastPieceTree (view_piece texts l.string.last) in
    list_all is_plain_piece (pieces (piece_row_onto texts l.piece-items last)) ≡ list_all is_plain_piece (pieces (piece_row_onto texts (drop l.piece-index l.piece-items) last))
