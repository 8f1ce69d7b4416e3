use Rattle.std.proofs.Common.{◌≡◌, map}
use Rattle.cbor_edn_core.specs.tree.View.{seen_piece}
use Rattle.cbor_edn_model.specs.tree.TreeLeaves.{texts}
use Rattle.cbor_edn_model.specs.internal.LayoutRows.{piece_without_indicators}
use Rattle.cbor_edn_model.proofs.lemmas.layout.Begun.{begun}
use Rattle.cbor_edn_core.proofs.layout.indicators.remove_piece_row_indicators.Given as goal

abbrev pub invariant-loop-piece : goal.invariant-loop-piece
invariant-loop-piece l = map (seen_piece texts) l.piece-items ≡ begun piece_without_indicators l.piece-index (map (seen_piece texts) l.fn.row.items)
