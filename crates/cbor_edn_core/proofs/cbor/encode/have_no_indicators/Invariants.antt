use Rattle.std.proofs.Common.{◌≡◌, map, drop}
use Rattle.cbor_edn_core.specs.tree.View.{seen_piece}
use Rattle.cbor_edn_model.specs.tree.TreeLeaves.{texts}
use Rattle.cbor_edn_model.specs.internal.Encoding.{no_indicators}
use Rattle.cbor_edn_core.proofs.cbor.encode.have_no_indicators.Given as goal

abbrev pub invariant-loop-piece : goal.invariant-loop-piece
invariant-loop-piece l = no_indicators (map (seen_piece texts) l.row) ≡ no_indicators (map (seen_piece texts) (drop l.piece-index l.row))
