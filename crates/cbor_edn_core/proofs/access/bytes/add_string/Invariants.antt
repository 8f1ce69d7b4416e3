use Rattle.std.proofs.Common.{map, drop}
use Rattle.cbor_edn_core.specs.tree.View.{seen_piece, view_piece}
use Rattle.cbor_edn_core.specs.declared.access.TypeMismatch.TheVariants.{Bytes}
use Rattle.cbor_edn_model.specs.access.Accessed.{piece_bytes}
use Rattle.cbor_edn_model.specs.tree.TreeLeaves.{texts}
use Rattle.cbor_edn_model.proofs.lemmas.access.AddedBytes.{AddsLeft}
use Rattle.cbor_edn_core.proofs.access.bytes.add_string.Given as goal

abbrev pub invariant-loop-piece : goal.invariant-loop-piece
invariant-loop-piece l = AddsLeft Bytes (λ q. piece_bytes q.0) (piece_bytes (view_piece texts l.string.last)) (map (seen_piece texts) (drop l.piece-index l.piece-items)) (map (seen_piece texts) l.piece-items) l.out.items l.initial.out.items
