use Rattle.std.proofs.Common.{map, drop}
use Rattle.cbor_edn_core.specs.tree.View.{seen, seen_pair, seen_piece, seen_string}
use Rattle.cbor_edn_model.specs.tree.TreeLeaves.{texts}
use Rattle.cbor_edn_model.proofs.lemmas.cbor.CborEncodes.{PushesRest}
use Rattle.cbor_edn_model.proofs.lemmas.cbor.StringEncodes.{GathersRest}
use Rattle.cbor_edn_core.proofs.cbor.encode.+encode.Given as goal

abbrev pub invariant-encode_row-loop-item : goal.invariant-encode_row-loop-item
invariant-encode_row-loop-item l = PushesRest (map (seen texts) (drop l.item-index l.row)) (map (seen texts) l.row) l.out.items l.initial.out.items

abbrev pub invariant-encode_pair_row-loop-pair : goal.invariant-encode_pair_row-loop-pair
invariant-encode_pair_row-loop-pair l = PushesRest (map (seen_pair texts) (drop l.pair-index l.row)) (map (seen_pair texts) l.row) l.out.items l.initial.out.items

abbrev pub invariant-encode_stream_chunk_row-loop-string : goal.invariant-encode_stream_chunk_row-loop-string
invariant-encode_stream_chunk_row-loop-string l = PushesRest (map (seen_string texts) (drop l.string-index l.row)) (map (seen_string texts) l.row) l.out.items l.initial.out.items

abbrev pub invariant-gather-loop-piece : goal.invariant-gather-loop-piece
invariant-gather-loop-piece l = GathersRest (map (seen_piece texts) (drop l.piece-index l.piece-items)) (map (seen_piece texts) l.piece-items) l.kind l.out.items l.initial.out.items
