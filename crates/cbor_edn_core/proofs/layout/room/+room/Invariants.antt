use Rattle.std.proofs.Common.{◌≡◌, ◌≤◌, ◌+◌, drop, map}
use Rattle.cbor_edn_core.specs.tree.View.{seen, seen_pair, seen_piece, seen_string}
use Rattle.cbor_edn_model.specs.tree.TreeLeaves.{texts}
use Rattle.cbor_edn_model.specs.internal.Widths.{entries_width, pieces_width}
use Rattle.cbor_edn_core.proofs.layout.room.+room.Given as goal

-- the room that is left and the width of all are the whole room and the width of what is to come
abbrev pub invariant-room_behind_row-loop-item : goal.invariant-room_behind_row-loop-item
invariant-room_behind_row-loop-item l = (l.room + entries_width l.spaces (map (seen texts) l.row) ≡ l.initial.room + entries_width l.spaces (map (seen texts) (drop l.item-index l.row))) × (l.room ≤ l.initial.room)

abbrev pub invariant-room_behind_pair_row-loop-pair : goal.invariant-room_behind_pair_row-loop-pair
invariant-room_behind_pair_row-loop-pair l = (l.room + entries_width l.spaces (map (seen_pair texts) l.row) ≡ l.initial.room + entries_width l.spaces (map (seen_pair texts) (drop l.pair-index l.row))) × (l.room ≤ l.initial.room)

abbrev pub invariant-room_behind_piece_row-loop-piece : goal.invariant-room_behind_piece_row-loop-piece
invariant-room_behind_piece_row-loop-piece l = (l.room + pieces_width l.spaces (map (seen_piece texts) l.row) ≡ l.initial.room + pieces_width l.spaces (map (seen_piece texts) (drop l.piece-index l.row))) × (l.room ≤ l.initial.room)

abbrev pub invariant-room_behind_string_row-loop-string : goal.invariant-room_behind_string_row-loop-string
invariant-room_behind_string_row-loop-string l = (l.room + entries_width l.spaces (map (seen_string texts) l.row) ≡ l.initial.room + entries_width l.spaces (map (seen_string texts) (drop l.string-index l.row))) × (l.room ≤ l.initial.room)
