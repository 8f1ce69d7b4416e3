use Rattle.std.proofs.Common.{◌≡◌, map, take}
use Rattle.cbor_edn_core.specs.tree.View.{seen, seen_pair, seen_piece, seen_string}
use Rattle.cbor_edn_model.specs.tree.TreeLeaves.{texts}
use Rattle.cbor_edn_core.proofs.tree.clone.+copy.Given as goal

abbrev pub invariant-clone_row-loop-item : goal.invariant-clone_row-loop-item
invariant-clone_row-loop-item l = map (seen texts) l.copy.items ≡ map (seen texts) (take l.item-index l.item-items)

abbrev pub invariant-clone_pair_row-loop-pair : goal.invariant-clone_pair_row-loop-pair
invariant-clone_pair_row-loop-pair l = map (seen_pair texts) l.copy.items ≡ map (seen_pair texts) (take l.pair-index l.pair-items)

abbrev pub invariant-clone_piece_row-loop-piece : goal.invariant-clone_piece_row-loop-piece
invariant-clone_piece_row-loop-piece l = map (seen_piece texts) l.copy.items ≡ map (seen_piece texts) (take l.piece-index l.piece-items)

abbrev pub invariant-clone_string_row-loop-string : goal.invariant-clone_string_row-loop-string
invariant-clone_string_row-loop-string l = map (seen_string texts) l.copy.items ≡ map (seen_string texts) (take l.string-index l.string-items)
