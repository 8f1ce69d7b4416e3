use Rattle.std.proofs.Common.{◌≡◌, length, drop, map}
use Rattle.cbor_edn_model.specs.internal.Same.{same_entries, same_pieces}
use Rattle.cbor_edn_core.specs.tree.View.{seen, seen_pair, seen_piece, seen_string}
use Rattle.cbor_edn_model.specs.tree.TreeLeaves.{texts}
use Rattle.cbor_edn_core.proofs.tree.equal.+same.Given as goal

-- the lists are the same exactly where what is left of them is
abbrev pub invariant-same_row-loop-i : goal.invariant-same_row-loop-i
invariant-same_row-loop-i l = (same_entries (map (seen texts) (drop l.i l.a)) (map (seen texts) (drop l.i l.b)) ≡ same_entries (map (seen texts) l.a) (map (seen texts) l.b)) × (length l.a ≡ length l.b)

abbrev pub invariant-same_pair_row-loop-i : goal.invariant-same_pair_row-loop-i
invariant-same_pair_row-loop-i l = (same_entries (map (seen_pair texts) (drop l.i l.a)) (map (seen_pair texts) (drop l.i l.b)) ≡ same_entries (map (seen_pair texts) l.a) (map (seen_pair texts) l.b)) × (length l.a ≡ length l.b)

abbrev pub invariant-same_string_row-loop-i : goal.invariant-same_string_row-loop-i
invariant-same_string_row-loop-i l = (same_entries (map (seen_string texts) (drop l.i l.a)) (map (seen_string texts) (drop l.i l.b)) ≡ same_entries (map (seen_string texts) l.a) (map (seen_string texts) l.b)) × (length l.a ≡ length l.b)

abbrev pub invariant-same_piece_row-loop-i : goal.invariant-same_piece_row-loop-i
invariant-same_piece_row-loop-i l = (same_pieces (map (seen_piece texts) (drop l.i l.a)) (map (seen_piece texts) (drop l.i l.b)) ≡ same_pieces (map (seen_piece texts) l.a) (map (seen_piece texts) l.b)) × (length l.a ≡ length l.b)
