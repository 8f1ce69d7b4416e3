use Rattle.std.proofs.Common.{◌≡◌, ◌++◌, drop, map}
use Rattle.cbor_edn_parts.specs.base.Buffer.{buffer_bytes}
use Rattle.cbor_edn_core.specs.tree.View.{seen, seen_pair, seen_piece, seen_string}
use Rattle.cbor_edn_model.specs.tree.Rows.{entries_text, pieces_text}
use Rattle.cbor_edn_model.specs.tree.TreeLeaves.{texts}
use Rattle.cbor_edn_model.specs.internal.LayoutRows.{laid_entry, laid_piece}
use Rattle.cbor_edn_core.proofs.layout.print.+print.Given as goal

-- what is printed so far and the text of what is left are the text of all
abbrev pub invariant-print_row-loop-item : goal.invariant-print_row-loop-item
invariant-print_row-loop-item l = buffer_bytes l.out ++ entries_text (map (laid_entry l.layout) (map (seen texts) (drop l.item-index l.row))) ≡ buffer_bytes l.initial.out ++ entries_text (map (laid_entry l.layout) (map (seen texts) l.row))

abbrev pub invariant-print_pair_row-loop-pair : goal.invariant-print_pair_row-loop-pair
invariant-print_pair_row-loop-pair l = buffer_bytes l.out ++ entries_text (map (laid_entry l.layout) (map (seen_pair texts) (drop l.pair-index l.row))) ≡ buffer_bytes l.initial.out ++ entries_text (map (laid_entry l.layout) (map (seen_pair texts) l.row))

abbrev pub invariant-print_piece_row-loop-piece : goal.invariant-print_piece_row-loop-piece
invariant-print_piece_row-loop-piece l = buffer_bytes l.out ++ pieces_text (map (laid_piece l.layout) (map (seen_piece texts) (drop l.piece-index l.row))) ≡ buffer_bytes l.initial.out ++ pieces_text (map (laid_piece l.layout) (map (seen_piece texts) l.row))

abbrev pub invariant-print_string_row-loop-string : goal.invariant-print_string_row-loop-string
invariant-print_string_row-loop-string l = buffer_bytes l.out ++ entries_text (map (laid_entry l.layout) (map (seen_string texts) (drop l.string-index l.row))) ≡ buffer_bytes l.initial.out ++ entries_text (map (laid_entry l.layout) (map (seen_string texts) l.row))
