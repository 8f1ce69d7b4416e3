use Rattle.std.proofs.Common.{◌≡◌, drop, map}
use Rattle.cbor_edn_core.specs.tree.View.{seen, seen_pair, seen_piece, seen_string}
use Rattle.cbor_edn_model.specs.tree.TreeLeaves.{texts}
use Rattle.cbor_edn_core.specs.tree.Nestings.{entries_nesting, pieces_nesting}
use Rattle.cbor_edn_model.specs.internal.Widths.{capped}
use Rattle.cbor_edn_core.proofs.tree.nesting.+nesting.Given as goal

-- how deep what is counted so far nests
abbrev pub invariant-row_nesting-loop-at : goal.invariant-row_nesting-loop-at
invariant-row_nesting-loop-at l = l.deepest ≡ capped (entries_nesting l.levels (map (seen texts) (drop l.at l.row)))

abbrev pub invariant-pair_row_nesting-loop-at : goal.invariant-pair_row_nesting-loop-at
invariant-pair_row_nesting-loop-at l = l.deepest ≡ capped (entries_nesting l.levels (map (seen_pair texts) (drop l.at l.row)))

abbrev pub invariant-string_row_nesting-loop-at : goal.invariant-string_row_nesting-loop-at
invariant-string_row_nesting-loop-at l = l.deepest ≡ capped (entries_nesting l.levels (map (seen_string texts) (drop l.at l.row)))

abbrev pub invariant-piece_row_nesting-loop-at : goal.invariant-piece_row_nesting-loop-at
invariant-piece_row_nesting-loop-at l = l.deepest ≡ capped (pieces_nesting l.levels (map (seen_piece texts) (drop l.at l.row)))
