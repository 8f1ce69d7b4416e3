use Rattle.std.proofs.Common.{◌≡◌, drop, map}
use Rattle.cbor_edn_core.specs.tree.View.{seen, seen_pair, seen_piece, seen_string}
use Rattle.cbor_edn_model.specs.tree.TreeLeaves.{texts}
use Rattle.cbor_edn_model.specs.internal.TaggedRows.{entries_have_tag, pieces_have_tag}
use Rattle.cbor_edn_core.proofs.visit.tagged.+tagged.Given as goal

-- whether a tag stands in what is read so far
abbrev pub invariant-row_has_tag-loop-at : goal.invariant-row_has_tag-loop-at
invariant-row_has_tag-loop-at l = l.found ≡ entries_have_tag (map (seen texts) (drop l.at l.row))

abbrev pub invariant-pair_row_has_tag-loop-at : goal.invariant-pair_row_has_tag-loop-at
invariant-pair_row_has_tag-loop-at l = l.found ≡ entries_have_tag (map (seen_pair texts) (drop l.at l.row))

abbrev pub invariant-string_row_has_tag-loop-at : goal.invariant-string_row_has_tag-loop-at
invariant-string_row_has_tag-loop-at l = l.found ≡ entries_have_tag (map (seen_string texts) (drop l.at l.row))

abbrev pub invariant-piece_row_has_tag-loop-at : goal.invariant-piece_row_has_tag-loop-at
invariant-piece_row_has_tag-loop-at l = l.found ≡ pieces_have_tag (map (seen_piece texts) (drop l.at l.row))
