use Rattle.std.proofs.Common.{◌≡◌, ◌+◌, ◌*◌, List, length, take, drop, map}
use Rattle.cbor_edn_model.specs.visit.Depth.{depth}
use Rattle.cbor_edn_model.specs.visit.Seeking.{SoughtCall}
use Rattle.cbor_edn_model.specs.visit.Visits.{Chain, whole}
use Rattle.cbor_edn_model.specs.internal.Depths.{entries_depth, pieces_depth}
use Rattle.cbor_edn_model.specs.internal.Reaching.{SoughtFront, SoughtPieces}
use Rattle.cbor_edn_model.proofs.lemmas.visit.VisitsOfParts.{measure_if}
use Rattle.cbor_edn_core.specs.tree.View.{seen, seen_pair, seen_piece, seen_string, view_inner, view_item, view_items, view_list, view_pair, view_pair_list, view_pairs, view_piece, view_sequence, view_standalone, view_string, view_strings}
use Rattle.cbor_edn_core.proofs.visit.walk.Walk.+visit.Given as goal

-- How deep a part nests, and how far it is from the items in it.
abbrev pub decreases-visit_if : goal.decreases-visit_if
decreases-visit_if g l = measure_if l.enters (view_item g.K.Seek.leaves l.item.now)

abbrev pub decreases-visit_inner : goal.decreases-visit_inner
decreases-visit_inner g l = 16 * depth (view_inner g.K.Seek.leaves l.inner.now) + 5

abbrev pub decreases-visit_standalone : goal.decreases-visit_standalone
decreases-visit_standalone g l = 16 * depth (view_standalone g.K.Seek.leaves l.content.now) + 7

abbrev pub decreases-visit_sequence : goal.decreases-visit_sequence
decreases-visit_sequence g l = 16 * depth (view_sequence g.K.Seek.leaves l.sequence.now) + 9

abbrev pub decreases-visit_list : goal.decreases-visit_list
decreases-visit_list g l = 16 * depth (view_list g.K.Seek.leaves l.list.now) + 9

abbrev pub decreases-visit_items : goal.decreases-visit_items
decreases-visit_items g l = 16 * depth (view_items g.K.Seek.leaves l.items.now) + 8

abbrev pub decreases-visit_pair_list : goal.decreases-visit_pair_list
decreases-visit_pair_list g l = 16 * depth (view_pair_list g.K.Seek.leaves l.list.now) + 10

abbrev pub decreases-visit_pairs : goal.decreases-visit_pairs
decreases-visit_pairs g l = 16 * depth (view_pairs g.K.Seek.leaves l.pairs.now) + 9

abbrev pub decreases-visit_last_pair : goal.decreases-visit_last_pair
decreases-visit_last_pair g l = 16 * depth (view_pair g.K.Seek.leaves l.pair.now) + 8

abbrev pub decreases-visit_key : goal.decreases-visit_key
decreases-visit_key g l = 16 * depth (view_pair g.K.Seek.leaves l.pair.now) + 7

abbrev pub decreases-visit_string : goal.decreases-visit_string
decreases-visit_string g l = 16 * depth (view_string g.K.Seek.leaves l.string.now) + 2

abbrev pub decreases-visit_piece : goal.decreases-visit_piece
decreases-visit_piece g l = 16 * depth (view_piece g.K.Seek.leaves l.piece.now) + 0

abbrev pub decreases-visit_strings : goal.decreases-visit_strings
decreases-visit_strings g l = 16 * depth (view_strings g.K.Seek.leaves l.strings.now) + 4

abbrev pub decreases-visit_row : goal.decreases-visit_row
decreases-visit_row g l = 16 * entries_depth (map (seen g.K.Seek.leaves) l.row.now.items) + 7

abbrev pub invariant-visit_row-loop-item : goal.invariant-visit_row-loop-item
invariant-visit_row-loop-item g l = record {
  callable : g.K.Seek.ready l.f;
  so_far : (cs : List SoughtCall) × Chain g.K.Seek.calls l.fn.f cs l.f × SoughtFront g.K.Seek.sought (map (seen g.K.Seek.leaves) (take l.item-index l.fn.row.items)) cs (map (seen g.K.Seek.leaves) (take l.item-index l.item-items)) whole;
  same_length : length l.item-items ≡ length l.fn.row.items;
  rest : drop l.item-index l.item-items ≡ drop l.item-index l.fn.row.items;
}

abbrev pub decreases-visit_pair_row : goal.decreases-visit_pair_row
decreases-visit_pair_row g l = 16 * entries_depth (map (seen_pair g.K.Seek.leaves) l.row.now.items) + 8

abbrev pub invariant-visit_pair_row-loop-pair : goal.invariant-visit_pair_row-loop-pair
invariant-visit_pair_row-loop-pair g l = record {
  callable : g.K.Seek.ready l.f;
  so_far : (cs : List SoughtCall) × Chain g.K.Seek.calls l.fn.f cs l.f × SoughtFront g.K.Seek.sought (map (seen_pair g.K.Seek.leaves) (take l.pair-index l.fn.row.items)) cs (map (seen_pair g.K.Seek.leaves) (take l.pair-index l.pair-items)) whole;
  same_length : length l.pair-items ≡ length l.fn.row.items;
  rest : drop l.pair-index l.pair-items ≡ drop l.pair-index l.fn.row.items;
}

abbrev pub decreases-visit_piece_row : goal.decreases-visit_piece_row
decreases-visit_piece_row g l = 16 * pieces_depth (map (seen_piece g.K.Seek.leaves) l.row.now.items) + 1

abbrev pub invariant-visit_piece_row-loop-piece : goal.invariant-visit_piece_row-loop-piece
invariant-visit_piece_row-loop-piece g l = record {
  callable : g.K.Seek.ready l.f;
  so_far : (cs : List SoughtCall) × Chain g.K.Seek.calls l.fn.f cs l.f × SoughtPieces g.K.Seek.sought (map (seen_piece g.K.Seek.leaves) (take l.piece-index l.fn.row.items)) cs (map (seen_piece g.K.Seek.leaves) (take l.piece-index l.piece-items)) whole;
  same_length : length l.piece-items ≡ length l.fn.row.items;
  rest : drop l.piece-index l.piece-items ≡ drop l.piece-index l.fn.row.items;
}

abbrev pub decreases-visit_string_row : goal.decreases-visit_string_row
decreases-visit_string_row g l = 16 * entries_depth (map (seen_string g.K.Seek.leaves) l.row.now.items) + 3

abbrev pub invariant-visit_string_row-loop-string : goal.invariant-visit_string_row-loop-string
invariant-visit_string_row-loop-string g l = record {
  callable : g.K.Seek.ready l.f;
  so_far : (cs : List SoughtCall) × Chain g.K.Seek.calls l.fn.f cs l.f × SoughtFront g.K.Seek.sought (map (seen_string g.K.Seek.leaves) (take l.string-index l.fn.row.items)) cs (map (seen_string g.K.Seek.leaves) (take l.string-index l.string-items)) whole;
  same_length : length l.string-items ≡ length l.fn.row.items;
  rest : drop l.string-index l.string-items ≡ drop l.string-index l.fn.row.items;
}
