use Rattle.std.proofs.Common.{◌≡◌, ℕ, ◌+◌, ◌++◌, length, None, refl, map, drop, ap, sym, subst, ◌∙◌, arith, Some, Ok, Err}
use Rattle.cbor_edn_model.specs.tree.Items.{Elements, Pairs, Strings, Array, Map}
use Rattle.cbor_edn_model.specs.tree.Trees.{ElementTree, ChunkTree, LastPieceTree, items, head_indicator}
use Rattle.cbor_edn_model.specs.cbor.Meaning.{length_of, named_number, means}
use Rattle.cbor_edn_model.specs.internal.Encoding.{Encodes, Finds, list_head}
use Rattle.cbor_edn_core.specs.tree.View.{seen, seen_pair, seen_piece, seen_string, item_tree, view_piece, view_sequence, view_string, view_strings, view_items, view_pairs, view_pair}
use Rattle.cbor_edn_model.specs.text.ListHeads.{view_list_head}
use Rattle.cbor_edn_model.specs.tree.TreeLeaves.{texts}
use Rattle.cbor_edn_model.proofs.lemmas.cbor.CborEncodes.{empty_encoded, full_encoded, full_stops, full_unfit, row_then_last, row_stops, element_encoded, pair_encoded, pair_stops, next_pushed, next_stops, all_pushed, rest_at, tag_pushed, tag_stops, PushesRest}
use Rattle.std.proofs.lemmas.Result.{err_from_is_err_and}
use Rattle.std.proofs.lemmas.List.{drop_all, length-map}
use Rattle.cbor_edn_parts.specs.Leaves.{space_bytes, list_end_bytes}
use Rattle.cbor_edn_core.specs.declared.tree.ItemsOf.{out-ItemsOf}
use Rattle.cbor_edn_core.specs.declared.tree.PairsOf.{out-PairsOf}
use Rattle.cbor_edn_core.specs.declared.tree.SequenceOf.{out-SequenceOf}
use Rattle.cbor_edn_core.specs.declared.tree.StringsOf.{out-StringsOf}
use Rattle.cbor_edn_model.specs.cbor.Value.{encoding, simple}
use Rattle.cbor_edn_core.proofs.lemmas.tree.Views.{view_items_is, view_pairs_is, view_sequence_is, view_stream_is, view_string_at, view_strings_is}
use Rattle.cbor_edn_model.proofs.lemmas.cbor.StringEncodes.{GathersRest, none_gathered, next_gathered, next_ungathered, all_gathered, embedded_gathered, embedded_stops, stream_pushed, stream_stops, stream_mixed, has_first, string_pushed, string_unfit, string_lacks, part_pushed, part_unfit, part_lacks, part_is, refused_so, content_is, sequence_pushed, nothing_pushed}
use Rattle.cbor_edn_core.proofs.cbor.encode.+encode.Goals as goal

pub encode_items-returns-in_err-encode_row : goal.encode_items-returns-in_err-encode_row
encode_items-returns-in_err-encode_row t c =
    let p = err_from_is_err_and c.from_residual.result c.from_residual.ensures.1 in
    let row = map (seen texts) (out-ItemsOf _ _ _ _ _ _ _ c.args.items.now).row.items in
    rw (p.1, p.2, view_items_is texts c.args.items.now) (row_stops Elements row _ c.args.out.now.items c.encode_row.new.out.items c.encode_row.new.out.items _ (rw (← c.deref.ensures.value) c.in_err-encode_row.ensures))

pub encode_items-returns : goal.encode_items-returns
encode_items-returns t c =
    let items = out-ItemsOf _ _ _ _ _ _ _ c.args.items.now in
    rw (view_items_is texts c.args.items.now)
    (row_then_last Elements (map (seen texts) items.row.items) (ElementTree (item_tree items.last)) (list_end_bytes items.end) c.args.out.now.items c.encode_row.new.out.items c.encode_item.new.out.items c.encode_item.result
    (rw (← c.deref.ensures.value) c.in_ok-encode_row.ensures) (element_encoded (item_tree items.last) _ _ _ c.encode_item.ensures))

pub encode_pairs-returns-in_err-encode_pair_row : goal.encode_pairs-returns-in_err-encode_pair_row
encode_pairs-returns-in_err-encode_pair_row t c =
    let p = err_from_is_err_and c.from_residual.result c.from_residual.ensures.1 in
    let row = map (seen_pair texts) (out-PairsOf _ _ _ _ _ _ _ c.args.pairs.now).row.items in
    rw (p.1, p.2, view_pairs_is texts c.args.pairs.now) (row_stops Pairs row _ c.args.out.now.items c.encode_pair_row.new.out.items c.encode_pair_row.new.out.items _ (rw (← c.deref.ensures.value) c.in_err-encode_pair_row.ensures))

pub encode_pairs-returns : goal.encode_pairs-returns
encode_pairs-returns t c =
    let pairs = out-PairsOf _ _ _ _ _ _ _ c.args.pairs.now in
    rw (view_pairs_is texts c.args.pairs.now)
    (row_then_last Pairs (map (seen_pair texts) pairs.row.items) (view_pair texts pairs.last) (list_end_bytes pairs.end) c.args.out.now.items c.encode_pair_row.new.out.items c.encode_pair.new.out.items c.encode_pair.result
    (rw (← c.deref.ensures.value) c.in_ok-encode_pair_row.ensures) c.encode_pair.ensures)

pub encode_row-returns-in_err-encode_item : goal.encode_row-returns-in_err-encode_item
encode_row-returns-in_err-encode_item t c =
    let row = c.args.row.now in
    let x = c.loop-item-item.result in
    let i = c.loop-item.item-index in
    let p = err_from_is_err_and c.from_residual.result c.from_residual.ensures.1 in
    rw (p.1, p.2) (next_stops (seen texts x) (map (seen texts) (drop (i + 1) row)) (map (seen texts) row) _ _ c.encode_item.new.out.items c.in_err-encode_item.field-0.0 (element_encoded (item_tree x.0) c.loop-item.out.items c.encode_item.new.out.items (Err c.in_err-encode_item.field-0.0) c.in_err-encode_item.ensures)
    (subst (λ left. PushesRest left (map (seen texts) row) c.loop-item.out.items c.args.out.now.items) (rest_at (seen texts) row i x c.loop-item-test.true c.loop-item-item.is) c.loop-item.invariant))

pub encode_row-loop-item-preserved : goal.encode_row-loop-item-preserved
encode_row-loop-item-preserved t c =
    let row = c.args.row.now in
    let x = c.loop-item-item.result in
    let i = c.loop-item.item-index in
    next_pushed (seen texts x) (map (seen texts) (drop (i + 1) row)) (map (seen texts) row) _ _ _ (element_encoded (item_tree x.0) c.loop-item.out.items c.encode_item.new.out.items (Ok tt) c.in_ok-encode_item.ensures)
    (subst (λ left. PushesRest left (map (seen texts) row) c.loop-item.out.items c.args.out.now.items) (rest_at (seen texts) row i x c.loop-item-test.true c.loop-item-item.is) c.loop-item.invariant)

pub encode_row-returns : goal.encode_row-returns
encode_row-returns t c =
    let row = c.args.row.now in
    all_pushed (map (seen texts) row) _ _
    (subst (λ left. PushesRest (map (seen texts) left) (map (seen texts) row) c.loop-item.out.items c.args.out.now.items) (drop_all c.loop-item.item-index row (omega arith)) c.loop-item.invariant)

pub encode_pair_row-returns-in_err-encode_pair : goal.encode_pair_row-returns-in_err-encode_pair
encode_pair_row-returns-in_err-encode_pair t c =
    let row = c.args.row.now in
    let x = c.loop-pair-item.result in
    let i = c.loop-pair.pair-index in
    let p = err_from_is_err_and c.from_residual.result c.from_residual.ensures.1 in
    rw (p.1, p.2) (next_stops (seen_pair texts x) (map (seen_pair texts) (drop (i + 1) row)) (map (seen_pair texts) row) _ _ c.encode_pair.new.out.items _ c.in_err-encode_pair.ensures
    (subst (λ left. PushesRest left (map (seen_pair texts) row) c.loop-pair.out.items c.args.out.now.items) (rest_at (seen_pair texts) row i x c.loop-pair-test.true c.loop-pair-item.is) c.loop-pair.invariant))

pub encode_pair_row-loop-pair-preserved : goal.encode_pair_row-loop-pair-preserved
encode_pair_row-loop-pair-preserved t c =
    let row = c.args.row.now in
    let x = c.loop-pair-item.result in
    let i = c.loop-pair.pair-index in
    next_pushed (seen_pair texts x) (map (seen_pair texts) (drop (i + 1) row)) (map (seen_pair texts) row) _ _ _ c.in_ok-encode_pair.ensures
    (subst (λ left. PushesRest left (map (seen_pair texts) row) c.loop-pair.out.items c.args.out.now.items) (rest_at (seen_pair texts) row i x c.loop-pair-test.true c.loop-pair-item.is) c.loop-pair.invariant)

pub encode_pair_row-returns : goal.encode_pair_row-returns
encode_pair_row-returns t c =
    let row = c.args.row.now in
    all_pushed (map (seen_pair texts) row) _ _
    (subst (λ left. PushesRest (map (seen_pair texts) left) (map (seen_pair texts) row) c.loop-pair.out.items c.args.out.now.items) (drop_all c.loop-pair.pair-index row (omega arith)) c.loop-pair.invariant)

pub encode_array-returns-in-Absent : goal.encode_array-returns-in-Absent
encode_array-returns-in-Absent t c = rw c.in-Absent.is (empty_encoded Array c.in-Absent.indicator (space_bytes c.in-Absent.space) c.args.out.now.items c.encode_empty.new.out.items c.encode_empty.result c.encode_empty.ensures)

pub encode_array-returns-in_err-width-in-Present : goal.encode_array-returns-in_err-width-in-Present
encode_array-returns-in_err-width-in-Present t c =
    let row = (out-ItemsOf _ _ _ _ _ _ _ c.in-Present.items).row in
    let last = (out-ItemsOf _ _ _ _ _ _ _ c.in-Present.items).last in
    let list_end = (out-ItemsOf _ _ _ _ _ _ _ c.in-Present.items).end in
    let n = c.len.result + 1 in
    let count : n ≡ length (map (seen texts) row.items) + 1 = simp length-map (ap (λ k. k + 1) (c.len.ensures ∙ row.ok.0)) in
    let f = c.in_err-width-in-Present.field-0.0 in
    let p = err_from_is_err_and c.from_residual.result c.from_residual.ensures.1 in
    let found : Finds (length_of (head_indicator (view_list_head texts c.in-Present.head)) n) (Err f) = subst (λ i. Finds (length_of i n) (Err f)) c.indicator.ensures c.in_err-width-in-Present.ensures in
    rw (c.in-Present.is, p.1, p.2) (full_unfit Array (view_list_head texts c.in-Present.head) (space_bytes c.in-Present.space) (view_items texts c.in-Present.items) (map (seen texts) row.items) (ElementTree (item_tree last)) (list_end_bytes list_end) (view_items_is texts c.in-Present.items) n count c.args.out.now.items c.args.out.now.items f found)

pub encode_array-returns-in_err-encode_items-in-Present : goal.encode_array-returns-in_err-encode_items-in-Present
encode_array-returns-in_err-encode_items-in-Present t c =
    let row = (out-ItemsOf _ _ _ _ _ _ _ c.in-Present.items).row in
    let last = (out-ItemsOf _ _ _ _ _ _ _ c.in-Present.items).last in
    let list_end = (out-ItemsOf _ _ _ _ _ _ _ c.in-Present.items).end in
    let n = c.len.result + 1 in
    let count : n ≡ length (map (seen texts) row.items) + 1 = simp length-map (ap (λ k. k + 1) (c.len.ensures ∙ row.ok.0)) in
    let p = err_from_is_err_and c.from_residual-in_err-encode_items-in-Present.result c.from_residual-in_err-encode_items-in-Present.ensures.1 in
    rw (c.in-Present.is, p.1, p.2)
    (full_stops Array (view_list_head texts c.in-Present.head) (space_bytes c.in-Present.space) (view_items texts c.in-Present.items) (map (seen texts) row.items) (ElementTree (item_tree last)) (list_end_bytes list_end) (view_items_is texts c.in-Present.items) n count c.args.out.now.items c.encode_list_head.new.out.items c.encode_items.new.out.items c.encode_items.new.out.items c.in_err-encode_items-in-Present.field-0.0 c.in_err-encode_items-in-Present.ensures)

pub encode_array-returns-in_ok-encode_list_end-in-Present : goal.encode_array-returns-in_ok-encode_list_end-in-Present
encode_array-returns-in_ok-encode_list_end-in-Present t c =
    let row = (out-ItemsOf _ _ _ _ _ _ _ c.in-Present.items).row in
    let last = (out-ItemsOf _ _ _ _ _ _ _ c.in-Present.items).last in
    let list_end = (out-ItemsOf _ _ _ _ _ _ _ c.in-Present.items).end in
    let n = c.len.result + 1 in
    let count : n ≡ length (map (seen texts) row.items) + 1 = simp length-map (ap (λ k. k + 1) (c.len.ensures ∙ row.ok.0)) in
    let v = c.in_ok-width-in-Present.width in
    let width : length_of (head_indicator (view_list_head texts c.in-Present.head)) n ≡ Some v = subst (λ i. length_of i n ≡ Some v) c.indicator.ensures c.in_ok-width-in-Present.ensures in
    rw c.in-Present.is
    (full_encoded Array (view_list_head texts c.in-Present.head) (space_bytes c.in-Present.space) (view_items texts c.in-Present.items) (map (seen texts) row.items) (ElementTree (item_tree last)) (list_end_bytes list_end) (view_items_is texts c.in-Present.items) n count v c.args.out.now.items c.encode_list_head.new.out.items c.encode_items.new.out.items c.encode_list_end.new.out.items width c.in_ok-encode_list_head-in-Present.ensures c.in_ok-encode_items-in-Present.ensures c.in_ok-encode_list_end-in-Present.ensures)

pub encode_map-returns-in-Absent : goal.encode_map-returns-in-Absent
encode_map-returns-in-Absent t c = rw c.in-Absent.is (empty_encoded Map c.in-Absent.indicator (space_bytes c.in-Absent.space) c.args.out.now.items c.encode_empty.new.out.items c.encode_empty.result c.encode_empty.ensures)

pub encode_map-returns-in_err-width-in-Present : goal.encode_map-returns-in_err-width-in-Present
encode_map-returns-in_err-width-in-Present t c =
    let row = (out-PairsOf _ _ _ _ _ _ _ c.in-Present.pairs).row in
    let last = (out-PairsOf _ _ _ _ _ _ _ c.in-Present.pairs).last in
    let list_end = (out-PairsOf _ _ _ _ _ _ _ c.in-Present.pairs).end in
    let n = c.len.result + 1 in
    let count : n ≡ length (map (seen_pair texts) row.items) + 1 = simp length-map (ap (λ k. k + 1) (c.len.ensures ∙ row.ok.0)) in
    let f = c.in_err-width-in-Present.field-0.0 in
    let p = err_from_is_err_and c.from_residual.result c.from_residual.ensures.1 in
    let found : Finds (length_of (head_indicator (view_list_head texts c.in-Present.head)) n) (Err f) = subst (λ i. Finds (length_of i n) (Err f)) c.indicator.ensures c.in_err-width-in-Present.ensures in
    rw (c.in-Present.is, p.1, p.2) (full_unfit Map (view_list_head texts c.in-Present.head) (space_bytes c.in-Present.space) (view_pairs texts c.in-Present.pairs) (map (seen_pair texts) row.items) (view_pair texts last) (list_end_bytes list_end) (view_pairs_is texts c.in-Present.pairs) n count c.args.out.now.items c.args.out.now.items f found)

pub encode_map-returns-in_err-encode_pairs-in-Present : goal.encode_map-returns-in_err-encode_pairs-in-Present
encode_map-returns-in_err-encode_pairs-in-Present t c =
    let row = (out-PairsOf _ _ _ _ _ _ _ c.in-Present.pairs).row in
    let last = (out-PairsOf _ _ _ _ _ _ _ c.in-Present.pairs).last in
    let list_end = (out-PairsOf _ _ _ _ _ _ _ c.in-Present.pairs).end in
    let n = c.len.result + 1 in
    let count : n ≡ length (map (seen_pair texts) row.items) + 1 = simp length-map (ap (λ k. k + 1) (c.len.ensures ∙ row.ok.0)) in
    let p = err_from_is_err_and c.from_residual-in_err-encode_pairs-in-Present.result c.from_residual-in_err-encode_pairs-in-Present.ensures.1 in
    rw (c.in-Present.is, p.1, p.2)
    (full_stops Map (view_list_head texts c.in-Present.head) (space_bytes c.in-Present.space) (view_pairs texts c.in-Present.pairs) (map (seen_pair texts) row.items) (view_pair texts last) (list_end_bytes list_end) (view_pairs_is texts c.in-Present.pairs) n count c.args.out.now.items c.encode_list_head.new.out.items c.encode_pairs.new.out.items c.encode_pairs.new.out.items c.in_err-encode_pairs-in-Present.field-0.0 c.in_err-encode_pairs-in-Present.ensures)

pub encode_map-returns-in_ok-encode_list_end-in-Present : goal.encode_map-returns-in_ok-encode_list_end-in-Present
encode_map-returns-in_ok-encode_list_end-in-Present t c =
    let row = (out-PairsOf _ _ _ _ _ _ _ c.in-Present.pairs).row in
    let last = (out-PairsOf _ _ _ _ _ _ _ c.in-Present.pairs).last in
    let list_end = (out-PairsOf _ _ _ _ _ _ _ c.in-Present.pairs).end in
    let n = c.len.result + 1 in
    let count : n ≡ length (map (seen_pair texts) row.items) + 1 = simp length-map (ap (λ k. k + 1) (c.len.ensures ∙ row.ok.0)) in
    let v = c.in_ok-width-in-Present.width in
    let width : length_of (head_indicator (view_list_head texts c.in-Present.head)) n ≡ Some v = subst (λ i. length_of i n ≡ Some v) c.indicator.ensures c.in_ok-width-in-Present.ensures in
    rw c.in-Present.is
    (full_encoded Map (view_list_head texts c.in-Present.head) (space_bytes c.in-Present.space) (view_pairs texts c.in-Present.pairs) (map (seen_pair texts) row.items) (view_pair texts last) (list_end_bytes list_end) (view_pairs_is texts c.in-Present.pairs) n count v c.args.out.now.items c.encode_list_head.new.out.items c.encode_pairs.new.out.items c.encode_list_end.new.out.items width c.in_ok-encode_list_head-in-Present.ensures c.in_ok-encode_pairs-in-Present.ensures c.in_ok-encode_list_end-in-Present.ensures)

pub encode_pair-returns-in_err-encode_item : goal.encode_pair-returns-in_err-encode_item
encode_pair-returns-in_err-encode_item t c =
    let pair = c.args.pair.now in
    let p = err_from_is_err_and c.from_residual.result c.from_residual.ensures.1 in
    rw (p.1, p.2) (pair_stops (item_tree pair.key) (item_tree pair.value) (space_bytes pair.before_colon) (space_bytes pair.after_colon) c.args.out.now.items c.encode_item.new.out.items c.encode_item.new.out.items c.in_err-encode_item.field-0.0 c.in_err-encode_item.ensures)

pub encode_pair-returns : goal.encode_pair-returns
encode_pair-returns t c =
    let pair = c.args.pair.now in
    pair_encoded (item_tree pair.key) (item_tree pair.value) (space_bytes pair.before_colon) (space_bytes pair.after_colon) c.args.out.now.items c.encode_item.new.out.items c.encode_item-2.new.out.items c.encode_item-2.result c.in_ok-encode_item.ensures c.encode_item-2.ensures

-- ---- strings

pub encode_item-returns-in-String : goal.encode_item-returns-in-String
unfolding items
encode_item-returns-in-String t c =
    subst (λ w. Encodes encoding (means (items w)) c.args.out.now.items c.encode_pieces.new.out.items c.encode_pieces.result)
    (sym (view_string_at texts c.args.item.now.inner c.in-String.string c.deref-in-String.result.now c.in-String.is c.deref-in-String.ensures)) c.encode_pieces.ensures

pub encode_item-returns-in-Stream : goal.encode_item-returns-in-Stream
unfolding items
encode_item-returns-in-Stream t c = rw (c.in-Stream.is, ← c.deref-in-Stream.ensures, view_stream_is texts c.deref-in-Stream.result.now) c.encode_stream.ensures

pub encode_sequence-returns-in-Some : goal.encode_sequence-returns-in-Some
encode_sequence-returns-in-Some t c =
    let f = out-SequenceOf _ _ _ _ _ _ _ c.args.sequence.now in
    rw (view_sequence_is texts c.args.sequence.now, c.in-Some.is) (sequence_pushed (space_bytes f.before) (view_items texts c.in-Some.items) c.args.out.now.items c.encode_items.new.out.items c.encode_items.result c.encode_items.ensures)

pub encode_sequence-returns-in-None : goal.encode_sequence-returns-in-None
encode_sequence-returns-in-None t c =
    let f = out-SequenceOf _ _ _ _ _ _ _ c.args.sequence.now in
    rw (view_sequence_is texts c.args.sequence.now, c.in-None.is) (nothing_pushed (space_bytes f.before) c.args.out.now.items)

pub encode_pieces-returns-in_err-indicator : goal.encode_pieces-returns-in_err-indicator
encode_pieces-returns-in_err-indicator t c =
    let p = err_from_is_err_and c.from_residual.result c.from_residual.ensures.1 in
    rw (p.1, p.2) (string_unfit (items (view_string texts c.args.string.now)) c.args.out.now.items c.args.out.now.items c.in_err-indicator.field-0.0 c.in_err-indicator.ensures)

pub encode_pieces-returns-in_err-kind : goal.encode_pieces-returns-in_err-kind
encode_pieces-returns-in_err-kind t c =
    let p = err_from_is_err_and c.from_residual-in_err-kind.result c.from_residual-in_err-kind.ensures.1 in
    rw (p.1, p.2) (string_lacks (items (view_string texts c.args.string.now)) c.args.out.now.items c.args.out.now.items c.in_err-kind.field-0.0 c.in_err-kind.ensures.none)

pub encode_pieces-returns : goal.encode_pieces-returns
encode_pieces-returns t c =
    string_pushed (items (view_string texts c.args.string.now)) c.in_ok-indicator.indicator _ _ c.args.out.now.items c.encode_string.new.out.items c.encode_string.result c.in_ok-indicator.ensures c.in_ok-kind.ensures.content (rw (← c.deref.ensures.value) c.encode_string.ensures)

pub encode_stream_chunk-returns-in_err-indicator : goal.encode_stream_chunk-returns-in_err-indicator
encode_stream_chunk-returns-in_err-indicator t c =
    let p = err_from_is_err_and c.from_residual.result c.from_residual.ensures.1 in
    rw (p.1, p.2) (part_unfit (items (view_string texts c.args.string.now)) c.args.out.now.items c.args.out.now.items c.in_err-indicator.field-0.0 c.in_err-indicator.ensures)

pub encode_stream_chunk-returns-in_err-kind : goal.encode_stream_chunk-returns-in_err-kind
encode_stream_chunk-returns-in_err-kind t c =
    let p = err_from_is_err_and c.from_residual-in_err-kind.result c.from_residual-in_err-kind.ensures.1 in
    rw (p.1, p.2) (part_lacks (items (view_string texts c.args.string.now)) c.args.out.now.items c.args.out.now.items c.in_err-kind.field-0.0 c.in_err-kind.ensures.none)

pub encode_stream_chunk-returns : goal.encode_stream_chunk-returns
encode_stream_chunk-returns t c =
    part_pushed (items (view_string texts c.args.string.now)) c.in_ok-indicator.indicator _ _ c.args.out.now.items c.encode_chunk.new.out.items c.encode_chunk.result c.in_ok-indicator.ensures c.in_ok-kind.ensures.content (rw (← c.deref.ensures.value) c.encode_chunk.ensures)

pub content_of-returns-in-Ok-clause-content : goal.content_of-returns-in-Ok-clause-content
content_of-returns-in-Ok-clause-content t c = content_is _ _ _ _ c.new-bytes.ensures.items c.in-Ok.ensures

pub content_of-returns-in-Err-Told-clause-none : goal.content_of-returns-in-Err-Told-clause-none
content_of-returns-in-Err-Told-clause-none t c = refused_so _ c.first_fault.result (rw c.in-Err-Told.field-0-is at c.in-Err-Told.ensures)

pub gather-loop-piece-init : goal.gather-loop-piece-init
gather-loop-piece-init t c = none_gathered (map (seen_piece texts) c.deref-piece-items.result.now) c.args.out.now.items

pub gather-returns-in_err-next : goal.gather-returns-in_err-next
gather-returns-in_err-next t c =
    let row = c.deref-piece-items.result.now in
    let x = c.loop-piece-item.result in
    let i = c.loop-piece.piece-index in
    let p = err_from_is_err_and c.from_residual.result c.from_residual.ensures.1 in
    rw (p.1, p.2, ← c.deref-piece-items.ensures.value) (next_ungathered (seen_piece texts x) (map (seen_piece texts) (drop (i + 1) row)) (map (seen_piece texts) row) c.loop-piece.kind c.args.out.now.items c.loop-piece.out.items c.encode_piece.new.out.items c.in_err-next.field-0.0 (LastPieceTree (view_piece texts c.args.string.now.last)) c.in_err-next.ensures
    (subst (λ left. GathersRest left (map (seen_piece texts) row) c.loop-piece.kind c.loop-piece.out.items c.args.out.now.items) (rest_at (seen_piece texts) row i x c.loop-piece-test.true c.loop-piece-item.is) c.loop-piece.invariant))

pub gather-loop-piece-preserved : goal.gather-loop-piece-preserved
gather-loop-piece-preserved t c =
    let row = c.deref-piece-items.result.now in
    let x = c.loop-piece-item.result in
    let i = c.loop-piece.piece-index in
    rw c.unwrap_or.ensures (next_gathered (seen_piece texts x) (map (seen_piece texts) (drop (i + 1) row)) (map (seen_piece texts) row) c.loop-piece.kind c.args.out.now.items c.loop-piece.out.items c.encode_piece.new.out.items c.in_ok-next.next c.in_ok-next.ensures
    (subst (λ left. GathersRest left (map (seen_piece texts) row) c.loop-piece.kind c.loop-piece.out.items c.args.out.now.items) (rest_at (seen_piece texts) row i x c.loop-piece-test.true c.loop-piece-item.is) c.loop-piece.invariant))

pub gather-returns-in_err-last : goal.gather-returns-in_err-last
gather-returns-in_err-last t c =
    let row = c.deref-piece-items.result.now in
    let p = err_from_is_err_and c.from_residual-in_err-last.result c.from_residual-in_err-last.ensures.1 in
    rw (p.1, p.2, ← c.deref-piece-items.ensures.value) (all_gathered (map (seen_piece texts) row) (view_piece texts c.args.string.now.last) c.loop-piece.kind c.args.out.now.items c.loop-piece.out.items c.encode_piece-2.new.out.items (Err c.in_err-last.field-0.0) c.in_err-last.ensures
    (subst (λ left. GathersRest (map (seen_piece texts) left) (map (seen_piece texts) row) c.loop-piece.kind c.loop-piece.out.items c.args.out.now.items) (drop_all c.loop-piece.piece-index row (omega arith)) c.loop-piece.invariant))

pub gather-returns : goal.gather-returns
gather-returns t c =
    let row = c.deref-piece-items.result.now in
    rw (c.unwrap_or-2.ensures, ← c.deref-piece-items.ensures.value) (all_gathered (map (seen_piece texts) row) (view_piece texts c.args.string.now.last) c.loop-piece.kind c.args.out.now.items c.loop-piece.out.items c.encode_piece-2.new.out.items (Ok c.in_ok-last.last) c.in_ok-last.ensures
    (subst (λ left. GathersRest (map (seen_piece texts) left) (map (seen_piece texts) row) c.loop-piece.kind c.loop-piece.out.items c.args.out.now.items) (drop_all c.loop-piece.piece-index row (omega arith)) c.loop-piece.invariant))

pub encode_piece-returns-in-Literal : goal.encode_piece-returns-in-Literal
unfolding items means
encode_piece-returns-in-Literal t c = rw c.in-Literal.is c.encode_literal.ensures

pub encode_piece-returns-in-Ellipsis : goal.encode_piece-returns-in-Ellipsis
unfolding items means
encode_piece-returns-in-Ellipsis t c = rw c.in-Ellipsis.is refl

pub encode_piece-returns-in_err-encode_sequence-in-Embedded : goal.encode_piece-returns-in_err-encode_sequence-in-Embedded
unfolding items
encode_piece-returns-in_err-encode_sequence-in-Embedded t c =
    let p = err_from_is_err_and c.from_residual.result c.from_residual.ensures.1 in
    rw (c.in-Embedded.is, p.1, p.2, ← c.deref.ensures) (embedded_stops (items (view_sequence texts c.deref.result.now)) _ c.args.out.now.items c.encode_sequence.new.out.items c.encode_sequence.new.out.items c.in_err-encode_sequence-in-Embedded.field-0.0 c.in_err-encode_sequence-in-Embedded.ensures)

pub encode_piece-returns-in_ok-encode_sequence-in-Embedded : goal.encode_piece-returns-in_ok-encode_sequence-in-Embedded
unfolding items
encode_piece-returns-in_ok-encode_sequence-in-Embedded t c =
    rw (c.in-Embedded.is, ← c.deref.ensures) (embedded_gathered (items (view_sequence texts c.deref.result.now)) _ c.args.out.now.items c.encode_sequence.new.out.items c.in_ok-encode_sequence-in-Embedded.ensures)

pub encode_chunks-returns-in_err-stream_kind : goal.encode_chunks-returns-in_err-stream_kind
encode_chunks-returns-in_err-stream_kind t c =
    let f = out-StringsOf _ _ _ _ _ _ _ c.args.strings.now in
    let p = err_from_is_err_and c.from_residual.result c.from_residual.ensures.1 in
    let first = has_first (map (seen_string texts) f.row.items) (view_string texts f.last) (list_end_bytes f.end) in
    rw (p.1, p.2) (stream_mixed (items (view_strings texts c.args.strings.now)) c.args.out.now.items c.args.out.now.items c.in_err-stream_kind.field-0.0 (rw (view_strings_is texts c.args.strings.now) first) c.in_err-stream_kind.ensures)

pub encode_chunks-returns-in_err-encode_stream_chunks : goal.encode_chunks-returns-in_err-encode_stream_chunks
encode_chunks-returns-in_err-encode_stream_chunks t c =
    let p = err_from_is_err_and c.from_residual-in_err-encode_stream_chunks.result c.from_residual-in_err-encode_stream_chunks.ensures.1 in
    rw (p.1, p.2) (stream_stops (items (view_strings texts c.args.strings.now)) c.args.out.now.items c.encode_list_head.new.out.items c.encode_stream_chunks.new.out.items c.encode_stream_chunks.new.out.items c.in_err-encode_stream_chunks.field-0.0 c.in_err-encode_stream_chunks.ensures)

pub encode_chunks-returns : goal.encode_chunks-returns
encode_chunks-returns t c =
    let f = out-StringsOf _ _ _ _ _ _ _ c.args.strings.now in
    let first = has_first (map (seen_string texts) f.row.items) (view_string texts f.last) (list_end_bytes f.end) in
    stream_pushed (items (view_strings texts c.args.strings.now)) _ c.args.out.now.items c.encode_list_head.new.out.items c.encode_stream_chunks.new.out.items c.encode_list_end.new.out.items (rw (view_strings_is texts c.args.strings.now) first) c.in_ok-stream_kind.ensures
    (c.in_ok-encode_list_head.ensures ∙ ap (λ m. c.args.out.now.items ++ list_head m None 0) c.string_major-major.ensures.major) c.in_ok-encode_stream_chunks.ensures c.in_ok-encode_list_end.ensures

pub encode_stream_chunks-returns-in_err-encode_stream_chunk_row : goal.encode_stream_chunks-returns-in_err-encode_stream_chunk_row
encode_stream_chunks-returns-in_err-encode_stream_chunk_row t c =
    let p = err_from_is_err_and c.from_residual.result c.from_residual.ensures.1 in
    let row = map (seen_string texts) (out-StringsOf _ _ _ _ _ _ _ c.args.strings.now).row.items in
    rw (p.1, p.2, view_strings_is texts c.args.strings.now) (row_stops Strings row _ c.args.out.now.items c.encode_stream_chunk_row.new.out.items c.encode_stream_chunk_row.new.out.items _ (rw (← c.deref.ensures.value) c.in_err-encode_stream_chunk_row.ensures))

pub encode_stream_chunks-returns : goal.encode_stream_chunks-returns
encode_stream_chunks-returns t c =
    let strings = out-StringsOf _ _ _ _ _ _ _ c.args.strings.now in
    rw (view_strings_is texts c.args.strings.now)
    (row_then_last Strings (map (seen_string texts) strings.row.items) (ChunkTree (view_string texts strings.last)) (list_end_bytes strings.end) c.args.out.now.items c.encode_stream_chunk_row.new.out.items c.encode_stream_chunk.new.out.items c.encode_stream_chunk.result
    (rw (← c.deref.ensures.value) c.in_ok-encode_stream_chunk_row.ensures) (part_is (view_string texts strings.last) _ _ _ c.encode_stream_chunk.ensures))

pub encode_stream_chunk_row-returns-in_err-encode_stream_chunk : goal.encode_stream_chunk_row-returns-in_err-encode_stream_chunk
encode_stream_chunk_row-returns-in_err-encode_stream_chunk t c =
    let row = c.args.row.now in
    let x = c.loop-string-item.result in
    let i = c.loop-string.string-index in
    let p = err_from_is_err_and c.from_residual.result c.from_residual.ensures.1 in
    rw (p.1, p.2) (next_stops (seen_string texts x) (map (seen_string texts) (drop (i + 1) row)) (map (seen_string texts) row) _ _ c.encode_stream_chunk.new.out.items c.in_err-encode_stream_chunk.field-0.0 (part_is (view_string texts x.0) c.loop-string.out.items c.encode_stream_chunk.new.out.items (Err c.in_err-encode_stream_chunk.field-0.0) c.in_err-encode_stream_chunk.ensures)
    (subst (λ left. PushesRest left (map (seen_string texts) row) c.loop-string.out.items c.args.out.now.items) (rest_at (seen_string texts) row i x c.loop-string-test.true c.loop-string-item.is) c.loop-string.invariant))

pub encode_stream_chunk_row-loop-string-preserved : goal.encode_stream_chunk_row-loop-string-preserved
encode_stream_chunk_row-loop-string-preserved t c =
    let row = c.args.row.now in
    let x = c.loop-string-item.result in
    let i = c.loop-string.string-index in
    next_pushed (seen_string texts x) (map (seen_string texts) (drop (i + 1) row)) (map (seen_string texts) row) _ _ _ (part_is (view_string texts x.0) c.loop-string.out.items c.encode_stream_chunk.new.out.items (Ok tt) c.in_ok-encode_stream_chunk.ensures)
    (subst (λ left. PushesRest left (map (seen_string texts) row) c.loop-string.out.items c.args.out.now.items) (rest_at (seen_string texts) row i x c.loop-string-test.true c.loop-string-item.is) c.loop-string.invariant)

pub encode_stream_chunk_row-returns : goal.encode_stream_chunk_row-returns
encode_stream_chunk_row-returns t c =
    let row = c.args.row.now in
    all_pushed (map (seen_string texts) row) _ _
    (subst (λ left. PushesRest (map (seen_string texts) left) (map (seen_string texts) row) c.loop-string.out.items c.args.out.now.items) (drop_all c.loop-string.string-index row (omega arith)) c.loop-string.invariant)

-- ---- floating-point numbers, simple values and tags

pub encode_item-returns-in-NonFinite : goal.encode_item-returns-in-NonFinite
unfolding items means
encode_item-returns-in-NonFinite t c = rw c.in-NonFinite.is c.encode_float.ensures

pub encode_item-returns-in_ok-encode_simple-in-Named : goal.encode_item-returns-in_ok-encode_simple-in-Named
unfolding items means
encode_item-returns-in_ok-encode_simple-in-Named t c = rw c.in-Named.is (simple (named_number c.in-Named.name), refl, c.in_ok-encode_simple-in-Named.ensures ∙ ap (λ (n : ℕ). c.args.out.now.items ++ encoding (simple n)) c.named_number.ensures)

pub encode_item-returns-in-Enclosed : goal.encode_item-returns-in-Enclosed
unfolding items
encode_item-returns-in-Enclosed t c = rw (c.in-Enclosed.is, ← c.deref.ensures) c.encode_enclosed.ensures

pub encode_enclosed-returns-in_err-encode_indicated_head-in-Tag : goal.encode_enclosed-returns-in_err-encode_indicated_head-in-Tag
unfolding items
encode_enclosed-returns-in_err-encode_indicated_head-in-Tag t c =
    let p = err_from_is_err_and c.from_residual.result c.from_residual.ensures.1 in
    rw (c.in-Tag.is, p.1, p.2) (tag_stops c.in-Tag.number c.in-Tag.indicator (items (item_tree c.args.content.now.item)) c.args.out.now.items c.encode_indicated_head.new.out.items c.encode_indicated_head.new.out.items c.in_err-encode_indicated_head-in-Tag.field-0.0 c.in_err-encode_indicated_head-in-Tag.ensures)

pub encode_enclosed-returns-in_ok-encode_indicated_head-in-Tag : goal.encode_enclosed-returns-in_ok-encode_indicated_head-in-Tag
unfolding items
encode_enclosed-returns-in_ok-encode_indicated_head-in-Tag t c =
    rw c.in-Tag.is (tag_pushed c.in-Tag.number c.in-Tag.indicator (items (item_tree c.args.content.now.item)) c.args.out.now.items c.encode_indicated_head.new.out.items c.encode_item.new.out.items c.encode_item.result c.in_ok-encode_indicated_head-in-Tag.ensures c.encode_item.ensures)

pub encode_enclosed-returns-in-Simple : goal.encode_enclosed-returns-in-Simple
unfolding items means
encode_enclosed-returns-in-Simple t c = rw c.in-Simple.is c.encode_numeric.ensures
