use Rattle.std.proofs.Common.{◌≡◌, ◌<◌, ◌≤◌, ◌+◌, ◌*◌, [], ◌++◌, length, map, set, get_or, arith, rules, refl, sym, ap, ◌∙◌, subst}
use Rattle.std.proofs.Math.ListN.{length-set}
use Rattle.std.proofs.lemmas.List.{drop-set-lt}
use Rattle.std.proofs.lemmas.Grind.{drop_more_same}
use Rattle.cbor_edn_model.specs.visit.Depth.{depth}
use Rattle.cbor_edn_model.specs.visit.Seeking.{of_last_piece, of_standalone, of_element, of_chunk}
use Rattle.cbor_edn_model.specs.visit.Visits.{no_calls, whole, cut}
use Rattle.cbor_edn_model.specs.internal.Reaching.{SoughtFront, SoughtPieces, of_key}
use Rattle.cbor_edn_model.proofs.lemmas.visit.VisitsOfParts.{measure_if, measure_if-le, then_if, failed}
use Rattle.cbor_edn_model.proofs.lemmas.visit.VisitedRows.{Chain-append}
use Rattle.cbor_edn_model.proofs.lemmas.layout.Begun.{kept, same_here}
use Rattle.cbor_edn_core.specs.tree.View.{seen, seen_pair, seen_piece, seen_string, view_item, view_standalone}
use Rattle.cbor_edn_core.specs.declared.tree.StreamOf.{out-StreamOf, roll-StreamOf}
use Rattle.cbor_edn_core.proofs.lemmas.visit.ElementVisits.{cut_short}
use Rattle.cbor_edn_core.proofs.lemmas.visit.Walks.{entry_more, entry_cut, entries_all, piece_more, piece_cut, key_cut, key_then, key_value, number_walked, float_walked, name_walked, literal_alone_walked, tag_walked, simple_walked, array_walked, map_walked, string_walked, stream_walked, literal_walked, ellipsis_walked, embedded_walked, nothing_walked, sequence_walked, list_walked, empty_list_walked, pair_list_walked, empty_pair_list_walked, items_row_cut, items_last_walked, items_all_walked, pairs_row_cut, pairs_all_walked, strings_row_cut, strings_all_walked, tag_less, array_less, map_less, string_less, stream_less, embedded_less, sequence_less, list_less, pair_list_less, standalone_less, key_less, value_less, last_key_less, items_row_less, items_last_less, pairs_row_less, pairs_last_less, string_row_less, string_last_less, strings_row_less, strings_last_less, element_less, row_key_less, row_value_less, chunk_less, piece_less}
use Rattle.cbor_edn_core.proofs.visit.walk.Walk.+visit.Goals as goal

pub visit_if-returns-then-not-enters-clause-visited : goal.visit_if-returns-then-not-enters-clause-visited
visit_if-returns-then-not-enters-clause-visited g t c =
    ([], no_calls, rw c.if-not-enters.true (refl, refl, refl))

pub visit_if-returns-then-is_leaf-clause-visited : goal.visit_if-returns-then-is_leaf-clause-visited
visit_if-returns-then-is_leaf-clause-visited g t c =
    ([], no_calls, rw c.if-not-enters.false (c.is_leaf.ensures c.if-is_leaf.true))

pub visit_inner-visit_standalone-requires : goal.visit_inner-visit_standalone-requires
visit_inner-visit_standalone-requires g t c κs within =
    let read : c.deref_mut.result.now ≡ c.in-Enclosed.content.value = c.deref_mut.ensures.value ∙ ap (λ b. b.value) c.in-Enclosed.content-is in
    let tag = ap (λ l. l.kind) (sym c.in-Enclosed.opener-is) ∙ c.in-Tag.is in
    (tag_less g.K.Seek.leaves t c.args.inner.now c.in-Enclosed.opener c.in-Enclosed.content c.deref_mut.result.now c.in-Tag.field-1 c.in-Tag.field-0 c.in-Enclosed.is tag read c.decreases, (within.0, (within.1.0, (within.1.1.0, (within.1.1.1.0, (within.1.1.1.1.0, (within.1.1.1.1.1.0, (within.1.1.1.1.1.1.0, (within.1.1.1.1.1.1.1.0, (within.1.1.1.1.1.1.1.1, c.requires.callable))))))))))

pub visit_inner-returns-in-Tag-clause-visited : goal.visit_inner-returns-in-Tag-clause-visited
visit_inner-returns-in-Tag-clause-visited g t c =
    let read : c.deref_mut.result.now ≡ c.in-Enclosed.content.value = c.deref_mut.ensures.value ∙ ap (λ b. b.value) c.in-Enclosed.content-is in
    let tag = ap (λ l. l.kind) (sym c.in-Enclosed.opener-is) ∙ c.in-Tag.is in
    let v = c.visit_standalone.ensures.visited in
    (v.0, v.1, tag_walked g.K.Seek.leaves c.args.inner.now c.in-Enclosed.opener c.in-Enclosed.content c.deref_mut.result.now c.in-Tag.field-1 c.in-Tag.field-0 _ _ v.0 _ c.in-Enclosed.is tag read (ap (λ l. l.kind) c.in-Enclosed.opener-is) v.2)

pub visit_inner-returns-in-Simple-clause-visited : goal.visit_inner-returns-in-Simple-clause-visited
visit_inner-returns-in-Simple-clause-visited g t c =
    ([], no_calls, simple_walked g.K.Seek.leaves c.args.inner.now c.in-Enclosed.opener c.in-Enclosed.content _ _ c.in-Enclosed.is (ap (λ l. l.kind) (sym c.in-Enclosed.opener-is) ∙ c.in-Simple.is) (ap (λ l. l.kind) c.in-Enclosed.opener-is) (ap (λ b. view_standalone g.K.Seek.leaves b.value) c.in-Enclosed.content-is))

pub visit_inner-visit_list-requires : goal.visit_inner-visit_list-requires
visit_inner-visit_list-requires g t c κs within =
    let b = c.in-Array.list in
    let read : c.deref_mut-in-Array.result.now ≡ b.value = c.deref_mut-in-Array.ensures.value ∙ ap (λ b. b.value) c.in-Array.list-is in
    (array_less g.K.Seek.leaves t c.args.inner.now b c.deref_mut-in-Array.result.now c.in-Array.is read c.decreases, (within.0, (within.1.0, (within.1.1.0, (within.1.1.1.0, (within.1.1.1.1.0, (within.1.1.1.1.1.0, (within.1.1.1.1.1.1.0, (within.1.1.1.1.1.1.1.0, (within.1.1.1.1.1.1.1.1, c.requires.callable))))))))))

pub visit_inner-returns-in-Array-clause-visited : goal.visit_inner-returns-in-Array-clause-visited
visit_inner-returns-in-Array-clause-visited g t c =
    let b = c.in-Array.list in
    let read : c.deref_mut-in-Array.result.now ≡ b.value = c.deref_mut-in-Array.ensures.value ∙ ap (λ b. b.value) c.in-Array.list-is in
    let v = c.visit_list.ensures.visited in
    (v.0, v.1, array_walked g.K.Seek.leaves c.args.inner.now _ b (record { ptr = b.ptr; alloc = b.alloc; value = c.visit_list.new.list }) c.deref_mut-in-Array.result.now v.0 _ c.in-Array.is read (search (rules)) v.2)

pub visit_inner-visit_pair_list-requires : goal.visit_inner-visit_pair_list-requires
visit_inner-visit_pair_list-requires g t c κs within =
    let b = c.in-Map.list in
    let read : c.deref_mut-in-Map.result.now ≡ b.value = c.deref_mut-in-Map.ensures.value ∙ ap (λ b. b.value) c.in-Map.list-is in
    (map_less g.K.Seek.leaves t c.args.inner.now b c.deref_mut-in-Map.result.now c.in-Map.is read c.decreases, (within.0, (within.1.0, (within.1.1.0, (within.1.1.1.0, (within.1.1.1.1.0, (within.1.1.1.1.1.0, (within.1.1.1.1.1.1.0, (within.1.1.1.1.1.1.1.0, (within.1.1.1.1.1.1.1.1, c.requires.callable))))))))))

pub visit_inner-returns-in-Map-clause-visited : goal.visit_inner-returns-in-Map-clause-visited
visit_inner-returns-in-Map-clause-visited g t c =
    let b = c.in-Map.list in
    let read : c.deref_mut-in-Map.result.now ≡ b.value = c.deref_mut-in-Map.ensures.value ∙ ap (λ b. b.value) c.in-Map.list-is in
    let v = c.visit_pair_list.ensures.visited in
    (v.0, v.1, map_walked g.K.Seek.leaves c.args.inner.now _ b (record { ptr = b.ptr; alloc = b.alloc; value = c.visit_pair_list.new.list }) c.deref_mut-in-Map.result.now v.0 _ c.in-Map.is read (search (rules)) v.2)

pub visit_inner-visit_string-requires : goal.visit_inner-visit_string-requires
visit_inner-visit_string-requires g t c κs within =
    let b = c.in-String.string in
    let read : c.deref_mut-in-String.result.now ≡ b.value = c.deref_mut-in-String.ensures.value ∙ ap (λ b. b.value) c.in-String.string-is in
    (string_less g.K.Seek.leaves t c.args.inner.now b c.deref_mut-in-String.result.now c.in-String.is read c.decreases, (within.0, (within.1.0, (within.1.1.0, (within.1.1.1.0, (within.1.1.1.1.0, (within.1.1.1.1.1.0, (within.1.1.1.1.1.1.0, (within.1.1.1.1.1.1.1.0, (within.1.1.1.1.1.1.1.1, c.requires.callable))))))))))

pub visit_inner-returns-in-String-clause-visited : goal.visit_inner-returns-in-String-clause-visited
visit_inner-returns-in-String-clause-visited g t c =
    let b = c.in-String.string in
    let read : c.deref_mut-in-String.result.now ≡ b.value = c.deref_mut-in-String.ensures.value ∙ ap (λ b. b.value) c.in-String.string-is in
    let v = c.visit_string.ensures.visited in
    (v.0, v.1, string_walked g.K.Seek.leaves c.args.inner.now _ b (record { ptr = b.ptr; alloc = b.alloc; value = c.visit_string.new.string }) c.deref_mut-in-String.result.now v.0 _ c.in-String.is read (search (rules)) v.2)

pub visit_inner-visit_strings-requires : goal.visit_inner-visit_strings-requires
visit_inner-visit_strings-requires g t c κs within =
    let b = c.in-Stream.stream in
    let read : c.deref_mut-in-Stream.result.now ≡ b.value = c.deref_mut-in-Stream.ensures.value ∙ ap (λ b. b.value) c.in-Stream.stream-is in
    (stream_less g.K.Seek.leaves t c.args.inner.now b c.deref_mut-in-Stream.result.now c.in-Stream.is read c.decreases, (within.0, (within.1.0, (within.1.1.0, (within.1.1.1.0, (within.1.1.1.1.0, (within.1.1.1.1.1.0, (within.1.1.1.1.1.1.0, (within.1.1.1.1.1.1.1.0, (within.1.1.1.1.1.1.1.1, c.requires.callable))))))))))

pub visit_inner-returns-in-Stream-clause-visited : goal.visit_inner-returns-in-Stream-clause-visited
visit_inner-returns-in-Stream-clause-visited g t c =
    let b = c.in-Stream.stream in
    let read : c.deref_mut-in-Stream.result.now ≡ b.value = c.deref_mut-in-Stream.ensures.value ∙ ap (λ b. b.value) c.in-Stream.stream-is in
    let v = c.visit_strings.ensures.visited in
    (v.0, v.1, stream_walked g.K.Seek.leaves c.args.inner.now _ b (record { ptr = b.ptr; alloc = b.alloc; value = roll-StreamOf g.row.O.Denot g.row.M.Denot g.row.C.Denot g.row.E.Denot g.row.N.Denot g.row.L.Denot g.row.D.Denot (record (out-StreamOf g.row.O.Denot g.row.M.Denot g.row.C.Denot g.row.E.Denot g.row.N.Denot g.row.L.Denot g.row.D.Denot c.deref_mut-in-Stream.result.now) { strings = c.visit_strings.new.strings }) }) c.deref_mut-in-Stream.result.now c.visit_strings.new.strings v.0 _ c.in-Stream.is read (search (rules)) refl v.2)

pub visit_inner-returns-in-Number-clause-visited : goal.visit_inner-returns-in-Number-clause-visited
visit_inner-returns-in-Number-clause-visited g t c =
    ([], no_calls, number_walked g.K.Seek.leaves c.args.inner.now _ _ c.in-Number.is)

pub visit_inner-returns-in-NonFinite-clause-visited : goal.visit_inner-returns-in-NonFinite-clause-visited
visit_inner-returns-in-NonFinite-clause-visited g t c =
    ([], no_calls, float_walked g.K.Seek.leaves c.args.inner.now _ _ c.in-NonFinite.is)

pub visit_inner-returns-in-Named-clause-visited : goal.visit_inner-returns-in-Named-clause-visited
visit_inner-returns-in-Named-clause-visited g t c =
    ([], no_calls, name_walked g.K.Seek.leaves c.args.inner.now _ c.in-Named.is)

pub visit_inner-returns-in-Literal-clause-visited : goal.visit_inner-returns-in-Literal-clause-visited
visit_inner-returns-in-Literal-clause-visited g t c =
    ([], no_calls, literal_alone_walked g.K.Seek.leaves c.args.inner.now _ _ c.in-Literal.is)

pub visit_standalone-visit_if-requires : goal.visit_standalone-visit_if-requires
visit_standalone-visit_if-requires g t c κs within =
    (standalone_less g.K.Seek.leaves t c.args.content.now c.in_ok-enters.enters _ c.decreases (measure_if-le c.in_ok-enters.enters c.in_ok-enters.ensures.reached.2), (within.0, (within.1.0, (within.1.1.0, (within.1.1.1.0, (within.1.1.1.1.0, (within.1.1.1.1.1.0, (within.1.1.1.1.1.1.0, (within.1.1.1.1.1.1.1.0, (within.1.1.1.1.1.1.1.1, c.call_at_spaced.ensures.callable_after))))))))))

pub visit_standalone-returns-in_err-enters-clause-visited : goal.visit_standalone-returns-in_err-enters-clause-visited
visit_standalone-returns-in_err-enters-clause-visited g t c =
    let v = c.in_err-enters.ensures.reached in
    (v.0, v.1, rw (cut_short c.from_residual.result c.from_residual.ensures.0) (of_standalone (failed v.2)))

pub visit_standalone-returns-clause-visited : goal.visit_standalone-returns-clause-visited
visit_standalone-returns-clause-visited g t c =
    let r = c.in_ok-enters.ensures.reached in
    let w = c.visit_if.ensures.visited in
    (r.0 ++ w.0, Chain-append r.1 w.1, of_standalone (then_if c.in_ok-enters.enters _ w.0 _ r.2 w.2))

pub visit_key-visit_if-requires : goal.visit_key-visit_if-requires
visit_key-visit_if-requires g t c κs within =
    (key_less g.K.Seek.leaves t c.args.pair.now c.in_ok-enters.enters _ c.decreases (measure_if-le c.in_ok-enters.enters c.in_ok-enters.ensures.reached.2), (within.0, (within.1.0, (within.1.1.0, (within.1.1.1.0, (within.1.1.1.1.0, (within.1.1.1.1.1.0, (within.1.1.1.1.1.1.0, (within.1.1.1.1.1.1.1.0, (within.1.1.1.1.1.1.1.1, c.call_at_spaced.ensures.callable_after))))))))))

pub visit_key-returns-in_err-enters-clause-visited : goal.visit_key-returns-in_err-enters-clause-visited
visit_key-returns-in_err-enters-clause-visited g t c =
    let v = c.in_err-enters.ensures.reached in
    (v.0, v.1, rw (cut_short c.from_residual.result c.from_residual.ensures.0) (of_key (failed v.2)))

pub visit_key-returns-clause-visited : goal.visit_key-returns-clause-visited
visit_key-returns-clause-visited g t c =
    let r = c.in_ok-enters.ensures.reached in
    let w = c.visit_if.ensures.visited in
    (r.0 ++ w.0, Chain-append r.1 w.1, of_key (then_if c.in_ok-enters.enters _ w.0 _ r.2 w.2))

pub visit_sequence-visit_items-requires : goal.visit_sequence-visit_items-requires
visit_sequence-visit_items-requires g t c κs within =
    (sequence_less g.K.Seek.leaves t c.args.sequence.now c.in-Some.items c.in-Some.is c.decreases, (within.0, (within.1.0, (within.1.1.0, (within.1.1.1.0, (within.1.1.1.1.0, (within.1.1.1.1.1.0, (within.1.1.1.1.1.1.0, (within.1.1.1.1.1.1.1.0, (within.1.1.1.1.1.1.1.1, c.requires.callable))))))))))

pub visit_sequence-returns-in-None-clause-visited : goal.visit_sequence-returns-in-None-clause-visited
visit_sequence-returns-in-None-clause-visited g t c =
    ([], no_calls, nothing_walked g.K.Seek.leaves c.args.sequence.now _ c.in-None.is refl)

pub visit_sequence-returns-in-Some-clause-visited : goal.visit_sequence-returns-in-Some-clause-visited
visit_sequence-returns-in-Some-clause-visited g t c =
    let v = c.visit_items.ensures.visited in
    (v.0, v.1, sequence_walked g.K.Seek.leaves c.args.sequence.now _ c.in-Some.items c.visit_items.new.items v.0 _ c.in-Some.is refl v.2)

pub visit_list-visit_items-requires : goal.visit_list-visit_items-requires
visit_list-visit_items-requires g t c κs within =
    (list_less g.K.Seek.leaves t c.args.list.now c.in-Present.head c.in-Present.space c.in-Present.items c.in-Present.is c.decreases, (within.0, (within.1.0, (within.1.1.0, (within.1.1.1.0, (within.1.1.1.1.0, (within.1.1.1.1.1.0, (within.1.1.1.1.1.1.0, (within.1.1.1.1.1.1.1.0, (within.1.1.1.1.1.1.1.1, c.requires.callable))))))))))

pub visit_list-returns-in-Present-clause-visited : goal.visit_list-returns-in-Present-clause-visited
visit_list-returns-in-Present-clause-visited g t c =
    let v = c.visit_items.ensures.visited in
    (v.0, v.1, list_walked g.K.Seek.leaves c.args.list.now c.in-Present.head c.in-Present.space c.in-Present.items _ v.0 _ c.in-Present.is v.2)

pub visit_list-returns-in-Absent-clause-visited : goal.visit_list-returns-in-Absent-clause-visited
visit_list-returns-in-Absent-clause-visited g t c =
    ([], no_calls, empty_list_walked g.K.Seek.leaves c.args.list.now c.in-Absent.indicator c.in-Absent.space c.in-Absent.is)

pub visit_pair_list-visit_pairs-requires : goal.visit_pair_list-visit_pairs-requires
visit_pair_list-visit_pairs-requires g t c κs within =
    (pair_list_less g.K.Seek.leaves t c.args.list.now c.in-Present.head c.in-Present.space c.in-Present.pairs c.in-Present.is c.decreases, (within.0, (within.1.0, (within.1.1.0, (within.1.1.1.0, (within.1.1.1.1.0, (within.1.1.1.1.1.0, (within.1.1.1.1.1.1.0, (within.1.1.1.1.1.1.1.0, (within.1.1.1.1.1.1.1.1, c.requires.callable))))))))))

pub visit_pair_list-returns-in-Present-clause-visited : goal.visit_pair_list-returns-in-Present-clause-visited
visit_pair_list-returns-in-Present-clause-visited g t c =
    let v = c.visit_pairs.ensures.visited in
    (v.0, v.1, pair_list_walked g.K.Seek.leaves c.args.list.now c.in-Present.head c.in-Present.space c.in-Present.pairs _ v.0 _ c.in-Present.is v.2)

pub visit_pair_list-returns-in-Absent-clause-visited : goal.visit_pair_list-returns-in-Absent-clause-visited
visit_pair_list-returns-in-Absent-clause-visited g t c =
    ([], no_calls, empty_pair_list_walked g.K.Seek.leaves c.args.list.now c.in-Absent.indicator c.in-Absent.space c.in-Absent.is)

pub visit_items-visit_row-requires : goal.visit_items-visit_row-requires
visit_items-visit_row-requires g t c κs within =
    (items_row_less g.K.Seek.leaves t c.args.items.now c.decreases, (within.0, (within.1.0, (within.1.1.0, (within.1.1.1.0, (within.1.1.1.1.0, (within.1.1.1.1.1.0, (within.1.1.1.1.1.1.0, (within.1.1.1.1.1.1.1.0, (within.1.1.1.1.1.1.1.1, c.requires.callable))))))))))

pub visit_items-returns-in_err-visit_row-clause-visited : goal.visit_items-returns-in_err-visit_row-clause-visited
visit_items-returns-in_err-visit_row-clause-visited g t c =
    let v = c.in_err-visit_row.ensures.visited in
    (v.0, v.1, items_row_cut g.K.Seek.leaves c.args.items.now c.visit_row.new.row v.0 _ (cut_short c.from_residual.result c.from_residual.ensures.0) v.2)

pub visit_items-returns-in_err-enters-clause-visited : goal.visit_items-returns-in_err-enters-clause-visited
visit_items-returns-in_err-enters-clause-visited g t c =
    let v = c.in_ok-visit_row.ensures.visited in
    let r = c.in_err-enters.ensures.reached in
    (v.0 ++ r.0, Chain-append v.1 r.1, rw (cut_short c.from_residual-in_err-enters.result c.from_residual-in_err-enters.ensures.0) (items_last_walked g.K.Seek.leaves c.args.items.now c.visit_row.new.row c.call_at_last.new.item c.call_at_last.new.end v.0 r.0 cut v.2 (failed r.2)))

pub visit_items-visit_if-requires : goal.visit_items-visit_if-requires
visit_items-visit_if-requires g t c κs within =
    (items_last_less g.K.Seek.leaves t c.args.items.now c.visit_row.new.row c.call_at_last.new.item c.call_at_last.new.end c.in_ok-enters.enters c.decreases (measure_if-le c.in_ok-enters.enters c.in_ok-enters.ensures.reached.2), (within.0, (within.1.0, (within.1.1.0, (within.1.1.1.0, (within.1.1.1.1.0, (within.1.1.1.1.1.0, (within.1.1.1.1.1.1.0, (within.1.1.1.1.1.1.1.0, (within.1.1.1.1.1.1.1.1, c.call_at_last.ensures.callable_after))))))))))

pub visit_items-returns-clause-visited : goal.visit_items-returns-clause-visited
visit_items-returns-clause-visited g t c =
    let v = c.in_ok-visit_row.ensures.visited in
    let r = c.in_ok-enters.ensures.reached in
    let w = c.visit_if.ensures.visited in
    (v.0 ++ (r.0 ++ w.0), Chain-append v.1 (Chain-append r.1 w.1), items_all_walked g.K.Seek.leaves c.args.items.now c.visit_row.new.row c.call_at_last.new.item c.visit_if.new.item c.call_at_last.new.end c.in_ok-enters.enters v.0 r.0 w.0 _ v.2 r.2 w.2)

pub visit_pairs-visit_pair_row-requires : goal.visit_pairs-visit_pair_row-requires
visit_pairs-visit_pair_row-requires g t c κs within =
    (pairs_row_less g.K.Seek.leaves t c.args.pairs.now c.decreases, (within.0, (within.1.0, (within.1.1.0, (within.1.1.1.0, (within.1.1.1.1.0, (within.1.1.1.1.1.0, (within.1.1.1.1.1.1.0, (within.1.1.1.1.1.1.1.0, (within.1.1.1.1.1.1.1.1, c.requires.callable))))))))))

pub visit_pairs-returns-in_err-visit_pair_row-clause-visited : goal.visit_pairs-returns-in_err-visit_pair_row-clause-visited
visit_pairs-returns-in_err-visit_pair_row-clause-visited g t c =
    let v = c.in_err-visit_pair_row.ensures.visited in
    (v.0, v.1, pairs_row_cut g.K.Seek.leaves c.args.pairs.now c.visit_pair_row.new.row v.0 _ (cut_short c.from_residual.result c.from_residual.ensures.0) v.2)

pub visit_pairs-visit_last_pair-requires : goal.visit_pairs-visit_last_pair-requires
visit_pairs-visit_last_pair-requires g t c κs within =
    (pairs_last_less g.K.Seek.leaves t c.args.pairs.now c.visit_pair_row.new.row c.decreases, (within.0, (within.1.0, (within.1.1.0, (within.1.1.1.0, (within.1.1.1.1.0, (within.1.1.1.1.1.0, (within.1.1.1.1.1.1.0, (within.1.1.1.1.1.1.1.0, (within.1.1.1.1.1.1.1.1, c.visit_pair_row.ensures.callable_after))))))))))

pub visit_pairs-returns-clause-visited : goal.visit_pairs-returns-clause-visited
visit_pairs-returns-clause-visited g t c =
    let v = c.in_ok-visit_pair_row.ensures.visited in
    let w = c.visit_last_pair.ensures.visited in
    (v.0 ++ w.0, Chain-append v.1 w.1, pairs_all_walked g.K.Seek.leaves c.args.pairs.now c.visit_pair_row.new.row c.visit_last_pair.new.pair c.visit_last_pair.new.end v.0 w.0 _ v.2 w.2)

pub visit_last_pair-visit_key-requires : goal.visit_last_pair-visit_key-requires
visit_last_pair-visit_key-requires g t c κs within =
    (last_key_less g.K.Seek.leaves t c.args.pair.now c.decreases, (within.0, (within.1.0, (within.1.1.0, (within.1.1.1.0, (within.1.1.1.1.0, (within.1.1.1.1.1.0, (within.1.1.1.1.1.1.0, (within.1.1.1.1.1.1.1.0, (within.1.1.1.1.1.1.1.1, c.requires.callable))))))))))

pub visit_last_pair-returns-in_err-visit_key-clause-visited : goal.visit_last_pair-returns-in_err-visit_key-clause-visited
visit_last_pair-returns-in_err-visit_key-clause-visited g t c =
    let v = c.in_err-visit_key.ensures.visited in
    (v.0, v.1, rw (cut_short c.from_residual.result c.from_residual.ensures.0) (key_cut refl v.2))

pub visit_last_pair-returns-in_err-enters-clause-visited : goal.visit_last_pair-returns-in_err-enters-clause-visited
visit_last_pair-returns-in_err-enters-clause-visited g t c =
    let v = c.in_ok-visit_key.ensures.visited in
    let r = c.in_err-enters.ensures.reached in
    (v.0 ++ r.0, Chain-append v.1 r.1, rw (cut_short c.from_residual-in_err-enters.result c.from_residual-in_err-enters.ensures.0) (key_then v.2 (failed r.2)))

pub visit_last_pair-visit_if-requires : goal.visit_last_pair-visit_if-requires
visit_last_pair-visit_if-requires g t c κs within =
    let b = c.in_ok-enters.enters in
    let v = c.in_ok-visit_key.ensures.visited in
    let le = subst (λ z. measure_if b (view_item g.K.Seek.leaves c.call_at_last.new.item) ≤ 16 * depth z + 6) (key_value v.2) (measure_if-le b c.in_ok-enters.ensures.reached.2) in
    (value_less g.K.Seek.leaves t c.args.pair.now c.in_ok-enters.enters _ c.decreases le, (within.0, (within.1.0, (within.1.1.0, (within.1.1.1.0, (within.1.1.1.1.0, (within.1.1.1.1.1.0, (within.1.1.1.1.1.1.0, (within.1.1.1.1.1.1.1.0, (within.1.1.1.1.1.1.1.1, c.call_at_last.ensures.callable_after))))))))))

pub visit_last_pair-returns-clause-visited : goal.visit_last_pair-returns-clause-visited
visit_last_pair-returns-clause-visited g t c =
    let v = c.in_ok-visit_key.ensures.visited in
    let r = c.in_ok-enters.ensures.reached in
    let w = c.visit_if.ensures.visited in
    (v.0 ++ (r.0 ++ w.0), Chain-append v.1 (Chain-append r.1 w.1), key_then v.2 (then_if c.in_ok-enters.enters _ w.0 _ r.2 w.2))

pub visit_string-visit_piece_row-requires : goal.visit_string-visit_piece_row-requires
visit_string-visit_piece_row-requires g t c κs within =
    (string_row_less g.K.Seek.leaves t c.args.string.now c.decreases, (within.0, (within.1.0, (within.1.1.0, (within.1.1.1.0, (within.1.1.1.1.0, (within.1.1.1.1.1.0, (within.1.1.1.1.1.1.0, (within.1.1.1.1.1.1.1.0, (within.1.1.1.1.1.1.1.1, c.requires.callable))))))))))

pub visit_string-visit_piece-requires : goal.visit_string-visit_piece-requires
visit_string-visit_piece-requires g t c κs within =
    (string_last_less g.K.Seek.leaves t c.args.string.now c.decreases, (within.0, (within.1.0, (within.1.1.0, (within.1.1.1.0, (within.1.1.1.1.0, (within.1.1.1.1.1.0, (within.1.1.1.1.1.1.0, (within.1.1.1.1.1.1.1.0, (within.1.1.1.1.1.1.1.1, c.visit_piece_row.ensures.callable_after))))))))))

pub visit_string-returns-clause-visited : goal.visit_string-returns-clause-visited
visit_string-returns-clause-visited g t c =
    let v = c.in_ok-visit_piece_row.ensures.visited in
    let w = c.visit_piece.ensures.visited in
    (v.0 ++ w.0, Chain-append v.1 w.1, v.2 _ _ w.0 _ (of_last_piece w.2))

pub visit_strings-visit_string_row-requires : goal.visit_strings-visit_string_row-requires
visit_strings-visit_string_row-requires g t c κs within =
    (strings_row_less g.K.Seek.leaves t c.args.strings.now c.decreases, (within.0, (within.1.0, (within.1.1.0, (within.1.1.1.0, (within.1.1.1.1.0, (within.1.1.1.1.1.0, (within.1.1.1.1.1.1.0, (within.1.1.1.1.1.1.1.0, (within.1.1.1.1.1.1.1.1, c.requires.callable))))))))))

pub visit_strings-returns-in_err-visit_string_row-clause-visited : goal.visit_strings-returns-in_err-visit_string_row-clause-visited
visit_strings-returns-in_err-visit_string_row-clause-visited g t c =
    let v = c.in_err-visit_string_row.ensures.visited in
    (v.0, v.1, strings_row_cut g.K.Seek.leaves c.args.strings.now c.visit_string_row.new.row v.0 _ (cut_short c.from_residual.result c.from_residual.ensures.0) v.2)

pub visit_strings-visit_string-requires : goal.visit_strings-visit_string-requires
visit_strings-visit_string-requires g t c κs within =
    (strings_last_less g.K.Seek.leaves t c.args.strings.now c.visit_string_row.new.row c.decreases, (within.0, (within.1.0, (within.1.1.0, (within.1.1.1.0, (within.1.1.1.1.0, (within.1.1.1.1.1.0, (within.1.1.1.1.1.1.0, (within.1.1.1.1.1.1.1.0, (within.1.1.1.1.1.1.1.1, c.visit_string_row.ensures.callable_after))))))))))

pub visit_strings-returns-clause-visited : goal.visit_strings-returns-clause-visited
visit_strings-returns-clause-visited g t c =
    let v = c.in_ok-visit_string_row.ensures.visited in
    let w = c.visit_string.ensures.visited in
    (v.0 ++ w.0, Chain-append v.1 w.1, strings_all_walked g.K.Seek.leaves c.args.strings.now c.visit_string_row.new.row c.visit_string.new.string v.0 w.0 _ v.2 w.2)

pub visit_piece-visit_sequence-requires : goal.visit_piece-visit_sequence-requires
visit_piece-visit_sequence-requires g t c κs within =
    let b = c.in-Embedded.sequence in
    let read : c.deref_mut.result.now ≡ b.value = c.deref_mut.ensures.value ∙ ap (λ b. b.value) c.in-Embedded.sequence-is in
    (embedded_less g.K.Seek.leaves t c.args.piece.now b c.in-Embedded.field-0 c.deref_mut.result.now c.in-Embedded.is read c.decreases, (within.0, (within.1.0, (within.1.1.0, (within.1.1.1.0, (within.1.1.1.1.0, (within.1.1.1.1.1.0, (within.1.1.1.1.1.1.0, (within.1.1.1.1.1.1.1.0, (within.1.1.1.1.1.1.1.1, c.requires.callable))))))))))

pub visit_piece-returns-in-Embedded-clause-visited : goal.visit_piece-returns-in-Embedded-clause-visited
visit_piece-returns-in-Embedded-clause-visited g t c =
    let b = c.in-Embedded.sequence in
    let read : c.deref_mut.result.now ≡ b.value = c.deref_mut.ensures.value ∙ ap (λ b. b.value) c.in-Embedded.sequence-is in
    let v = c.visit_sequence.ensures.visited in
    (v.0, v.1, embedded_walked g.K.Seek.leaves c.args.piece.now b c.in-Embedded.field-0 c.in-Embedded.field-0 c.deref_mut.result.now _ v.0 _ c.in-Embedded.is read refl v.2)

pub visit_piece-returns-in-Literal-clause-visited : goal.visit_piece-returns-in-Literal-clause-visited
visit_piece-returns-in-Literal-clause-visited g t c =
    ([], no_calls, literal_walked g.K.Seek.leaves c.args.piece.now _ _ c.in-Literal.is)

pub visit_piece-returns-in-Ellipsis-clause-visited : goal.visit_piece-returns-in-Ellipsis-clause-visited
visit_piece-returns-in-Ellipsis-clause-visited g t c =
    ([], no_calls, ellipsis_walked g.K.Seek.leaves c.args.piece.now _ c.in-Ellipsis.is)

pub visit_row-loop-item-init : goal.visit_row-loop-item-init
visit_row-loop-item-init g t c =
    record { callable = c.requires.callable; so_far = ([], no_calls, λ m n ds r v. v); same_length = ap length c.deref_mut-item-items.ensures.value; rest = c.deref_mut-item-items.ensures.value }

pub visit_row-visit_if-requires : goal.visit_row-visit_if-requires
visit_row-visit_if-requires g t c κs within =
    let xs = c.args.row.now.items in
    let ys = c.loop-item.item-items in
    let i = c.loop-item.item-index in
    let so_far = c.loop-item.invariant.so_far in
    let x = get_or ys i c.loop-item-item.result in
    let here : get_or xs i x ≡ x = sym (same_here ys xs i x c.loop-item.invariant.rest) ∙ sym (ap (λ a. get_or ys i a) c.loop-item-item.is) in
    let inside : i < length xs = omega (arith, c.loop-item.invariant.same_length) in
    let r = c.in_ok-enters.ensures.reached in
    (element_less g.K.Seek.leaves t xs i x c.in_ok-enters.enters _ inside here c.decreases (measure_if-le c.in_ok-enters.enters r.2), (within.0, (within.1.0, (within.1.1.0, (within.1.1.1.0, (within.1.1.1.1.0, (within.1.1.1.1.1.0, (within.1.1.1.1.1.1.0, (within.1.1.1.1.1.1.1.0, (within.1.1.1.1.1.1.1.1, c.call_at_separated.ensures.callable_after))))))))))

pub visit_row-returns-in_err-enters-clause-visited : goal.visit_row-returns-in_err-enters-clause-visited
visit_row-returns-in_err-enters-clause-visited g t c =
    let xs = c.args.row.now.items in
    let ys = c.loop-item.item-items in
    let i = c.loop-item.item-index in
    let so_far = c.loop-item.invariant.so_far in
    let x = get_or ys i c.loop-item-item.result in
    let here : get_or xs i x ≡ x = sym (same_here ys xs i x c.loop-item.invariant.rest) ∙ sym (ap (λ a. get_or ys i a) c.loop-item-item.is) in
    let inside : i < length xs = omega (arith, c.loop-item.invariant.same_length) in
    let r = c.in_err-enters.ensures.reached in
    (so_far.0 ++ r.0, Chain-append so_far.1 r.1, rw (cut_short c.from_residual.result c.from_residual.ensures.0) (subst (λ zs. SoughtFront g.K.Seek.sought (map (seen g.K.Seek.leaves) xs) (so_far.0 ++ r.0) (map (seen g.K.Seek.leaves) zs) cut) (sym (kept (set ys i (c.call_at_separated.new.item, c.call_at_separated.new.separator)) _ c.args.row.now.len (search (rules)))) (entry_cut (seen g.K.Seek.leaves) xs ys x (c.call_at_separated.new.item, c.call_at_separated.new.separator) i so_far.0 r.0 inside c.loop-item.invariant.same_length here c.loop-item.invariant.rest so_far.2 (of_element (failed r.2)))))

pub visit_row-returns-in_err-visit_if-clause-visited : goal.visit_row-returns-in_err-visit_if-clause-visited
visit_row-returns-in_err-visit_if-clause-visited g t c =
    let xs = c.args.row.now.items in
    let ys = c.loop-item.item-items in
    let i = c.loop-item.item-index in
    let so_far = c.loop-item.invariant.so_far in
    let x = get_or ys i c.loop-item-item.result in
    let here : get_or xs i x ≡ x = sym (same_here ys xs i x c.loop-item.invariant.rest) ∙ sym (ap (λ a. get_or ys i a) c.loop-item-item.is) in
    let inside : i < length xs = omega (arith, c.loop-item.invariant.same_length) in
    let r = c.in_ok-enters.ensures.reached in
    let w = c.in_err-visit_if.ensures.visited in
    (so_far.0 ++ (r.0 ++ w.0), Chain-append so_far.1 (Chain-append r.1 w.1), rw (cut_short c.from_residual-in_err-visit_if.result c.from_residual-in_err-visit_if.ensures.0) (subst (λ zs. SoughtFront g.K.Seek.sought (map (seen g.K.Seek.leaves) xs) (so_far.0 ++ (r.0 ++ w.0)) (map (seen g.K.Seek.leaves) zs) cut) (sym (kept (set ys i (c.visit_if.new.item, c.call_at_separated.new.separator)) _ c.args.row.now.len (search (rules)))) (entry_cut (seen g.K.Seek.leaves) xs ys x (c.visit_if.new.item, c.call_at_separated.new.separator) i so_far.0 (r.0 ++ w.0) inside c.loop-item.invariant.same_length here c.loop-item.invariant.rest so_far.2 (of_element (then_if c.in_ok-enters.enters _ w.0 _ r.2 w.2)))))

pub visit_row-returns-clause-visited : goal.visit_row-returns-clause-visited
visit_row-returns-clause-visited g t c =
    let xs = c.args.row.now.items in
    let ys = c.loop-item.item-items in
    let so_far = c.loop-item.invariant.so_far in
    (so_far.0, so_far.1, subst (λ zs. SoughtFront g.K.Seek.sought (map (seen g.K.Seek.leaves) xs) so_far.0 (map (seen g.K.Seek.leaves) zs) whole) (sym (kept ys _ c.args.row.now.len (search (rules)))) (entries_all (seen g.K.Seek.leaves) xs ys c.loop-item.item-index so_far.0 (omega (arith, c.loop-item.invariant.same_length)) c.loop-item.invariant.same_length so_far.2))

pub visit_row-loop-item-preserved : goal.visit_row-loop-item-preserved
visit_row-loop-item-preserved g t c =
    let xs = c.args.row.now.items in
    let ys = c.loop-item.item-items in
    let i = c.loop-item.item-index in
    let so_far = c.loop-item.invariant.so_far in
    let x = get_or ys i c.loop-item-item.result in
    let here : get_or xs i x ≡ x = sym (same_here ys xs i x c.loop-item.invariant.rest) ∙ sym (ap (λ a. get_or ys i a) c.loop-item-item.is) in
    let inside : i < length xs = omega (arith, c.loop-item.invariant.same_length) in
    let r = c.in_ok-enters.ensures.reached in
    let w = c.in_ok-visit_if.ensures.visited in
    record { callable = c.visit_if.ensures.callable_after; so_far = (so_far.0 ++ (r.0 ++ w.0), Chain-append so_far.1 (Chain-append r.1 w.1), entry_more (seen g.K.Seek.leaves) xs ys x (c.visit_if.new.item, c.call_at_separated.new.separator) i so_far.0 (r.0 ++ w.0) inside c.loop-item.invariant.same_length here so_far.2 (of_element (then_if c.in_ok-enters.enters _ w.0 _ r.2 w.2))); same_length = length-set _ i _ ∙ c.loop-item.invariant.same_length; rest = drop-set-lt (i + 1) ys i (c.visit_if.new.item, c.call_at_separated.new.separator) (omega arith) ∙ drop_more_same ys xs i c.loop-item.invariant.rest }

pub visit_pair_row-loop-pair-init : goal.visit_pair_row-loop-pair-init
visit_pair_row-loop-pair-init g t c =
    record { callable = c.requires.callable; so_far = ([], no_calls, λ m n ds r v. v); same_length = ap length c.deref_mut-pair-items.ensures.value; rest = c.deref_mut-pair-items.ensures.value }

pub visit_pair_row-visit_key-requires : goal.visit_pair_row-visit_key-requires
visit_pair_row-visit_key-requires g t c κs within =
    let xs = c.args.row.now.items in
    let ys = c.loop-pair.pair-items in
    let i = c.loop-pair.pair-index in
    let so_far = c.loop-pair.invariant.so_far in
    let x = get_or ys i c.separator-item.result in
    let here : get_or xs i x ≡ x = sym (same_here ys xs i x c.loop-pair.invariant.rest) ∙ sym (ap (λ a. get_or ys i a) c.separator-item.is) in
    let inside : i < length xs = omega (arith, c.loop-pair.invariant.same_length) in
    (row_key_less g.K.Seek.leaves t xs i x inside here c.decreases, (within.0, (within.1.0, (within.1.1.0, (within.1.1.1.0, (within.1.1.1.1.0, (within.1.1.1.1.1.0, (within.1.1.1.1.1.1.0, (within.1.1.1.1.1.1.1.0, (within.1.1.1.1.1.1.1.1, c.loop-pair.invariant.callable))))))))))

pub visit_pair_row-returns-in_err-visit_key-clause-visited : goal.visit_pair_row-returns-in_err-visit_key-clause-visited
visit_pair_row-returns-in_err-visit_key-clause-visited g t c =
    let xs = c.args.row.now.items in
    let ys = c.loop-pair.pair-items in
    let i = c.loop-pair.pair-index in
    let so_far = c.loop-pair.invariant.so_far in
    let x = get_or ys i c.separator-item.result in
    let here : get_or xs i x ≡ x = sym (same_here ys xs i x c.loop-pair.invariant.rest) ∙ sym (ap (λ a. get_or ys i a) c.separator-item.is) in
    let inside : i < length xs = omega (arith, c.loop-pair.invariant.same_length) in
    let k = c.in_err-visit_key.ensures.visited in
    (so_far.0 ++ k.0, Chain-append so_far.1 k.1, rw (cut_short c.from_residual.result c.from_residual.ensures.0) (subst (λ zs. SoughtFront g.K.Seek.sought (map (seen_pair g.K.Seek.leaves) xs) (so_far.0 ++ k.0) (map (seen_pair g.K.Seek.leaves) zs) cut) (sym (kept (set ys i (c.visit_key.new.pair, x.1)) _ c.args.row.now.len (search (rules)))) (entry_cut (seen_pair g.K.Seek.leaves) xs ys x (c.visit_key.new.pair, x.1) i so_far.0 k.0 inside c.loop-pair.invariant.same_length here c.loop-pair.invariant.rest so_far.2 (key_cut refl k.2))))

pub visit_pair_row-returns-in_err-enters-clause-visited : goal.visit_pair_row-returns-in_err-enters-clause-visited
visit_pair_row-returns-in_err-enters-clause-visited g t c =
    let xs = c.args.row.now.items in
    let ys = c.loop-pair.pair-items in
    let i = c.loop-pair.pair-index in
    let so_far = c.loop-pair.invariant.so_far in
    let x = get_or ys i c.separator-item.result in
    let here : get_or xs i x ≡ x = sym (same_here ys xs i x c.loop-pair.invariant.rest) ∙ sym (ap (λ a. get_or ys i a) c.separator-item.is) in
    let inside : i < length xs = omega (arith, c.loop-pair.invariant.same_length) in
    let k = c.in_ok-visit_key.ensures.visited in
    let r = c.in_err-enters.ensures.reached in
    (so_far.0 ++ (k.0 ++ r.0), Chain-append so_far.1 (Chain-append k.1 r.1), rw (cut_short c.from_residual-in_err-enters.result c.from_residual-in_err-enters.ensures.0) (subst (λ zs. SoughtFront g.K.Seek.sought (map (seen_pair g.K.Seek.leaves) xs) (so_far.0 ++ (k.0 ++ r.0)) (map (seen_pair g.K.Seek.leaves) zs) cut) (sym (kept (set ys i (record c.visit_key.new.pair { value = c.call_at_separated.new.item }, c.call_at_separated.new.separator)) _ c.args.row.now.len (search (rules)))) (entry_cut (seen_pair g.K.Seek.leaves) xs ys x (record c.visit_key.new.pair { value = c.call_at_separated.new.item }, c.call_at_separated.new.separator) i so_far.0 (k.0 ++ r.0) inside c.loop-pair.invariant.same_length here c.loop-pair.invariant.rest so_far.2 (key_then k.2 (failed r.2)))))

pub visit_pair_row-visit_if-requires : goal.visit_pair_row-visit_if-requires
visit_pair_row-visit_if-requires g t c κs within =
    let xs = c.args.row.now.items in
    let ys = c.loop-pair.pair-items in
    let i = c.loop-pair.pair-index in
    let so_far = c.loop-pair.invariant.so_far in
    let x = get_or ys i c.separator-item.result in
    let here : get_or xs i x ≡ x = sym (same_here ys xs i x c.loop-pair.invariant.rest) ∙ sym (ap (λ a. get_or ys i a) c.separator-item.is) in
    let inside : i < length xs = omega (arith, c.loop-pair.invariant.same_length) in
    let k = c.in_ok-visit_key.ensures.visited in
    let r = c.in_ok-enters.ensures.reached in
    let le = subst (λ z. measure_if c.in_ok-enters.enters (view_item g.K.Seek.leaves c.call_at_separated.new.item) ≤ 16 * depth z + 6) (key_value k.2) (measure_if-le c.in_ok-enters.enters r.2) in
    (row_value_less g.K.Seek.leaves t xs i x c.in_ok-enters.enters _ inside here c.decreases le, (within.0, (within.1.0, (within.1.1.0, (within.1.1.1.0, (within.1.1.1.1.0, (within.1.1.1.1.1.0, (within.1.1.1.1.1.1.0, (within.1.1.1.1.1.1.1.0, (within.1.1.1.1.1.1.1.1, c.call_at_separated.ensures.callable_after))))))))))

pub visit_pair_row-returns-in_err-visit_if-clause-visited : goal.visit_pair_row-returns-in_err-visit_if-clause-visited
visit_pair_row-returns-in_err-visit_if-clause-visited g t c =
    let xs = c.args.row.now.items in
    let ys = c.loop-pair.pair-items in
    let i = c.loop-pair.pair-index in
    let so_far = c.loop-pair.invariant.so_far in
    let x = get_or ys i c.separator-item.result in
    let here : get_or xs i x ≡ x = sym (same_here ys xs i x c.loop-pair.invariant.rest) ∙ sym (ap (λ a. get_or ys i a) c.separator-item.is) in
    let inside : i < length xs = omega (arith, c.loop-pair.invariant.same_length) in
    let k = c.in_ok-visit_key.ensures.visited in
    let r = c.in_ok-enters.ensures.reached in
    let w = c.in_err-visit_if.ensures.visited in
    (so_far.0 ++ (k.0 ++ (r.0 ++ w.0)), Chain-append so_far.1 (Chain-append k.1 (Chain-append r.1 w.1)), rw (cut_short c.from_residual-in_err-visit_if.result c.from_residual-in_err-visit_if.ensures.0) (subst (λ zs. SoughtFront g.K.Seek.sought (map (seen_pair g.K.Seek.leaves) xs) (so_far.0 ++ (k.0 ++ (r.0 ++ w.0))) (map (seen_pair g.K.Seek.leaves) zs) cut) (sym (kept (set ys i (record c.visit_key.new.pair { value = c.visit_if.new.item }, c.call_at_separated.new.separator)) _ c.args.row.now.len (search (rules)))) (entry_cut (seen_pair g.K.Seek.leaves) xs ys x (record c.visit_key.new.pair { value = c.visit_if.new.item }, c.call_at_separated.new.separator) i so_far.0 (k.0 ++ (r.0 ++ w.0)) inside c.loop-pair.invariant.same_length here c.loop-pair.invariant.rest so_far.2 (key_then k.2 (then_if c.in_ok-enters.enters _ w.0 _ r.2 w.2)))))

pub visit_pair_row-loop-pair-preserved : goal.visit_pair_row-loop-pair-preserved
visit_pair_row-loop-pair-preserved g t c =
    let xs = c.args.row.now.items in
    let ys = c.loop-pair.pair-items in
    let i = c.loop-pair.pair-index in
    let so_far = c.loop-pair.invariant.so_far in
    let x = get_or ys i c.separator-item.result in
    let here : get_or xs i x ≡ x = sym (same_here ys xs i x c.loop-pair.invariant.rest) ∙ sym (ap (λ a. get_or ys i a) c.separator-item.is) in
    let inside : i < length xs = omega (arith, c.loop-pair.invariant.same_length) in
    let k = c.in_ok-visit_key.ensures.visited in
    let r = c.in_ok-enters.ensures.reached in
    let w = c.in_ok-visit_if.ensures.visited in
    record { callable = c.visit_if.ensures.callable_after; so_far = (so_far.0 ++ (k.0 ++ (r.0 ++ w.0)), Chain-append so_far.1 (Chain-append k.1 (Chain-append r.1 w.1)), entry_more (seen_pair g.K.Seek.leaves) xs ys x (record c.visit_key.new.pair { value = c.visit_if.new.item }, c.call_at_separated.new.separator) i so_far.0 (k.0 ++ (r.0 ++ w.0)) inside c.loop-pair.invariant.same_length here so_far.2 (key_then k.2 (then_if c.in_ok-enters.enters _ w.0 _ r.2 w.2))); same_length = length-set _ i _ ∙ c.loop-pair.invariant.same_length; rest = drop-set-lt (i + 1) ys i (record c.visit_key.new.pair { value = c.visit_if.new.item }, c.call_at_separated.new.separator) (omega arith) ∙ drop_more_same ys xs i c.loop-pair.invariant.rest }

pub visit_pair_row-returns-clause-visited : goal.visit_pair_row-returns-clause-visited
visit_pair_row-returns-clause-visited g t c =
    let xs = c.args.row.now.items in
    let ys = c.loop-pair.pair-items in
    let so_far = c.loop-pair.invariant.so_far in
    (so_far.0, so_far.1, subst (λ zs. SoughtFront g.K.Seek.sought (map (seen_pair g.K.Seek.leaves) xs) so_far.0 (map (seen_pair g.K.Seek.leaves) zs) whole) (sym (kept ys _ c.args.row.now.len (search (rules)))) (entries_all (seen_pair g.K.Seek.leaves) xs ys c.loop-pair.pair-index so_far.0 (omega (arith, c.loop-pair.invariant.same_length)) c.loop-pair.invariant.same_length so_far.2))

pub visit_string_row-loop-string-init : goal.visit_string_row-loop-string-init
visit_string_row-loop-string-init g t c =
    record { callable = c.requires.callable; so_far = ([], no_calls, λ m n ds r v. v); same_length = ap length c.deref_mut-string-items.ensures.value; rest = c.deref_mut-string-items.ensures.value }

pub visit_string_row-visit_string-requires : goal.visit_string_row-visit_string-requires
visit_string_row-visit_string-requires g t c κs within =
    let xs = c.args.row.now.items in
    let ys = c.loop-string.string-items in
    let i = c.loop-string.string-index in
    let so_far = c.loop-string.invariant.so_far in
    let x = get_or ys i c.loop-string-item.result in
    let here : get_or xs i x ≡ x = sym (same_here ys xs i x c.loop-string.invariant.rest) ∙ sym (ap (λ a. get_or ys i a) c.loop-string-item.is) in
    let inside : i < length xs = omega (arith, c.loop-string.invariant.same_length) in
    (chunk_less g.K.Seek.leaves t xs i x inside here c.decreases, (within.0, (within.1.0, (within.1.1.0, (within.1.1.1.0, (within.1.1.1.1.0, (within.1.1.1.1.1.0, (within.1.1.1.1.1.1.0, (within.1.1.1.1.1.1.1.0, (within.1.1.1.1.1.1.1.1, c.loop-string.invariant.callable))))))))))

pub visit_string_row-returns-in_err-visit_string-clause-visited : goal.visit_string_row-returns-in_err-visit_string-clause-visited
visit_string_row-returns-in_err-visit_string-clause-visited g t c =
    let xs = c.args.row.now.items in
    let ys = c.loop-string.string-items in
    let i = c.loop-string.string-index in
    let so_far = c.loop-string.invariant.so_far in
    let x = get_or ys i c.loop-string-item.result in
    let here : get_or xs i x ≡ x = sym (same_here ys xs i x c.loop-string.invariant.rest) ∙ sym (ap (λ a. get_or ys i a) c.loop-string-item.is) in
    let inside : i < length xs = omega (arith, c.loop-string.invariant.same_length) in
    let v = c.in_err-visit_string.ensures.visited in
    (so_far.0 ++ v.0, Chain-append so_far.1 v.1, rw (cut_short c.from_residual.result c.from_residual.ensures.0) (subst (λ zs. SoughtFront g.K.Seek.sought (map (seen_string g.K.Seek.leaves) xs) (so_far.0 ++ v.0) (map (seen_string g.K.Seek.leaves) zs) cut) (sym (kept (set ys i (c.visit_string.new.string, x.1)) _ c.args.row.now.len (search (rules)))) (entry_cut (seen_string g.K.Seek.leaves) xs ys x (c.visit_string.new.string, x.1) i so_far.0 v.0 inside c.loop-string.invariant.same_length here c.loop-string.invariant.rest so_far.2 (of_chunk v.2))))

pub visit_string_row-loop-string-preserved : goal.visit_string_row-loop-string-preserved
visit_string_row-loop-string-preserved g t c =
    let xs = c.args.row.now.items in
    let ys = c.loop-string.string-items in
    let i = c.loop-string.string-index in
    let so_far = c.loop-string.invariant.so_far in
    let x = get_or ys i c.loop-string-item.result in
    let here : get_or xs i x ≡ x = sym (same_here ys xs i x c.loop-string.invariant.rest) ∙ sym (ap (λ a. get_or ys i a) c.loop-string-item.is) in
    let inside : i < length xs = omega (arith, c.loop-string.invariant.same_length) in
    let v = c.in_ok-visit_string.ensures.visited in
    record { callable = c.visit_string.ensures.callable_after; so_far = (so_far.0 ++ v.0, Chain-append so_far.1 v.1, entry_more (seen_string g.K.Seek.leaves) xs ys x (c.visit_string.new.string, x.1) i so_far.0 v.0 inside c.loop-string.invariant.same_length here so_far.2 (of_chunk v.2)); same_length = length-set _ i _ ∙ c.loop-string.invariant.same_length; rest = drop-set-lt (i + 1) ys i (c.visit_string.new.string, x.1) (omega arith) ∙ drop_more_same ys xs i c.loop-string.invariant.rest }

pub visit_string_row-returns-clause-visited : goal.visit_string_row-returns-clause-visited
visit_string_row-returns-clause-visited g t c =
    let xs = c.args.row.now.items in
    let ys = c.loop-string.string-items in
    let so_far = c.loop-string.invariant.so_far in
    (so_far.0, so_far.1, subst (λ zs. SoughtFront g.K.Seek.sought (map (seen_string g.K.Seek.leaves) xs) so_far.0 (map (seen_string g.K.Seek.leaves) zs) whole) (sym (kept ys _ c.args.row.now.len (search (rules)))) (entries_all (seen_string g.K.Seek.leaves) xs ys c.loop-string.string-index so_far.0 (omega (arith, c.loop-string.invariant.same_length)) c.loop-string.invariant.same_length so_far.2))

pub visit_piece_row-loop-piece-init : goal.visit_piece_row-loop-piece-init
visit_piece_row-loop-piece-init g t c =
    record { callable = c.requires.callable; so_far = ([], no_calls, λ m n ds r v. v); same_length = ap length c.deref_mut-piece-items.ensures.value; rest = c.deref_mut-piece-items.ensures.value }

pub visit_piece_row-visit_piece-requires : goal.visit_piece_row-visit_piece-requires
visit_piece_row-visit_piece-requires g t c κs within =
    let xs = c.args.row.now.items in
    let ys = c.loop-piece.piece-items in
    let i = c.loop-piece.piece-index in
    let so_far = c.loop-piece.invariant.so_far in
    let x = get_or ys i c.loop-piece-item.result in
    let here : get_or xs i x ≡ x = sym (same_here ys xs i x c.loop-piece.invariant.rest) ∙ sym (ap (λ a. get_or ys i a) c.loop-piece-item.is) in
    let inside : i < length xs = omega (arith, c.loop-piece.invariant.same_length) in
    (piece_less g.K.Seek.leaves t xs i x inside here c.decreases, (within.0, (within.1.0, (within.1.1.0, (within.1.1.1.0, (within.1.1.1.1.0, (within.1.1.1.1.1.0, (within.1.1.1.1.1.1.0, (within.1.1.1.1.1.1.1.0, (within.1.1.1.1.1.1.1.1, c.loop-piece.invariant.callable))))))))))

pub visit_piece_row-returns-in_err-visit_piece-clause-visited : goal.visit_piece_row-returns-in_err-visit_piece-clause-visited
visit_piece_row-returns-in_err-visit_piece-clause-visited g t c =
    let xs = c.args.row.now.items in
    let ys = c.loop-piece.piece-items in
    let i = c.loop-piece.piece-index in
    let so_far = c.loop-piece.invariant.so_far in
    let x = get_or ys i c.loop-piece-item.result in
    let here : get_or xs i x ≡ x = sym (same_here ys xs i x c.loop-piece.invariant.rest) ∙ sym (ap (λ a. get_or ys i a) c.loop-piece-item.is) in
    let inside : i < length xs = omega (arith, c.loop-piece.invariant.same_length) in
    let v = c.in_err-visit_piece.ensures.visited in
    (so_far.0 ++ v.0, Chain-append so_far.1 v.1, rw (cut_short c.from_residual.result c.from_residual.ensures.0) (subst (λ zs. SoughtPieces g.K.Seek.sought (map (seen_piece g.K.Seek.leaves) xs) (so_far.0 ++ v.0) (map (seen_piece g.K.Seek.leaves) zs) cut) (sym (kept (set ys i (c.visit_piece.new.piece, x.1, x.2)) _ c.args.row.now.len (search (rules)))) (piece_cut (seen_piece g.K.Seek.leaves) xs ys x (c.visit_piece.new.piece, x.1, x.2) i so_far.0 v.0 inside c.loop-piece.invariant.same_length here c.loop-piece.invariant.rest refl refl so_far.2 v.2)))

pub visit_piece_row-loop-piece-preserved : goal.visit_piece_row-loop-piece-preserved
visit_piece_row-loop-piece-preserved g t c =
    let xs = c.args.row.now.items in
    let ys = c.loop-piece.piece-items in
    let i = c.loop-piece.piece-index in
    let so_far = c.loop-piece.invariant.so_far in
    let x = get_or ys i c.loop-piece-item.result in
    let here : get_or xs i x ≡ x = sym (same_here ys xs i x c.loop-piece.invariant.rest) ∙ sym (ap (λ a. get_or ys i a) c.loop-piece-item.is) in
    let inside : i < length xs = omega (arith, c.loop-piece.invariant.same_length) in
    let v = c.in_ok-visit_piece.ensures.visited in
    record { callable = c.visit_piece.ensures.callable_after; so_far = (so_far.0 ++ v.0, Chain-append so_far.1 v.1, piece_more (seen_piece g.K.Seek.leaves) xs ys x (c.visit_piece.new.piece, x.1, x.2) i so_far.0 v.0 inside c.loop-piece.invariant.same_length here refl refl so_far.2 v.2); same_length = length-set _ i _ ∙ c.loop-piece.invariant.same_length; rest = drop-set-lt (i + 1) ys i (c.visit_piece.new.piece, x.1, x.2) (omega arith) ∙ drop_more_same ys xs i c.loop-piece.invariant.rest }
