use Rattle.std.proofs.Common.{◌≡◌, ◌+◌, ◌<◌, ℕ, List, length, arith, ap, subst, sym, ◌∙◌, refl}
use Rattle.std.proofs.lemmas.Bool.{false≢true}
use Rattle.std.proofs.lemmas.Result.{err_from_is_err_and}
use Rattle.cbor_edn_parts.specs.declared.base.error.Fault.TheVariants.{Told}
use Rattle.cbor_edn_parts.specs.internal.SpaceTokens.{space}
use Rattle.cbor_edn_parts.specs.internal.LiteralTokens.{literal, ellipsis}
use Rattle.cbor_edn_parts.specs.internal.NumberTokens.{number}
use Rattle.cbor_edn_parts.specs.Leaves.{list_end_bytes}
use Rattle.cbor_edn_parts.specs.internal.Input.{text_bytes}
use Rattle.cbor_edn_parts.proofs.lemmas.space.SeparatorTokens.{spaced_of}
use Rattle.cbor_edn_core.specs.tree.Borrowed.{BorrowsEach, BorrowsEachPair, BorrowsString}
use Rattle.cbor_edn_model.specs.tree.Items.{Elements, Pairs, Strings, Array, Map}
use Rattle.cbor_edn_core.specs.internal.ParserResults.{chunk_tree}
use Rattle.cbor_edn_core.specs.tree.View.{seen, seen_pair, seen_string, seen_piece}
use Rattle.cbor_edn_model.specs.tree.TreeLeaves.{texts}
use Rattle.cbor_edn_core.proofs.lemmas.text.Turns.{ends_same, fails_at, scan_fails, scan_read, number_at, number_fails, string_item_fails, string_item_read, stream_at, list_too_deep, list_fails, list_open, list_read, standalone_fails, standalone_fails_item, standalone_fails_after, standalone_read, inside_fails, inside_empty, inside_unparted, inside_rest_fails, inside_read, element_read, element_fails, with_separator_fails, with_separator_fails_behind, with_separator_read, with_separator_entry, pair_fails, pair_fails_before, pair_no_colon, pair_behind_colon, value_fails_before, value_fails, value_read, turn_fails, turn_stops, turn_last, turn_refused, turn_more, with_more, some_length, token_behind, sequence_fails, sequence_empty, sequence_rest_fails, sequence_full}
use Rattle.cbor_edn_core.proofs.lemmas.text.EnclosedTurns.{enclosed_shut, enclosed_too_deep, enclosed_fails, enclosed_open, enclosed_read, number_read, plain_read, no_tag, tag_at, keyword_here, named_read, float_read, simple_at}
use Rattle.cbor_edn_core.proofs.lemmas.text.Looks.{ahead_small, opened_costs, token_two, literal_open, ellipsis_open, spared_push, pushed_some, spared_first, costs_ahead}
use Rattle.cbor_edn_core.proofs.lemmas.text.StringTurns.{stream_no_underscore, stream_fails, stream_unspaced, stream_rest_fails, stream_open, stream_read, chunk_fails, chunk_read, ellipsis_fail, ellipsis_read, literal_fails, literal_read, embedded_single, embedded_too_deep, embedded_fails, embedded_unclosed, embedded_read, with_more_pieces, pieces_turn_fails, pieces_turn_fails_before, pieces_turn_last, pieces_turn_fails_after, pieces_turn_more}
use Rattle.cbor_edn_core.proofs.lemmas.tree.Views.{view_items_made, view_pairs_made, view_strings_made, view_stream_made, view_sequence_made}
use Rattle.cbor_edn_core.proofs.lemmas.text.Borrows.{borrows_made, borrows_pairs_made, borrows_strings_made, borrows_push, borrows_pair_push, borrows_string_push, borrows_piece_push}
use Rattle.cbor_edn_core.proofs.text.grammar.+item.Goals as goal

pub items::item-returns-in-Some-clause-value : goal.items::item-returns-in-Some-clause-value
items::item-returns-in-Some-clause-value t c =
    let opens = c.in-Number.ensures.opens in
    rw c.bare.ensures (number_at c.args.limit _ opens.0 opens.1 opens.2 opens.3 opens.4 ∙ plain_read c.args.limit _ _ _ (scan_read number _ _ _ c.in-Some.ensures.some) c.in-Some.ensures.follow)

pub items::item-returns-in-Some-clause-cost : goal.items::item-returns-in-Some-clause-cost
items::item-returns-in-Some-clause-cost t c =
    let text = text_bytes c.args.text.now in
    let start = c.number_start-start.ensures in
    let some = token_behind number text _ c.args.from c.number_start-start.result.at refl c.in-Some.ensures.some c.requires.0 start.start.read.place.0 in
    rw c.bare.ensures (omega (arith, some, ahead_small text c.args.from, c.in-Number.ensures.count.1, start.cost), omega (arith, c.in-Number.ensures.count.0, start.cost))

pub items::item-returns-in_default-clause-value : goal.items::item-returns-in_default-clause-value
items::item-returns-in_default-clause-value t c =
    let opens = c.in-Number.ensures.opens in
    ends_same _ _ _ _ _ (number_at c.args.limit _ opens.0 opens.1 opens.2 opens.3 opens.4) c.number_item.ensures.value

pub items::item-returns-in_default-clause-cost : goal.items::item-returns-in_default-clause-cost
items::item-returns-in_default-clause-cost t c = opened_costs _ _ _ _ _ _ c.in-Number.ensures.count.0 c.in-Number.ensures.count.1 (c.number_item.ensures.cost _ c.number_start-start.ensures.cost)

pub lists::array_item-returns-then-limit-eq0-clause-value : goal.lists::array_item-returns-then-limit-eq0-clause-value
lists::array_item-returns-then-limit-eq0-clause-value t c = rw c.too_deep.ensures (list_too_deep c.args.limit Array _ _ c.if-limit-eq0.true c.requires.opens.0)

pub lists::array_item-returns-in_err-list-clause-value : goal.lists::array_item-returns-in_err-list-clause-value
lists::array_item-returns-in_err-list-clause-value t c =
    let p = err_from_is_err_and c.from_residual.result c.from_residual.ensures.1 in
    rw (p.1, p.2) (list_fails c.in_err-list.field-0.0 c.args.limit Array _ _ (omega arith) c.requires.opens.0 c.in_err-list.ensures.value)

pub lists::array_item-returns-then-not-is_at-clause-value : goal.lists::array_item-returns-then-not-is_at-clause-value
lists::array_item-returns-then-not-is_at-clause-value t c = rw c.invalid.ensures (list_open c.args.limit Array _ _ _ _ (omega arith) c.requires.opens.0 c.in_ok-list.ensures.value (c.if-not-is_at.ensures.no refl))

pub lists::array_item-returns-clause-value : goal.lists::array_item-returns-clause-value
lists::array_item-returns-clause-value t c = rw (c.bare.ensures, c.in_ok-item.ensures.view) (list_read c.args.limit Array _ _ _ _ _ (omega arith) c.requires.opens.0 c.in_ok-list.ensures.value (c.if-not-is_at.ensures.yes refl).0)

pub maps::map_item-returns-then-limit-eq0-clause-value : goal.maps::map_item-returns-then-limit-eq0-clause-value
maps::map_item-returns-then-limit-eq0-clause-value t c = rw c.too_deep.ensures (list_too_deep c.args.limit Map _ _ c.if-limit-eq0.true c.requires.opens.0)

pub maps::map_item-returns-in_err-list-clause-value : goal.maps::map_item-returns-in_err-list-clause-value
maps::map_item-returns-in_err-list-clause-value t c =
    let p = err_from_is_err_and c.from_residual.result c.from_residual.ensures.1 in
    rw (p.1, p.2) (list_fails c.in_err-list.field-0.0 c.args.limit Map _ _ (omega arith) c.requires.opens.0 c.in_err-list.ensures.value)

pub maps::map_item-returns-then-not-is_at-clause-value : goal.maps::map_item-returns-then-not-is_at-clause-value
maps::map_item-returns-then-not-is_at-clause-value t c = rw c.invalid.ensures (list_open c.args.limit Map _ _ _ _ (omega arith) c.requires.opens.0 c.in_ok-list.ensures.value (c.if-not-is_at.ensures.no refl))

pub maps::map_item-returns-clause-value : goal.maps::map_item-returns-clause-value
maps::map_item-returns-clause-value t c = rw (c.bare.ensures, c.in_ok-item.ensures.view) (list_read c.args.limit Map _ _ _ _ _ (omega arith) c.requires.opens.0 c.in_ok-list.ensures.value (c.if-not-is_at.ensures.yes refl).0)

pub strings::stream_item-returns-in_err-stream-clause-value : goal.strings::stream_item-returns-in_err-stream-clause-value
strings::stream_item-returns-in_err-stream-clause-value t c =
    let p = err_from_is_err_and c.from_residual.result c.from_residual.ensures.1 in
    rw (p.1, p.2) (fails_at c.in_err-stream.field-0.0 _ _ (stream_at c.args.limit _ _ c.requires.opens.0) c.in_err-stream.ensures.value)

pub strings::stream_item-returns-clause-value : goal.strings::stream_item-returns-clause-value
strings::stream_item-returns-clause-value t c = rw (c.bare.ensures, c.in_ok-item.ensures.view) (stream_at c.args.limit _ _ c.requires.opens.0 ∙ c.in_ok-stream.ensures.value)

pub strings::string_item-returns-in_err-string-clause-value : goal.strings::string_item-returns-in_err-string-clause-value
strings::string_item-returns-in_err-string-clause-value t c =
    let p = err_from_is_err_and c.from_residual.result c.from_residual.ensures.1 in
    rw (p.1, p.2) (string_item_fails c.in_err-string.field-0.0 c.args.limit _ c.requires.opens c.in_err-string.ensures.value)

pub strings::string_item-returns-clause-value : goal.strings::string_item-returns-clause-value
strings::string_item-returns-clause-value t c = rw c.in_ok-item.ensures.view (string_item_read c.args.limit _ _ _ c.requires.opens c.in_ok-string.ensures.value)

pub strings::string_item-returns-clause-borrowed : goal.strings::string_item-returns-clause-borrowed
strings::string_item-returns-clause-borrowed t c = c.in_ok-item.ensures.borrowed c.in_ok-string.ensures.borrowed

pub lists::array-returns-in_err-space-clause-value : goal.lists::array-returns-in_err-space-clause-value
lists::array-returns-in_err-space-clause-value t c =
    let p = err_from_is_err_and c.from_residual.result c.from_residual.ensures.1 in
    rw (p.1, p.2) (inside_fails (Told c.in_err-space.field-0.0) c.args.limit Array _ _ _ c.indicator_at-indicator.ensures.value (scan_fails space _ c.in_err-space.field-0.0 c.in_err-space.ensures.value))

pub lists::array-returns-then-closes-clause-value : goal.lists::array-returns-then-closes-clause-value
lists::array-returns-then-closes-clause-value t c = inside_empty c.args.limit Array _ _ _ _ _ c.indicator_at-indicator.ensures.value (scan_read space _ _ _ c.in_ok-space.ensures.value) (sym c.if-closes.ensures.closed)

pub lists::array-returns-in_default-clause-value : goal.lists::array-returns-in_default-clause-value
lists::array-returns-in_default-clause-value t c = rw c.invalid.ensures (inside_unparted c.args.limit Array _ _ _ _ _ c.indicator_at-indicator.ensures.value (scan_read space _ _ _ c.in_ok-space.ensures.value) (sym c.if-closes.ensures.closed) c.in_default.ensures.none)

pub lists::array-returns-in_err-items-clause-value : goal.lists::array-returns-in_err-items-clause-value
lists::array-returns-in_err-items-clause-value t c =
    let p = err_from_is_err_and c.from_residual-in_err-items.result c.from_residual-in_err-items.ensures.1 in
    rw (p.1, p.2) (inside_rest_fails c.in_err-items.field-0.0 c.args.limit Array _ _ _ _ _ _ _ c.indicator_at-indicator.ensures.value (scan_read space _ _ _ c.in_ok-space.ensures.value) (sym c.if-closes.ensures.closed) c.in-Some.ensures.some c.in_err-items.ensures.value)

pub lists::array-returns-clause-value : goal.lists::array-returns-clause-value
lists::array-returns-clause-value t c = inside_read c.args.limit Array _ _ _ _ _ _ _ _ _ c.indicator_at-indicator.ensures.value (scan_read space _ _ _ c.in_ok-space.ensures.value) (sym c.if-closes.ensures.closed) c.in-Some.ensures.some c.in_ok-items.ensures.value

pub maps::map-returns-in_err-space-clause-value : goal.maps::map-returns-in_err-space-clause-value
maps::map-returns-in_err-space-clause-value t c =
    let p = err_from_is_err_and c.from_residual.result c.from_residual.ensures.1 in
    rw (p.1, p.2) (inside_fails (Told c.in_err-space.field-0.0) c.args.limit Map _ _ _ c.indicator_at-indicator.ensures.value (scan_fails space _ c.in_err-space.field-0.0 c.in_err-space.ensures.value))

pub maps::map-returns-then-closes-clause-value : goal.maps::map-returns-then-closes-clause-value
maps::map-returns-then-closes-clause-value t c = inside_empty c.args.limit Map _ _ _ _ _ c.indicator_at-indicator.ensures.value (scan_read space _ _ _ c.in_ok-space.ensures.value) (sym c.if-closes.ensures.closed)

pub maps::map-returns-in_default-clause-value : goal.maps::map-returns-in_default-clause-value
maps::map-returns-in_default-clause-value t c = rw c.invalid.ensures (inside_unparted c.args.limit Map _ _ _ _ _ c.indicator_at-indicator.ensures.value (scan_read space _ _ _ c.in_ok-space.ensures.value) (sym c.if-closes.ensures.closed) c.in_default.ensures.none)

pub maps::map-returns-in_err-pairs-clause-value : goal.maps::map-returns-in_err-pairs-clause-value
maps::map-returns-in_err-pairs-clause-value t c =
    let p = err_from_is_err_and c.from_residual-in_err-pairs.result c.from_residual-in_err-pairs.ensures.1 in
    rw (p.1, p.2) (inside_rest_fails c.in_err-pairs.field-0.0 c.args.limit Map _ _ _ _ _ _ _ c.indicator_at-indicator.ensures.value (scan_read space _ _ _ c.in_ok-space.ensures.value) (sym c.if-closes.ensures.closed) c.in-Some.ensures.some c.in_err-pairs.ensures.value)

pub maps::map-returns-clause-value : goal.maps::map-returns-clause-value
maps::map-returns-clause-value t c = inside_read c.args.limit Map _ _ _ _ _ _ _ _ _ c.indicator_at-indicator.ensures.value (scan_read space _ _ _ c.in_ok-space.ensures.value) (sym c.if-closes.ensures.closed) c.in-Some.ensures.some c.in_ok-pairs.ensures.value

pub lists::items-returns-in_err-item-clause-value : goal.lists::items-returns-in_err-item-clause-value
lists::items-returns-in_err-item-clause-value t c =
    let p = err_from_is_err_and c.from_residual.result c.from_residual.ensures.1 in
    rw (p.1, p.2) (turn_fails c.args.limit Elements _ _ _ c.items.invariant.reads c.in_err-item.field-0.0 (with_separator_fails c.in_err-item.field-0.0 c.args.limit Elements _ (element_fails c.in_err-item.field-0.0 c.args.limit _ c.in_err-item.ensures.value)))

pub lists::items-returns-in-Err-clause-value : goal.lists::items-returns-in-Err-clause-value
lists::items-returns-in-Err-clause-value t c = turn_stops c.args.limit Elements _ _ _ c.items.invariant.reads c.in-Err.fault _ _ (element_read c.args.limit _ _ _ c.in_ok-item.ensures.value) c.in-Err.ensures.value

pub lists::items-returns-in-Last-clause-value : goal.lists::items-returns-in-Last-clause-value
lists::items-returns-in-Last-clause-value t c =
    let behind = rw c.in-Last.is at c.in-Ok.ensures.value in
    rw (view_items_made texts, c.behind_entry.ensures.unchanged) (turn_last c.args.limit Elements _ _ _ c.items.invariant.reads _ _ _ (with_separator_read c.args.limit Elements _ _ _ _ _ (element_read c.args.limit _ _ _ c.in_ok-item.ensures.value) behind.0) behind.1)

pub lists::items-returns-in-Last-clause-borrowed : goal.lists::items-returns-in-Last-clause-borrowed
lists::items-returns-in-Last-clause-borrowed t c =
    let list_end = rw c.in-Last.is at c.in-Ok.ensures.borrowed in
    borrows_made _ _ refl (subst BorrowsEach (sym c.behind_entry.ensures.unchanged) c.items.invariant.borrowed) c.in_ok-item.ensures.borrowed list_end

pub lists::items-returns-in-Last-clause-place : goal.lists::items-returns-in-Last-clause-place
lists::items-returns-in-Last-clause-place t c =
    let place = rw c.in-Last.is at c.in-Ok.ensures.place in
    (omega (arith, c.in_ok-item.ensures.place.0, place.0), place.1)

pub lists::items-returns-in-Last-clause-cost : goal.lists::items-returns-in-Last-clause-cost
lists::items-returns-in-Last-clause-cost t c =
    let place = rw c.in-Last.is at c.in-Ok.ensures.place in
    let cost = rw c.in-Last.is at c.in-Ok.ensures.cost in
    (omega (arith, place.0, c.in_ok-item.ensures.cost, cost), omega (arith, c.in_ok-item.ensures.cost, cost))

pub lists::items-push_reserved-requires : goal.lists::items-push_reserved-requires
lists::items-push_reserved-requires t c = rw c.in-More.is at c.in-Ok.ensures.room

pub lists::items-items-smaller : goal.lists::items-items-smaller
lists::items-items-smaller t c =
    let place = rw c.in-More.is at c.in-Ok.ensures.place in
    omega (arith, c.in_ok-item.ensures.place.0, place.0, place.1.0)

pub lists::items-items-preserved : goal.lists::items-items-preserved
lists::items-items-preserved t c =
    let behind = rw c.in-More.is at c.in-Ok.ensures.value in
    let place = rw c.in-More.is at c.in-Ok.ensures.place in
    let cost = rw c.in-More.is at c.in-Ok.ensures.cost in
    let separator = rw c.in-More.is at c.in-Ok.ensures.borrowed in
    record {
      order = omega (arith, c.in_ok-item.ensures.place.0, place.0);
      place = place.1;
      cost = omega (arith, place.0, c.in_ok-item.ensures.cost, cost);
      least = omega (arith, place.0, c.in_ok-item.ensures.cost, cost);
      borrowed = rw (c.push_reserved.ensures.items, c.behind_entry.ensures.unchanged) (borrows_push c.items.row.items _ c.items.invariant.borrowed c.in_ok-item.ensures.borrowed separator);
      reads = rw (c.push_reserved.ensures.items, c.behind_entry.ensures.unchanged) (turn_more c.args.limit Elements _ _ _ c.items.invariant.reads _ _ _ (with_separator_read c.args.limit Elements _ _ _ _ _ (element_read c.args.limit _ _ _ c.in_ok-item.ensures.value) behind.0) behind.2 behind.1
          ∙ with_more (seen texts) _ (c.in_ok-item.item, c.in-More.separator) _ _ _ refl);
    }

pub maps::pairs-returns-in_err-pair-clause-value : goal.maps::pairs-returns-in_err-pair-clause-value
maps::pairs-returns-in_err-pair-clause-value t c =
    let p = err_from_is_err_and c.from_residual.result c.from_residual.ensures.1 in
    rw (p.1, p.2) (turn_fails c.args.limit Pairs _ _ _ c.pairs.invariant.reads c.in_err-pair.field-0.0 (with_separator_fails c.in_err-pair.field-0.0 c.args.limit Pairs _ c.in_err-pair.ensures.value))

pub maps::pairs-returns-in-Err-clause-value : goal.maps::pairs-returns-in-Err-clause-value
maps::pairs-returns-in-Err-clause-value t c = turn_stops c.args.limit Pairs _ _ _ c.pairs.invariant.reads c.in-Err.fault _ _ c.in_ok-pair.ensures.value c.in-Err.ensures.value

pub maps::pairs-returns-in-Last-clause-value : goal.maps::pairs-returns-in-Last-clause-value
maps::pairs-returns-in-Last-clause-value t c =
    let behind = rw c.in-Last.is at c.in-Ok.ensures.value in
    rw (view_pairs_made texts, c.behind_entry.ensures.unchanged) (turn_last c.args.limit Pairs _ _ _ c.pairs.invariant.reads _ _ _ (with_separator_read c.args.limit Pairs _ _ _ _ _ c.in_ok-pair.ensures.value behind.0) behind.1)

pub maps::pairs-returns-in-Last-clause-borrowed : goal.maps::pairs-returns-in-Last-clause-borrowed
maps::pairs-returns-in-Last-clause-borrowed t c =
    let list_end = rw c.in-Last.is at c.in-Ok.ensures.borrowed in
    borrows_pairs_made _ _ refl (subst BorrowsEachPair (sym c.behind_entry.ensures.unchanged) c.pairs.invariant.borrowed) c.in_ok-pair.ensures.borrowed list_end

pub maps::pairs-returns-in-Last-clause-place : goal.maps::pairs-returns-in-Last-clause-place
maps::pairs-returns-in-Last-clause-place t c =
    let place = rw c.in-Last.is at c.in-Ok.ensures.place in
    (omega (arith, c.in_ok-pair.ensures.place.0, place.0), place.1)

pub maps::pairs-returns-in-Last-clause-cost : goal.maps::pairs-returns-in-Last-clause-cost
maps::pairs-returns-in-Last-clause-cost t c =
    let place = rw c.in-Last.is at c.in-Ok.ensures.place in
    let cost = rw c.in-Last.is at c.in-Ok.ensures.cost in
    (omega (arith, place.0, c.in_ok-pair.ensures.cost, cost), omega (arith, c.in_ok-pair.ensures.cost, cost))

pub maps::pairs-push_reserved-requires : goal.maps::pairs-push_reserved-requires
maps::pairs-push_reserved-requires t c = rw c.in-More.is at c.in-Ok.ensures.room

pub maps::pairs-pairs-smaller : goal.maps::pairs-pairs-smaller
maps::pairs-pairs-smaller t c =
    let place = rw c.in-More.is at c.in-Ok.ensures.place in
    omega (arith, c.in_ok-pair.ensures.place.0, place.0, place.1.0)

pub maps::pairs-pairs-preserved : goal.maps::pairs-pairs-preserved
maps::pairs-pairs-preserved t c =
    let behind = rw c.in-More.is at c.in-Ok.ensures.value in
    let place = rw c.in-More.is at c.in-Ok.ensures.place in
    let cost = rw c.in-More.is at c.in-Ok.ensures.cost in
    let separator = rw c.in-More.is at c.in-Ok.ensures.borrowed in
    record {
      order = omega (arith, c.in_ok-pair.ensures.place.0, place.0);
      place = place.1;
      cost = omega (arith, place.0, c.in_ok-pair.ensures.cost, cost);
      least = omega (arith, place.0, c.in_ok-pair.ensures.cost, cost);
      borrowed = rw (c.push_reserved.ensures.items, c.behind_entry.ensures.unchanged) (borrows_pair_push c.pairs.row.items _ c.pairs.invariant.borrowed c.in_ok-pair.ensures.borrowed separator);
      reads = rw (c.push_reserved.ensures.items, c.behind_entry.ensures.unchanged) (turn_more c.args.limit Pairs _ _ _ c.pairs.invariant.reads _ _ _ (with_separator_read c.args.limit Pairs _ _ _ _ _ c.in_ok-pair.ensures.value behind.0) behind.2 behind.1
          ∙ with_more (seen_pair texts) _ (c.in_ok-pair.pair, c.in-More.separator) _ _ _ refl);
    }

pub strings::strings-returns-in_err-read-clause-value : goal.strings::strings-returns-in_err-read-clause-value
strings::strings-returns-in_err-read-clause-value t c =
    let p = err_from_is_err_and c.from_residual.result c.from_residual.ensures.1 in
    rw (p.1, p.2) (turn_fails c.args.limit Strings _ _ _ c.strings.invariant.reads c.in_err-read.field-0.0 (with_separator_fails c.in_err-read.field-0.0 c.args.limit Strings _ (chunk_fails c.in_err-read.field-0.0 c.args.limit _ c.in_err-read.ensures.value)))

pub strings::strings-returns-in_err-string-clause-value : goal.strings::strings-returns-in_err-string-clause-value
strings::strings-returns-in_err-string-clause-value t c =
    let p = err_from_is_err_and c.from_residual-in_err-string.result c.from_residual-in_err-string.ensures.1 in
    rw (p.1, p.2) (turn_fails c.args.limit Strings _ _ _ c.strings.invariant.reads c.in_err-string.field-0.0 (with_separator_fails_behind c.in_err-string.field-0.0 c.args.limit Strings _ _ _ (chunk_read c.args.limit _ _ _ c.in_ok-read.ensures.value) c.in_err-string.ensures.value))

pub strings::strings-returns-then-closes-clause-value : goal.strings::strings-returns-then-closes-clause-value
strings::strings-returns-then-closes-clause-value t c = rw (view_strings_made texts) (turn_last c.args.limit Strings _ _ _ c.strings.invariant.reads _ _ _ (with_separator_entry chunk_tree c.args.limit _ _ _ _ _ _ c.in_ok-string.ensures.entry (chunk_read c.args.limit _ _ _ c.in_ok-read.ensures.value) c.in_ok-string.ensures.value) (sym c.if-closes.ensures.closed))

pub strings::strings-returns-then-closes-clause-borrowed : goal.strings::strings-returns-then-closes-clause-borrowed
strings::strings-returns-then-closes-clause-borrowed t c = borrows_strings_made _ _ refl c.strings.invariant.borrowed (subst BorrowsString (sym c.in_ok-string.ensures.entry) c.in_ok-read.ensures.borrowed) c.in_ok-string.ensures.borrowed

pub strings::strings-returns-in_err-push_entry-clause-value : goal.strings::strings-returns-in_err-push_entry-clause-value
strings::strings-returns-in_err-push_entry-clause-value t c =
    let p = err_from_is_err_and c.from_residual-in_err-push_entry.result c.from_residual-in_err-push_entry.ensures.1 in
    rw (p.1, p.2) (turn_refused c.args.limit Strings _ _ _ c.strings.invariant.reads _ _ _ (with_separator_entry chunk_tree c.args.limit _ _ _ _ _ _ c.in_ok-string.ensures.entry (chunk_read c.args.limit _ _ _ c.in_ok-read.ensures.value) c.in_ok-string.ensures.value) c.in_err-push_entry.field-0.0 _ c.in_err-push_entry.ensures.unparted (sym c.if-closes.ensures.closed))

pub strings::strings-strings-smaller : goal.strings::strings-strings-smaller
strings::strings-strings-smaller t c =
    let some : 0 < length (list_end_bytes c.in_ok-string.list_end) = some_length _ c.in_ok-push_entry.ensures.pushed.not_empty in
    omega (arith, c.in_ok-read.ensures.place.0, c.in_ok-string.ensures.place.0, c.in_ok-string.ensures.place.1.0)

pub strings::strings-strings-preserved : goal.strings::strings-strings-preserved
strings::strings-strings-preserved t c =
    let pushed = c.in_ok-push_entry.ensures.pushed in
    let some : 0 < length (list_end_bytes c.in_ok-string.list_end) = some_length _ pushed.not_empty in
    record {
      order = omega (arith, c.in_ok-read.ensures.place.0, c.in_ok-string.ensures.place.0);
      place = c.in_ok-string.ensures.place.1;
      cost = omega (arith, some, c.in_ok-string.ensures.place.0, c.in_ok-read.ensures.cost, c.in_ok-string.ensures.cost);
      least = omega (arith, some, c.in_ok-string.ensures.place.0, c.in_ok-read.ensures.cost, c.in_ok-string.ensures.cost);
      borrowed = rw pushed.items (borrows_string_push c.strings.row.items _ c.strings.invariant.borrowed (subst BorrowsString (sym c.in_ok-string.ensures.entry) c.in_ok-read.ensures.borrowed) (pushed.borrowed c.in_ok-string.ensures.borrowed));
      reads = rw pushed.items (turn_more c.args.limit Strings _ _ _ c.strings.invariant.reads _ _ _ (with_separator_entry chunk_tree c.args.limit _ _ _ _ _ _ c.in_ok-string.ensures.entry (chunk_read c.args.limit _ _ _ c.in_ok-read.ensures.value) c.in_ok-string.ensures.value) pushed.not_empty (sym c.if-closes.ensures.closed)
          ∙ with_more (seen_string texts) _ (c.in_ok-string.string, pushed.separator) _ _ _ (ap (λ (s : List ℕ). (chunk_tree c.in_ok-string.string, s)) pushed.same));
    }

pub maps::pair-returns-in_err-key-clause-value : goal.maps::pair-returns-in_err-key-clause-value
maps::pair-returns-in_err-key-clause-value t c =
    let p = err_from_is_err_and c.from_residual.result c.from_residual.ensures.1 in
    rw (p.1, p.2) (pair_fails c.in_err-key.field-0.0 c.args.limit _ c.in_err-key.ensures.value)

pub maps::pair-returns-in_err-before_colon-clause-value : goal.maps::pair-returns-in_err-before_colon-clause-value
maps::pair-returns-in_err-before_colon-clause-value t c =
    let p = err_from_is_err_and c.from_residual-in_err-before_colon.result c.from_residual-in_err-before_colon.ensures.1 in
    rw (p.1, p.2) (pair_fails_before (Told c.in_err-before_colon.field-0.0) c.args.limit _ _ _ c.in_ok-key.ensures.value (scan_fails space _ c.in_err-before_colon.field-0.0 c.in_err-before_colon.ensures.value))

pub maps::pair-returns-then-not-is_at-clause-value : goal.maps::pair-returns-then-not-is_at-clause-value
maps::pair-returns-then-not-is_at-clause-value t c = rw c.invalid.ensures (pair_no_colon c.args.limit _ _ _ _ _ c.in_ok-key.ensures.value (scan_read space _ _ _ c.in_ok-before_colon.ensures.value) (c.if-not-is_at.ensures.no refl))

pub maps::pair-returns-clause-value : goal.maps::pair-returns-clause-value
maps::pair-returns-clause-value t c = ends_same _ _ _ _ _ (pair_behind_colon c.args.limit _ _ _ _ _ _ c.in_ok-key.ensures.value (scan_read space _ _ _ c.in_ok-before_colon.ensures.value) (c.if-not-is_at.ensures.yes refl).0) c.pair_of_key.ensures.value

pub maps::pair-returns-clause-borrowed : goal.maps::pair-returns-clause-borrowed
maps::pair-returns-clause-borrowed t c = c.pair_of_key.ensures.borrowed c.in_ok-key.ensures.borrowed c.in_ok-before_colon.ensures.borrowed

pub maps::pair_of_key-returns-in_err-after_colon-clause-value : goal.maps::pair_of_key-returns-in_err-after_colon-clause-value
maps::pair_of_key-returns-in_err-after_colon-clause-value t c =
    let p = err_from_is_err_and c.from_residual.result c.from_residual.ensures.1 in
    rw (p.1, p.2) (value_fails_before (Told c.in_err-after_colon.field-0.0) c.args.limit _ _ _ (scan_fails space _ c.in_err-after_colon.field-0.0 c.in_err-after_colon.ensures.value))

pub maps::pair_of_key-returns-in_err-value-clause-value : goal.maps::pair_of_key-returns-in_err-value-clause-value
maps::pair_of_key-returns-in_err-value-clause-value t c =
    let p = err_from_is_err_and c.from_residual-in_err-value.result c.from_residual-in_err-value.ensures.1 in
    rw (p.1, p.2) (value_fails c.in_err-value.field-0.0 c.args.limit _ _ _ _ _ (scan_read space _ _ _ c.in_ok-after_colon.ensures.value) c.in_err-value.ensures.value)

pub maps::pair_of_key-returns-clause-value : goal.maps::pair_of_key-returns-clause-value
maps::pair_of_key-returns-clause-value t c = value_read c.args.limit _ _ _ _ _ _ _ (scan_read space _ _ _ c.in_ok-after_colon.ensures.value) c.in_ok-value.ensures.value

pub strings::stream-returns-then-not-is_at-clause-value : goal.strings::stream-returns-then-not-is_at-clause-value
strings::stream-returns-then-not-is_at-clause-value t c = rw c.invalid.ensures (stream_no_underscore c.args.limit _ (c.if-not-is_at.ensures.no refl))

pub strings::stream-returns-in_err-space-clause-value : goal.strings::stream-returns-in_err-space-clause-value
strings::stream-returns-in_err-space-clause-value t c =
    let p = err_from_is_err_and c.from_residual.result c.from_residual.ensures.1 in
    rw (p.1, p.2) (stream_fails (Told c.in_err-space.field-0.0) c.args.limit _ _ (c.if-not-is_at.ensures.yes refl).0 (scan_fails space _ c.in_err-space.field-0.0 c.in_err-space.ensures.value))

pub strings::stream-returns-in_default-clause-value : goal.strings::stream-returns-in_default-clause-value
strings::stream-returns-in_default-clause-value t c = rw c.invalid-in_default.ensures (stream_unspaced c.args.limit _ _ _ _ (c.if-not-is_at.ensures.yes refl).0 (scan_read space _ _ _ c.in_ok-space.ensures.value) (c.in_default.ensures.none.0 refl))

pub strings::stream-returns-in_err-strings-clause-value : goal.strings::stream-returns-in_err-strings-clause-value
strings::stream-returns-in_err-strings-clause-value t c =
    let p = err_from_is_err_and c.from_residual-in_err-strings.result c.from_residual-in_err-strings.ensures.1 in
    rw (p.1, p.2) (stream_rest_fails c.in_err-strings.field-0.0 c.args.limit _ _ _ _ (c.if-not-is_at.ensures.yes refl).0 (scan_read space _ _ _ c.in_ok-space.ensures.value) (λ e. false≢true (sym (c.in-Some.ensures.none.1 e))) c.in_err-strings.ensures.value)

pub strings::stream-returns-then-not-is_at-2-clause-value : goal.strings::stream-returns-then-not-is_at-2-clause-value
strings::stream-returns-then-not-is_at-2-clause-value t c = rw c.invalid-then-not-is_at-2.ensures (stream_open c.args.limit _ _ _ _ _ _ (c.if-not-is_at.ensures.yes refl).0 (scan_read space _ _ _ c.in_ok-space.ensures.value) (λ e. false≢true (sym (c.in-Some.ensures.none.1 e))) c.in_ok-strings.ensures.value (c.if-not-is_at-2.ensures.no refl))

pub strings::stream-returns-clause-value : goal.strings::stream-returns-clause-value
strings::stream-returns-clause-value t c = rw (view_stream_made texts, c.in-Some.ensures.same) (stream_read c.args.limit _ _ _ _ _ _ _ (c.if-not-is_at.ensures.yes refl).0 (scan_read space _ _ _ c.in_ok-space.ensures.value) (λ e. false≢true (sym (c.in-Some.ensures.none.1 e))) c.in_ok-strings.ensures.value (c.if-not-is_at-2.ensures.yes refl).0)

pub strings::string-returns-in_err-piece-clause-value : goal.strings::string-returns-in_err-piece-clause-value
strings::string-returns-in_err-piece-clause-value t c =
    let p = err_from_is_err_and c.from_residual.result c.from_residual.ensures.1 in
    rw (p.1, p.2) (pieces_turn_fails c.args.limit _ _ _ c.pieces.invariant.reads c.in_err-piece.field-0.0 c.in_err-piece.ensures.value)

pub strings::string-returns-in_err-before-clause-value : goal.strings::string-returns-in_err-before-clause-value
strings::string-returns-in_err-before-clause-value t c =
    let p = err_from_is_err_and c.from_residual-in_err-before.result c.from_residual-in_err-before.ensures.1 in
    rw (p.1, p.2) (pieces_turn_fails_before c.args.limit _ _ _ c.pieces.invariant.reads _ _ c.in_ok-piece.ensures.value (Told c.in_err-before.field-0.0) (scan_fails space _ c.in_err-before.field-0.0 c.in_err-before.ensures.value))

pub strings::string-returns-then-not-joins-clause-value : goal.strings::string-returns-then-not-joins-clause-value
strings::string-returns-then-not-joins-clause-value t c = pieces_turn_last c.args.limit _ _ _ c.pieces.invariant.reads _ _ c.in_ok-piece.ensures.value _ _ (scan_read space _ _ _ c.in_ok-before.ensures.value) (sym c.if-not-joins.ensures.value)

pub strings::string-returns-in_err-after-clause-value : goal.strings::string-returns-in_err-after-clause-value
strings::string-returns-in_err-after-clause-value t c =
    let p = err_from_is_err_and c.from_residual-in_err-after.result c.from_residual-in_err-after.ensures.1 in
    rw (p.1, p.2) (pieces_turn_fails_after c.args.limit _ _ _ c.pieces.invariant.reads _ _ c.in_ok-piece.ensures.value _ _ (scan_read space _ _ _ c.in_ok-before.ensures.value) _ (sym c.if-not-joins.ensures.value) (c.if-not-joins.ensures.yes refl).0 (Told c.in_err-after.field-0.0) (scan_fails space _ c.in_err-after.field-0.0 c.in_err-after.ensures.value))

pub strings::string-pieces-preserved : goal.strings::string-pieces-preserved
strings::string-pieces-preserved t c = record {
  order = omega (arith, c.in_ok-piece.ensures.place.0, c.in_ok-before.ensures.place.0, c.in_ok-after.ensures.place.0);
  place = c.in_ok-after.ensures.place.1;
  first = λ e. absurd (pushed_some c.pieces.row.items _ (sym c.in_ok-append.ensures.appended ∙ e));
  cost = rw (c.in_ok-append.ensures.appended, spared_push c.pieces.row.items (c.in_ok-piece.piece, c.in_ok-before.before, c.in_ok-after.after) _) (omega (arith, spared_first c.pieces.row.items _ c.pieces.at c.args.from _ _ c.pieces.invariant.first c.pieces.invariant.cost, c.in_ok-piece.ensures.cost.0, c.in_ok-before.ensures.cost, c.in_ok-after.ensures.cost, c.joins.ensures.count, c.in_ok-before.ensures.place.0, c.in_ok-after.ensures.place.0));
  least = omega (arith, c.in_ok-piece.ensures.cost, c.in_ok-before.ensures.cost, c.in_ok-after.ensures.cost, c.joins.ensures.count);
  borrowed = rw (c.in_ok-append.ensures.appended) (borrows_piece_push c.pieces.row.items _ c.pieces.invariant.borrowed c.in_ok-piece.ensures.borrowed c.in_ok-before.ensures.borrowed c.in_ok-after.ensures.borrowed);
  reads = rw (c.in_ok-append.ensures.appended) (pieces_turn_more c.args.limit _ _ _ c.pieces.invariant.reads _ _ c.in_ok-piece.ensures.value _ _ (scan_read space _ _ _ c.in_ok-before.ensures.value) _ (sym c.if-not-joins.ensures.value) (c.if-not-joins.ensures.yes refl).0 _ _ (scan_read space _ _ _ c.in_ok-after.ensures.value)
      ∙ with_more_pieces (seen_piece texts) c.pieces.row.items (c.in_ok-piece.piece, c.in_ok-before.before, c.in_ok-after.after) _ _ refl);
}

pub strings::piece-returns-in_err-ellipsis-clause-value : goal.strings::piece-returns-in_err-ellipsis-clause-value
strings::piece-returns-in_err-ellipsis-clause-value t c =
    let p = err_from_is_err_and c.from_residual.result c.from_residual.ensures.1 in
    rw (p.1, p.2) (ellipsis_fail (Told c.in_err-ellipsis.field-0.0) c.args.limit _ _ (c.if-is_at-2.ensures.yes refl).0 (scan_fails ellipsis _ c.in_err-ellipsis.field-0.0 c.in_err-ellipsis.ensures.value))

pub strings::piece-returns-then-is_at-2-clause-value : goal.strings::piece-returns-then-is_at-2-clause-value
strings::piece-returns-then-is_at-2-clause-value t c = ellipsis_read c.args.limit _ _ _ _ (c.if-is_at-2.ensures.yes refl).0 (scan_read ellipsis _ _ _ c.in_ok-ellipsis.ensures.value)

pub strings::piece-returns-in_err-literal-clause-value : goal.strings::piece-returns-in_err-literal-clause-value
strings::piece-returns-in_err-literal-clause-value t c =
    let p = err_from_is_err_and c.from_residual-in_err-literal.result c.from_residual-in_err-literal.ensures.1 in
    rw (p.1, p.2) (literal_fails (Told c.in_err-literal.field-0.0) c.args.limit _ (c.if-is_at.ensures.no refl) (c.if-is_at-2.ensures.no refl) (scan_fails literal _ c.in_err-literal.field-0.0 c.in_err-literal.ensures.value))

pub strings::piece-returns-clause-value : goal.strings::piece-returns-clause-value
strings::piece-returns-clause-value t c = literal_read c.args.limit _ _ _ _ _ (c.if-is_at.ensures.no refl) (c.if-is_at-2.ensures.no refl) (scan_read literal _ _ _ c.in_ok-literal.ensures.value) c.indicator_at-indicator.ensures.value

pub strings::embedded_piece-returns-then-not-is_at-clause-value : goal.strings::embedded_piece-returns-then-not-is_at-clause-value
strings::embedded_piece-returns-then-not-is_at-clause-value t c = rw c.invalid.ensures (embedded_single c.args.limit _ _ c.requires.opens.0 (c.if-not-is_at.ensures.no refl))

pub strings::embedded_piece-returns-then-limit-eq0-clause-value : goal.strings::embedded_piece-returns-then-limit-eq0-clause-value
strings::embedded_piece-returns-then-limit-eq0-clause-value t c = rw c.too_deep.ensures (embedded_too_deep c.args.limit _ _ _ c.if-limit-eq0.true c.requires.opens.0 (c.if-not-is_at.ensures.yes refl).0)

pub strings::embedded_piece-returns-in_err-sequence-clause-value : goal.strings::embedded_piece-returns-in_err-sequence-clause-value
strings::embedded_piece-returns-in_err-sequence-clause-value t c =
    let p = err_from_is_err_and c.from_residual.result c.from_residual.ensures.1 in
    let same : c.args.from + 1 + 1 ≡ c.args.from + 2 = omega arith in
    rw (p.1, p.2) (embedded_fails c.in_err-sequence.field-0.0 c.args.limit _ _ _ (omega arith) c.requires.opens.0 (rw same at (c.if-not-is_at.ensures.yes refl).0) c.in_err-sequence.ensures.value)

pub strings::embedded_piece-returns-in_err-at-clause-value : goal.strings::embedded_piece-returns-in_err-at-clause-value
strings::embedded_piece-returns-in_err-at-clause-value t c =
    let p = err_from_is_err_and c.from_residual-in_err-at.result c.from_residual-in_err-at.ensures.1 in
    let same : c.args.from + 1 + 1 ≡ c.args.from + 2 = omega arith in
    rw (p.1, p.2, c.in_err-at.ensures.no.0) (embedded_unclosed c.args.limit _ _ _ _ _ (omega arith) c.requires.opens.0 (rw same at (c.if-not-is_at.ensures.yes refl).0) c.in_ok-sequence.ensures.value c.in_err-at.ensures.no.2)

pub strings::embedded_piece-returns-clause-value : goal.strings::embedded_piece-returns-clause-value
strings::embedded_piece-returns-clause-value t c =
    let same : c.args.from + 1 + 1 ≡ c.args.from + 2 = omega arith in
    rw c.in_ok-sequence-2.ensures.ok (embedded_read c.args.limit _ _ _ _ _ _ _ _ (omega arith) c.requires.opens.0 (rw same at (c.if-not-is_at.ensures.yes refl).0) c.in_ok-sequence.ensures.value (c.in_ok-at.ensures.yes).1 c.indicator_at-indicator.ensures.value)

pub sequences::sequence-returns-in_err-before-clause-value : goal.sequences::sequence-returns-in_err-before-clause-value
sequences::sequence-returns-in_err-before-clause-value t c =
    let p = err_from_is_err_and c.from_residual.result c.from_residual.ensures.1 in
    rw (p.1, p.2) (sequence_fails (Told c.in_err-before.field-0.0) c.args.limit _ (scan_fails space _ c.in_err-before.field-0.0 c.in_err-before.ensures.value))

pub sequences::sequence-returns-then-closes-clause-value : goal.sequences::sequence-returns-then-closes-clause-value
sequences::sequence-returns-then-closes-clause-value t c = rw (view_sequence_made texts) (sequence_empty c.args.limit _ _ _ (scan_read space _ _ _ c.in_ok-before.ensures.value) (sym c.if-closes.ensures.closed))

pub sequences::sequence-returns-in_err-items-clause-value : goal.sequences::sequence-returns-in_err-items-clause-value
sequences::sequence-returns-in_err-items-clause-value t c =
    let p = err_from_is_err_and c.from_residual-in_err-items.result c.from_residual-in_err-items.ensures.1 in
    rw (p.1, p.2) (sequence_rest_fails c.in_err-items.field-0.0 c.args.limit _ _ _ (scan_read space _ _ _ c.in_ok-before.ensures.value) (sym c.if-closes.ensures.closed) c.in_err-items.ensures.value)

pub sequences::sequence-returns-clause-value : goal.sequences::sequence-returns-clause-value
sequences::sequence-returns-clause-value t c = rw (view_sequence_made texts) (sequence_full c.args.limit _ _ _ _ _ (scan_read space _ _ _ c.in_ok-before.ensures.value) (sym c.if-closes.ensures.closed) c.in_ok-items.ensures.value)

pub strings::string-returns-then-not-joins-clause-place : goal.strings::string-returns-then-not-joins-clause-place
strings::string-returns-then-not-joins-clause-place t c = (omega (arith, c.in_ok-piece.ensures.place.0), c.in_ok-before.ensures.place.0, (c.in_ok-piece.ensures.place.1, spaced_of _ _ _ _ c.in_ok-before.ensures.value c.in_ok-before.ensures.place.0 c.in_ok-before.ensures.place.1))

pub strings::piece-returns-then-is_at-2-clause-cost : goal.strings::piece-returns-then-is_at-2-clause-cost
strings::piece-returns-then-is_at-2-clause-cost t c =
    let some = token_two ellipsis _ _ c.args.from c.in_ok-ellipsis.to refl ellipsis_open c.in_ok-ellipsis.ensures.value c.requires.0 c.in_ok-ellipsis.ensures.place.1.0 in
    (omega (arith, some, ahead_small (text_bytes c.args.text.now) c.args.from, c.in_ok-ellipsis.ensures.cost.0, c.is_at.ensures.count, c.is_at-2.ensures.count), omega (arith, c.in_ok-ellipsis.ensures.cost.1, c.is_at.ensures.count, c.is_at-2.ensures.count))

pub strings::piece-returns-clause-cost : goal.strings::piece-returns-clause-cost
strings::piece-returns-clause-cost t c =
    let some = token_two literal _ _ c.args.from c.in_ok-literal.at refl literal_open c.in_ok-literal.ensures.value c.requires.0 c.in_ok-literal.ensures.place.1.0 in
    (omega (arith, some, ahead_small (text_bytes c.args.text.now) c.args.from, c.in_ok-literal.ensures.cost.0, c.is_at.ensures.count, c.is_at-2.ensures.count, c.indicator_at-indicator.ensures.cost, c.indicator_at-indicator.ensures.place.0), omega (arith, c.in_ok-literal.ensures.cost.1, c.is_at.ensures.count, c.is_at-2.ensures.count, c.indicator_at-indicator.ensures.cost))

pub sequences::standalone-returns-in_err-before-clause-value : goal.sequences::standalone-returns-in_err-before-clause-value
sequences::standalone-returns-in_err-before-clause-value t c =
    let p = err_from_is_err_and c.from_residual.result c.from_residual.ensures.1 in
    rw (p.1, p.2) (standalone_fails (Told c.in_err-before.field-0.0) c.args.limit _ (scan_fails space _ c.in_err-before.field-0.0 c.in_err-before.ensures.value))

pub sequences::standalone-returns-in_err-item-clause-value : goal.sequences::standalone-returns-in_err-item-clause-value
sequences::standalone-returns-in_err-item-clause-value t c =
    let p = err_from_is_err_and c.from_residual-in_err-item.result c.from_residual-in_err-item.ensures.1 in
    rw (p.1, p.2) (standalone_fails_item c.in_err-item.field-0.0 c.args.limit _ _ _ (scan_read space _ _ _ c.in_ok-before.ensures.value) c.in_err-item.ensures.value)

pub sequences::standalone-returns-in_err-after-clause-value : goal.sequences::standalone-returns-in_err-after-clause-value
sequences::standalone-returns-in_err-after-clause-value t c =
    let p = err_from_is_err_and c.from_residual-in_err-after.result c.from_residual-in_err-after.ensures.1 in
    rw (p.1, p.2) (standalone_fails_after (Told c.in_err-after.field-0.0) c.args.limit _ _ _ _ _ (scan_read space _ _ _ c.in_ok-before.ensures.value) c.in_ok-item.ensures.value (scan_fails space _ c.in_err-after.field-0.0 c.in_err-after.ensures.value))

pub sequences::standalone-returns-clause-value : goal.sequences::standalone-returns-clause-value
sequences::standalone-returns-clause-value t c =
    standalone_read c.args.limit _ _ _ _ _ _ _ (scan_read space _ _ _ c.in_ok-before.ensures.value) c.in_ok-item.ensures.value (scan_read space _ _ _ c.in_ok-after.ensures.value)

pub items::enclosed_item-returns-then-not-is_at-clause-value : goal.items::enclosed_item-returns-then-not-is_at-clause-value
items::enclosed_item-returns-then-not-is_at-clause-value t c = rw c.invalid.ensures (enclosed_shut c.args.limit c.args.opener.kind _ (c.if-not-is_at.ensures.no refl))

pub items::enclosed_item-returns-then-limit-eq0-clause-value : goal.items::enclosed_item-returns-then-limit-eq0-clause-value
items::enclosed_item-returns-then-limit-eq0-clause-value t c = rw c.too_deep.ensures (enclosed_too_deep c.args.limit c.args.opener.kind _ _ c.if-limit-eq0.true (c.if-not-is_at.ensures.yes refl).0)

pub items::enclosed_item-returns-in_err-content-clause-value : goal.items::enclosed_item-returns-in_err-content-clause-value
items::enclosed_item-returns-in_err-content-clause-value t c =
    let p = err_from_is_err_and c.from_residual.result c.from_residual.ensures.1 in
    rw (p.1, p.2) (enclosed_fails c.in_err-content.field-0.0 c.args.limit c.args.opener.kind _ _ (omega arith) (c.if-not-is_at.ensures.yes refl).0 c.in_err-content.ensures.value)

pub items::enclosed_item-returns-then-not-is_at-2-clause-value : goal.items::enclosed_item-returns-then-not-is_at-2-clause-value
items::enclosed_item-returns-then-not-is_at-2-clause-value t c = rw c.invalid-then-not-is_at-2.ensures (enclosed_open c.args.limit c.args.opener.kind _ _ _ _ (omega arith) (c.if-not-is_at.ensures.yes refl).0 c.in_ok-content.ensures.value (c.if-not-is_at-2.ensures.no refl))

pub items::enclosed_item-returns-clause-value : goal.items::enclosed_item-returns-clause-value
items::enclosed_item-returns-clause-value t c = rw (c.bare.ensures, c.in_ok-item.ensures.view) (enclosed_read c.args.limit c.args.opener.kind _ _ _ _ _ (omega arith) (c.if-not-is_at.ensures.yes refl).0 c.in_ok-content.ensures.value (c.if-not-is_at-2.ensures.yes refl).0)

pub items::item-returns-in-Keyword-clause-value : goal.items::item-returns-in-Keyword-clause-value
items::item-returns-in-Keyword-clause-value t c = ends_same _ _ _ _ _ (keyword_here c.args.limit _ _ _ c.in-Keyword.ensures.opens.0) c.keyword_item.ensures.value

pub items::number_item-returns-in_err-number-clause-value : goal.items::number_item-returns-in_err-number-clause-value
items::number_item-returns-in_err-number-clause-value t c =
    let p = err_from_is_err_and c.from_residual.result c.from_residual.ensures.1 in
    rw (p.1, p.2) (number_fails (Told c.in_err-number.field-0.0) c.args.limit _ (scan_fails number _ c.in_err-number.field-0.0 c.in_err-number.ensures.value))

pub items::number_item-returns-in_err-number-clause-cost : goal.items::number_item-returns-in_err-number-clause-cost
items::number_item-returns-in_err-number-clause-cost t c = λ before looked.
    let p = err_from_is_err_and c.from_residual.result c.from_residual.ensures.1 in
    rw p.1 (omega (arith, looked, c.requires.begins.0, c.requires.start.comes.order, c.in_err-number.ensures.cost.0), omega (arith, looked, c.requires.start.comes.order, c.in_err-number.ensures.cost.1))

pub items::number_item-tag_number-requires : goal.items::number_item-tag_number-requires
items::number_item-tag_number-requires t c = (token_behind number _ _ c.args.from c.in_ok-number.at refl c.in_ok-number.ensures.value c.requires.begins.0 c.in_ok-number.ensures.place.1.0, c.in_ok-number.ensures.place.1.0)

pub items::number_item-returns-in_default-clause-value : goal.items::number_item-returns-in_default-clause-value
items::number_item-returns-in_default-clause-value t c = rw c.invalid.ensures (no_tag c.args.limit _ _ _ _ _ _ _ c.in_ok-number.ensures.value c.requires.begins.0 c.in_ok-number.ensures.place.1.0 c.indicator_at-indicator.ensures.value (c.if-is_at.ensures.yes refl).0 c.in_default.ensures.value)

pub items::number_item-returns-in_default-clause-cost : goal.items::number_item-returns-in_default-clause-cost
items::number_item-returns-in_default-clause-cost t c = λ before looked.
    (omega (arith, looked, c.requires.start.comes.order, c.in_ok-number.ensures.place.1.0, c.in_ok-number.ensures.cost.0, c.indicator_at-indicator.ensures.cost, c.is_at.ensures.count, c.in_default.ensures.count), omega (arith, looked, c.requires.start.comes.order, c.in_ok-number.ensures.cost.1, c.indicator_at-indicator.ensures.cost, c.is_at.ensures.count, c.in_default.ensures.count))

pub items::number_item-returns-then-is_at-clause-value : goal.items::number_item-returns-then-is_at-clause-value
items::number_item-returns-then-is_at-clause-value t c = ends_same _ _ _ _ _ (tag_at c.args.limit _ _ _ _ _ _ _ _ c.in_ok-number.ensures.value c.requires.begins.0 c.in_ok-number.ensures.place.1.0 c.indicator_at-indicator.ensures.value (c.if-is_at.ensures.yes refl).0 c.in-Some.ensures.value) (rw c.tag.ensures at c.enclosed_item.ensures.value)

pub items::number_item-returns-then-is_at-clause-cost : goal.items::number_item-returns-then-is_at-clause-cost
items::number_item-returns-then-is_at-clause-cost t c = λ before looked.
    let some = token_behind number _ _ c.args.from c.in_ok-number.at refl c.in_ok-number.ensures.value c.requires.begins.0 c.in_ok-number.ensures.place.1.0 in
    costs_ahead (text_bytes c.args.text.now) c.args.from _ before _ _ c.enclosed_item.result
    (omega (arith, looked, some, ahead_small (text_bytes c.args.text.now) c.args.from, c.requires.start.comes.order, c.in_ok-number.ensures.cost.0, c.indicator_at-indicator.ensures.cost, c.indicator_at-indicator.ensures.place.0, c.is_at.ensures.count, c.in-Some.ensures.count))
    (omega (arith, looked, c.requires.start.comes.order, c.in_ok-number.ensures.cost.1, c.indicator_at-indicator.ensures.cost, c.is_at.ensures.count, c.in-Some.ensures.count))
    c.enclosed_item.ensures.cost

pub items::number_item-returns-clause-value : goal.items::number_item-returns-clause-value
items::number_item-returns-clause-value t c = rw c.bare.ensures (number_read c.args.limit _ _ _ _ _ (scan_read number _ _ _ c.in_ok-number.ensures.value) c.indicator_at-indicator.ensures.value (c.if-is_at.ensures.no refl))

pub items::number_item-returns-clause-cost : goal.items::number_item-returns-clause-cost
items::number_item-returns-clause-cost t c = λ before looked.
    let some = token_behind number _ _ c.args.from c.in_ok-number.at refl c.in_ok-number.ensures.value c.requires.begins.0 c.in_ok-number.ensures.place.1.0 in
    rw c.bare.ensures (omega (arith, looked, some, ahead_small (text_bytes c.args.text.now) c.args.from, c.requires.start.comes.order, c.in_ok-number.ensures.cost.0, c.indicator_at-indicator.ensures.cost, c.indicator_at-indicator.ensures.place.0, c.is_at.ensures.count), omega (arith, looked, c.requires.start.comes.order, c.in_ok-number.ensures.cost.1, c.indicator_at-indicator.ensures.cost, c.is_at.ensures.count))

pub items::keyword_item-returns-in-Named-clause-value : goal.items::keyword_item-returns-in-Named-clause-value
items::keyword_item-returns-in-Named-clause-value t c = rw (c.bare.ensures, c.in-Named.is) (named_read c.args.limit _ _)

pub items::keyword_item-returns-in-NonFinite-clause-value : goal.items::keyword_item-returns-in-NonFinite-clause-value
items::keyword_item-returns-in-NonFinite-clause-value t c = rw (c.bare-in-NonFinite.ensures, c.in-NonFinite.is) (float_read c.args.limit _ _ _ _ c.indicator_at-indicator.ensures.value)

pub items::keyword_item-returns-in-Simple-clause-value : goal.items::keyword_item-returns-in-Simple-clause-value
items::keyword_item-returns-in-Simple-clause-value t c = rw c.in-Simple.is (ends_same _ _ _ _ _ (simple_at c.args.limit _) (rw c.simple.ensures at c.enclosed_item.ensures.value))
