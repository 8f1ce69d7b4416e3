use Rattle.std.proofs.Common.{rules, ◌≡◌, ◌<◌, length, map, set, get_or, ◌+◌, arith, refl, sym, ap, ◌∙◌, subst, inl}
use Rattle.std.proofs.lemmas.List.{drop-set-lt}
use Rattle.std.proofs.lemmas.Grind.{drop_more_same}
use denote.Param.Weighed.{at_most}
use Rattle.cbor_edn_parts.specs.declared.space.Space.{Space}
use Rattle.cbor_edn_parts.specs.declared.space.MandatorySpace.{MandatorySpace}
use Rattle.cbor_edn_parts.specs.declared.space.Separator.{Separator}
use Rattle.cbor_edn_parts.specs.declared.space.ListEnd.{ListEnd}
use Rattle.cbor_edn_parts.specs.declared.number.Number.{Number}
use Rattle.cbor_edn_parts.specs.declared.string.Literal.{Literal}
use Rattle.cbor_edn_parts.specs.declared.string.Ellipsis.{Ellipsis}
use Rattle.cbor_edn_core.specs.declared.tree.ItemOf.{ItemOf}
use Rattle.cbor_edn_core.specs.declared.tree.PairOf.{PairOf}
use Rattle.cbor_edn_core.specs.declared.tree.InnerItemOf.TheViews.{out-InnerItemOf}
use Rattle.cbor_edn_core.specs.declared.tree.ItemsOf.{out-ItemsOf, roll-ItemsOf, out-roll-ItemsOf}
use Rattle.cbor_edn_core.specs.declared.tree.PairsOf.{out-PairsOf, roll-PairsOf, out-roll-PairsOf}
use Rattle.cbor_edn_parts.specs.Leaves.{space_bytes}
use Rattle.cbor_edn_model.specs.tree.Items as kind
use Rattle.cbor_edn_model.specs.tree.Trees.{ElementTree, FullTree, items}
use Rattle.cbor_edn_core.specs.tree.View.{seen, seen_pair, view_item, view_inner, view_pair, view_items, view_pairs, view_list, view_pair_list, item_tree, standalone_tree}
use Rattle.cbor_edn_model.specs.text.ListHeads.{view_list_head}
use Rattle.cbor_edn_model.specs.tree.TreeLeaves.{texts}
use Rattle.cbor_edn_model.specs.layout.Bare.{without_indicators}
use Rattle.cbor_edn_model.specs.layout.Fewer.{Fewer, element}
use Rattle.cbor_edn_model.specs.internal.LayoutRows.{entry_without_indicators}
use Rattle.cbor_edn_model.specs.internal.IndicatorRemoval.{FewerInside, FewerEntries}
use Rattle.cbor_edn_model.proofs.lemmas.layout.FewestIndicators.{same_fewer}
use Rattle.cbor_edn_model.proofs.lemmas.layout.WrittenFields.{two_written}
use Rattle.cbor_edn_model.proofs.lemmas.layout.Begun.{on_ok, kept, same_here, one_more, all_done}
use Rattle.cbor_edn_model.proofs.lemmas.layout.RowsWithoutIndicators.{all_fewer, stopped}
use Rattle.cbor_edn_core.proofs.lemmas.layout.ViewsWithoutIndicators.{list_left, items_without_indicators, items_fewer, pairs_without_indicators, pairs_fewer, full_same, item_fewer, number_fewer, float_fewer, literal_fewer, reopened_fewer, string_item}
use Rattle.cbor_edn_core.proofs.layout.indicators.+remove_indicators.Goals as goal
use Rattle.cbor_edn_core.proofs.layout.indicators.+remove_indicators.Goals.{remove_list_indicators-in-Present+in_ok-remove_items_indicators-in-Present, remove_list_indicators-in-Absent, remove_pair_list_indicators-in-Present+in_ok-remove_pairs_indicators-in-Present, remove_pair_list_indicators-in-Absent}

pub remove_item_indicators-returns-in-Number-clause-fewer : goal.remove_item_indicators-returns-in-Number-clause-fewer
unfolding out-InnerItemOf denote.Hole.Carrier.out
remove_item_indicators-returns-in-Number-clause-fewer t c = rw c.in-Number.is (number_fewer _ _)

pub remove_item_indicators-returns-in-NonFinite-clause-fewer : goal.remove_item_indicators-returns-in-NonFinite-clause-fewer
unfolding out-InnerItemOf denote.Hole.Carrier.out
remove_item_indicators-returns-in-NonFinite-clause-fewer t c = rw c.in-NonFinite.is (float_fewer _ _)

pub remove_item_indicators-returns-in-Literal-clause-fewer : goal.remove_item_indicators-returns-in-Literal-clause-fewer
unfolding out-InnerItemOf denote.Hole.Carrier.out
remove_item_indicators-returns-in-Literal-clause-fewer t c = rw c.in-Literal.is (literal_fewer _ _)

pub remove_item_indicators-returns-in-Named-clause-fewer : goal.remove_item_indicators-returns-in-Named-clause-fewer
remove_item_indicators-returns-in-Named-clause-fewer t c = same_fewer (items (item_tree c.args.item.now))

pub remove_item_indicators-returns-in-Stream-clause-fewer : goal.remove_item_indicators-returns-in-Stream-clause-fewer
unfolding without_indicators
remove_item_indicators-returns-in-Stream-clause-fewer t c = item_fewer _ _ (search (rules))

pub remove_item_indicators-returns-in-Enclosed-clause-fewer : goal.remove_item_indicators-returns-in-Enclosed-clause-fewer
unfolding out-InnerItemOf denote.Hole.Carrier.out
remove_item_indicators-returns-in-Enclosed-clause-fewer t c =
    let p = c.in-Enclosed in
    let inside = subst (λ s. Fewer (items (standalone_tree s)) (items (standalone_tree c.remove_standalone_indicators-result.new.content))) (c.deref_mut.ensures.value ∙ ap (λ b. b.value) p.content-is) c.remove_standalone_indicators-result.ensures.fewer in
    reopened_fewer p.field-0.kind (standalone_tree p.content.value) (standalone_tree c.remove_standalone_indicators-result.new.content) _ _ (ap (view_inner texts) p.is) (rw p.is at c.remove_opener_indicators.ensures) inside

pub remove_item_indicators-returns-in-String-clause-without_indicators : goal.remove_item_indicators-returns-in-String-clause-without_indicators
remove_item_indicators-returns-in-String-clause-without_indicators t c =
    let b = c.in-String.string in
    string_item texts c.args.item.now.inner _ b (record { ptr = b.ptr; alloc = b.alloc; value = c.remove_string_indicators.new.string }) c.deref_mut-in-String.result.now c.in-String.is (c.deref_mut-in-String.ensures.value ∙ ap (λ b. b.value) c.in-String.string-is) (search (rules)) c.remove_string_indicators.ensures

pub remove_item_indicators-returns-in-String-clause-fewer : goal.remove_item_indicators-returns-in-String-clause-fewer
remove_item_indicators-returns-in-String-clause-fewer t c = item_fewer _ _ (remove_item_indicators-returns-in-String-clause-without_indicators t c)

pub remove_list_indicators-returns-in_err-remove_items_indicators-in-Present-clause-fewer : goal.remove_list_indicators-returns-in_err-remove_items_indicators-in-Present-clause-fewer
remove_list_indicators-returns-in_err-remove_items_indicators-in-Present-clause-fewer t c =
    let p = c.in-Present in
    subst (λ w. FewerInside {k = kind.Array} (view_list texts w) (FullTree {k = kind.Array} (view_list_head texts p.head) (space_bytes p.space) (view_items texts c.remove_items_indicators.new.items))) (sym p.is) (full_same kind.Array (view_list_head texts p.head) (space_bytes p.space) (space_bytes p.space) (view_items texts p.items) _ c.remove_items_indicators.ensures.fewer)

pub remove_list_indicators-returns-clause-fewer : goal.remove_list_indicators-returns-clause-fewer
remove_list_indicators-returns-clause-fewer t c =
    list_left (view_list texts c.args.list.now) (view_list texts c.match-list.list) _ c.remove_head_indicators.result
    (elim c.match-list.branch [
      | remove_list_indicators-in-Present+in_ok-remove_items_indicators-in-Present w ↦
          subst (λ v. FewerInside {k = kind.Array} (view_list texts c.args.list.now) (view_list texts v)) (sym w.list-is)
          (subst (λ v. FewerInside {k = kind.Array} (view_list texts v) (FullTree {k = kind.Array} (view_list_head texts w.in-Present.head) (space_bytes w.in-Present.space) (view_items texts w.remove_items_indicators.new.items))) (sym w.in-Present.is)
          (full_same kind.Array (view_list_head texts w.in-Present.head) (space_bytes w.in-Present.space) (space_bytes w.in-Present.space) (view_items texts w.in-Present.items) _ w.remove_items_indicators.ensures.fewer))
      | remove_list_indicators-in-Absent w ↦
          subst (λ v. FewerInside {k = kind.Array} (view_list texts c.args.list.now) (view_list texts v)) (sym w.list-is) (inl refl, same_fewer (items (view_list texts c.args.list.now)).1)
    ])
    c.remove_head_indicators.ensures.gone c.remove_head_indicators.ensures.out_of_memory

pub remove_pair_list_indicators-returns-in_err-remove_pairs_indicators-in-Present-clause-fewer : goal.remove_pair_list_indicators-returns-in_err-remove_pairs_indicators-in-Present-clause-fewer
remove_pair_list_indicators-returns-in_err-remove_pairs_indicators-in-Present-clause-fewer t c =
    let p = c.in-Present in
    subst (λ w. FewerInside {k = kind.Map} (view_pair_list texts w) (FullTree {k = kind.Map} (view_list_head texts p.head) (space_bytes p.space) (view_pairs texts c.remove_pairs_indicators.new.pairs))) (sym p.is) (full_same kind.Map (view_list_head texts p.head) (space_bytes p.space) (space_bytes p.space) (view_pairs texts p.pairs) _ c.remove_pairs_indicators.ensures.fewer)

pub remove_pair_list_indicators-returns-clause-fewer : goal.remove_pair_list_indicators-returns-clause-fewer
remove_pair_list_indicators-returns-clause-fewer t c =
    list_left (view_pair_list texts c.args.list.now) (view_pair_list texts c.match-list.list) _ c.remove_pair_head_indicators.result
    (elim c.match-list.branch [
      | remove_pair_list_indicators-in-Present+in_ok-remove_pairs_indicators-in-Present w ↦
          subst (λ v. FewerInside {k = kind.Map} (view_pair_list texts c.args.list.now) (view_pair_list texts v)) (sym w.list-is)
          (subst (λ v. FewerInside {k = kind.Map} (view_pair_list texts v) (FullTree {k = kind.Map} (view_list_head texts w.in-Present.head) (space_bytes w.in-Present.space) (view_pairs texts w.remove_pairs_indicators.new.pairs))) (sym w.in-Present.is)
          (full_same kind.Map (view_list_head texts w.in-Present.head) (space_bytes w.in-Present.space) (space_bytes w.in-Present.space) (view_pairs texts w.in-Present.pairs) _ w.remove_pairs_indicators.ensures.fewer))
      | remove_pair_list_indicators-in-Absent w ↦
          subst (λ v. FewerInside {k = kind.Map} (view_pair_list texts c.args.list.now) (view_pair_list texts v)) (sym w.list-is) (inl refl, same_fewer (items (view_pair_list texts c.args.list.now)).1)
    ])
    c.remove_pair_head_indicators.ensures.gone c.remove_pair_head_indicators.ensures.out_of_memory

pub remove_items_indicators-returns-in_err-remove_row_indicators-clause-fewer : goal.remove_items_indicators-returns-in_err-remove_row_indicators-clause-fewer
remove_items_indicators-returns-in_err-remove_row_indicators-clause-fewer t c =
    let o = out-ItemsOf Space MandatorySpace Separator ListEnd Number Literal Ellipsis c.args.items.now in
    items_fewer texts c.args.items.now _ (record { row = c.remove_row_indicators.new.row; last = o.last; end = o.end }) refl c.remove_row_indicators.ensures.fewer (same_fewer (items (view_item texts o.last)))

pub remove_items_indicators-returns-clause-without_indicators : goal.remove_items_indicators-returns-clause-without_indicators
remove_items_indicators-returns-clause-without_indicators t c =
    let roll = roll-ItemsOf Space MandatorySpace Separator ListEnd Number Literal Ellipsis in
    let out = out-ItemsOf Space MandatorySpace Separator ListEnd Number Literal Ellipsis in
    let back = out-roll-ItemsOf Space MandatorySpace Separator ListEnd Number Literal Ellipsis in
    let x = c.args.items.now in
    let row = c.remove_row_indicators.new.row in
    let last = c.remove_item_indicators.new.item in
    let written = two_written roll out back (λ f. record { row = row; last = f.last; end = f.end }) (λ f. record { row = f.row; last = last; end = f.end }) (out x) in
    on_ok c.remove_item_indicators.result (λ e. items_without_indicators texts x _ (record { row = row; last = last; end = (out x).end }) written c.in_ok-remove_row_indicators.ensures.without_indicators (e ∙ ap (λ f. without_indicators (view_item texts f.last)) (back (record { row = row; last = (out x).last; end = (out x).end }))) refl) c.remove_item_indicators.ensures.without_indicators

pub remove_items_indicators-returns-clause-fewer : goal.remove_items_indicators-returns-clause-fewer
remove_items_indicators-returns-clause-fewer t c =
    let roll = roll-ItemsOf Space MandatorySpace Separator ListEnd Number Literal Ellipsis in
    let out = out-ItemsOf Space MandatorySpace Separator ListEnd Number Literal Ellipsis in
    let back = out-roll-ItemsOf Space MandatorySpace Separator ListEnd Number Literal Ellipsis in
    let x = c.args.items.now in
    let row = c.remove_row_indicators.new.row in
    let last = c.remove_item_indicators.new.item in
    let written = two_written roll out back (λ f. record { row = row; last = f.last; end = f.end }) (λ f. record { row = f.row; last = last; end = f.end }) (out x) in
    items_fewer texts x _ (record { row = row; last = last; end = (out x).end }) written c.remove_row_indicators.ensures.fewer (subst (λ f. Fewer (items (view_item texts f.last)) (items (view_item texts last))) (back (record { row = row; last = (out x).last; end = (out x).end })) c.remove_item_indicators.ensures.fewer)

pub remove_pairs_indicators-returns-in_err-remove_pair_row_indicators-clause-fewer : goal.remove_pairs_indicators-returns-in_err-remove_pair_row_indicators-clause-fewer
remove_pairs_indicators-returns-in_err-remove_pair_row_indicators-clause-fewer t c =
    let o = out-PairsOf Space MandatorySpace Separator ListEnd Number Literal Ellipsis c.args.pairs.now in
    pairs_fewer texts c.args.pairs.now _ (record { row = c.remove_pair_row_indicators.new.row; last = o.last; end = o.end }) refl c.remove_pair_row_indicators.ensures.fewer (same_fewer (items (view_pair texts o.last)))

pub remove_pairs_indicators-returns-clause-without_indicators : goal.remove_pairs_indicators-returns-clause-without_indicators
remove_pairs_indicators-returns-clause-without_indicators t c =
    let roll = roll-PairsOf Space MandatorySpace Separator ListEnd Number Literal Ellipsis in
    let out = out-PairsOf Space MandatorySpace Separator ListEnd Number Literal Ellipsis in
    let back = out-roll-PairsOf Space MandatorySpace Separator ListEnd Number Literal Ellipsis in
    let x = c.args.pairs.now in
    let row = c.remove_pair_row_indicators.new.row in
    let last = c.remove_pair_indicators.new.pair in
    let written = two_written roll out back (λ f. record { row = row; last = f.last; end = f.end }) (λ f. record { row = f.row; last = last; end = f.end }) (out x) in
    on_ok c.remove_pair_indicators.result (λ e. pairs_without_indicators texts x _ (record { row = row; last = last; end = (out x).end }) written c.in_ok-remove_pair_row_indicators.ensures.without_indicators (e ∙ ap (λ f. without_indicators (view_pair texts f.last)) (back (record { row = row; last = (out x).last; end = (out x).end }))) refl) c.remove_pair_indicators.ensures.without_indicators

pub remove_pairs_indicators-returns-clause-fewer : goal.remove_pairs_indicators-returns-clause-fewer
remove_pairs_indicators-returns-clause-fewer t c =
    let roll = roll-PairsOf Space MandatorySpace Separator ListEnd Number Literal Ellipsis in
    let out = out-PairsOf Space MandatorySpace Separator ListEnd Number Literal Ellipsis in
    let back = out-roll-PairsOf Space MandatorySpace Separator ListEnd Number Literal Ellipsis in
    let x = c.args.pairs.now in
    let row = c.remove_pair_row_indicators.new.row in
    let last = c.remove_pair_indicators.new.pair in
    let written = two_written roll out back (λ f. record { row = row; last = f.last; end = f.end }) (λ f. record { row = f.row; last = last; end = f.end }) (out x) in
    pairs_fewer texts x _ (record { row = row; last = last; end = (out x).end }) written c.remove_pair_row_indicators.ensures.fewer (subst (λ f. Fewer (items (view_pair texts f.last)) (items (view_pair texts last))) (back (record { row = row; last = (out x).last; end = (out x).end })) c.remove_pair_indicators.ensures.fewer)

pub remove_row_indicators-remove_item_indicators-requires : goal.remove_row_indicators-remove_item_indicators-requires
remove_row_indicators-remove_item_indicators-requires t c =
    let l = c.loop-item in
    let same : get_or l.item-items l.item-index c.loop-item-item.result ≡ get_or c.args.row.now.items l.item-index c.loop-item-item.result = same_here l.item-items c.args.row.now.items l.item-index c.loop-item-item.result l.invariant.1 in
    let long : length c.deref_mut-item-items.result.now ≡ length c.args.row.now.items = ap length c.deref_mut-item-items.ensures.value in
    let inside : l.item-index < length c.args.row.now.items = omega arith in
    rw same (grind (arith, at_most))

pub remove_row_indicators-returns-in_err-remove_item_indicators-clause-fewer : goal.remove_row_indicators-returns-in_err-remove_item_indicators-clause-fewer
unfolding items
remove_row_indicators-returns-in_err-remove_item_indicators-clause-fewer t c =
    let l = c.loop-item in
    let xs = l.item-items in
    let i = l.item-index in
    let d = c.loop-item-item.result in
    let x = get_or xs i d in
    let y : ItemOf Space MandatorySpace Separator ListEnd Number Literal Ellipsis × Separator = (c.remove_item_indicators.new.item, x.1) in
    let here : x ≡ get_or xs i x = ap (λ a. get_or xs i a) c.loop-item-item.is in
    let inside : i < length xs = omega arith in
    subst (λ ys. FewerEntries (map (seen texts) c.args.row.now.items) (map (seen texts) ys)) (sym (kept (set xs i y) _ c.args.row.now.len (search (rules)))) (stopped (seen texts) xs i x y _ l.invariant.0 inside here (element c.remove_item_indicators.ensures.fewer))

pub remove_row_indicators-loop-item-preserved : goal.remove_row_indicators-loop-item-preserved
unfolding without_indicators
remove_row_indicators-loop-item-preserved t c =
    let l = c.loop-item in
    let xs = l.item-items in
    let i = l.item-index in
    let d = c.loop-item-item.result in
    let x = get_or xs i d in
    let y : ItemOf Space MandatorySpace Separator ListEnd Number Literal Ellipsis × Separator = (c.remove_item_indicators.new.item, x.1) in
    let here : x ≡ get_or xs i x = ap (λ a. get_or xs i a) c.loop-item-item.is in
    let inside : i < length xs = omega arith in
    (one_more (seen texts) entry_without_indicators xs i x y _ l.invariant.0 inside here (ap (λ w. (ElementTree w, (seen texts x).1)) c.in_ok-remove_item_indicators.ensures.without_indicators), drop-set-lt (i + 1) xs i y (omega arith) ∙ drop_more_same xs c.args.row.now.items i l.invariant.1)

pub remove_row_indicators-returns-clause-without_indicators : goal.remove_row_indicators-returns-clause-without_indicators
remove_row_indicators-returns-clause-without_indicators t c =
    let l = c.loop-item in
    let kept_items = kept l.item-items _ c.args.row.now.len (search (rules)) in
    ap (map (seen texts)) kept_items ∙ all_done (seen texts) entry_without_indicators l.item-items l.item-index _ l.invariant.0 (omega arith)

pub remove_row_indicators-returns-clause-fewer : goal.remove_row_indicators-returns-clause-fewer
remove_row_indicators-returns-clause-fewer t c =
    subst (λ ps. FewerEntries (map (seen texts) c.args.row.now.items) ps) (sym (remove_row_indicators-returns-clause-without_indicators t c)) (all_fewer (map (seen texts) c.args.row.now.items))

pub remove_pair_row_indicators-remove_pair_indicators-requires : goal.remove_pair_row_indicators-remove_pair_indicators-requires
remove_pair_row_indicators-remove_pair_indicators-requires t c =
    let l = c.loop-pair in
    let same : get_or l.pair-items l.pair-index c.loop-pair-item.result ≡ get_or c.args.row.now.items l.pair-index c.loop-pair-item.result = same_here l.pair-items c.args.row.now.items l.pair-index c.loop-pair-item.result l.invariant.1 in
    let long : length c.deref_mut-pair-items.result.now ≡ length c.args.row.now.items = ap length c.deref_mut-pair-items.ensures.value in
    let inside : l.pair-index < length c.args.row.now.items = omega arith in
    rw same (grind (arith, at_most))

pub remove_pair_row_indicators-returns-in_err-remove_pair_indicators-clause-fewer : goal.remove_pair_row_indicators-returns-in_err-remove_pair_indicators-clause-fewer
remove_pair_row_indicators-returns-in_err-remove_pair_indicators-clause-fewer t c =
    let l = c.loop-pair in
    let xs = l.pair-items in
    let i = l.pair-index in
    let d = c.loop-pair-item.result in
    let x = get_or xs i d in
    let y : PairOf Space MandatorySpace Separator ListEnd Number Literal Ellipsis × Separator = (c.remove_pair_indicators.new.pair, x.1) in
    let here : x ≡ get_or xs i x = ap (λ a. get_or xs i a) c.loop-pair-item.is in
    let inside : i < length xs = omega arith in
    subst (λ ys. FewerEntries (map (seen_pair texts) c.args.row.now.items) (map (seen_pair texts) ys)) (sym (kept (set xs i y) _ c.args.row.now.len (search (rules)))) (stopped (seen_pair texts) xs i x y _ l.invariant.0 inside here c.remove_pair_indicators.ensures.fewer)

pub remove_pair_row_indicators-loop-pair-preserved : goal.remove_pair_row_indicators-loop-pair-preserved
remove_pair_row_indicators-loop-pair-preserved t c =
    let l = c.loop-pair in
    let xs = l.pair-items in
    let i = l.pair-index in
    let d = c.loop-pair-item.result in
    let x = get_or xs i d in
    let y : PairOf Space MandatorySpace Separator ListEnd Number Literal Ellipsis × Separator = (c.remove_pair_indicators.new.pair, x.1) in
    let here : x ≡ get_or xs i x = ap (λ a. get_or xs i a) c.loop-pair-item.is in
    let inside : i < length xs = omega arith in
    (one_more (seen_pair texts) entry_without_indicators xs i x y _ l.invariant.0 inside here (ap (λ w. (w, (seen_pair texts x).1)) c.in_ok-remove_pair_indicators.ensures.without_indicators), drop-set-lt (i + 1) xs i y (omega arith) ∙ drop_more_same xs c.args.row.now.items i l.invariant.1)

pub remove_pair_row_indicators-returns-clause-without_indicators : goal.remove_pair_row_indicators-returns-clause-without_indicators
remove_pair_row_indicators-returns-clause-without_indicators t c =
    let l = c.loop-pair in
    let kept_items = kept l.pair-items _ c.args.row.now.len (search (rules)) in
    ap (map (seen_pair texts)) kept_items ∙ all_done (seen_pair texts) entry_without_indicators l.pair-items l.pair-index _ l.invariant.0 (omega arith)

pub remove_pair_row_indicators-returns-clause-fewer : goal.remove_pair_row_indicators-returns-clause-fewer
remove_pair_row_indicators-returns-clause-fewer t c =
    subst (λ ps. FewerEntries (map (seen_pair texts) c.args.row.now.items) ps) (sym (remove_pair_row_indicators-returns-clause-without_indicators t c)) (all_fewer (map (seen_pair texts) c.args.row.now.items))
