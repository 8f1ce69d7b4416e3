use Rattle.std.proofs.Common.{rules, ◌≡◌, ◌<◌, length, map, set, get_or, ◌+◌, arith, refl, sym, ap, ◌∙◌}
use Rattle.std.proofs.lemmas.List.{drop-set-lt}
use Rattle.std.proofs.lemmas.Grind.{drop_more_same}
use denote.Param.Weighed.{at_most}
use Rattle.cbor_edn_parts.specs.declared.space.Space.{Space}
use Rattle.cbor_edn_parts.specs.declared.space.MandatorySpace.{MandatorySpace}
use Rattle.cbor_edn_parts.specs.declared.space.Separator.{Separator}
use Rattle.cbor_edn_parts.specs.declared.space.ListEnd.{ListEnd}
use Rattle.cbor_edn_parts.specs.declared.number.Number.{Number}
use Rattle.cbor_edn_parts.specs.declared.string.Literal.{Literal}
use Rattle.cbor_edn_parts.specs.declared.string.Ellipsis.{Ellipsis}
use Rattle.cbor_edn_parts.specs.space.LayoutColumns.{of_parts}
use Rattle.cbor_edn_parts.specs.Leaves.{list_end_bytes}
use Rattle.cbor_edn_parts.specs.space.Spacing.{AtEnd}
use Rattle.cbor_edn_core.specs.declared.tree.ItemOf.{ItemOf}
use Rattle.cbor_edn_core.specs.declared.tree.PairOf.{PairOf}
use Rattle.cbor_edn_core.specs.declared.tree.InnerItemOf.TheViews.{out-InnerItemOf}
use Rattle.cbor_edn_core.specs.declared.tree.ItemsOf.{out-ItemsOf, roll-ItemsOf, out-roll-ItemsOf}
use Rattle.cbor_edn_core.specs.declared.tree.PairsOf.{out-PairsOf, roll-PairsOf, out-roll-PairsOf}
use Rattle.cbor_edn_model.specs.tree.Items.{Element}
use Rattle.cbor_edn_model.specs.layout.Layout.{Last, laid, respaced}
use Rattle.cbor_edn_model.specs.tree.Trees.{ElementTree, EnclosedTree, items}
use Rattle.cbor_edn_core.specs.tree.View.{seen, seen_pair, view_inner, view_pair, item_tree, standalone_tree}
use Rattle.cbor_edn_model.specs.tree.TreeLeaves.{texts}
use Rattle.cbor_edn_model.specs.internal.LayoutRows.{laid_entry, entry_items}
use Rattle.cbor_edn_model.specs.internal.Widths.{measured}
use Rattle.cbor_edn_core.proofs.lemmas.tree.Views.{view_stream_is}
use Rattle.cbor_edn_model.proofs.lemmas.layout.WrittenFields.{two_written, after_two, three_written}
use Rattle.cbor_edn_model.proofs.lemmas.layout.Begun.{on_ok, kept, same_here, one_more, all_done, one_same}
use Rattle.cbor_edn_model.proofs.lemmas.layout.LaidTrees.{laid_enclosed, stream_laid}
use Rattle.cbor_edn_core.proofs.lemmas.layout.LaidViews.{items_laid, items_same, pairs_laid, pairs_same}
use Rattle.cbor_edn_core.proofs.layout.lay.+lay.Goals as goal

pub lay_item-returns-in-Enclosed-clause-laid : goal.lay_item-returns-in-Enclosed-clause-laid
unfolding out-InnerItemOf denote.Hole.Carrier.out
lay_item-returns-in-Enclosed-clause-laid t c =
    let p = c.in-Enclosed in
    let is = ap (view_inner texts) p.is in
    let parts = c.layout_of_parts-parts.ensures ∙ ap (λ w. of_parts c.args.layout (measured w)) is in
    let inside = c.deref_mut.ensures.value ∙ ap (λ b. b.value) p.content-is in
    rw p.is (on_ok c.lay_standalone.result (λ e. ap (EnclosedTree p.field-0.kind) (e ∙ (λ i. laid (parts i) (standalone_tree (inside i)))) ∙ sym (laid_enclosed c.args.layout p.field-0.kind (standalone_tree p.content.value))) c.lay_standalone.ensures.laid)

pub lay_item-returns-in-Stream-clause-laid : goal.lay_item-returns-in-Stream-clause-laid
lay_item-returns-in-Stream-clause-laid t c = search (rules, view_stream_is texts, stream_laid)

pub lay_items-returns-in_err-lay_row-clause-items : goal.lay_items-returns-in_err-lay_row-clause-items
lay_items-returns-in_err-lay_row-clause-items t c =
    let o = out-ItemsOf Space MandatorySpace Separator ListEnd Number Literal Ellipsis c.args.items.now in
    items_same texts c.args.items.now _ (record { row = c.lay_row.new.row; last = o.last; end = o.end }) refl c.lay_row.ensures.items refl

pub lay_items-returns-in_err-lay_item-clause-items : goal.lay_items-returns-in_err-lay_item-clause-items
lay_items-returns-in_err-lay_item-clause-items t c =
    let o = out-ItemsOf Space MandatorySpace Separator ListEnd Number Literal Ellipsis c.args.items.now in
    let written = two_written (roll-ItemsOf Space MandatorySpace Separator ListEnd Number Literal Ellipsis) (out-ItemsOf Space MandatorySpace Separator ListEnd Number Literal Ellipsis) (out-roll-ItemsOf Space MandatorySpace Separator ListEnd Number Literal Ellipsis) (λ f. record { row = c.lay_row.new.row; last = f.last; end = f.end }) (λ f. record { row = f.row; last = c.lay_item.new.item; end = f.end }) o in
    let last = ap (λ f. items (item_tree f.last)) (out-roll-ItemsOf Space MandatorySpace Separator ListEnd Number Literal Ellipsis (record { row = c.lay_row.new.row; last = o.last; end = o.end })) in
    items_same texts c.args.items.now _ (record { row = c.lay_row.new.row; last = c.lay_item.new.item; end = o.end }) written c.lay_row.ensures.items (c.lay_item.ensures.items ∙ last)

pub lay_items-returns-clause-laid : goal.lay_items-returns-clause-laid
lay_items-returns-clause-laid t c =
    let o = out-ItemsOf Space MandatorySpace Separator ListEnd Number Literal Ellipsis c.args.items.now in
    let roll = roll-ItemsOf Space MandatorySpace Separator ListEnd Number Literal Ellipsis in
    let out = out-ItemsOf Space MandatorySpace Separator ListEnd Number Literal Ellipsis in
    let back = out-roll-ItemsOf Space MandatorySpace Separator ListEnd Number Literal Ellipsis in
    let written = three_written roll out back (λ f. record { row = c.lay_row.new.row; last = f.last; end = f.end }) (λ f. record { row = f.row; last = c.lay_item.new.item; end = f.end }) (λ f. record { row = f.row; last = f.last; end = c.lay_end.new.end }) o in
    let two = after_two roll out back (λ f. record { row = c.lay_row.new.row; last = f.last; end = f.end }) (λ f. record { row = f.row; last = c.lay_item.new.item; end = f.end }) o in
    let last = ap (λ f. laid c.args.layout (item_tree f.last)) (back (record { row = c.lay_row.new.row; last = o.last; end = o.end })) in
    on_ok c.lay_end.result (λ e. items_laid texts c.args.layout c.args.items.now _ (record { row = c.lay_row.new.row; last = c.lay_item.new.item; end = c.lay_end.new.end }) written c.in_ok-lay_row.ensures.laid (c.in_ok-lay_item.ensures.laid ∙ last) (e ∙ ap (λ f. respaced AtEnd Last c.args.layout (list_end_bytes f.end)) two)) c.lay_end.ensures.laid

pub lay_items-returns-clause-items : goal.lay_items-returns-clause-items
lay_items-returns-clause-items t c =
    let o = out-ItemsOf Space MandatorySpace Separator ListEnd Number Literal Ellipsis c.args.items.now in
    let roll = roll-ItemsOf Space MandatorySpace Separator ListEnd Number Literal Ellipsis in
    let out = out-ItemsOf Space MandatorySpace Separator ListEnd Number Literal Ellipsis in
    let back = out-roll-ItemsOf Space MandatorySpace Separator ListEnd Number Literal Ellipsis in
    let written = three_written roll out back (λ f. record { row = c.lay_row.new.row; last = f.last; end = f.end }) (λ f. record { row = f.row; last = c.lay_item.new.item; end = f.end }) (λ f. record { row = f.row; last = f.last; end = c.lay_end.new.end }) o in
    let last = ap (λ f. items (item_tree f.last)) (back (record { row = c.lay_row.new.row; last = o.last; end = o.end })) in
    items_same texts c.args.items.now _ (record { row = c.lay_row.new.row; last = c.lay_item.new.item; end = c.lay_end.new.end }) written c.lay_row.ensures.items (c.lay_item.ensures.items ∙ last)

pub lay_row-lay_item-requires : goal.lay_row-lay_item-requires
lay_row-lay_item-requires t c =
    let l = c.loop-entry in
    let same : get_or l.entry-items l.entry-index c.entry-item.result ≡ get_or c.args.row.now.items l.entry-index c.entry-item.result = same_here l.entry-items c.args.row.now.items l.entry-index c.entry-item.result l.invariant.2 in
    let long : length c.deref_mut-entry-items.result.now ≡ length c.args.row.now.items = ap length c.deref_mut-entry-items.ensures.value in
    let inside : l.entry-index < length c.args.row.now.items = omega arith in
    rw same (grind (arith, at_most))

pub lay_row-returns-in_err-lay_item-clause-items : goal.lay_row-returns-in_err-lay_item-clause-items
unfolding items
lay_row-returns-in_err-lay_item-clause-items t c =
    let l = c.loop-entry in
    let x = get_or l.entry-items l.entry-index c.entry-item.result in
    let here : x ≡ get_or l.entry-items l.entry-index x = ap (λ a. get_or l.entry-items l.entry-index a) c.entry-item.is in
    let inside : l.entry-index < length l.entry-items = omega arith in
    let y : ItemOf Space MandatorySpace Separator ListEnd Number Literal Ellipsis × Separator = (c.lay_item.new.item, x.1) in
    ap (λ ys. map entry_items (map (seen texts) ys)) (kept (set l.entry-items l.entry-index y) _ c.args.row.now.len (search (rules)))
    ∙ one_same (seen texts) entry_items l.entry-items l.entry-index x y _ l.invariant.1 inside here (ap Element c.lay_item.ensures.items)

pub lay_row-returns-in_err-lay_separator-clause-items : goal.lay_row-returns-in_err-lay_separator-clause-items
unfolding items
lay_row-returns-in_err-lay_separator-clause-items t c =
    let l = c.loop-entry in
    let x = get_or l.entry-items l.entry-index c.entry-item.result in
    let here : x ≡ get_or l.entry-items l.entry-index x = ap (λ a. get_or l.entry-items l.entry-index a) c.entry-item.is in
    let inside : l.entry-index < length l.entry-items = omega arith in
    let y : ItemOf Space MandatorySpace Separator ListEnd Number Literal Ellipsis × Separator = (c.lay_item.new.item, c.lay_separator.new.separator) in
    ap (λ ys. map entry_items (map (seen texts) ys)) (kept (set l.entry-items l.entry-index y) _ c.args.row.now.len (search (rules)))
    ∙ one_same (seen texts) entry_items l.entry-items l.entry-index x y _ l.invariant.1 inside here (ap Element c.lay_item.ensures.items)

pub lay_row-loop-entry-preserved : goal.lay_row-loop-entry-preserved
unfolding items laid
lay_row-loop-entry-preserved t c =
    let l = c.loop-entry in
    let x = get_or l.entry-items l.entry-index c.entry-item.result in
    let here : x ≡ get_or l.entry-items l.entry-index x = ap (λ a. get_or l.entry-items l.entry-index a) c.entry-item.is in
    let inside : l.entry-index < length l.entry-items = omega arith in
    let y : ItemOf Space MandatorySpace Separator ListEnd Number Literal Ellipsis × Separator = (c.lay_item.new.item, c.lay_separator.new.separator) in
    let os = c.args.row.now.items in (
      one_more (seen texts) (laid_entry c.args.layout) l.entry-items l.entry-index x y _ l.invariant.0 inside here (λ i. (ElementTree (c.in_ok-lay_item.ensures.laid i), c.in_ok-lay_separator.ensures.laid i)),
      one_same (seen texts) entry_items l.entry-items l.entry-index x y _ l.invariant.1 inside here (ap Element c.lay_item.ensures.items),
      drop-set-lt (l.entry-index + 1) l.entry-items l.entry-index y (omega arith) ∙ drop_more_same l.entry-items os l.entry-index l.invariant.2,
    )

pub lay_row-returns-clause-laid : goal.lay_row-returns-clause-laid
lay_row-returns-clause-laid t c =
    let l = c.loop-entry in
    ap (map (seen texts)) (kept l.entry-items _ c.args.row.now.len (search (rules)))
    ∙ all_done (seen texts) (laid_entry c.args.layout) l.entry-items l.entry-index _ l.invariant.0 (omega arith)

pub lay_pairs-returns-in_err-lay_pair_row-clause-items : goal.lay_pairs-returns-in_err-lay_pair_row-clause-items
lay_pairs-returns-in_err-lay_pair_row-clause-items t c =
    let o = out-PairsOf Space MandatorySpace Separator ListEnd Number Literal Ellipsis c.args.pairs.now in
    pairs_same texts c.args.pairs.now _ (record { row = c.lay_pair_row.new.row; last = o.last; end = o.end }) refl c.lay_pair_row.ensures.items refl

pub lay_pairs-returns-in_err-lay_pair-clause-items : goal.lay_pairs-returns-in_err-lay_pair-clause-items
lay_pairs-returns-in_err-lay_pair-clause-items t c =
    let o = out-PairsOf Space MandatorySpace Separator ListEnd Number Literal Ellipsis c.args.pairs.now in
    let written = two_written (roll-PairsOf Space MandatorySpace Separator ListEnd Number Literal Ellipsis) (out-PairsOf Space MandatorySpace Separator ListEnd Number Literal Ellipsis) (out-roll-PairsOf Space MandatorySpace Separator ListEnd Number Literal Ellipsis) (λ f. record { row = c.lay_pair_row.new.row; last = f.last; end = f.end }) (λ f. record { row = f.row; last = c.lay_pair.new.pair; end = f.end }) o in
    let last = ap (λ f. items (view_pair texts f.last)) (out-roll-PairsOf Space MandatorySpace Separator ListEnd Number Literal Ellipsis (record { row = c.lay_pair_row.new.row; last = o.last; end = o.end })) in
    pairs_same texts c.args.pairs.now _ (record { row = c.lay_pair_row.new.row; last = c.lay_pair.new.pair; end = o.end }) written c.lay_pair_row.ensures.items (c.lay_pair.ensures.items ∙ last)

pub lay_pairs-returns-clause-laid : goal.lay_pairs-returns-clause-laid
lay_pairs-returns-clause-laid t c =
    let o = out-PairsOf Space MandatorySpace Separator ListEnd Number Literal Ellipsis c.args.pairs.now in
    let roll = roll-PairsOf Space MandatorySpace Separator ListEnd Number Literal Ellipsis in
    let out = out-PairsOf Space MandatorySpace Separator ListEnd Number Literal Ellipsis in
    let back = out-roll-PairsOf Space MandatorySpace Separator ListEnd Number Literal Ellipsis in
    let written = three_written roll out back (λ f. record { row = c.lay_pair_row.new.row; last = f.last; end = f.end }) (λ f. record { row = f.row; last = c.lay_pair.new.pair; end = f.end }) (λ f. record { row = f.row; last = f.last; end = c.lay_end.new.end }) o in
    let two = after_two roll out back (λ f. record { row = c.lay_pair_row.new.row; last = f.last; end = f.end }) (λ f. record { row = f.row; last = c.lay_pair.new.pair; end = f.end }) o in
    let last = ap (λ f. laid c.args.layout (view_pair texts f.last)) (back (record { row = c.lay_pair_row.new.row; last = o.last; end = o.end })) in
    on_ok c.lay_end.result (λ e. pairs_laid texts c.args.layout c.args.pairs.now _ (record { row = c.lay_pair_row.new.row; last = c.lay_pair.new.pair; end = c.lay_end.new.end }) written c.in_ok-lay_pair_row.ensures.laid (c.in_ok-lay_pair.ensures.laid ∙ last) (e ∙ ap (λ f. respaced AtEnd Last c.args.layout (list_end_bytes f.end)) two)) c.lay_end.ensures.laid

pub lay_pairs-returns-clause-items : goal.lay_pairs-returns-clause-items
lay_pairs-returns-clause-items t c =
    let o = out-PairsOf Space MandatorySpace Separator ListEnd Number Literal Ellipsis c.args.pairs.now in
    let roll = roll-PairsOf Space MandatorySpace Separator ListEnd Number Literal Ellipsis in
    let out = out-PairsOf Space MandatorySpace Separator ListEnd Number Literal Ellipsis in
    let back = out-roll-PairsOf Space MandatorySpace Separator ListEnd Number Literal Ellipsis in
    let written = three_written roll out back (λ f. record { row = c.lay_pair_row.new.row; last = f.last; end = f.end }) (λ f. record { row = f.row; last = c.lay_pair.new.pair; end = f.end }) (λ f. record { row = f.row; last = f.last; end = c.lay_end.new.end }) o in
    let last = ap (λ f. items (view_pair texts f.last)) (back (record { row = c.lay_pair_row.new.row; last = o.last; end = o.end })) in
    pairs_same texts c.args.pairs.now _ (record { row = c.lay_pair_row.new.row; last = c.lay_pair.new.pair; end = c.lay_end.new.end }) written c.lay_pair_row.ensures.items (c.lay_pair.ensures.items ∙ last)

pub lay_pair_row-lay_pair-requires : goal.lay_pair_row-lay_pair-requires
lay_pair_row-lay_pair-requires t c =
    let l = c.loop-entry in
    let same : get_or l.entry-items l.entry-index c.entry-item.result ≡ get_or c.args.row.now.items l.entry-index c.entry-item.result = same_here l.entry-items c.args.row.now.items l.entry-index c.entry-item.result l.invariant.2 in
    let long : length c.deref_mut-entry-items.result.now ≡ length c.args.row.now.items = ap length c.deref_mut-entry-items.ensures.value in
    let inside : l.entry-index < length c.args.row.now.items = omega arith in
    rw same (grind (arith, at_most))

pub lay_pair_row-returns-in_err-lay_pair-clause-items : goal.lay_pair_row-returns-in_err-lay_pair-clause-items
unfolding items
lay_pair_row-returns-in_err-lay_pair-clause-items t c =
    let l = c.loop-entry in
    let x = get_or l.entry-items l.entry-index c.entry-item.result in
    let here : x ≡ get_or l.entry-items l.entry-index x = ap (λ a. get_or l.entry-items l.entry-index a) c.entry-item.is in
    let inside : l.entry-index < length l.entry-items = omega arith in
    let y : PairOf Space MandatorySpace Separator ListEnd Number Literal Ellipsis × Separator = (c.lay_pair.new.pair, x.1) in
    ap (λ ys. map entry_items (map (seen_pair texts) ys)) (kept (set l.entry-items l.entry-index y) _ c.args.row.now.len (search (rules)))
    ∙ one_same (seen_pair texts) entry_items l.entry-items l.entry-index x y _ l.invariant.1 inside here c.lay_pair.ensures.items

pub lay_pair_row-returns-in_err-lay_separator-clause-items : goal.lay_pair_row-returns-in_err-lay_separator-clause-items
unfolding items
lay_pair_row-returns-in_err-lay_separator-clause-items t c =
    let l = c.loop-entry in
    let x = get_or l.entry-items l.entry-index c.entry-item.result in
    let here : x ≡ get_or l.entry-items l.entry-index x = ap (λ a. get_or l.entry-items l.entry-index a) c.entry-item.is in
    let inside : l.entry-index < length l.entry-items = omega arith in
    let y : PairOf Space MandatorySpace Separator ListEnd Number Literal Ellipsis × Separator = (c.lay_pair.new.pair, c.lay_separator.new.separator) in
    ap (λ ys. map entry_items (map (seen_pair texts) ys)) (kept (set l.entry-items l.entry-index y) _ c.args.row.now.len (search (rules)))
    ∙ one_same (seen_pair texts) entry_items l.entry-items l.entry-index x y _ l.invariant.1 inside here c.lay_pair.ensures.items

pub lay_pair_row-loop-entry-preserved : goal.lay_pair_row-loop-entry-preserved
unfolding items
lay_pair_row-loop-entry-preserved t c =
    let l = c.loop-entry in
    let x = get_or l.entry-items l.entry-index c.entry-item.result in
    let here : x ≡ get_or l.entry-items l.entry-index x = ap (λ a. get_or l.entry-items l.entry-index a) c.entry-item.is in
    let inside : l.entry-index < length l.entry-items = omega arith in
    let y : PairOf Space MandatorySpace Separator ListEnd Number Literal Ellipsis × Separator = (c.lay_pair.new.pair, c.lay_separator.new.separator) in
    let os = c.args.row.now.items in (
      one_more (seen_pair texts) (laid_entry c.args.layout) l.entry-items l.entry-index x y _ l.invariant.0 inside here (λ i. (c.in_ok-lay_pair.ensures.laid i, c.in_ok-lay_separator.ensures.laid i)),
      one_same (seen_pair texts) entry_items l.entry-items l.entry-index x y _ l.invariant.1 inside here c.lay_pair.ensures.items,
      drop-set-lt (l.entry-index + 1) l.entry-items l.entry-index y (omega arith) ∙ drop_more_same l.entry-items os l.entry-index l.invariant.2,
    )

pub lay_pair_row-returns-clause-laid : goal.lay_pair_row-returns-clause-laid
lay_pair_row-returns-clause-laid t c =
    let l = c.loop-entry in
    ap (map (seen_pair texts)) (kept l.entry-items _ c.args.row.now.len (search (rules)))
    ∙ all_done (seen_pair texts) (laid_entry c.args.layout) l.entry-items l.entry-index _ l.invariant.0 (omega arith)
