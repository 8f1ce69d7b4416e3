use Rattle.std.proofs.Common.{◌≡◌, ◌<◌, length, get_or, ◌∙◌, ap, map, set, arith, rules}
use Rattle.cbor_edn_parts.specs.declared.space.Space.{Space}
use Rattle.cbor_edn_parts.specs.declared.space.MandatorySpace.{MandatorySpace}
use Rattle.cbor_edn_parts.specs.declared.space.Separator.{Separator}
use Rattle.cbor_edn_parts.specs.declared.space.ListEnd.{ListEnd}
use Rattle.cbor_edn_parts.specs.declared.number.Number.{Number}
use Rattle.cbor_edn_parts.specs.declared.string.Literal.{Literal}
use Rattle.cbor_edn_parts.specs.declared.string.Ellipsis.{Ellipsis}
use Rattle.cbor_edn_core.specs.declared.tree.CborStringOf.{CborStringOf}
use Rattle.cbor_edn_model.specs.tree.Items.{Chunk}
use Rattle.cbor_edn_model.specs.layout.Layout.{laid}
use Rattle.cbor_edn_model.specs.tree.Trees.{ChunkTree, items}
use Rattle.cbor_edn_core.specs.tree.View.{seen_string, view_string}
use Rattle.cbor_edn_model.specs.tree.TreeLeaves.{texts}
use Rattle.cbor_edn_model.specs.internal.LayoutRows.{laid_entry, entry_items}
use Rattle.cbor_edn_model.proofs.lemmas.layout.Begun.{kept, one_more, all_done, one_same}
use Rattle.cbor_edn_core.proofs.layout.strings.lay_string_row.Goals as goal

pub returns-in_err-lay_string-clause-items : goal.returns-in_err-lay_string-clause-items
unfolding items
returns-in_err-lay_string-clause-items c =
    let l = c.loop-entry in
    let x = get_or l.entry-items l.entry-index c.entry-item.result in
    let here : x ≡ get_or l.entry-items l.entry-index x = ap (λ a. get_or l.entry-items l.entry-index a) c.entry-item.is in
    let inside : l.entry-index < length l.entry-items = omega arith in
    let y : CborStringOf Space MandatorySpace Separator ListEnd Number Literal Ellipsis × Separator = (c.lay_string.new.string, x.1) in
    ap (λ ys. map entry_items (map (seen_string texts) ys)) (kept (set l.entry-items l.entry-index y) _ c.args.row.now.len (search (rules)))
    ∙ one_same (seen_string texts) entry_items l.entry-items l.entry-index x y _ l.invariant.1 inside here (ap Chunk c.lay_string.ensures.items)

pub returns-in_err-lay_separator-clause-items : goal.returns-in_err-lay_separator-clause-items
unfolding items
returns-in_err-lay_separator-clause-items c =
    let l = c.loop-entry in
    let x = get_or l.entry-items l.entry-index c.entry-item.result in
    let here : x ≡ get_or l.entry-items l.entry-index x = ap (λ a. get_or l.entry-items l.entry-index a) c.entry-item.is in
    let inside : l.entry-index < length l.entry-items = omega arith in
    let y : CborStringOf Space MandatorySpace Separator ListEnd Number Literal Ellipsis × Separator = (c.lay_string.new.string, c.lay_separator.new.separator) in
    ap (λ ys. map entry_items (map (seen_string texts) ys)) (kept (set l.entry-items l.entry-index y) _ c.args.row.now.len (search (rules)))
    ∙ one_same (seen_string texts) entry_items l.entry-items l.entry-index x y _ l.invariant.1 inside here (ap Chunk c.lay_string.ensures.items)

pub loop-entry-preserved : goal.loop-entry-preserved
unfolding items laid
loop-entry-preserved c =
    let l = c.loop-entry in
    let x = get_or l.entry-items l.entry-index c.entry-item.result in
    let here : x ≡ get_or l.entry-items l.entry-index x = ap (λ a. get_or l.entry-items l.entry-index a) c.entry-item.is in
    let inside : l.entry-index < length l.entry-items = omega arith in
    let y : CborStringOf Space MandatorySpace Separator ListEnd Number Literal Ellipsis × Separator = (c.lay_string.new.string, c.lay_separator.new.separator) in
    (one_more (seen_string texts) (laid_entry c.args.layout) l.entry-items l.entry-index x y _ l.invariant.0 inside here (λ i. (ChunkTree ((c.in_ok-lay_string.ensures.laid ∙ ap (λ m. laid m (view_string texts x.0)) c.in_chunk.ensures) i), c.in_ok-lay_separator.ensures.laid i)), one_same (seen_string texts) entry_items l.entry-items l.entry-index x y _ l.invariant.1 inside here (ap Chunk c.lay_string.ensures.items))

pub returns-clause-laid : goal.returns-clause-laid
returns-clause-laid c =
    let l = c.loop-entry in
    ap (map (seen_string texts)) (kept l.entry-items _ c.args.row.now.len (search (rules))) ∙ all_done (seen_string texts) (laid_entry c.args.layout) l.entry-items l.entry-index _ l.invariant.0 (omega arith)
