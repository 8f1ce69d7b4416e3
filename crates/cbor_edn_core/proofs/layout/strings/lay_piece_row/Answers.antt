use Rattle.std.proofs.Common.{◌≡◌, ◌<◌, length, get_or, ◌∙◌, ap, map, set, arith, rules, refl}
use Rattle.cbor_edn_parts.specs.declared.space.Space.{Space}
use Rattle.cbor_edn_parts.specs.declared.space.MandatorySpace.{MandatorySpace}
use Rattle.cbor_edn_parts.specs.declared.space.Separator.{Separator}
use Rattle.cbor_edn_parts.specs.declared.space.ListEnd.{ListEnd}
use Rattle.cbor_edn_parts.specs.declared.number.Number.{Number}
use Rattle.cbor_edn_parts.specs.declared.string.Literal.{Literal}
use Rattle.cbor_edn_parts.specs.declared.string.Ellipsis.{Ellipsis}
use Rattle.cbor_edn_core.specs.declared.tree.PieceOf.{PieceOf}
use Rattle.cbor_edn_core.specs.tree.View.{seen_piece}
use Rattle.cbor_edn_model.specs.tree.TreeLeaves.{texts}
use Rattle.cbor_edn_model.specs.internal.LayoutRows.{laid_piece, piece_items}
use Rattle.cbor_edn_model.proofs.lemmas.layout.Begun.{kept, one_more, all_done, one_same}
use Rattle.cbor_edn_core.proofs.layout.strings.lay_piece_row.Goals as goal

pub returns-in_err-lay_space-clause-items : goal.returns-in_err-lay_space-clause-items
returns-in_err-lay_space-clause-items c =
    let l = c.loop-entry in
    let x = get_or l.entry-items l.entry-index c.entry-item.result in
    let here : x ≡ get_or l.entry-items l.entry-index x = ap (λ a. get_or l.entry-items l.entry-index a) c.entry-item.is in
    let inside : l.entry-index < length l.entry-items = omega arith in
    let y : PieceOf Space MandatorySpace Separator ListEnd Number Literal Ellipsis × Space × Space = (x.0, c.lay_space.new.space, x.2) in
    ap (λ ys. map piece_items (map (seen_piece texts) ys)) (kept (set l.entry-items l.entry-index y) _ c.args.row.now.len (search (rules)))
    ∙ one_same (seen_piece texts) piece_items l.entry-items l.entry-index x y _ l.invariant.1 inside here refl

pub returns-in_err-lay_space-2-clause-items : goal.returns-in_err-lay_space-2-clause-items
returns-in_err-lay_space-2-clause-items c =
    let l = c.loop-entry in
    let x = get_or l.entry-items l.entry-index c.entry-item.result in
    let here : x ≡ get_or l.entry-items l.entry-index x = ap (λ a. get_or l.entry-items l.entry-index a) c.entry-item.is in
    let inside : l.entry-index < length l.entry-items = omega arith in
    let y : PieceOf Space MandatorySpace Separator ListEnd Number Literal Ellipsis × Space × Space = (x.0, c.lay_space.new.space, c.lay_space-in-loop-entry.new.space) in
    ap (λ ys. map piece_items (map (seen_piece texts) ys)) (kept (set l.entry-items l.entry-index y) _ c.args.row.now.len (search (rules)))
    ∙ one_same (seen_piece texts) piece_items l.entry-items l.entry-index x y _ l.invariant.1 inside here refl

pub loop-entry-preserved : goal.loop-entry-preserved
loop-entry-preserved c =
    let l = c.loop-entry in
    let x = get_or l.entry-items l.entry-index c.entry-item.result in
    let here : x ≡ get_or l.entry-items l.entry-index x = ap (λ a. get_or l.entry-items l.entry-index a) c.entry-item.is in
    let inside : l.entry-index < length l.entry-items = omega arith in
    let y : PieceOf Space MandatorySpace Separator ListEnd Number Literal Ellipsis × Space × Space = (x.0, c.lay_space.new.space, c.lay_space-in-loop-entry.new.space) in
    (one_more (seen_piece texts) (laid_piece c.args.layout) l.entry-items l.entry-index x y _ l.invariant.0 inside here (λ i. ((seen_piece texts x).0, c.in_ok-lay_space.ensures.laid i, c.in_ok-lay_space-2.ensures.laid i)), one_same (seen_piece texts) piece_items l.entry-items l.entry-index x y _ l.invariant.1 inside here refl)

pub returns-clause-laid : goal.returns-clause-laid
returns-clause-laid c =
    let l = c.loop-entry in
    ap (map (seen_piece texts)) (kept l.entry-items _ c.args.row.now.len (search (rules))) ∙ all_done (seen_piece texts) (laid_piece c.args.layout) l.entry-items l.entry-index _ l.invariant.0 (omega arith)
