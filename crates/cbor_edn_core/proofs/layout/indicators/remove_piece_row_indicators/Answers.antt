use Rattle.std.proofs.Common.{◌∙◌, ap, map, arith, rules}
use Rattle.cbor_edn_core.specs.tree.View.{seen_piece}
use Rattle.cbor_edn_model.specs.tree.TreeLeaves.{texts}
use Rattle.cbor_edn_model.specs.internal.LayoutRows.{piece_without_indicators}
use Rattle.cbor_edn_model.proofs.lemmas.layout.Begun.{kept, one_more, all_done}
use Rattle.cbor_edn_core.proofs.layout.indicators.remove_piece_row_indicators.Goals as goal

pub loop-piece-preserved : goal.loop-piece-preserved
loop-piece-preserved c =
    let l = c.loop-piece in
    let here = c.loop-piece-item.is in
    one_more (seen_piece texts) piece_without_indicators l.piece-items l.piece-index c.loop-piece-item.result _ _ l.invariant (omega arith) here (search (rules))

pub returns : goal.returns
returns c =
    let l = c.loop-piece in
    let kept_items = kept l.piece-items _ c.args.row.now.len (search (rules)) in
    ap (map (seen_piece texts)) kept_items ∙ all_done (seen_piece texts) piece_without_indicators l.piece-items l.piece-index _ l.invariant (omega arith)
