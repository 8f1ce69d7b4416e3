use Rattle.std.proofs.Common.{◌∙◌, ap, map, arith, rules}
use Rattle.cbor_edn_core.specs.tree.View.{seen_string}
use Rattle.cbor_edn_model.specs.tree.TreeLeaves.{texts}
use Rattle.cbor_edn_model.specs.layout.Bare.{without_indicators}
use Rattle.cbor_edn_model.specs.internal.LayoutRows.{entry_without_indicators}
use Rattle.cbor_edn_model.proofs.lemmas.layout.Begun.{kept, one_more, all_done}
use Rattle.cbor_edn_core.proofs.layout.indicators.remove_string_row_indicators.Goals as goal

pub loop-string-preserved : goal.loop-string-preserved
unfolding without_indicators
loop-string-preserved c =
    let l = c.loop-string in
    let here = c.loop-string-item.is in
    one_more (seen_string texts) entry_without_indicators l.string-items l.string-index c.loop-string-item.result _ _ l.invariant (omega arith) here (search (rules))

pub returns : goal.returns
returns c =
    let l = c.loop-string in
    let kept_items = kept l.string-items _ c.args.row.now.len (search (rules)) in
    ap (map (seen_string texts)) kept_items ∙ all_done (seen_string texts) entry_without_indicators l.string-items l.string-index _ l.invariant (omega arith)
