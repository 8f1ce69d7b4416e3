use Rattle.std.proofs.Common.{◌≡◌, ◌+◌, ◌&&◌, true, false, map, drop, sym, ap, ◌∙◌}
use Rattle.cbor_edn_model.specs.tree.Trees.{items}
use Rattle.cbor_edn_core.specs.tree.View.{view_string, seen_string}
use Rattle.cbor_edn_model.specs.tree.TreeLeaves.{texts}
use Rattle.cbor_edn_model.specs.cbor.Meaning.{same_kind}
use Rattle.cbor_edn_model.specs.internal.Encoding.{form_kind, kinds_are, row_items}
use Rattle.cbor_edn_model.proofs.lemmas.cbor.CborEncodes.{rest_at}
use Rattle.cbor_edn_core.proofs.cbor.encode.are_of_kind.Goals as goal

pub returns-then-not-same_kind : goal.returns-then-not-same_kind
unfolding items
returns-then-not-same_kind c =
    let row = c.args.row.now in
    let i = c.loop-string.string-index in
    let x = c.loop-string-item.result in
    let rest = kinds_are c.args.kind (row_items (map (seen_string texts) (drop (i + 1) row))) in
    let step : kinds_are c.args.kind (row_items (map (seen_string texts) row)) ≡ (same_kind c.args.kind (form_kind (items (view_string texts x.0))) && rest) =
    c.loop-string.invariant ∙ ap (λ ps. kinds_are c.args.kind (row_items ps)) (rest_at (seen_string texts) row i x c.loop-string-test.true c.loop-string-item.is) in
    let same : same_kind c.args.kind (form_kind (items (view_string texts x.0))) ≡ false = ap (same_kind c.args.kind) (sym c.form_kind.ensures) ∙ sym c.same_kind.ensures ∙ c.if-not-same_kind.true in
    sym (step ∙ ap (λ b. b && rest) same)

pub loop-string-preserved : goal.loop-string-preserved
unfolding items
loop-string-preserved c =
    let row = c.args.row.now in
    let i = c.loop-string.string-index in
    let x = c.loop-string-item.result in
    let rest = kinds_are c.args.kind (row_items (map (seen_string texts) (drop (i + 1) row))) in
    let step : kinds_are c.args.kind (row_items (map (seen_string texts) row)) ≡ (same_kind c.args.kind (form_kind (items (view_string texts x.0))) && rest) =
    c.loop-string.invariant ∙ ap (λ ps. kinds_are c.args.kind (row_items ps)) (rest_at (seen_string texts) row i x c.loop-string-test.true c.loop-string-item.is) in
    let same : same_kind c.args.kind (form_kind (items (view_string texts x.0))) ≡ true = ap (same_kind c.args.kind) (sym c.form_kind.ensures) ∙ sym c.same_kind.ensures ∙ c.if-not-same_kind.false in
    step ∙ ap (λ b. b && rest) same
