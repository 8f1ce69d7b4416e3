use Rattle.std.proofs.Common.{arith, map, ◌∙◌}
use Rattle.std.specs.Prelude.{option_map}
use Rattle.std.proofs.lemmas.Result.{err_from_is_err_and}
use Rattle.cbor_edn_parts.specs.Leaves.{space_bytes}
use Rattle.cbor_edn_core.specs.tree.View.{Sequence, item_tree, view_items}
use Rattle.cbor_edn_model.specs.tree.TreeLeaves.{texts}
use Rattle.cbor_edn_core.specs.internal.RowBuilder.{grown}
use Rattle.cbor_edn_core.proofs.lemmas.tree.Views.{view_sequence_made}
use Rattle.cbor_edn_core.proofs.lemmas.cbor.Decodes.{sequence_fails_refused, sequence_fails_deep, sequence_decoded, sequence_view}
use Rattle.cbor_edn_core.proofs.cbor.decode.Sequence.from_cbor_within.Goals as goal

pub returns-in_err-found-clause-refused : goal.returns-in_err-found-clause-refused
returns-in_err-found-clause-refused c =
    let p = err_from_is_err_and c.from_residual.result c.from_residual.ensures.1 in
    rw (p.1, p.2) (sequence_fails_refused c.args.limit c.args.bytes.now Sequence c.in_err-found.field-0.0 c.in_err-found.ensures.value)

pub returns-in_err-found-clause-too_deep : goal.returns-in_err-found-clause-too_deep
returns-in_err-found-clause-too_deep c =
    let p = err_from_is_err_and c.from_residual.result c.from_residual.ensures.1 in
    rw (p.1, p.2) (sequence_fails_deep c.args.limit c.args.bytes.now Sequence c.in_err-found.field-0.0 (λ i. omega (arith, c.type_inv.bytes i)) c.in_err-found.ensures.value)

pub returns-clause-accepted : goal.returns-clause-accepted
returns-clause-accepted c =
    sequence_decoded c.args.limit c.args.bytes.now _ (option_map (view_items texts) c.finish_items.result) (map item_tree (grown c.in_ok-found.found)) c.in_ok-found.field-0-1.now (λ i. omega (arith, c.type_inv.bytes i)) c.in_ok-found.ensures.value
    (view_sequence_made texts _ ∙ sequence_view (space_bytes c.empty.result) c.finish_items.result c.empty.ensures.bytes) c.finish_items.ensures
