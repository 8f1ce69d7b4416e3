use Rattle.cbor_edn_core.specs.tree.View.{sequence_tree}
use Rattle.cbor_edn.proofs.Loading.{of_boxed, decoded_as}
use Rattle.cbor_edn.proofs.Shown.{shown_as}
use Rattle.cbor_edn.proofs.show.shown_bytes.Goals as goal

pub returns-clause-ok : goal.returns-clause-ok
returns-clause-ok c =
    let shown = shown_as c.args.options.now c.in_ok-shown_text.field-0.items _ c.in_ok-sequence.sequence.value c.deref_mut.ensures.value c.in_ok-shown_text.ensures in
    let read = decoded_as c.args.options.now.limit c.args.bytes.now c.in_ok-sequence.sequence.value
    (of_boxed _ _ _ c.in_ok-sequence.ensures.ok c.from_cbor_within.ensures.accepted) in
    (sequence_tree c.in_ok-sequence.sequence.value, shown.0, read, shown.1, shown.2)
