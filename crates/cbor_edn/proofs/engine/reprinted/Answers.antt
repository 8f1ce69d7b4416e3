use Rattle.cbor_edn_core.specs.tree.View.{sequence_tree}
use Rattle.cbor_edn.proofs.Loading.{printed_as}
use Rattle.cbor_edn.proofs.engine.reprinted.Goals as goal

pub returns-clause-ok : goal.returns-clause-ok
returns-clause-ok c =
    let shown = printed_as c.args.options.now c.in_ok-printed.field-0.items _ c.in_ok-sequence.sequence.value c.deref_mut.ensures.value c.in_ok-printed.ensures in
    (sequence_tree c.in_ok-sequence.sequence.value, shown.0, c.in_ok-sequence.ensures.ok, shown.1, shown.2)
