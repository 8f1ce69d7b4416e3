use Rattle.cbor_edn_core.specs.tree.View.{sequence_tree}
use Rattle.cbor_edn.proofs.Loading.{taken, encoded_as, unencoded_as}
use Rattle.cbor_edn.proofs.engine.to_cbor.Goals as goal

pub returns-in-Ok-clause-ok : goal.returns-in-Ok-clause-ok
returns-in-Ok-clause-ok c =
    encoded_as c.args.options.now c.args.input.now _ (sequence_tree c.in_ok-sequence.sequence.value) (sequence_tree c.deref.result.now) c.in_ok-sequence.ensures.ok
    (taken c.args.options.now _ c.in_ok-sequence.sequence.value c.take.new.sequence c.deref.result.now c.deref_mut.ensures.value c.deref.ensures c.in_ok-take.ensures)
    c.in-Ok.ensures.bytes

pub returns-clause-err : goal.returns-clause-err
returns-clause-err c =
    unencoded_as c.args.options.now c.args.input.now (sequence_tree c.in_ok-sequence.sequence.value) (sequence_tree c.deref.result.now) c.in-Err.fault c.from.result
    c.in_ok-sequence.ensures.ok
    (taken c.args.options.now _ c.in_ok-sequence.sequence.value c.take.new.sequence c.deref.result.now c.deref_mut.ensures.value c.deref.ensures c.in_ok-take.ensures)
    c.from.ensures c.in-Err.ensures.refused
