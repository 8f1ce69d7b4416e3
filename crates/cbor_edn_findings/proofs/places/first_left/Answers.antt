use Rattle.cbor_edn_core.specs.tree.View.{sequence_tree}
use Rattle.cbor_edn_findings.proofs.FirstOffsets.{lent_left}
use Rattle.cbor_edn_findings.proofs.places.first_left.Goals as goal

pub returns : goal.returns
returns c =
    lent_left c.args.options.now (sequence_tree c.args.sequence.now) c.deref_mut.result.now c.in_ok-left.left.value c.first_valueless.result c.deref_mut.ensures.value c.in_ok-left.ensures c.first_valueless.ensures
