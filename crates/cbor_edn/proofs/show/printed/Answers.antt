use Rattle.cbor_edn_core.specs.tree.View.{sequence_tree}
use Rattle.cbor_edn.proofs.Shown.{printed_text}
use Rattle.cbor_edn.proofs.show.printed.Goals as goal

pub returns : goal.returns
returns c = printed_text c.args.options.now c.steps.result (sequence_tree c.args.sequence.now) c.take.new.sequence c.spaced_text.result c.steps.ensures c.in_ok-take.ensures c.spaced_text.ensures.spaced c.spaced_text.ensures.utf8
