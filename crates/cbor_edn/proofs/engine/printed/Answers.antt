use Rattle.cbor_edn_core.specs.tree.View.{sequence_tree}
use Rattle.cbor_edn.proofs.Loading.{printed_text}
use Rattle.cbor_edn.proofs.engine.printed.Goals as goal

pub returns : goal.returns
returns c = printed_text c.args.options.now (sequence_tree c.args.sequence.now) c.take.new.sequence c.spaced_text.result c.in_ok-take.ensures c.spaced_text.ensures.spaced c.spaced_text.ensures.utf8
