use Rattle.cbor_edn_core.specs.tree.View.{sequence_tree}
use Rattle.cbor_edn.proofs.Shown.{ended_text}
use Rattle.cbor_edn.proofs.show.shown_text.Goals as goal

pub returns : goal.returns
returns c = ended_text c.args.options.now (sequence_tree c.args.sequence.now) _ _ _ c.in_ok-plain.ensures c.in_ok-text.ensures c.in_ok-end_line.ensures
