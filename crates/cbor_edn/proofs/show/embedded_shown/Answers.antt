use Rattle.cbor_edn_core.specs.tree.View.{sequence_tree}
use Rattle.cbor_edn.proofs.Shown.{visited_shown}
use Rattle.cbor_edn.proofs.show.embedded_shown.Goals as goal

pub returns : goal.returns
returns c = visited_shown c.args.options.now.levels c.args.options.now.limit (sequence_tree c.args.sequence.now) _ c.show_embedded.result c.show_embedded.ensures
