use Rattle.std.proofs.Common.{subst}
use Rattle.cbor_edn_core.specs.tree.View.{sequence_tree}
use Rattle.cbor_edn_core.specs.visit.Callbacks.{ending}
use Rattle.cbor_edn_model.specs.visit.Seeking.{IsApplication}
use Rattle.cbor_edn_conversions.specs.EmbeddedItems.{show_embedded}
use Rattle.cbor_edn_application.specs.Acts.{IsVisited}
use Rattle.cbor_edn_application.proofs.EmbeddedCalls.{room_in}
use Rattle.cbor_edn_application.proofs.visits.show_embedded.Goals as goal

pub returns : goal.returns
returns c =
    subst (λ k. IsVisited IsApplication (show_embedded c.args.levels k) (sequence_tree c.args.sequence.now) (ending c.show_inside.result) (sequence_tree c.show_inside.new.sequence))
    (room_in c.args.limit c.nesting.result c.room_beside-room.result (sequence_tree c.args.sequence.now) c.room_beside-room.ensures c.nesting.ensures) c.show_inside.ensures
