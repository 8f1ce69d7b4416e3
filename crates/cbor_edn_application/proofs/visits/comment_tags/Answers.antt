use Rattle.std.proofs.Common.{refl}
use Rattle.cbor_edn_core.specs.visit.Callbacks.{ending}
use Rattle.cbor_edn_model.specs.visit.Seeking.{IsTag}
use Rattle.cbor_edn_model.specs.tree.Trees.{Seq}
use Rattle.cbor_edn_conversions.specs.Annotations.{commenting}
use Rattle.cbor_edn_application.proofs.Unmoved.{visit_unmoved}
use Rattle.cbor_edn_application.proofs.visits.comment_tags.Goals as goal

pub returns-clause-items : goal.returns-clause-items
returns-clause-items c = visit_unmoved IsTag (commenting c.args.comment.now) (λ a w. refl) Seq _ _ (ending c.visit_tags.result) c.visit_tags.ensures
