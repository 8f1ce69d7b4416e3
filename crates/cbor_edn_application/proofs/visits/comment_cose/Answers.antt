use Rattle.std.proofs.Common.{rules, refl}
use Rattle.cbor_edn_core.specs.visit.Callbacks.{ending}
use Rattle.cbor_edn_model.specs.tree.Trees.{Seq}
use Rattle.cbor_edn_conversions.specs.Cose.{comment_cose}
use Rattle.cbor_edn_conversions.proofs.conversions.CoseKept.{cose_keeps}
use Rattle.cbor_edn_application.proofs.CommentVisits.{on_whole, comments_no_deeper, comments_kept, comments_whole}
use Rattle.cbor_edn_application.proofs.visits.comment_cose.Goals as goal

pub visit_tag_no_deeper-requires : goal.visit_tag_no_deeper-requires
visit_tag_no_deeper-requires c κs = ((refl, tt), (search rules, comments_no_deeper comment_cose cose_keeps _ (λ p q n x y z s. search rules)))

pub returns-clause-visited : goal.returns-clause-visited
returns-clause-visited c = on_whole c.visit_tag_no_deeper.result _ (comments_whole comment_cose cose_keeps _ (λ p q n x y z s. search rules) Seq _ _ _ _ (ending c.visit_tag_no_deeper.result) c.visit_tag_no_deeper.ensures.visited)

pub returns-clause-items : goal.returns-clause-items
returns-clause-items c = comments_kept comment_cose cose_keeps _ (λ p q n x y z s. search rules) Seq _ _ _ _ (ending c.visit_tag_no_deeper.result) c.visit_tag_no_deeper.ensures.visited
