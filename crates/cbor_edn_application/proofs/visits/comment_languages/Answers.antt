use Rattle.cbor_edn_core.specs.visit.Callbacks.{ending}
use Rattle.cbor_edn_model.specs.visit.Seeking.{IsTag}
use Rattle.cbor_edn_model.specs.tree.Trees.{Seq}
use Rattle.cbor_edn_conversions.specs.Annotations.{comment_lang}
use Rattle.cbor_edn_conversions.proofs.nesting.DirectAnswers.{language_keeps_items}
use Rattle.cbor_edn_application.proofs.Unmoved.{visit_unmoved}
use Rattle.cbor_edn_application.proofs.visits.comment_languages.Goals as goal

pub returns-clause-items : goal.returns-clause-items
returns-clause-items c = visit_unmoved IsTag comment_lang language_keeps_items Seq _ _ (ending c.visit_tags.result) c.visit_tags.ensures
