use Rattle.std.proofs.Common.{rules, ℕ, List, ◌≡◌, sym, ap, subst, ◌∙◌, Some, None, option_map}
use Rattle.std.specs.Int.{w128}
use Rattle.std.proofs.Math.Facts.{to_z-of_z}
use mir.Val.{SFits}
use Rattle.cbor_edn_core.specs.visit.Callbacks.{key_answer, handler_of, error_answer}
use Rattle.cbor_edn_core.specs.tree.View.{item_tree}
use Rattle.cbor_edn_conversions.specs.Claims.{KeyReply, fitting_parameter}
use Rattle.cbor_edn_application.specs.Handlers.{at_parameter, KeyAnswers}
use Rattle.cbor_edn_application.proofs.ItemIntegers.{parameter_found, parameter_refused}
use Rattle.cbor_edn_application.specs.Acts.{AnswersSo}
use Rattle.cbor_edn_model.specs.visit.Visits.{Answer, fine, comment, no_memory}
use Rattle.cbor_edn_application.proofs.oscore.comment_parameter.Goals as goal

-- a key is answered with a message where the definition answers it
message_answer : (p : KeyReply) (r : Answer) (message : List ℕ) → p ≡ (comment message, None) → AnswersSo (comment message) r → KeyAnswers p r None
message_answer p fine message is h = (h ∙ sym (ap (λ q. q.0) is), sym (ap (λ q. q.1) is))
message_answer p (comment t) message is h = (h ∙ sym (ap (λ q. q.0) is), sym (ap (λ q. q.1) is))
message_answer p no_memory message is h = tt

pub returns-in-Ok-clause-answer : goal.returns-in-Ok-clause-answer
returns-in-Ok-clause-answer c =
    let fits : SFits w128 c.in-Ok.number = search rules in
    let r = c.comment_number.result in
    subst (λ p. KeyAnswers p (key_answer r) (option_map at_parameter (handler_of r))) (sym (parameter_found (item_tree c.args.key.now) c.in-Ok.number fits c.in-Ok.ensures.found))
    (subst (λ z. KeyAnswers (fitting_parameter (Some z)) (key_answer r) (option_map at_parameter (handler_of r))) (to_z-of_z fits) c.comment_number.ensures)

pub returns-in-Err-clause-answer : goal.returns-in-Err-clause-answer
returns-in-Err-clause-answer c =
    message_answer _ (error_answer c.comment.result) _ (parameter_refused (item_tree c.args.key.now) c.in-Err.mismatch c.in-Err.ensures.refused c.in-Err.ensures.words)
    (subst (λ x. AnswersSo (comment x) (error_answer c.comment.result)) c.message.ensures c.comment.ensures)
