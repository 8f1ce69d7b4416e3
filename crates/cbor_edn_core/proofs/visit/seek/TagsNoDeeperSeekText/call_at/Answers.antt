use Rattle.std.proofs.Common.{◌∙◌, ap, refl}
use Rattle.cbor_edn_model.specs.visit.Visits.{answered, one_call, no_calls}
use Rattle.cbor_edn_model.proofs.lemmas.visit.VisitsOfParts.{reached_not, reached, ends_err, ends_in}
use Rattle.cbor_edn_core.specs.tree.View.{item_tree}
use Rattle.cbor_edn_core.proofs.lemmas.visit.SoughtChains.{no_arguments, tags_after}
use Rattle.cbor_edn_core.proofs.visit.seek.TagsNoDeeperSeekText.call_at.Goals as goal

pub returns-in_default-clause-reached : goal.returns-in_default-clause-reached
returns-in_default-clause-reached g c = reached_not (no_arguments (item_tree c.args.item.now) c.in_default.ensures.refused.1)

pub call_tag-answer-requires : goal.call_tag-answer-requires
call_tag-answer-requires g c = record { callable = c.requires.callable.0; is_tag = c.in-Ok.ensures.found }

pub returns-in_err-put_answer-clause-callable_after : goal.returns-in_err-put_answer-clause-callable_after
returns-in_err-put_answer-clause-callable_after g c = (tags_after item_tree _ c.requires.callable.0 (one_call c.call_tag-answer.ensures.called no_calls), c.requires.callable.1)

pub returns-in_err-put_answer-clause-reached : goal.returns-in_err-put_answer-clause-reached
returns-in_err-put_answer-clause-reached g c =
    reached (record { arguments = _; before = _; answer = _; after = _ }) c.in-Ok.ensures.found c.call_tag-answer.ensures.called refl
    (ends_err c.from_residual.result c.from_residual.ensures.0 (λ z. c.in_err-put_answer.ensures.had_comment (c.element_answer.ensures ∙ z)) c.in_err-put_answer.ensures.out_of_memory)

pub returns-clause-callable_after : goal.returns-clause-callable_after
returns-clause-callable_after g c = (tags_after item_tree _ c.requires.callable.0 (one_call c.call_tag-answer.ensures.called no_calls), c.requires.callable.1)

pub returns-clause-reached : goal.returns-clause-reached
returns-clause-reached g c =
    reached (record { arguments = _; before = _; answer = _; after = _ }) c.in-Ok.ensures.found c.call_tag-answer.ensures.called refl
    (ends_in (λ z. c.in_ok-put_answer.ensures.had_memory (c.element_answer.ensures ∙ z)) (c.in_ok-put_answer.ensures.put ∙ ap (λ a. answered a (g.X.TakesComment.bytes c.args.space.now)) c.element_answer.ensures)
    (c.requires.callable.1 _ _ _ c.call_tag-answer.ensures.called))
