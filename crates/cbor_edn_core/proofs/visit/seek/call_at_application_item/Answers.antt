use Rattle.cbor_edn_model.specs.visit.Seeking.{prefix_and_text}
use Rattle.cbor_edn_model.specs.visit.Visits.{one_call, no_calls}
use Rattle.cbor_edn_model.proofs.lemmas.visit.VisitsOfParts.{reached_not, reached_never, reached}
use Rattle.cbor_edn_core.specs.tree.View.{item_tree}
use Rattle.cbor_edn_core.proofs.lemmas.visit.SoughtChains.{items_after, no_literal_arguments}
use Rattle.cbor_edn_core.proofs.visit.seek.call_at_application_item.Goals as goal

pub returns-in_default-clause-reached : goal.returns-in_default-clause-reached
returns-in_default-clause-reached g c = reached_not (no_literal_arguments (item_tree c.args.item.now) c.in_default.ensures.none)

pub returns-in_err-before-clause-reached : goal.returns-in_err-before-clause-reached
returns-in_err-before-clause-reached g c = reached_never c.from_residual.result c.from_residual.ensures.0 (prefix_and_text _ c.in-Some.ensures.found.0) c.in-Some.ensures.found.1

pub call_item-answer-requires : goal.call_item-answer-requires
call_item-answer-requires g c = let h = c.in-Some.ensures.found in record { callable = c.requires.callable; is_literal = (prefix_and_text _ h.0, h.1) }

pub returns-clause-callable_after : goal.returns-clause-callable_after
returns-clause-callable_after g c = items_after item_tree _ c.requires.callable (one_call (c.call_item-answer.ensures.called (prefix_and_text _ _) c.in-Some.ensures.found.1) no_calls)

pub returns-clause-reached : goal.returns-clause-reached
returns-clause-reached g c = reached (record { arguments = prefix_and_text _ _; before = _; answer = _; after = _ }) c.in-Some.ensures.found.1 (c.call_item-answer.ensures.called (prefix_and_text _ _) c.in-Some.ensures.found.1) c.in_ok-before.ensures.0 c.end.ensures
