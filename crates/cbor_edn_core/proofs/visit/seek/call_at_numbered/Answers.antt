use Rattle.cbor_edn_model.specs.visit.Seeking.{number}
use Rattle.cbor_edn_model.specs.visit.Visits.{one_call, no_calls}
use Rattle.cbor_edn_model.proofs.lemmas.visit.VisitsOfParts.{reached_never, reached}
use Rattle.cbor_edn_core.specs.tree.View.{item_tree}
use Rattle.cbor_edn_core.proofs.lemmas.visit.SoughtChains.{tags_after}
use Rattle.cbor_edn_core.proofs.visit.seek.call_at_numbered.Goals as goal

pub returns-in_err-before-clause-reached : goal.returns-in_err-before-clause-reached
returns-in_err-before-clause-reached g c = reached_never c.from_residual.result c.from_residual.ensures.0 (number c.args.tag) c.requires.is_tag

pub returns-clause-callable_after : goal.returns-clause-callable_after
returns-clause-callable_after g c = tags_after item_tree _ c.requires.callable (one_call c.call_tag-answer.ensures.called no_calls)

pub returns-clause-reached : goal.returns-clause-reached
returns-clause-reached g c = reached (record { arguments = _; before = _; answer = _; after = _ }) c.requires.is_tag c.call_tag-answer.ensures.called c.in_ok-before.ensures.0 c.end.ensures
