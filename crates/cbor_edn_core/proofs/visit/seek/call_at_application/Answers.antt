use Rattle.std.proofs.Common.{ℕ, List, rules, refl, string_bytes}
use Rattle.cbor_edn_model.specs.access.Accessed.{IsApplicationItem}
use Rattle.cbor_edn_model.specs.visit.Seeking.{prefix_and_text}
use Rattle.cbor_edn_model.specs.visit.Visits.{one_call, no_calls}
use Rattle.cbor_edn_model.proofs.lemmas.visit.VisitsOfParts.{reached_not, reached_never, reached}
use Rattle.cbor_edn_core.specs.tree.View.{item_tree}
use Rattle.cbor_edn_core.proofs.lemmas.visit.SoughtChains.{literals_after, no_literal_arguments}
use Rattle.cbor_edn_core.proofs.visit.seek.call_at_application.Goals as goal

pub returns-in-Err-Told-clause-reached : goal.returns-in-Err-Told-clause-reached
returns-in-Err-Told-clause-reached g c =
    let none : (p v : List ℕ) → IsApplicationItem (item_tree c.args.item.now) p v → ⊥ = search rules in
    reached_not (no_literal_arguments (item_tree c.args.item.now) none)

pub returns-in-Err-Memory-clause-reached : goal.returns-in-Err-Memory-clause-reached
returns-in-Err-Memory-clause-reached g c =
    let some : (p v : List ℕ) × IsApplicationItem (item_tree c.args.item.now) p v = search rules in
    reached_never _ refl (prefix_and_text some.0 some.1) some.2

pub returns-in_err-before-clause-reached : goal.returns-in_err-before-clause-reached
returns-in_err-before-clause-reached g c = reached_never c.from_residual.result c.from_residual.ensures.0 (prefix_and_text (string_bytes c.in-Ok.literal.0) (string_bytes c.in-Ok.literal.1)) c.in-Ok.ensures.found

pub returns-clause-callable_after : goal.returns-clause-callable_after
returns-clause-callable_after g c = literals_after item_tree _ c.requires.callable (one_call c.call_literal-answer.ensures.called no_calls)

pub returns-clause-reached : goal.returns-clause-reached
returns-clause-reached g c = reached (record { arguments = _; before = _; answer = _; after = _ }) c.in-Ok.ensures.found c.call_literal-answer.ensures.called c.in_ok-before.ensures.0 c.end.ensures
