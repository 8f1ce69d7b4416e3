use Rattle.std.proofs.Common.{rules, refl, ap, codes}
use Rattle.cbor_edn_core.specs.tree.View.{item_tree}
use Rattle.cbor_edn_conversions.specs.Claims.{parameter_key, with_keys}
use Rattle.cbor_edn_application.specs.Handlers.{at_parameter}
use Rattle.cbor_edn_application.proofs.KeptClaims.{parameter_keys_kept}
use Rattle.cbor_edn_application.proofs.MapVisits.{map_whole, map_visited, no_map, visit_kept}
use Rattle.cbor_edn_application.proofs.RefusedVisits.{refused_value}
use Rattle.cbor_edn_application.proofs.SaidErrors.{any_error}
use Rattle.cbor_edn_application.proofs.confirmation.comment_parameters.Goals as goal

pub returns-in-Ok-clause-value : goal.returns-in-Ok-clause-value
returns-in-Ok-clause-value c = let h = c.in-Ok.ensures.visited in map_whole parameter_key at_parameter _ _ (λ p q x y z s. search rules) (λ h x r y did. did.0) h.2 refl h.1

pub returns-in-Err-clause-value : goal.returns-in-Err-clause-value
returns-in-Err-clause-value c = refused_value (with_keys parameter_key) (item_tree c.args.value.now) (item_tree c.visit_map_elements-answer.new.self) (codes "Expected map") _ _ _ _ _ c.in-Err.is c.refusal.ensures
    c.visit_map_elements-answer.ensures.visited c.visit_map_elements-answer.ensures.refused
    (λ h. visit_kept parameter_key parameter_keys_kept (map_visited parameter_key at_parameter _ _ (λ p q x y z s. search rules) (λ h x r y did. did.0) h.2 h.1))
    (λ e h. (no_map parameter_key _ h.1, ap item_tree h.2))

pub returns-in-Err-clause-errors : goal.returns-in-Err-clause-errors
returns-in-Err-clause-errors c = any_error c.refusal.result
