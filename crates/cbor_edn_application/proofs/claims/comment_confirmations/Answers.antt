use Rattle.std.proofs.Common.{rules, refl, ap, codes}
use Rattle.cbor_edn_core.specs.tree.View.{item_tree}
use Rattle.cbor_edn_conversions.specs.Claims.{confirmation_key, with_keys}
use Rattle.cbor_edn_application.specs.Handlers.{at_confirmation}
use Rattle.cbor_edn_application.proofs.KeptClaims.{confirmation_keys_kept}
use Rattle.cbor_edn_application.proofs.MapVisits.{map_whole, map_visited, no_map, visit_kept}
use Rattle.cbor_edn_application.proofs.RefusedVisits.{refused_value}
use Rattle.cbor_edn_application.proofs.SaidErrors.{any_error}
use Rattle.cbor_edn_application.proofs.claims.comment_confirmations.Goals as goal

pub returns-in-Ok-clause-value : goal.returns-in-Ok-clause-value
returns-in-Ok-clause-value c = let h = c.in-Ok.ensures.visited in map_whole confirmation_key at_confirmation _ _ (λ p q x y z s. search rules) (λ h x r y did. did.0) h.2 refl h.1

pub returns-in-Err-clause-value : goal.returns-in-Err-clause-value
returns-in-Err-clause-value c = refused_value (with_keys confirmation_key) (item_tree c.args.value.now) (item_tree c.visit_map_elements-answer.new.self) (codes "Expected map") _ _ _ _ _ c.in-Err.is c.refusal.ensures
    c.visit_map_elements-answer.ensures.visited c.visit_map_elements-answer.ensures.refused
    (λ h. visit_kept confirmation_key confirmation_keys_kept (map_visited confirmation_key at_confirmation _ _ (λ p q x y z s. search rules) (λ h x r y did. did.0) h.2 h.1))
    (λ e h. (no_map confirmation_key _ h.1, ap item_tree h.2))

pub returns-in-Err-clause-errors : goal.returns-in-Err-clause-errors
returns-in-Err-clause-errors c = any_error c.refusal.result
