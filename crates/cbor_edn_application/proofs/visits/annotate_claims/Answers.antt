use Rattle.std.proofs.Common.{rules, refl}
use Rattle.cbor_edn_conversions.specs.Claims.{claim_key, with_claims}
use Rattle.cbor_edn_application.specs.Handlers.{at_claim}
use Rattle.cbor_edn_application.proofs.KnownResults.{on_visited, if_visited}
use Rattle.cbor_edn_application.proofs.MapVisits.{map_whole, map_visited}
use Rattle.cbor_edn_application.proofs.visits.annotate_claims.Goals as goal

pub returns-clause-claims : goal.returns-clause-claims
unfolding with_claims
returns-clause-claims c =
    on_visited _ c.visit_map_elements.result c.visit_map_elements.ensures.visited
    (λ h. (map_whole claim_key at_claim _ _ (λ p q x y z s. search rules) (λ h x r y did. did.0) h.2 refl h.1).1)

pub returns-clause-visited : goal.returns-clause-visited
returns-clause-visited c =
    if_visited c.visit_map_elements.result (λ r h. map_visited claim_key at_claim _ _ (λ p q x y z s. search rules) (λ h x r y did. did.0) h.2 h.1) c.visit_map_elements.ensures.visited
