use Rattle.std.proofs.Common.{rules, refl}
use Rattle.cbor_edn.proofs.KnownResults.{on_visited}
use Rattle.cbor_edn.proofs.MapVisits.{map_whole}
use Rattle.cbor_edn_examples.specs.Times.{as_time, at_any_key}
use Rattle.cbor_edn_examples.proofs.visits.with_times_tagged.Goals as goal

pub returns : goal.returns
returns c =
    on_visited _ c.visit_map_elements.result c.visit_map_elements.ensures.visited
    (λ h. (map_whole at_any_key (λ _. as_time) _ _ (λ p q x y z s. search rules) (λ h x r y did. did) h.2 refl h.1).1)
