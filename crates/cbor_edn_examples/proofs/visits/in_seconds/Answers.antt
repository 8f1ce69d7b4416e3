use Rattle.std.proofs.Common.{rules, refl, codes}
use Rattle.cbor_edn.specs.Visits.{comment}
use Rattle.cbor_edn.proofs.ElementVisits.{elements_whole}
use Rattle.cbor_edn.proofs.KnownResults.{on_visited}
use Rattle.cbor_edn_examples.proofs.visits.in_seconds.Goals as goal

pub returns : goal.returns
returns c =
    on_visited _ c.visit_array_elements.result c.visit_array_elements.ensures.visited
    (λ h. elements_whole (λ _ w. (comment (codes "seconds"), w)) (λ i w. refl) (λ i f. Unit {0}) _ (λ i p q x y z holds s. (tt, search rules)) h.2 refl h.1 tt)
