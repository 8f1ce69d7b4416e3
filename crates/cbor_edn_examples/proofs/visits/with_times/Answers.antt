use Rattle.std.proofs.Common.{rules}
use Rattle.cbor_edn.proofs.VisitChains.{tags_visited}
use Rattle.cbor_edn.specs.Times.{pretty_time}
use Rattle.cbor_edn_examples.proofs.visits.with_times.Goals as goal

pub returns : goal.returns
returns c = tags_visited pretty_time (λ _. Unit {0}) _ _ _ _ _ _ tt _ (λ p q n x y z keeps s. search rules) c.visit_tag.ensures.visited
