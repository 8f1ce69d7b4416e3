use Rattle.std.proofs.Common.{rules}
use Rattle.cbor_edn.proofs.VisitChains.{literals_visited}
use Rattle.cbor_edn.specs.Times.{resolve_time}
use Rattle.cbor_edn_examples.proofs.visits.without_times.Goals as goal

pub returns : goal.returns
returns c = literals_visited resolve_time (λ _. Unit {0}) _ _ _ _ _ _ tt _ (λ p q s t x y z keeps called. search rules) c.visit_application_literals.ensures.visited
