use Rattle.std.proofs.Common.{rules}
use Rattle.cbor_edn.proofs.VisitChains.{tags_visited}
use Rattle.cbor_edn.specs.All.{pretty_all}
use Rattle.cbor_edn_examples.proofs.prettified.Goals as goal

pub returns : goal.returns
returns c = tags_visited pretty_all (λ _. Unit {0}) _ _ _ _ _ _ tt _ (λ p q n x y z keeps s. search rules) c.visit_tag.ensures.visited
