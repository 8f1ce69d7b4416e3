use Rattle.std.proofs.Common.{rules, refl, ◌≡◌}
use Rattle.cbor_edn.proofs.VisitChains.{items_visited}
use Rattle.cbor_edn.specs.EmbeddedItems.{show_embedded}
use Rattle.cbor_edn_examples.proofs.visits.opened.Goals as goal

pub returns : goal.returns
returns c = items_visited (show_embedded 1 c.args.limit) (λ f. f.1.now ≡ c.args.limit) _ _ _ _ _ _ refl _ (λ p q x y z keeps s. search rules) c.visit_application_items.ensures.visited
