use Rattle.std.proofs.Common.{rules, refl, ◌≡◌}
use Rattle.cbor_edn_application.specs.VisitActs.{literal_act}
use Rattle.cbor_edn_application.proofs.VisitChains.{items_visited}
use Rattle.cbor_edn_application.proofs.visits.visit_literals.Goals as goal

pub returns : goal.returns
returns c = items_visited (literal_act c.args.act) (λ f. f.1.now ≡ c.args.act) _ _ _ _ _ _ refl _ (λ p q x y z keeps s. search rules) c.visit_application_items.ensures.visited
