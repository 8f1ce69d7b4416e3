use Rattle.std.proofs.Common.{rules, refl, ◌≡◌}
use Rattle.cbor_edn_application.specs.VisitActs.{tag_act}
use Rattle.cbor_edn_application.proofs.DepthsLeft.{acts_leave}
use Rattle.cbor_edn_application.proofs.VisitChains.{tags_visited}
use Rattle.cbor_edn_application.proofs.visits.visit_tags.Goals as goal

pub visit_tag_no_deeper-requires : goal.visit_tag_no_deeper-requires
visit_tag_no_deeper-requires c κs = ((refl, tt), (search rules, acts_leave _ (λ f. f.1.now) (λ p q n x y z s. search rules)))

pub returns : goal.returns
returns c = tags_visited (tag_act c.args.act) (λ f. f.1.now ≡ c.args.act) _ _ _ _ _ _ refl _ (λ p q n x y z keeps s. search rules) c.visit_tag_no_deeper.ensures.visited
