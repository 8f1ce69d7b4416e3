use Rattle.std.proofs.Common.{rules, refl}
use Rattle.cbor_edn.proofs.VisitChains.{tags_visited}
use Rattle.cbor_edn.proofs.TagDepths.{bignums_no_deeper}
use Rattle.cbor_edn.specs.Bignums.{pretty_bignum}
use Rattle.cbor_edn_examples.proofs.DepthsKept.{act_leaves}
use Rattle.cbor_edn_examples.proofs.visits.with_integers.Goals as goal

pub visit_tag_no_deeper-requires : goal.visit_tag_no_deeper-requires
visit_tag_no_deeper-requires c κs = ((refl, tt), (search rules, act_leaves pretty_bignum bignums_no_deeper _ (λ p q n x y z s. search rules)))

pub returns : goal.returns
returns c = tags_visited pretty_bignum (λ _. Unit {0}) _ _ _ _ _ _ tt _ (λ p q n x y z keeps s. search rules) c.visit_tag_no_deeper.ensures.visited
