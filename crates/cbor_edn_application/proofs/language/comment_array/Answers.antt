use Rattle.std.proofs.Common.{rules, refl, ap, codes}
use Rattle.cbor_edn_core.specs.tree.View.{item_tree}
use Rattle.cbor_edn_conversions.specs.Annotations.{with_direction}
use Rattle.cbor_edn_application.proofs.ArrayVisits.{array_whole, array_cut, no_array}
use Rattle.cbor_edn_application.proofs.RefusedVisits.{refused_acts}
use Rattle.cbor_edn_application.proofs.language.comment_array.Goals as goal

pub returns-in-Ok : goal.returns-in-Ok
returns-in-Ok c = let h = c.in-Ok.ensures.visited in array_whole (λ f. f.1.now) _ (λ p q x y z s. search rules) h.2 refl h.1 refl

pub returns-in-Err : goal.returns-in-Err
returns-in-Err c = refused_acts with_direction (item_tree c.args.array.now) (item_tree c.visit_array_elements-answer.new.self) (codes "Expected array") _ _ _ _ _ c.in-Err.is c.refusal.ensures
    c.visit_array_elements-answer.ensures.visited c.visit_array_elements-answer.ensures.refused
    (λ h. array_cut (λ f. f.1.now) _ (λ p q x y z s. search rules) h.2 refl h.1 refl)
    (λ e h. (no_array _ h.1, ap item_tree h.2))
