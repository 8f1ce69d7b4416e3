use Rattle.std.proofs.Common.{rules, arith, ◌-◌, ◌≡◌, ◌∙◌, refl, sym, ap, subst, drop}
use Rattle.std.specs.Prelude.{slice_get}
use Rattle.cbor_edn_core.specs.tree.View.{item_tree}
use Rattle.cbor_edn_core.specs.visit.Callbacks.{answer_of}
use Rattle.cbor_edn_model.specs.tree.Trees.{items}
use Rattle.cbor_edn_model.specs.visit.Visits.{fine}
use Rattle.cbor_edn_conversions.specs.Cose.{in_part, part_reply, with_parts}
use Rattle.cbor_edn_conversions.specs.CoseTables.{parts}
use Rattle.cbor_edn_application.specs.Handlers.{ValueAnswers}
use Rattle.cbor_edn_application.proofs.CoseParts.{no_levels, parts_inside, parts_of_other, part_step, replies_left, structures_left}
use Rattle.cbor_edn_application.proofs.ElementVisits.{no_elements, elements_whole, elements_kept}
use Rattle.cbor_edn_application.proofs.PassedItems.{passed_by, kept_by}
use Rattle.cbor_edn_application.proofs.VisitChains.{chain_keeps}
use Rattle.cbor_edn_application.proofs.cose.parts.+parts.Goals as goal

pub comment_parts-returns-then-levels-eq0-clause-parts : goal.comment_parts-returns-then-levels-eq0-clause-parts
comment_parts-returns-then-levels-eq0-clause-parts t c = no_levels c.args.levels c.args.structure (item_tree c.args.item.now) c.if-levels-eq0.true

pub comment_parts-visit_array_elements-answer-requires : goal.comment_parts-visit_array_elements-answer-requires
comment_parts-visit_array_elements-answer-requires t c κs = (
  (refl, tt),
  record {
    at = λ cs g chain all w has x is.
        let kept = chain_keeps _ (λ f. f.1.now ≡ c.args.levels - 1) (λ p q d keeps s. search rules) chain refl in
        (let d = c.decreases in let some = c.if-levels-eq0.false in omega (arith, kept, d, some), tt);
  },
)

pub comment_parts-returns-clause-parts : goal.comment_parts-returns-clause-parts
comment_parts-returns-clause-parts t c =
    let n = c.args.levels - 1 in
    let s = c.args.structure in
    let w = item_tree c.args.item.now in
    passed_by _ _ _ (λ e h. ap item_tree h.2 ∙ parts_of_other c.args.levels s w c.if-levels-eq0.false h.1) c.visit_array_elements-answer.result c.any_item.result c.any_item.ensures
    c.visit_array_elements-answer.ensures.visited c.visit_array_elements-answer.ensures.refused
    (λ h.
    elements_whole (λ i. part_reply (in_part (with_parts n)) (slice_get (parts s) i)) (λ i u. replies_left n (slice_get (parts s) i) u) (λ i g. (g.1.now ≡ n) × (g.2.now.now ≡ drop i (parts s))) _
    (λ i p q x y z holds k.
    let kept : q.1.now ≡ p.1.now = search rules in
    let next : q.2.now.now ≡ drop 1 p.2.now.now = search rules in
    let said : ValueAnswers (part_reply (in_part (with_parts p.1.now)) (slice_get p.2.now.now 0)) (item_tree x.now) (answer_of z) (item_tree y.now) = search rules in
    let step = part_step s p.1.now i p.2.now.now q.2.now.now (item_tree x.now) (item_tree y.now) (answer_of z) holds.1 next said in
    ((kept ∙ holds.0, step.0), subst (λ m. ValueAnswers (part_reply (in_part (with_parts m)) (slice_get (parts s) i)) (item_tree x.now) (answer_of z) (item_tree y.now)) holds.0 step.1))
    h.2 refl h.1 (refl, c.parts-rest.ensures)
    ∙ parts_inside c.args.levels s w c.if-levels-eq0.false)

pub comment_parts-returns-clause-items : goal.comment_parts-returns-clause-items
comment_parts-returns-clause-items t c =
    let n = c.args.levels - 1 in
    let s = c.args.structure in
    kept_by _ _ _ (λ e h. ap (λ x. items (item_tree x)) h.2) c.visit_array_elements-answer.result c.visit_array_elements-answer.ensures.visited c.visit_array_elements-answer.ensures.refused
    (λ r h.
    elements_kept (λ i. part_reply (in_part (with_parts n)) (slice_get (parts s) i)) (λ i u. replies_left n (slice_get (parts s) i) u) (λ i g. (g.1.now ≡ n) × (g.2.now.now ≡ drop i (parts s))) _
    (λ i p q x y z holds k.
    let kept : q.1.now ≡ p.1.now = search rules in
    let next : q.2.now.now ≡ drop 1 p.2.now.now = search rules in
    let said : ValueAnswers (part_reply (in_part (with_parts p.1.now)) (slice_get p.2.now.now 0)) (item_tree x.now) (answer_of z) (item_tree y.now) = search rules in
    let step = part_step s p.1.now i p.2.now.now q.2.now.now (item_tree x.now) (item_tree y.now) (answer_of z) holds.1 next said in
    ((kept ∙ holds.0, step.0), subst (λ m. ValueAnswers (part_reply (in_part (with_parts m)) (slice_get (parts s) i)) (item_tree x.now) (answer_of z) (item_tree y.now)) holds.0 step.1))
    h.2 h.1 (refl, c.parts-rest.ensures))

pub comment_each-visit_array_elements-answer-requires : goal.comment_each-visit_array_elements-answer-requires
comment_each-visit_array_elements-answer-requires t c κs = (
  (refl, tt),
  record {
    at = λ cs g chain all w has x is.
        let kept = chain_keeps _ (λ f. f.1.now ≡ c.args.levels) (λ p q d keeps s. search rules) chain refl in
        (let d = c.decreases in omega (arith, kept, d), tt);
  },
)

pub comment_each-returns-clause-each : goal.comment_each-returns-clause-each
comment_each-returns-clause-each t c =
    let w = item_tree c.args.item.now in
    passed_by _ _ _ (λ e h. ap item_tree h.2 ∙ sym (no_elements (λ i x. (fine, with_parts c.args.levels c.args.structure x)) w h.1)) c.visit_array_elements-answer.result c.any_item.result c.any_item.ensures
    c.visit_array_elements-answer.ensures.visited c.visit_array_elements-answer.ensures.refused
    (λ h.
    elements_whole (λ i x. (fine, with_parts c.args.levels c.args.structure x)) (λ i u. structures_left c.args.levels c.args.structure u) (λ i g. (g.1.now ≡ c.args.levels) × (g.2.now ≡ c.args.structure)) _
    (λ i p q x y z holds k.
    let kept : (q.1.now ≡ p.1.now) × (q.2.now ≡ p.2.now) = search rules in
    let said : ValueAnswers (λ u. (fine, with_parts p.1.now p.2.now u)) (item_tree x.now) (answer_of z) (item_tree y.now) = search rules in
    ((kept.0 ∙ holds.0, kept.1 ∙ holds.1), subst (λ m. ValueAnswers (λ u. (fine, with_parts c.args.levels m u)) (item_tree x.now) (answer_of z) (item_tree y.now)) holds.1 (subst (λ m. ValueAnswers (λ u. (fine, with_parts m p.2.now u)) (item_tree x.now) (answer_of z) (item_tree y.now)) holds.0 said)))
    h.2 refl h.1 (refl, refl))

pub comment_each-returns-clause-items : goal.comment_each-returns-clause-items
comment_each-returns-clause-items t c =
    kept_by _ _ _ (λ e h. ap (λ x. items (item_tree x)) h.2) c.visit_array_elements-answer.result c.visit_array_elements-answer.ensures.visited c.visit_array_elements-answer.ensures.refused
    (λ r h.
    elements_kept (λ i x. (fine, with_parts c.args.levels c.args.structure x)) (λ i u. structures_left c.args.levels c.args.structure u) (λ i g. (g.1.now ≡ c.args.levels) × (g.2.now ≡ c.args.structure)) _
    (λ i p q x y z holds k.
    let kept : (q.1.now ≡ p.1.now) × (q.2.now ≡ p.2.now) = search rules in
    let said : ValueAnswers (λ u. (fine, with_parts p.1.now p.2.now u)) (item_tree x.now) (answer_of z) (item_tree y.now) = search rules in
    ((kept.0 ∙ holds.0, kept.1 ∙ holds.1), subst (λ m. ValueAnswers (λ u. (fine, with_parts c.args.levels m u)) (item_tree x.now) (answer_of z) (item_tree y.now)) holds.1 (subst (λ m. ValueAnswers (λ u. (fine, with_parts m p.2.now u)) (item_tree x.now) (answer_of z) (item_tree y.now)) holds.0 said)))
    h.2 h.1 (refl, refl))
