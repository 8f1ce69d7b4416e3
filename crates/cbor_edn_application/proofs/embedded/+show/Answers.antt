use Rattle.std.proofs.Common.{rules, arith, inl, inr, ◌-◌, ◌≡◌, ◌∙◌, refl, sym, ap, option_map}
use Rattle.cbor_edn_core.specs.tree.View.{item_tree, sequence_tree}
use Rattle.cbor_edn_conversions.specs.EmbeddedItems.{show_embedded}
use Rattle.cbor_edn_application.proofs.EmbeddedCalls.{stays_without, stays_other, stays_undecoded, becomes_embedded, inside_shown, room_is}
use Rattle.cbor_edn_application.proofs.VisitChains.{chain_keeps, items_visited}
use Rattle.cbor_edn_application.proofs.embedded.+show.Goals as goal
use Rattle.cbor_edn_application.proofs.embedded.+show.Goals.{show_embedded-then-levels-eq0-via-then-levels-eq0, show_embedded-then-levels-eq0-via-else-levels-eq0+then-limit-eq0}

pub show_embedded-returns-then-levels-eq0 : goal.show_embedded-returns-then-levels-eq0
show_embedded-returns-then-levels-eq0 t c =
    stays_without c.args.levels c.args.limit (item_tree c.args.item.now)
    (elim c.then-levels-eq0.branch [
      | show_embedded-then-levels-eq0-via-then-levels-eq0 w ↦ inl w.if-levels-eq0.true
      | show_embedded-then-levels-eq0-via-else-levels-eq0+then-limit-eq0 w ↦ inr w.if-limit-eq0.true
    ])

pub show_embedded-returns-in_default : goal.show_embedded-returns-in_default
show_embedded-returns-in_default t c =
    stays_other c.args.levels c.args.limit (item_tree c.args.item.now) (sym c.get_literal_indicator.ensures ∙ c.in_default.is)

pub show_embedded-returns-in_default-2 : goal.show_embedded-returns-in_default-2
show_embedded-returns-in_default-2 t c =
    stays_undecoded c.args.levels c.args.limit (item_tree c.args.item.now) c.if-levels-eq0.false c.if-limit-eq0.false (sym c.in_ok-structure.ensures ∙ ap (option_map item_tree) c.in_default-2.is)

pub show_embedded-returns : goal.show_embedded-returns
show_embedded-returns t c =
    let w = item_tree c.args.item.now in
    let s = item_tree c.in-Some-2.structure in
    let k = c.room_beside-room.result in
    let u = sequence_tree c.show_inside.new.sequence in
    becomes_embedded c.args.levels c.args.limit w s (item_tree c.in_ok-item.field-0) u c.in-Some.indicator k c.if-levels-eq0.false c.if-limit-eq0.false
    (sym c.in_ok-structure.ensures ∙ ap (option_map item_tree) c.in-Some-2.is) (sym c.get_literal_indicator.ensures ∙ c.in-Some.is)
    (room_is (c.args.limit - 1) c.nesting.result k s c.room_beside-room.ensures c.nesting.ensures)
    (inside_shown (c.args.levels - 1) k s (sequence_tree c.of_item-content.result) u c.of_item-content.ensures c.in_ok-show_inside.ensures) c.in_ok-item.ensures

pub show_inside-visit_application_items-requires : goal.show_inside-visit_application_items-requires
show_inside-visit_application_items-requires t c κs = (
  (refl, tt),
  record {
    at = λ cs g chain a x is.
        let kept = chain_keeps _ (λ f. (f.1.now ≡ c.args.levels) × (f.2.now ≡ c.args.limit)) (λ p q d keeps s. search rules) chain (refl, refl) in
        (let same = kept.0 in let d = c.decreases in (omega (arith, same, d), tt));
  },
)

pub show_inside-returns : goal.show_inside-returns
show_inside-returns t c =
    items_visited (show_embedded c.args.levels c.args.limit) (λ f. (f.1.now ≡ c.args.levels) × (f.2.now ≡ c.args.limit)) _ _ _ _ _ _ (refl, refl) _ (λ p q x y z keeps s. search rules)
    c.visit_application_items.ensures.visited
