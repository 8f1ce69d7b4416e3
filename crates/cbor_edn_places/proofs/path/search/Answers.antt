use Rattle.std.proofs.Common.{◌≡◌, ◌∙◌, ◌++◌, ◌∷◌, [], None, Some, ap, sym, subst, rules}
use Rattle.cbor_edn_core.specs.tree.View.{sequence_tree}
use Rattle.cbor_edn_model.specs.access.Paths.{items_in}
use Rattle.cbor_edn_places.specs.internal.Levels.{places_behind}
use Rattle.cbor_edn_places.proofs.FirstPlaces.{Leads, next_level, finished, not_empty}
use Rattle.cbor_edn_places.proofs.path.search.Goals as goal

pub returns-in_default : goal.returns-in_default
returns-in_default c =
    let none : c.in_ok-number.field-0 ≡ None = search rules in
    finished (sequence_tree c.args.sequence.now) (sequence_tree c.levels.sequence) c.levels.place.items c.levels.path c.levels.reason c.in_ok-number.field-0 c.with_reason.result
    c.levels.invariant.way c.levels.invariant.told c.in_ok-number.ensures.found none c.with_reason.ensures

pub levels-preserved : goal.levels-preserved
levels-preserved c =
    let is : c.in_ok-number.field-0 ≡ Some (c.in-Some.number, c.in-Some.fault) = search (rules, c.in-Some.is, c.in-Some.number-is, c.in-Some.fault-is) in
    let longer : c.push.new.self.items ≡ c.levels.path.items ++ (c.in-Some.number ∷ []) = c.in_ok-push.ensures.items in
    let placed : c.deref.result.now ≡ c.levels.place.items ++ (c.in-Some.number ∷ []) = c.deref.ensures.value ∙ (c.in_ok-push-2.ensures.items ∙ ap (λ q. q ++ (c.in-Some.number ∷ [])) c.in_ok-number.ensures.path) in
    let lone : c.push-in-levels-2.new.self.items ≡ 0 ∷ [] = c.in_ok-push-3.ensures.items ∙ ap (λ q. q ++ (0 ∷ [])) c.clear.ensures.items in
    let way = next_level (items_in (sequence_tree c.args.sequence.now)) c.levels.path.items c.push.new.self.items c.levels.place.items c.deref.result.now (sequence_tree c.leave.new.sequence)
    (sequence_tree c.first_of.new.sequence) (sequence_tree c.levels.sequence) c.in_ok-number.field-0 (c.in-Some.number, c.in-Some.fault) c.levels.invariant.way c.in_ok-number.ensures.found is
    c.in_ok-number.ensures.same placed c.in_ok-leave.ensures longer in
    record {
      way = subst (λ q. Leads (items_in (sequence_tree c.args.sequence.now)) c.push.new.self.items (places_behind q (sequence_tree c.leave.new.sequence))) (sym lone) way;
      told = λ e. not_empty c.levels.path.items c.in-Some.number (sym longer ∙ e);
    }
