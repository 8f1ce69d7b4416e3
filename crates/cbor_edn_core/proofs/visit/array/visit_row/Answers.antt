use Rattle.std.proofs.Common.{◌≡◌, ◌<◌, ◌+◌, [], ◌∷◌, ◌++◌, length, map, set, get_or, arith, rules, refl, sym, ap, ◌∙◌, subst}
use Rattle.std.specs.List.{Contains}
use Rattle.std.proofs.Math.ListN.{length-set}
use Rattle.std.proofs.lemmas.List.{drop-set-lt}
use Rattle.std.proofs.lemmas.List.Elements.{All-push}
use Rattle.std.proofs.lemmas.Grind.{drop_more_same}
use Rattle.cbor_edn_parts.specs.declared.space.Separator.{Separator}
use Rattle.cbor_edn_model.specs.tree.TreeLeaves.{texts}
use Rattle.cbor_edn_model.specs.visit.Visits.{VisitElement, cut, no_calls, one_call}
use Rattle.cbor_edn_model.specs.internal.Visiting.{VisitFront}
use Rattle.cbor_edn_model.proofs.lemmas.visit.VisitedRows.{Chain-append, seen_here, called_at, nothing_visited, one_visited, one_cut}
use Rattle.cbor_edn_model.proofs.lemmas.layout.Begun.{kept, same_here}
use Rattle.cbor_edn_core.proofs.lemmas.visit.ElementVisits.{cut_short}
use Rattle.cbor_edn_core.specs.tree.View.{Item, row_item, seen}
use Rattle.cbor_edn_core.proofs.visit.array.visit_row.Goals as goal

pub loop-item-init : goal.loop-item-init
loop-item-init g c = record { so_far = ([], no_calls, λ k d h. absurd (omega arith), nothing_visited); same_length = ap length c.deref_mut-item-items.ensures.value; rest = c.deref_mut-item-items.ensures.value }

pub visit_element-requires : goal.visit_element-requires
visit_element-requires g c κs =
    let l = c.loop-item in
    let xs = c.args.row.now.items in
    let so_far = l.invariant.so_far in
    let same : get_or l.item-items l.item-index c.loop-item-item.result ≡ get_or xs l.item-index c.loop-item-item.result = same_here l.item-items xs l.item-index c.loop-item-item.result l.invariant.rest in
    let inside : l.item-index < length xs = omega (arith, l.invariant.same_length) in
    let found = subst (λ p. Contains (map row_item xs) (row_item p)) (sym same) (seen_here row_item xs l.item-index c.loop-item-item.result inside) in
    ((refl, tt), λ x e. c.requires.callable.at so_far.0 l.f so_far.1 so_far.2 _ found x e)

pub returns-in_err-visit_element : goal.returns-in_err-visit_element
returns-in_err-visit_element g c =
    let l = c.loop-item in
    let xs = c.args.row.now.items in
    let ys = l.item-items in
    let i = l.item-index in
    let so_far = l.invariant.so_far in
    let x = get_or ys i c.loop-item-item.result in
    let y : Item × Separator = (c.visit_element.new.item, c.visit_element.new.space) in
    let here : get_or xs i x ≡ x = sym (same_here ys xs i x l.invariant.rest) ∙ sym (ap (λ a. get_or ys i a) c.loop-item-item.is) in
    let inside : i < length xs = omega (arith, l.invariant.same_length) in
    let v = c.in_err-visit_element.ensures.visited in
    let found = subst (Contains (map row_item xs)) (ap row_item here ∙ sym (called_at v.2)) (seen_here row_item xs i x inside) in
    record {
      visited = (
        so_far.0 ++ v.0 ∷ [],
        Chain-append so_far.1 (one_call v.1 no_calls),
        All-push (λ d. Contains (map row_item xs) d.before) so_far.0 v.0 so_far.2 found,
        rw (cut_short c.from_residual.result c.from_residual.ensures.0)
            (subst (λ zs. VisitFront VisitElement (map (seen texts) xs) (so_far.0 ++ v.0 ∷ []) (map (seen texts) zs) cut) (sym (kept (set ys i y) _ c.args.row.now.len (search (rules)))) (one_cut (seen texts) xs ys x y i so_far.0 v.0 inside l.invariant.same_length here l.invariant.rest so_far.3 v.2)),
      );
    }

pub loop-item-preserved : goal.loop-item-preserved
loop-item-preserved g c =
    let l = c.loop-item in
    let xs = c.args.row.now.items in
    let ys = l.item-items in
    let i = l.item-index in
    let so_far = l.invariant.so_far in
    let x = get_or ys i c.loop-item-item.result in
    let y : Item × Separator = (c.visit_element.new.item, c.visit_element.new.space) in
    let here : get_or xs i x ≡ x = sym (same_here ys xs i x l.invariant.rest) ∙ sym (ap (λ a. get_or ys i a) c.loop-item-item.is) in
    let inside : i < length xs = omega (arith, l.invariant.same_length) in
    let v = c.in_ok-visit_element.ensures.visited in
    let found = subst (Contains (map row_item xs)) (ap row_item here ∙ sym (called_at v.2)) (seen_here row_item xs i x inside) in
    record {
      so_far = (
        so_far.0 ++ v.0 ∷ [],
        Chain-append so_far.1 (one_call v.1 no_calls),
        All-push (λ d. Contains (map row_item xs) d.before) so_far.0 v.0 so_far.2 found,
        one_visited (seen texts) xs ys x y i so_far.0 v.0 inside l.invariant.same_length here so_far.3 v.2,
      );
      same_length = length-set _ i _ ∙ l.invariant.same_length;
      rest = drop-set-lt (i + 1) ys i y (omega arith) ∙ drop_more_same ys xs i l.invariant.rest;
    }
