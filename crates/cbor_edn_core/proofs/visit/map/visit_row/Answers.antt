use Rattle.std.proofs.Common.{◌≡◌, ◌<◌, ◌+◌, [], ◌∷◌, ◌++◌, length, map, set, get_or, arith, rules, refl, sym, ap, ◌∙◌, subst}
use Rattle.std.specs.List.{Contains}
use Rattle.std.proofs.Math.ListN.{length-set}
use Rattle.std.proofs.lemmas.List.{drop-set-lt}
use Rattle.std.proofs.lemmas.List.Elements.{All-push}
use Rattle.std.proofs.lemmas.Grind.{drop_more_same}
use Rattle.cbor_edn_parts.specs.declared.space.Separator.{Separator}
use Rattle.cbor_edn_model.specs.tree.TreeLeaves.{texts}
use Rattle.cbor_edn_model.specs.visit.Visits.{VisitPair, cut, no_calls, one_call}
use Rattle.cbor_edn_model.specs.internal.Visiting.{VisitFront}
use Rattle.cbor_edn_model.proofs.lemmas.visit.VisitedRows.{Chain-append, seen_here, key_called_at, nothing_visited, one_visited, one_cut}
use Rattle.cbor_edn_model.proofs.lemmas.layout.Begun.{kept, same_here}
use Rattle.cbor_edn_core.proofs.lemmas.visit.ElementVisits.{cut_short}
use Rattle.cbor_edn_core.specs.tree.View.{Pair, row_key, seen_pair}
use Rattle.cbor_edn_core.proofs.visit.map.visit_row.Goals as goal

pub loop-pair-init : goal.loop-pair-init
loop-pair-init g c = record { so_far = ([], no_calls, λ k d h. absurd (omega arith), nothing_visited); same_length = ap length c.deref_mut-pair-items.ensures.value; rest = c.deref_mut-pair-items.ensures.value }

pub visit_pair-requires : goal.visit_pair-requires
visit_pair-requires g c κs =
    let l = c.loop-pair in
    let xs = c.args.row.now.items in
    let so_far = l.invariant.so_far in
    let same : get_or l.pair-items l.pair-index c.loop-pair-item.result ≡ get_or xs l.pair-index c.loop-pair-item.result = same_here l.pair-items xs l.pair-index c.loop-pair-item.result l.invariant.rest in
    let inside : l.pair-index < length xs = omega (arith, l.invariant.same_length) in
    let found = subst (λ p. Contains (map row_key xs) (row_key p)) (sym same) (seen_here row_key xs l.pair-index c.loop-pair-item.result inside) in
    ((refl, tt), λ x e. c.requires.callable.at so_far.0 l.f so_far.1 so_far.2 _ found x e)

pub returns-in_err-visit_pair : goal.returns-in_err-visit_pair
returns-in_err-visit_pair g c =
    let l = c.loop-pair in
    let xs = c.args.row.now.items in
    let ys = l.pair-items in
    let i = l.pair-index in
    let so_far = l.invariant.so_far in
    let x = get_or ys i c.loop-pair-item.result in
    let y : Pair × Separator = (c.visit_pair.new.pair, c.visit_pair.new.space) in
    let here : get_or xs i x ≡ x = sym (same_here ys xs i x l.invariant.rest) ∙ sym (ap (λ a. get_or ys i a) c.loop-pair-item.is) in
    let inside : i < length xs = omega (arith, l.invariant.same_length) in
    let v = c.in_err-visit_pair.ensures.visited in
    let found = subst (Contains (map row_key xs)) (ap row_key here ∙ sym (key_called_at v.2)) (seen_here row_key xs i x inside) in
    record {
      visited = (
        so_far.0 ++ v.0 ∷ [],
        Chain-append so_far.1 (one_call v.1 no_calls),
        All-push (λ d. Contains (map row_key xs) d.at_key.before) so_far.0 v.0 so_far.2 found,
        rw (cut_short c.from_residual.result c.from_residual.ensures.0)
            (subst (λ zs. VisitFront VisitPair (map (seen_pair texts) xs) (so_far.0 ++ v.0 ∷ []) (map (seen_pair texts) zs) cut) (sym (kept (set ys i y) _ c.args.row.now.len (search (rules)))) (one_cut (seen_pair texts) xs ys x y i so_far.0 v.0 inside l.invariant.same_length here l.invariant.rest so_far.3 v.2)),
      );
    }

pub loop-pair-preserved : goal.loop-pair-preserved
loop-pair-preserved g c =
    let l = c.loop-pair in
    let xs = c.args.row.now.items in
    let ys = l.pair-items in
    let i = l.pair-index in
    let so_far = l.invariant.so_far in
    let x = get_or ys i c.loop-pair-item.result in
    let y : Pair × Separator = (c.visit_pair.new.pair, c.visit_pair.new.space) in
    let here : get_or xs i x ≡ x = sym (same_here ys xs i x l.invariant.rest) ∙ sym (ap (λ a. get_or ys i a) c.loop-pair-item.is) in
    let inside : i < length xs = omega (arith, l.invariant.same_length) in
    let v = c.in_ok-visit_pair.ensures.visited in
    let found = subst (Contains (map row_key xs)) (ap row_key here ∙ sym (key_called_at v.2)) (seen_here row_key xs i x inside) in
    record {
      so_far = (
        so_far.0 ++ v.0 ∷ [],
        Chain-append so_far.1 (one_call v.1 no_calls),
        All-push (λ d. Contains (map row_key xs) d.at_key.before) so_far.0 v.0 so_far.2 found,
        one_visited (seen_pair texts) xs ys x y i so_far.0 v.0 inside l.invariant.same_length here so_far.3 v.2,
      );
      same_length = length-set _ i _ ∙ l.invariant.same_length;
      rest = drop-set-lt (i + 1) ys i y (omega arith) ∙ drop_more_same ys xs i l.invariant.rest;
    }
