use Rattle.std.proofs.Common.{[], ◌∷◌, ◌++◌, map, refl, sym, ap, ◌∙◌, subst}
use Rattle.cbor_edn_parts.specs.declared.space.Space.{Space}
use Rattle.cbor_edn_parts.specs.declared.space.MandatorySpace.{MandatorySpace}
use Rattle.cbor_edn_parts.specs.declared.space.Separator.{Separator}
use Rattle.cbor_edn_parts.specs.declared.space.ListEnd.{ListEnd}
use Rattle.cbor_edn_parts.specs.declared.number.Number.{Number}
use Rattle.cbor_edn_parts.specs.declared.string.Literal.{Literal}
use Rattle.cbor_edn_parts.specs.declared.string.Ellipsis.{Ellipsis}
use Rattle.cbor_edn_core.specs.declared.tree.PairsOf.{out-PairsOf, roll-PairsOf, out-roll-PairsOf}
use Rattle.cbor_edn_model.specs.access.Accessed.{key, entries}
use Rattle.cbor_edn_model.specs.tree.TreeLeaves.{texts}
use Rattle.cbor_edn_model.specs.visit.Visits.{one_call, no_calls, whole, VisitPair}
use Rattle.cbor_edn_model.specs.internal.Visiting.{VisitFront}
use Rattle.cbor_edn_model.proofs.lemmas.visit.VisitedRows.{Chain-append}
use Rattle.cbor_edn_core.specs.tree.View.{item_tree, row_key, seen_pair, view_pairs}
use Rattle.cbor_edn_core.proofs.lemmas.visit.ElementVisits.{narrowed, key_inside, last_key_inside, pairs_cut, pairs_visited, cut_short}
use Rattle.cbor_edn_core.proofs.visit.map.visit_pairs.Goals as goal

pub visit_row-requires : goal.visit_row-requires
visit_row-requires g c κs =
    let o = out-PairsOf Space MandatorySpace Separator ListEnd Number Literal Ellipsis c.args.pairs.now in
    ((refl, tt), narrowed (map key (entries (view_pairs texts c.args.pairs.now))) (map row_key o.row.items) c.requires.callable (key_inside c.args.pairs.now))

pub returns-in_err-visit_row : goal.returns-in_err-visit_row
returns-in_err-visit_row g c =
    let o = out-PairsOf Space MandatorySpace Separator ListEnd Number Literal Ellipsis c.args.pairs.now in
    let v = c.in_err-visit_row.ensures.visited in
    record { visited = (v.0, v.1, rw (cut_short c.from_residual.result c.from_residual.ensures.0) (pairs_cut c.args.pairs.now _ (record { row = c.visit_row.new.row; last = o.last; end = o.end }) v.0 refl refl refl v.3)) }

pub visit_pair-requires : goal.visit_pair-requires
visit_pair-requires g c κs =
    let o = out-PairsOf Space MandatorySpace Separator ListEnd Number Literal Ellipsis c.args.pairs.now in
    let v = c.in_ok-visit_row.ensures.visited in
    let back = out-roll-PairsOf Space MandatorySpace Separator ListEnd Number Literal Ellipsis (record { row = c.visit_row.new.row; last = o.last; end = o.end }) in
    ((refl, tt), λ x e. c.requires.callable.at v.0 c.visit_row.new.f v.1 (λ k d h. key_inside c.args.pairs.now _ (v.2 k d h)) _ (last_key_inside c.args.pairs.now) x (e ∙ ap (λ f. item_tree f.last.key) back))

pub returns : goal.returns
returns g c =
    let x = c.args.pairs.now in
    let out = out-PairsOf Space MandatorySpace Separator ListEnd Number Literal Ellipsis in
    let o = out x in
    let v = c.in_ok-visit_row.ensures.visited in
    let u = c.visit_pair.ensures.visited in
    let p = roll-PairsOf Space MandatorySpace Separator ListEnd Number Literal Ellipsis (record { row = c.visit_row.new.row; last = o.last; end = o.end }) in
    let back = out-roll-PairsOf Space MandatorySpace Separator ListEnd Number Literal Ellipsis (record { row = c.visit_row.new.row; last = o.last; end = o.end }) in
    record {
      visited = (
        v.0 ++ u.0 ∷ [],
        Chain-append v.1 (one_call u.1 no_calls),
        pairs_visited x p _ c.visit_pair.new.pair c.visit_pair.new.space v.0 u.0 _ refl (ap (λ f. f.last) back) (ap (λ f. f.end) back)
            (subst (λ f. VisitFront VisitPair (map (seen_pair texts) o.row.items) v.0 (map (seen_pair texts) f.row.items) whole) (sym back) v.3) u.2,
      );
    }
