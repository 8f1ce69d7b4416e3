use Rattle.std.proofs.Common.{[], ◌∷◌, ◌++◌, map, refl, sym, ap, ◌∙◌, subst}
use Rattle.cbor_edn_parts.specs.declared.space.Space.{Space}
use Rattle.cbor_edn_parts.specs.declared.space.MandatorySpace.{MandatorySpace}
use Rattle.cbor_edn_parts.specs.declared.space.Separator.{Separator}
use Rattle.cbor_edn_parts.specs.declared.space.ListEnd.{ListEnd}
use Rattle.cbor_edn_parts.specs.declared.number.Number.{Number}
use Rattle.cbor_edn_parts.specs.declared.string.Literal.{Literal}
use Rattle.cbor_edn_parts.specs.declared.string.Ellipsis.{Ellipsis}
use Rattle.cbor_edn_core.specs.declared.tree.ItemsOf.{out-ItemsOf, roll-ItemsOf, out-roll-ItemsOf}
use Rattle.cbor_edn_model.specs.access.Accessed.{element, entries}
use Rattle.cbor_edn_model.specs.tree.TreeLeaves.{texts}
use Rattle.cbor_edn_model.specs.visit.Visits.{one_call, no_calls, whole, VisitElement}
use Rattle.cbor_edn_model.specs.internal.Visiting.{VisitFront}
use Rattle.cbor_edn_model.proofs.lemmas.visit.VisitedRows.{Chain-append}
use Rattle.cbor_edn_core.specs.tree.View.{item_tree, row_item, seen, view_items}
use Rattle.cbor_edn_core.proofs.lemmas.visit.ElementVisits.{narrowed, row_inside, last_inside, items_cut, items_visited, cut_short}
use Rattle.cbor_edn_core.proofs.visit.array.visit_items.Goals as goal

pub visit_row-requires : goal.visit_row-requires
visit_row-requires g c κs =
    let o = out-ItemsOf Space MandatorySpace Separator ListEnd Number Literal Ellipsis c.args.items.now in
    ((refl, tt), narrowed (map element (entries (view_items texts c.args.items.now))) (map row_item o.row.items) c.requires.callable (row_inside c.args.items.now))

pub returns-in_err-visit_row : goal.returns-in_err-visit_row
returns-in_err-visit_row g c =
    let o = out-ItemsOf Space MandatorySpace Separator ListEnd Number Literal Ellipsis c.args.items.now in
    let v = c.in_err-visit_row.ensures.visited in
    record { visited = (v.0, v.1, rw (cut_short c.from_residual.result c.from_residual.ensures.0) (items_cut c.args.items.now _ (record { row = c.visit_row.new.row; last = o.last; end = o.end }) v.0 refl refl refl v.3)) }

pub visit_element-requires : goal.visit_element-requires
visit_element-requires g c κs =
    let o = out-ItemsOf Space MandatorySpace Separator ListEnd Number Literal Ellipsis c.args.items.now in
    let v = c.in_ok-visit_row.ensures.visited in
    let back = out-roll-ItemsOf Space MandatorySpace Separator ListEnd Number Literal Ellipsis (record { row = c.visit_row.new.row; last = o.last; end = o.end }) in
    ((refl, tt), λ x e. c.requires.callable.at v.0 c.visit_row.new.f v.1 (λ k d h. row_inside c.args.items.now _ (v.2 k d h)) _ (last_inside c.args.items.now) x (e ∙ ap (λ f. item_tree f.last) back))

pub returns : goal.returns
returns g c =
    let x = c.args.items.now in
    let out = out-ItemsOf Space MandatorySpace Separator ListEnd Number Literal Ellipsis in
    let o = out x in
    let v = c.in_ok-visit_row.ensures.visited in
    let u = c.visit_element.ensures.visited in
    let p = roll-ItemsOf Space MandatorySpace Separator ListEnd Number Literal Ellipsis (record { row = c.visit_row.new.row; last = o.last; end = o.end }) in
    let back = out-roll-ItemsOf Space MandatorySpace Separator ListEnd Number Literal Ellipsis (record { row = c.visit_row.new.row; last = o.last; end = o.end }) in
    record {
      visited = (
        v.0 ++ u.0 ∷ [],
        Chain-append v.1 (one_call u.1 no_calls),
        items_visited x p _ c.visit_element.new.item c.visit_element.new.space v.0 u.0 _ refl (ap (λ f. f.last) back) (ap (λ f. f.end) back)
            (subst (λ f. VisitFront VisitElement (map (seen texts) o.row.items) v.0 (map (seen texts) f.row.items) whole) (sym back) v.3) u.2,
      );
    }
