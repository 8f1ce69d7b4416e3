use Rattle.std.proofs.Common.{◌≡◌, List, length, take, drop, map, All}
use Rattle.std.specs.List.{Contains}
use Rattle.cbor_edn_model.specs.tree.TreeLeaves.{texts}
use Rattle.cbor_edn_model.specs.visit.Visits.{Call, Chain, VisitElement, whole}
use Rattle.cbor_edn_model.specs.internal.Visiting.{VisitFront}
use Rattle.cbor_edn_core.specs.visit.Callbacks.{IsCall}
use Rattle.cbor_edn_core.specs.tree.View.{item_tree, row_item, seen}
use Rattle.cbor_edn_core.proofs.visit.array.visit_row.Given as goal

abbrev pub invariant-loop-item : goal.invariant-loop-item
invariant-loop-item g l = record {
  so_far : (cs : List Call) × Chain (IsCall item_tree g.F.FnMut) l.fn.f cs l.f × All (λ c. Contains (map row_item l.fn.row.items) c.before) cs
      × VisitFront VisitElement (map (seen texts) (take l.item-index l.fn.row.items)) cs (map (seen texts) (take l.item-index l.item-items)) whole;
  same_length : length l.item-items ≡ length l.fn.row.items;
  rest : drop l.item-index l.item-items ≡ drop l.item-index l.fn.row.items;
}
