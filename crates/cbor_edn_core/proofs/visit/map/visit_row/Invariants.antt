use Rattle.std.proofs.Common.{◌≡◌, List, length, take, drop, map, All}
use Rattle.std.specs.List.{Contains}
use Rattle.cbor_edn_model.specs.tree.TreeLeaves.{texts}
use Rattle.cbor_edn_model.specs.visit.Visits.{KeyCall, Chain, VisitPair, whole}
use Rattle.cbor_edn_model.specs.internal.Visiting.{VisitFront}
use Rattle.cbor_edn_core.specs.visit.Callbacks.{IsKeyCall}
use Rattle.cbor_edn_core.specs.tree.View.{item_tree, row_key, seen_pair}
use Rattle.cbor_edn_core.proofs.visit.map.visit_row.Given as goal

abbrev pub invariant-loop-pair : goal.invariant-loop-pair
invariant-loop-pair g l = record {
  so_far : (cs : List KeyCall) × Chain (IsKeyCall item_tree g.F.FnMut g.H.MapValueHandler.handles) l.fn.f cs l.f × All (λ c. Contains (map row_key l.fn.row.items) c.at_key.before) cs
      × VisitFront VisitPair (map (seen_pair texts) (take l.pair-index l.fn.row.items)) cs (map (seen_pair texts) (take l.pair-index l.pair-items)) whole;
  same_length : length l.pair-items ≡ length l.fn.row.items;
  rest : drop l.pair-index l.pair-items ≡ drop l.pair-index l.fn.row.items;
}
