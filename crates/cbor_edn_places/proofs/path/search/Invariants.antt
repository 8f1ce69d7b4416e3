use Rattle.cbor_edn_core.specs.tree.View.{sequence_tree}
use Rattle.cbor_edn_model.specs.access.Paths.{items_in}
use Rattle.cbor_edn_places.specs.internal.Levels.{places_behind}
use Rattle.cbor_edn_places.proofs.FirstPlaces.{Leads, IsTold}
use Rattle.cbor_edn_places.proofs.path.search.Given as goal

-- the path leads to the places that are left, and has a number once a reason is known
abbrev pub invariant-levels : goal.invariant-levels
invariant-levels l = record {
  way : Leads (items_in (sequence_tree l.fn.sequence)) l.path.items (places_behind l.place.items (sequence_tree l.sequence));
  told : IsTold l.path.items l.reason;
}
