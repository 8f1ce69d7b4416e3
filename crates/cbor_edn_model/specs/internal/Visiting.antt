-- The front of a row that is visited.
use Rattle.std.specs.Prelude.{ℕ, List, ◌++◌}
use Rattle.cbor_edn_model.specs.tree.Items.{Row}
use Rattle.cbor_edn_model.specs.tree.Trees.{OneEntry, Rest, Tree}
use Rattle.cbor_edn_model.specs.tree.Rows.{entries_onto}
use Rattle.cbor_edn_model.specs.visit.Visits.{EntryVisit, Ending, whole, cut, VisitEntries}

-- entries, each with the separator behind it, whatever follows them
abbrev pub VisitFront : {C : Type 0} {k : Row} → EntryVisit C k → List (Tree (OneEntry k) × List ℕ) → List C → List (Tree (OneEntry k) × List ℕ) → Ending → Type 0
VisitFront {C} {k} One ps cs qs whole = (m n : Tree (Rest k)) (ds : List C) (r : Ending) → VisitEntries One m ds n r → VisitEntries One (entries_onto ps m) (cs ++ ds) (entries_onto qs n) r
VisitFront {C} {k} One ps cs qs cut = (m : Tree (Rest k)) → VisitEntries One (entries_onto ps m) cs (entries_onto qs m) cut
