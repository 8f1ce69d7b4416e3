-- Whether a tag stands in the entries of a row, or in its pieces.
use Rattle.std.specs.Prelude.{ℕ, Bool, false, ◌||◌, List, [], ◌∷◌}
use Rattle.cbor_edn_model.specs.visit.Tagged.{has_tag}
use Rattle.cbor_edn_model.specs.tree.Items.{Row}
use Rattle.cbor_edn_model.specs.tree.Trees.{Tree, OneEntry, OnePiece}

abbrev pub entries_have_tag : {k : Row} → List (Tree (OneEntry k) × List ℕ) → Bool
entries_have_tag [] = false
entries_have_tag (p ∷ ps) = has_tag p.0 || entries_have_tag ps

abbrev pub pieces_have_tag : List (Tree OnePiece × List ℕ × List ℕ) → Bool
pieces_have_tag [] = false
pieces_have_tag (p ∷ ps) = has_tag p.0 || pieces_have_tag ps
