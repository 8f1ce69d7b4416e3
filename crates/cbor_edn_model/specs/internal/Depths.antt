-- How deep the entries of a row nest, and its pieces.
use Rattle.std.specs.Prelude.{ℕ, max, List, [], ◌∷◌}
use Rattle.cbor_edn_model.specs.visit.Depth.{depth}
use Rattle.cbor_edn_model.specs.tree.Items.{Row}
use Rattle.cbor_edn_model.specs.tree.Trees.{Tree, OneEntry, OnePiece}

abbrev pub entries_depth : {k : Row} → List (Tree (OneEntry k) × List ℕ) → ℕ
entries_depth [] = 0
entries_depth (p ∷ ps) = max (depth p.0) (entries_depth ps)

abbrev pub pieces_depth : List (Tree OnePiece × List ℕ × List ℕ) → ℕ
pieces_depth [] = 0
pieces_depth (p ∷ ps) = max (depth p.0) (pieces_depth ps)
