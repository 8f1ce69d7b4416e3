-- How deep rows nest, by their entries.
use Rattle.std.proofs.Common.{ℕ, max, ◌≡◌, List, [], ◌∷◌, arith}
use Rattle.cbor_edn_model.specs.visit.Depth.{depth}
use Rattle.cbor_edn_model.specs.tree.Items.{Row}
use Rattle.cbor_edn_model.specs.tree.Rows.{entries_onto, pieces_onto}
use Rattle.cbor_edn_model.specs.tree.Trees.{Tree, OneEntry, OnePiece, OneString, Rest}
use Rattle.cbor_edn_model.specs.internal.Depths.{entries_depth, pieces_depth}

pub depth_entries : {k : Row} (ps : List (Tree (OneEntry k) × List ℕ)) (m : Tree (Rest k)) → depth (entries_onto ps m) ≡ max (entries_depth ps) (depth m)
unfolding depth
depth_entries [] m = omega arith
depth_entries (p ∷ ps) m = let h = depth_entries ps m in omega (arith, h)

pub depth_pieces : (ps : List (Tree OnePiece × List ℕ × List ℕ)) (w : Tree OneString) → depth (pieces_onto ps w) ≡ max (pieces_depth ps) (depth w)
unfolding depth
depth_pieces [] w = omega arith
depth_pieces (p ∷ ps) w = let h = depth_pieces ps w in omega (arith, h)
