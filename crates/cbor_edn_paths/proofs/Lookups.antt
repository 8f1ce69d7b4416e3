-- The keys and values of a map.
use Rattle.std.proofs.Common.{◌≡◌, ◌∷◌, map, refl, ap}
use Rattle.cbor_edn_model.specs.access.Accessed.{entries, key_and_value}
use Rattle.cbor_edn_model.specs.tree.Items.{Pairs}
use Rattle.cbor_edn_model.specs.tree.Trees.{Tree, Rest, PairTree, EmptyTree, FullTree, LastTree, MoreTree, items}
use Rattle.cbor_edn_paths.specs.Found.{pairs_in}
use Rattle.cbor_edn_paths.specs.PathLaws.{both_items, MapPairs}

row_pairs : (m : Tree (Rest Pairs)) → pairs_in (items m) ≡ map both_items (map key_and_value (entries m))
unfolding items
row_pairs (LastTree (PairTree v s t w) e) = refl
row_pairs (MoreTree (PairTree v s t w) e m) = ap (λ ps. (items v, items w) ∷ ps) (row_pairs m)

pub map_pairs : MapPairs
unfolding items
map_pairs (EmptyTree i s) = refl
map_pairs (FullTree h s m) = row_pairs m
