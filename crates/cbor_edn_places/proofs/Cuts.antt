-- A first path has a front that leads to an item of another sequence with as many items.
use Prim.Native.Nat.{zero}
use Rattle.std.proofs.Common.{◌≡◌, ◌≢◌, ℕ, suc, ◌<◌, List, [], ◌∷◌, None, refl, length, arith}
use Rattle.std.specs.Prelude.{slice_get, option_and_then}
use Rattle.std.proofs.lemmas.Option.{slice_get_within}
use Rattle.cbor_edn_model.specs.access.Paths.{items_in, at}
use Rattle.cbor_edn_model.specs.tree.Trees.{Tree, OneItem, Seq}
use Rattle.cbor_edn_places.specs.Places.{IsCut, IsFirstPath}
use Rattle.cbor_edn_places.proofs.FirstPlaces.{not_both}

one_there : (xs : List (Tree OneItem)) (i : ℕ) → i < length xs → option_and_then (at []) (slice_get xs i) ≡ None → ⊥
one_there [] i less none = omega (arith, less)
one_there (x ∷ xs) zero less none = not_both none
one_there (x ∷ xs) (suc i) less none = one_there xs i (omega (arith, less)) none

pub leads_to_item : (v w : Tree Seq) (path cut : List ℕ) → length (items_in v) ≡ length (items_in w) → path ≢ [] → IsFirstPath (items_in v) path → IsCut w path cut → cut ≢ []
leads_to_item v w [] cut same some first h = absurd (some refl)
leads_to_item v w (i ∷ path) [] same some (x, first, rest) h =
    let less : i < length (items_in w) = omega (arith, slice_get_within (items_in v) i x first.there, same) in
    absurd (one_there (items_in w) i less (h.longest 1 (omega arith) (omega arith)))
leads_to_item v w (i ∷ path) (j ∷ cut) same some first h = λ e. cc
