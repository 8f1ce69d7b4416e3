-- The first item of a sequence that means nothing.
use Rattle.std.specs.Prelude.{◌≡◌, ◌≢◌, ℕ, ◌<◌, ◌≤◌, nat_le, length, take, slice_get, Bool, ◌||◌, if◌then◌else◌, List, [], ◌∷◌, Option, Some, None, Vec}
use Rattle.cbor_edn_parts.specs.declared.base.error.InconsistentEdn.{InconsistentEdn}
use Rattle.cbor_edn_model.specs.tree.Trees.{Tree, OneItem, Seq, items}
use Rattle.cbor_edn_model.specs.cbor.Meaning.{means}
use Rattle.std.specs.Option.{is_some}
use Rattle.cbor_edn_model.specs.access.Accessed.{array_items, map_items, tag_number}
use Rattle.cbor_edn_model.specs.access.Paths.{items_in, at_sequence}

-- an array, a map or a tag
abbrev pub is_structure : Tree OneItem → Bool
is_structure x = (is_some (array_items x) || is_some (map_items x)) || is_some (tag_number x)

-- whether items below an item are places of their own: those that a string embeds only where they are few
abbrev pub is_open : Tree OneItem → Bool
is_open x = is_structure x || nat_le (length (items_in x)) 64

abbrev pub places_in : Tree OneItem → List (Tree OneItem)
places_in x = if is_open x then items_in x else []

-- each of these items means a value
abbrev pub AllMean : List (Tree OneItem) → Type 0
AllMean xs = (j : ℕ) (y : Tree OneItem) → slice_get xs j ≡ Some y → means (items y) ≢ None

-- x stands at i among these items and means nothing, and each before it means a value
pub record IsFirstAt (xs : List (Tree OneItem)) (i : ℕ) (x : Tree OneItem) : Type 0 where
  pub there : slice_get xs i ≡ Some x
  pub valueless : means (items x) ≡ None
  pub before : (j : ℕ) (y : Tree OneItem) → j < i → slice_get xs j ≡ Some y → means (items y) ≢ None

-- Each number of a path picks the first that means nothing: of these items, and then of the places in the item before. Of the places in the last item each means a value.
abbrev pub IsFirstPath : List (Tree OneItem) → List ℕ → Type 0
IsFirstPath xs [] = AllMean xs
IsFirstPath xs (i ∷ path) = (x : Tree OneItem) × IsFirstAt xs i x × IsFirstPath (places_in x) path

-- Such a path of one number or more, from the items of a sequence; or none, where each item means a value.
abbrev pub IsFound : {A : Type 0} → Tree Seq → Option (Vec ℕ A × InconsistentEdn) → Type 0
IsFound w None = AllMean (items_in w)
IsFound w (Some p) = (p.0.items ≢ []) × IsFirstPath (items_in w) p.0.items

-- A front of a path, behind which no longer one leads to an item.
pub record IsCut (w : Tree Seq) (path cut : List ℕ) : Type 0 where
  pub front : cut ≡ take (length cut) path
  pub longest : (n : ℕ) → length cut < n → n ≤ length path → at_sequence (take n path) w ≡ None
