-- What is found at one level of a path.
use Rattle.std.specs.Prelude.{◌≡◌, ◌≢◌, ℕ, ◌<◌, slice_get, Bool, true, List, [], ◌∷◌, ◌++◌, Option, Some, None}
use Rattle.cbor_edn_parts.specs.declared.base.error.InconsistentEdn.{InconsistentEdn}
use Rattle.cbor_edn_model.specs.tree.Trees.{Tree, OneItem, Seq, LastTree, ElementTree, SequenceTree, items}
use Rattle.cbor_edn_model.specs.cbor.Value.{Value}
use Rattle.cbor_edn_model.specs.cbor.Meaning.{means}
use Rattle.cbor_edn_model.specs.access.Paths.{items_in, at_sequence}
use Rattle.cbor_edn_places.specs.Places.{is_open, places_in, AllMean, IsFirstAt, IsFirstPath}
use Rattle.cbor_edn_places.specs.declared.path.Found.{Found}
use Rattle.cbor_edn_places.specs.declared.path.Found.TheVariants.{Nowhere, Valued, Valueless}

-- a path leads to an item that means nothing
abbrev pub IsValueless : Tree Seq → List ℕ → Type 0
IsValueless w path = (x : Tree OneItem) × (at_sequence path w ≡ Some x) × (means (items x) ≡ None)

-- a path leads nowhere, or to an item that means a value
abbrev pub IsFree : Tree Seq → List ℕ → Type 0
IsFree w path = (x : Tree OneItem) → at_sequence path w ≡ Some x → means (items x) ≡ None → ⊥

abbrev pub IsFoundOf : Option Value → Found → Type 0
IsFoundOf meaning Nowhere = ⊥
IsFoundOf meaning Valued = meaning ≡ None → ⊥
IsFoundOf meaning (Valueless e) = meaning ≡ None

abbrev pub IsFoundAt : List ℕ → Tree Seq → Found → Type 0
IsFoundAt path w Nowhere = at_sequence path w ≡ None
IsFoundAt path w Valued = IsFree w path
IsFoundAt path w (Valueless e) = IsValueless w path

-- no item right behind a path means nothing
abbrev pub NoneBehind : Tree Seq → List ℕ → Type 0
NoneBehind w path = (k : ℕ) → IsFree w (path ++ (k ∷ []))

-- none in front of the k-th does
abbrev pub NoneBefore : Tree Seq → List ℕ → ℕ → Type 0
NoneBefore w path k = (j : ℕ) → j < k → IsFree w (path ++ (j ∷ []))

abbrev pub IsFirstBeside : List ℕ → Tree Seq → Option (ℕ × InconsistentEdn) → Type 0
IsFirstBeside path w None = NoneBehind w path
IsFirstBeside path w (Some p) = IsValueless w (path ++ (p.0 ∷ [])) × NoneBefore w path p.0

-- the same among items
abbrev pub IsFirstOf : List (Tree OneItem) → Option (ℕ × InconsistentEdn) → Type 0
IsFirstOf xs None = AllMean xs
IsFirstOf xs (Some p) = (x : Tree OneItem) × IsFirstAt xs p.0 x

abbrev pub is_open_there : Option (Tree OneItem) → Bool
is_open_there None = true
is_open_there (Some x) = is_open x

abbrev pub places_there : Option (Tree OneItem) → List (Tree OneItem)
places_there None = []
places_there (Some x) = places_in x

-- whether the items behind a path are places, and those that are: of the empty path all
abbrev pub is_open_at : List ℕ → Tree Seq → Bool
is_open_at [] w = true
is_open_at (i ∷ path) w = is_open_there (at_sequence (i ∷ path) w)

abbrev pub places_behind : List ℕ → Tree Seq → List (Tree OneItem)
places_behind [] w = items_in w
places_behind (i ∷ path) w = places_there (at_sequence (i ∷ path) w)

-- the sequence of one item, without space
abbrev pub alone : Tree OneItem → Tree Seq
alone x = SequenceTree [] (LastTree (ElementTree x) [])

-- where the path leads to an item, it is all that is left
abbrev pub IsLeft : List ℕ → Tree Seq → Tree Seq → Type 0
IsLeft path w v = (x : Tree OneItem) → at_sequence path w ≡ Some x → v ≡ alone x

-- ---- of a path that is known

-- The items behind a path are places, and none in front of the k-th means nothing.
abbrev pub AreFrontValued : List ℕ → ℕ → Tree Seq → Type 0
AreFrontValued path k w = (is_open_at path w ≡ true) × NoneBefore w path k

-- the item where a path leads, which is all that is left
abbrev pub IsPart : List ℕ → Tree Seq → Tree Seq → Type 0
IsPart path w v = (x : Tree OneItem) × (at_sequence path w ≡ Some x) × (v ≡ alone x)

abbrev pub IsEntered : List ℕ → ℕ → Tree Seq → Tree Seq → Type 0
IsEntered path k w v = AreFrontValued path k w × IsPart (path ++ (k ∷ [])) w v

-- An item means nothing, while each place in it means a value.
abbrev pub IsOwn : List ℕ → Tree Seq → Type 0
IsOwn path w = IsValueless w path × AllMean (places_behind path w)

-- An item means nothing, and the path in it leads to the first that does.
abbrev pub IsReasonAt : List ℕ → Tree OneItem → Type 0
IsReasonAt path x = (means (items x) ≡ None) × IsFirstPath (places_in x) path

-- the same of the one item of a sequence
abbrev pub IsReasonIn : List ℕ → Tree Seq → Type 0
IsReasonIn path w = (x : Tree OneItem) → w ≡ alone x → IsReasonAt path x

abbrev pub IsReasonOf : List ℕ → Tree Seq → Type 0
IsReasonOf path w = (path ≢ []) × IsFirstPath (items_in w) path
