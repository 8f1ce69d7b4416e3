-- Laws of paths.
use Rattle.std.specs.Prelude.{ℕ, ◌≡◌, List, [], ◌∷◌, Option, Some, None, slice_get, option_and_then, map}
use Rattle.cbor_edn_model.specs.access.Accessed.{entries_inside, key_and_value}
use Rattle.cbor_edn_model.specs.tree.Items.{Item, Items, Map, Node}
use Rattle.cbor_edn_model.specs.tree.Trees.{Tree, OneItem, Inside, items}
use Rattle.cbor_edn_paths.specs.Steps.{Step, Path}
use Rattle.cbor_edn_paths.specs.Spelling.{IsPath, Spells, path_text}
use Rattle.cbor_edn_paths.specs.Found.{below, pairs_in, found_in, Found, At, Missed}

-- A text is that of one path at most. So what is printed of a path is read as that path, and as no other.
abbrev pub PathsReadBack : Type 0
PathsReadBack = (p q : Path) → IsPath p → Spells (path_text p) q → q ≡ p

-- the item where numbers lead, each of which counts the items right below
abbrev pub at_items : List ℕ → Node Item → Option (Node Item)
at_items [] x = Some x
at_items (i ∷ path) x = option_and_then (at_items path) (slice_get (below x) i)

-- the same from a sequence, whose items the first number counts
abbrev pub at_items_in : List ℕ → Items → Option (Node Item)
at_items_in [] xs = None
at_items_in (i ∷ path) xs = option_and_then (at_items path) (slice_get (below xs) i)

abbrev pub IsAt : Items → Found → Type 0
IsAt xs (At path y) = at_items_in path xs ≡ Some y
IsAt xs (Missed n e) = Unit {0}

-- Whatever the start and the steps: the numbers that a path answers lead to the item that it answers.
abbrev pub NumbersLeadThere : Type 0
NumbersLeadThere = (start : Option ℕ) (steps : List (Step (List ℕ))) (xs : Items) → IsAt xs (found_in start steps xs)

abbrev pub both_items : Tree OneItem × Tree OneItem → Node Item × Node Item
both_items p = (items p.0, items p.1)

-- The keys and values of a map that an accessor of its tree answers are those among which paths look.
abbrev pub MapPairs : Type 0
MapPairs = (w : Tree (Inside Map)) → pairs_in (items w).1 ≡ map both_items (map key_and_value (entries_inside w))
