-- The comments of a space text, and its comma, computed: laws of `Comments.antt` tie these to the sets.
use Rattle.std.specs.Prelude.{ℕ, Bool, true, false, cond, eqb, ◌||◌, ◌&&◌, List, [], ◌∷◌}
use Rattle.cbor_edn_parts.specs.declared.space.SpaceState.{SpaceState}
use Rattle.cbor_edn_parts.specs.declared.space.SpaceState.TheVariants.{Between, InSlashes, InHash}

abbrev pub is_blank : ℕ → Bool
is_blank c = eqb c 9 || (eqb c 10 || (eqb c 13 || eqb c 32))

-- where a byte leads: into a comment, on in it, or behind it
abbrev pub past : SpaceState → ℕ → SpaceState
past Between c = cond (eqb c 47) InSlashes (cond (eqb c 35) InHash Between)
past InSlashes c = cond (eqb c 47) Between InSlashes
past InHash c = cond (eqb c 10) Between InHash

abbrev pub is_between : SpaceState → Bool
is_between Between = true
is_between _ = false

-- the text without the blanks that it begins with
unfoldable pub from_first : List ℕ → List ℕ
from_first [] = []
from_first (c ∷ x) = cond (is_blank c) (from_first x) (c ∷ x)

-- a byte in front of others; a blank in front of none is left out
abbrev pub unless_last : Bool → ℕ → List ℕ → List ℕ
unless_last true c [] = []
unless_last _ c x = c ∷ x

-- the text without the blanks behind its last comment
unfoldable pub to_last : SpaceState → List ℕ → List ℕ
to_last m [] = []
to_last m (c ∷ x) = unless_last (is_between m && is_blank c) c (to_last (past m c) x)

-- The part from the first comment to the end of the last: what `IsCommentsOf` says of a space text is exactly this.
abbrev pub comments_of : List ℕ → List ℕ
comments_of x = to_last Between (from_first x)

-- a comma that stands in no comment
abbrev pub is_comma : SpaceState → ℕ → Bool
is_comma m c = is_between m && eqb c 44

unfoldable pub up_to_comma : SpaceState → List ℕ → List ℕ
up_to_comma m [] = []
up_to_comma m (c ∷ x) = cond (is_comma m c) [] (c ∷ up_to_comma (past m c) x)

unfoldable pub past_comma : SpaceState → List ℕ → List ℕ
past_comma m [] = []
past_comma m (c ∷ x) = cond (is_comma m c) x (past_comma (past m c) x)

-- What stands in front of the comma of a separator, all of it where it has none, and what stands behind it.
abbrev pub before_comma : List ℕ → List ℕ
before_comma x = up_to_comma Between x

abbrev pub after_comma : List ℕ → List ℕ
after_comma x = past_comma Between x
