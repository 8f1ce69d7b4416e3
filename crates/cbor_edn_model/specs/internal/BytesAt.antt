-- What stands at a place of a text.
use Rattle.std.specs.Prelude.{ℕ, ◌+◌, ◌-◌, ◌≡◌, ◌≢◌, min, List, [], ◌∷◌, length, drop}
use Rattle.std.specs.Str.{IsCharBoundary}
use Rattle.cbor_edn_model.specs.internal.LookCosts.{longest_keyword}

-- how many reads a keyword may take that does not stand there: none is longer
abbrev pub ahead : List ℕ → ℕ → ℕ
ahead text at = min longest_keyword (length text - at)

-- This byte stands there, and a character behind it begins.
abbrev pub IsByteAt : List ℕ → ℕ → ℕ → Type 0
IsByteAt text at b = (drop at text ≡ b ∷ drop (at + 1) text) × IsCharBoundary text (at + 1)

-- This byte does not stand in front.
abbrev pub IsNotAt : ℕ → List ℕ → Type 0
IsNotAt b [] = Unit {0}
IsNotAt b (c ∷ cs) = c ≢ b
