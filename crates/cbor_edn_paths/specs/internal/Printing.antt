-- The text of a path in two parts.
use Rattle.std.specs.Prelude.{ℕ, List, [], ◌∷◌, Option, Some, None}
use Rattle.cbor_edn_paths.specs.Steps.{Key, Step, Path}
use Rattle.cbor_edn_paths.specs.Spelling.{numbered}

-- what stands in front of the steps
abbrev pub begin_text_of : Option ℕ → List (Step Key) → List ℕ
begin_text_of None [] = 46 ∷ []
begin_text_of None (s ∷ ss) = []
begin_text_of (Some n) ss = numbered 64 (Some n)

abbrev pub begin_text : Path → List ℕ
begin_text p = begin_text_of p.start p.steps
