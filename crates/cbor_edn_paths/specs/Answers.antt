-- What a reader of paths answers.
use Rattle.std.specs.Prelude.{ℕ, ◌+◌, ◌≡◌, ◌≤◌, ◌<◌, List, ◌++◌, length, take, count_by}
use Rattle.cbor_edn_parts.specs.base.Location.{is_start}
use Rattle.cbor_edn_paths.specs.Steps.{Path}
use Rattle.cbor_edn_paths.specs.Spelling.{Spells}

abbrev pub IsNone : List ℕ → Type 0
IsNone text = (p : Path) → Spells text p → ⊥

-- some path begins so
abbrev pub Begins : List ℕ → Type 0
Begins front = (rest : List ℕ) × (p : Path) × Spells (front ++ rest) p

-- The text is no path, and behind so many bytes ends its longest front with which a path begins: there the byte stands that leads no further, or the text ends too early.
pub record IsFaultBehind (text : List ℕ) (count : ℕ) : Type 0 where
  pub within : count ≤ length text
  pub begins : Begins (take count text)
  pub no_further : (n : ℕ) → count < n → n ≤ length text → Begins (take n text) → ⊥
  pub none : IsNone text

-- the column of such a place, in characters from 1
abbrev pub IsFaultColumn : List ℕ → ℕ → Type 0
IsFaultColumn text column = (count : ℕ) × IsFaultBehind text count × (column ≡ 1 + count_by is_start (take count text))
