-- Where an item ends, and the space behind it.
use Rattle.std.specs.Prelude.{ℕ, ◌≡◌, ◌≤◌, List, drop, slice_range, Option, Some, None}
use Rattle.std.specs.Str.{IsCharBoundary}
use Rattle.cbor_edn_parts.specs.internal.Lex.{token}
use Rattle.cbor_edn_parts.specs.internal.SpaceTokens.{space}
use Rattle.cbor_edn_parts.specs.declared.space.read.ItemEnd.{ItemEnd}

-- the place up to which the text is read
abbrev pub reached_of : ℕ → Option ℕ → ℕ
reached_of at None = at
reached_of at (Some to) = to

abbrev pub reached : ItemEnd → ℕ
reached end = reached_of end.at end.space

-- The space that is read is all that stands behind the item.
abbrev pub IsSpaced : List ℕ → ℕ → Option ℕ → Type 0
IsSpaced text at None = Unit {0}
IsSpaced text at (Some to) = (at ≤ to) × IsCharBoundary text to × (token space (drop at text) ≡ Some (slice_range text at to, drop to text))

abbrev pub IsEnd : List ℕ → ItemEnd → Type 0
IsEnd text end = IsCharBoundary text end.at × IsSpaced text end.at end.space
