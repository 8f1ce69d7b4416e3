-- Rows that grow at their end.
use Rattle.std.specs.Prelude.{List, [], ◌∷◌, ◌++◌, map, Option, Some, None}
use Rattle.cbor_edn_parts.specs.declared.space.Separator.{Separator}
use Rattle.cbor_edn_core.specs.declared.cbor.decode.row_builder.RowBuilder.{RowBuilder}

-- the last entry alone, if there is one
abbrev pub last_alone : {X : Type 0} → Option X → List X
last_alone None = []
last_alone (Some x) = x ∷ []

-- each entry without its separator, then the last
abbrev pub entries : {X : Type 0} → List (X × Separator) → Option X → List X
entries row last = map (λ p. p.0) row ++ last_alone last

-- the entries so far
abbrev pub grown : {X : Type 0} → RowBuilder X → List X
grown g = entries g.row.items g.last
