-- Items that are wider or narrower than so many columns.
use Rattle.std.specs.Prelude.{◌≡◌, ℕ, ◌-◌, ◌*◌, ◌^◌, ◌<◌, ◌≤◌, min, List, None, Ok}
use Rattle.cbor_edn_parts.specs.declared.space.policy.Spacing.TheVariants.{OneLine}
use Rattle.cbor_edn_parts.specs.declared.string.StringKind.{StringKind}
use Rattle.cbor_edn_parts.specs.space.LayoutColumns.{of_parts}
use Rattle.cbor_edn_model.specs.declared.layout.width.Spaces.TheVariants.{By}
use Rattle.cbor_edn_model.specs.tree.Trees.{Tree, OneItem}
use Rattle.cbor_edn_model.specs.layout.Layout.{Layout, Kept, Inline, Lines}
use Rattle.cbor_edn_model.specs.internal.CborReading.{item_at, string_by, trees}
use Rattle.cbor_edn_model.specs.internal.Widths.{width, measured}

-- wider than any item
abbrev pub greatest : ℕ
greatest = 2 ^ 64 - 1

-- how many columns of the line are left
abbrev pub front_columns : Layout → ℕ
front_columns Kept = 0
front_columns (Inline column) = 0
front_columns (Lines base end level width) = width - base

-- how many bytes are read first: nine for each column
abbrev pub front_room : Layout → ℕ
front_room l = min (front_columns l * 9) greatest

-- what bytes begin with, by any limit, is wider on a single line
abbrev pub IsWider : ℕ → List ℕ → Type 0
IsWider columns bytes = (limit : ℕ) (t : Tree OneItem) (rest : List ℕ) → item_at trees limit bytes ≡ Ok (t, rest) → columns < width (By OneLine) t

-- what bytes begin with, by any limit, is narrower on a single line
abbrev pub IsNarrower : ℕ → List ℕ → Type 0
IsNarrower columns bytes = (limit : ℕ) (t : Tree OneItem) (rest : List ℕ) → item_at trees limit bytes ≡ Ok (t, rest) → width (By OneLine) t < columns

-- the layout of the parts of what bytes begin with, by any limit
abbrev pub IsOfParts : Layout → Layout → List ℕ → Type 0
IsOfParts l parts bytes = (limit : ℕ) (t : Tree OneItem) (rest : List ℕ) → item_at trees limit bytes ≡ Ok (t, rest) → parts ≡ of_parts l (measured t)

-- the string of indefinite length behind whose head bytes stand is narrower on a single line, or no narrower
abbrev pub IsNarrowStream : ℕ → StringKind → List ℕ → Type 0
IsNarrowStream columns k bytes = (t : Tree OneItem) (rest : List ℕ) → string_by trees k None bytes ≡ Ok (t, rest) → width (By OneLine) t < columns

abbrev pub IsWideStream : ℕ → StringKind → List ℕ → Type 0
IsWideStream columns k bytes = (t : Tree OneItem) (rest : List ℕ) → string_by trees k None bytes ≡ Ok (t, rest) → columns ≤ width (By OneLine) t

-- the layout of its strings
abbrev pub IsOfChunks : Layout → Layout → StringKind → List ℕ → Type 0
IsOfChunks l parts k bytes = (t : Tree OneItem) (rest : List ℕ) → string_by trees k None bytes ≡ Ok (t, rest) → parts ≡ of_parts l (measured t)
