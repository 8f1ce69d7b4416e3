-- Delimiter policies, and the table by which they change one space text.
use Rattle.std.specs.Prelude.{ℕ, ◌≤◌, ⊤, List, [], ◌∷◌, ◌++◌, replicate}
use Rattle.cbor_edn_parts.specs.internal.CommentReading.{comments_of, before_comma, after_comma}
-- The policies, and the columns of the table below, which say what is done with one space text: enums of `src/policy.rt`. The numbers of
-- `IndentedRegularSpacing` are `base_indent`, `indent_level` and `max_width`.
pub use Rattle.cbor_edn_parts.specs.declared.space.policy.DelimiterPolicy.{DelimiterPolicy}
pub use Rattle.cbor_edn_parts.specs.declared.space.policy.DelimiterPolicy.TheVariants.{DiscardAll, DiscardAllButComments, SingleLineRegularSpacing, IndentedRegularSpacing, SingleSpace}
pub use Rattle.cbor_edn_parts.specs.declared.space.policy.Spacing.{Spacing}
pub use Rattle.cbor_edn_parts.specs.declared.space.policy.Spacing.TheVariants.{Least, Comments, OneLine, NewLine, OneSpace}

-- no indentation at first, then by four spaces, on lines of less than 80 bytes
abbrev pub indented : DelimiterPolicy
indented = IndentedRegularSpacing 0 4 80

-- The four kinds of space text between tokens.
pub data SpaceKind : Type 0 where
  -- optional space
  Optional : SpaceKind
  -- mandatory space
  Mandatory : SpaceKind
  -- a separator: a comma, space, or both
  Separating : SpaceKind
  -- space with one comma or none
  AtEnd : SpaceKind

-- a line feed and so many spaces
unfoldable pub line : ℕ → List ℕ
line n = 10 ∷ replicate n 32

-- The columns whose blanks take no memory: a line of more than 64 spaces does.
abbrev pub IsShortSpacing : Spacing → Type 0
IsShortSpacing (NewLine n) = n ≤ 64
IsShortSpacing _ = ⊤

-- one space in place of nothing
abbrev pub or_space : List ℕ → List ℕ
or_space [] = 32 ∷ []
or_space (c ∷ x) = c ∷ x

-- the comments in front of the comma, and those behind it
abbrev pub comments_before : List ℕ → List ℕ
comments_before x = comments_of (before_comma x)

abbrev pub comments_after : List ℕ → List ℕ
comments_after x = comments_of (after_comma x)

-- The table: comments always stay, but in the first column. A separator has its comma in every column, and the end of a list in none.
abbrev pub spaced : SpaceKind → Spacing → List ℕ → List ℕ
spaced Optional Least x = []
spaced Optional Comments x = comments_of x
spaced Optional OneLine x = comments_of x
spaced Optional (NewLine n) x = line n ++ comments_of x
spaced Optional OneSpace x = 32 ∷ comments_of x
spaced Mandatory Least x = 32 ∷ []
spaced Mandatory Comments x = or_space (comments_of x)
spaced Mandatory OneLine x = or_space (comments_of x)
spaced Mandatory (NewLine n) x = line n ++ comments_of x
spaced Mandatory OneSpace x = 32 ∷ comments_of x
spaced Separating Least x = 44 ∷ []
spaced Separating Comments x = comments_before x ++ (44 ∷ comments_after x)
spaced Separating OneLine x = comments_before x ++ (44 ∷ 32 ∷ comments_after x)
spaced Separating (NewLine n) x = comments_before x ++ (44 ∷ (line n ++ comments_after x))
spaced Separating OneSpace x = 32 ∷ (comments_before x ++ (44 ∷ comments_after x))
spaced AtEnd Least x = []
spaced AtEnd Comments x = comments_before x ++ comments_after x
spaced AtEnd OneLine x = comments_before x ++ comments_after x
spaced AtEnd (NewLine n) x = line n ++ (comments_before x ++ comments_after x)
spaced AtEnd OneSpace x = 32 ∷ (comments_before x ++ comments_after x)
