-- Lines and columns.
use Rattle.std.specs.Prelude.{ℕ, ◌+◌, ◌≡◌, Bool, ◌==◌, ◌&&◌, not, nat_le, nat_lt, if◌then◌else◌, List, [], ◌∷◌, take, count_by}
use Rattle.std.specs.List.{list_any}
use Rattle.std.specs.Str.{IsCharBoundary}

abbrev pub is_line_feed : ℕ → Bool
is_line_feed c = c == 10

-- a byte with which a character begins
abbrev pub is_start : ℕ → Bool
is_start c = not (nat_le 128 c && nat_lt c 192)

-- the line and the column behind a byte
abbrev pub location_behind : ℕ → ℕ → ℕ → ℕ × ℕ
location_behind c line column = if is_line_feed c then (line + 1, 1) else if is_start c then (line, column + 1) else (line, column)

-- what follows the last line feed
unfoldable pub last_line : List ℕ → List ℕ
last_line [] = []
last_line (c ∷ cs) = if list_any is_line_feed cs then last_line cs else if is_line_feed c then cs else c ∷ cs

-- the location of an offset in a text
pub record IsLocation (text : List ℕ) (offset line column : ℕ) : Type 0 where
  pub boundary : IsCharBoundary text offset
  pub line_is : line ≡ 1 + count_by is_line_feed (take offset text)
  pub column_is : column ≡ 1 + count_by is_start (last_line (take offset text))
