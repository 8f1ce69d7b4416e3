-- What a column puts in front of comments.
use Rattle.std.specs.Prelude.{ℕ, ◌+◌, List, [], ◌∷◌, ◌++◌}
use Rattle.cbor_edn_parts.specs.space.Spacing.{Spacing, Least, Comments, OneLine, NewLine, OneSpace, line}

-- comments behind the blanks of a column
abbrev pub in_column : Spacing → List ℕ → List ℕ
in_column Least t = []
in_column Comments t = t
in_column OneLine t = t
in_column (NewLine n) t = line n ++ t
in_column OneSpace t = 32 ∷ t

-- the comma of a column, with no comment round it
abbrev pub comma_in_column : Spacing → List ℕ
comma_in_column Least = 44 ∷ []
comma_in_column Comments = 44 ∷ []
comma_in_column OneLine = 44 ∷ 32 ∷ []
comma_in_column (NewLine n) = 44 ∷ line n
comma_in_column OneSpace = 32 ∷ 44 ∷ []

-- how long so many bytes of comments are behind the blanks of a column
abbrev pub column_length : Spacing → ℕ → ℕ
column_length Least k = 0
column_length Comments k = k
column_length OneLine k = k
column_length (NewLine n) k = k + n + 1
column_length OneSpace k = k + 1

-- how long a separator with so many bytes of comments is
abbrev pub separator_length : Spacing → ℕ → ℕ
separator_length Least k = 1
separator_length Comments k = k + 1
separator_length OneLine k = k + 2
separator_length (NewLine n) k = k + n + 2
separator_length OneSpace k = k + 2
