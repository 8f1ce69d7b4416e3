-- What a column makes of each kind of space text but separators.
use Rattle.std.proofs.Common.{ℕ, ◌≡◌, List, ◌++◌, refl}
use Rattle.cbor_edn_parts.specs.internal.CommentReading.{comments_of}
use Rattle.cbor_edn_parts.specs.space.Spacing.{Optional, Mandatory, AtEnd, Spacing, Least, Comments, OneLine, NewLine, OneSpace, line, or_space, comments_before, comments_after, spaced}
use Rattle.cbor_edn_parts.specs.internal.Columns.{in_column}

pub optional_column : (c : Spacing) (x : List ℕ) → in_column c (comments_of x) ≡ spaced Optional c x
optional_column Least x = refl
optional_column Comments x = refl
optional_column OneLine x = refl
optional_column (NewLine n) x = refl
optional_column OneSpace x = refl

line_some : (n : ℕ) (t : List ℕ) → or_space (line n ++ t) ≡ line n ++ t
unfolding line
line_some n t = refl

pub mandatory_column : (c : Spacing) (x : List ℕ) → or_space (in_column c (comments_of x)) ≡ spaced Mandatory c x
mandatory_column Least x = refl
mandatory_column Comments x = refl
mandatory_column OneLine x = refl
mandatory_column (NewLine n) x = line_some n (comments_of x)
mandatory_column OneSpace x = refl

pub at_end_column : (c : Spacing) (x : List ℕ) → in_column c (comments_before x ++ comments_after x) ≡ spaced AtEnd c x
at_end_column Least x = refl
at_end_column Comments x = refl
at_end_column OneLine x = refl
at_end_column (NewLine n) x = refl
at_end_column OneSpace x = refl
