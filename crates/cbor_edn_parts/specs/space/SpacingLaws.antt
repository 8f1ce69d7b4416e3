-- The laws of the table of spaces, as contracts name them.
use Rattle.std.specs.Prelude.{ℕ, ◌<◌, Bool, true, List, ◌++◌, ◌≡◌, All}
use Rattle.cbor_edn_parts.specs.space.Notes.{noted}
use Rattle.cbor_edn_parts.specs.space.Space.{IsMandatorySpace}
use Rattle.cbor_edn_parts.specs.internal.SpaceTokens.{is_space, is_mandatory_space, is_separator, is_list_end}
use Rattle.cbor_edn_parts.specs.space.Spacing.{SpaceKind, Optional, Mandatory, Separating, AtEnd, Spacing, Least, spaced}

-- whether a text is of a kind
abbrev pub is_of : SpaceKind → List ℕ → Bool
is_of Optional x = is_space x
is_of Mandatory x = is_mandatory_space x
is_of Separating x = is_separator x
is_of AtEnd x = is_list_end x

-- every column but the first
abbrev pub KeepsComments : Spacing → Type 0
KeepsComments Least = ⊥
KeepsComments _ = Unit {0}

-- A space text of a kind stays one of its kind.
abbrev pub StaysOfKind : Type 0
StaysOfKind = (k : SpaceKind) (c : Spacing) (x : List ℕ) → is_of k x ≡ true → is_of k (spaced k c x) ≡ true

-- What a column that keeps comments makes of a space text, each column changes as it changes the text itself.
abbrev pub ForgetsColumn : Type 0
ForgetsColumn = (k : SpaceKind) (c d : Spacing) (x : List ℕ) → KeepsComments d → is_of k x ≡ true → spaced k c (spaced k d x) ≡ spaced k c x

-- The note of a comment is a space text that is not empty, and in front of a space text of a kind it leaves one of this kind.
abbrev pub NotesAreSpace : Type 0
NotesAreSpace = (c : List ℕ) → All (λ b. b < 256) c → IsMandatorySpace (noted c)

abbrev pub NotesInFront : Type 0
NotesInFront = (k : SpaceKind) (c x : List ℕ) → All (λ b. b < 256) c → is_of k x ≡ true → is_of k (noted c ++ x) ≡ true
