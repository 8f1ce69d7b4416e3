-- The bytes of each leaf of a tree, and that they are borrowed from the text.
use Rattle.std.specs.Prelude.{ℕ, ℤ, pos, negsuc, ◌+◌, ◌<◌, ◌^◌, List}
use Rattle.cbor_edn_parts.specs.base.LeafTexts.{leaf_bytes, IsBorrowed}
use Rattle.cbor_edn_parts.specs.declared.space.Space.{Space}
use Rattle.cbor_edn_parts.specs.declared.space.MandatorySpace.{MandatorySpace}
use Rattle.cbor_edn_parts.specs.declared.space.Separator.{Separator}
use Rattle.cbor_edn_parts.specs.declared.space.ListEnd.{ListEnd}
use Rattle.cbor_edn_parts.specs.declared.number.Number.{Number}
use Rattle.cbor_edn_parts.specs.declared.string.Literal.{Literal}
use Rattle.cbor_edn_parts.specs.declared.string.Ellipsis.{Ellipsis}
use Rattle.cbor_edn_parts.specs.declared.number.Integer.{Integer}
use Rattle.cbor_edn_parts.specs.declared.number.Integer.TheVariants.{Positive, Negative}
use Rattle.cbor_edn_parts.specs.declared.number.small.SmallInteger.{SmallInteger}
use Rattle.cbor_edn_parts.specs.declared.number.small.SmallInteger.TheVariants as small

abbrev pub space_bytes : Space → List ℕ
space_bytes s = leaf_bytes s.text

abbrev pub mandatory_bytes : MandatorySpace → List ℕ
mandatory_bytes s = leaf_bytes s.text

abbrev pub separator_bytes : Separator → List ℕ
separator_bytes s = leaf_bytes s.text

abbrev pub list_end_bytes : ListEnd → List ℕ
list_end_bytes s = leaf_bytes s.text

abbrev pub number_bytes : Number → List ℕ
number_bytes n = leaf_bytes n.text

abbrev pub literal_bytes : Literal → List ℕ
literal_bytes l = leaf_bytes l.text

abbrev pub ellipsis_bytes : Ellipsis → List ℕ
ellipsis_bytes d = leaf_bytes d.text

abbrev pub BorrowsSpace : Space → Type 0
BorrowsSpace s = IsBorrowed s.text

abbrev pub BorrowsMandatory : MandatorySpace → Type 0
BorrowsMandatory s = IsBorrowed s.text

abbrev pub BorrowsSeparator : Separator → Type 0
BorrowsSeparator s = IsBorrowed s.text

abbrev pub BorrowsListEnd : ListEnd → Type 0
BorrowsListEnd s = IsBorrowed s.text

abbrev pub BorrowsNumber : Number → Type 0
BorrowsNumber n = IsBorrowed n.text

abbrev pub BorrowsLiteral : Literal → Type 0
BorrowsLiteral l = IsBorrowed l.text

abbrev pub BorrowsEllipsis : Ellipsis → Type 0
BorrowsEllipsis d = IsBorrowed d.text

-- the integer of a value
abbrev pub integer : Integer → ℤ
integer (Positive n) = pos n
integer (Negative n) = negsuc n

-- the same of one that a head of CBOR holds
abbrev pub small_integer : SmallInteger → ℤ
small_integer (small.Positive n) = pos n
small_integer (small.Negative n) = negsuc n

-- the magnitude is below 2^128
abbrev pub HasMagnitude : Integer → Type 0
HasMagnitude (Positive n) = n < 2 ^ 128
HasMagnitude (Negative n) = n + 1 < 2 ^ 128
