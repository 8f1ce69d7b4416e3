-- How the space text at a slot of a tree is changed by a delimiter policy.
use Rattle.std.specs.Prelude.{ℕ, ◌+◌, ◌-◌, ◌^◌, min, nat_lt, if◌then◌else◌, List, Option, None, Some}
use Rattle.cbor_edn_parts.specs.space.Spacing.{SpaceKind, spaced}
use Rattle.cbor_edn_parts.specs.declared.space.policy.DelimiterPolicy.{DelimiterPolicy}
use Rattle.cbor_edn_parts.specs.declared.space.policy.DelimiterPolicy.TheVariants.{DiscardAll, DiscardAllButComments, SingleLineRegularSpacing, IndentedRegularSpacing, SingleSpace}
use Rattle.cbor_edn_parts.specs.declared.space.policy.Spacing.{Spacing}
use Rattle.cbor_edn_parts.specs.declared.space.policy.Spacing.TheVariants.{Least, Comments, OneLine, NewLine, OneSpace}
-- How the spaces of a part of a tree are changed, and the slots of space texts: enums of `src/layout.rt`. The numbers of `Lines`
-- are `base`, `end`, `level` and `width`.
pub use Rattle.cbor_edn_parts.specs.declared.space.layout.Layout.{Layout}
pub use Rattle.cbor_edn_parts.specs.declared.space.layout.Layout.TheVariants.{Kept, Inline, Lines}
pub use Rattle.cbor_edn_parts.specs.declared.space.layout.Slot.{Slot}
pub use Rattle.cbor_edn_parts.specs.declared.space.layout.Slot.TheVariants.{First, Between, Last, BeforePlus, AfterPlus, AfterColon, Elsewhere}

abbrev pub layout : DelimiterPolicy → Layout
layout DiscardAll = Inline Least
layout DiscardAllButComments = Inline Comments
layout SingleLineRegularSpacing = Inline OneLine
layout (IndentedRegularSpacing base level width) = Lines base base level width
layout SingleSpace = Inline OneSpace

-- The column of the table for a slot, or none where its space text is kept, which no policy asks for. Lines begin with the entries of a list or a stream, behind the last of them, and with a plus sign;
-- elsewhere comments alone stay. On a single line a space stands behind a colon and on both sides of a plus sign.
abbrev pub spacing : Layout → Slot → Option Spacing
spacing Kept slot = None
spacing (Inline OneLine) BeforePlus = Some OneSpace
spacing (Inline OneLine) AfterPlus = Some OneSpace
spacing (Inline OneLine) AfterColon = Some OneSpace
spacing (Inline column) slot = Some column
spacing (Lines base end level width) First = Some (NewLine base)
spacing (Lines base end level width) Between = Some (NewLine base)
spacing (Lines base end level width) Last = Some (NewLine end)
spacing (Lines base end level width) BeforePlus = Some (NewLine base)
spacing (Lines base end level width) slot = Some Comments

-- a space text by a column, or as it stands
abbrev pub spaced_or_kept : SpaceKind → Option Spacing → List ℕ → List ℕ
spaced_or_kept kind None x = x
spaced_or_kept kind (Some column) x = spaced kind column x

-- the space text at a slot
abbrev pub respaced : SpaceKind → Slot → Layout → List ℕ → List ℕ
respaced kind slot l x = spaced_or_kept kind (spacing l slot) x

-- The sum of two numbers of spaces: the greatest `usize` where it is more.
abbrev pub saturating_add : ℕ → ℕ → ℕ
saturating_add a b = min (a + b) (2 ^ 64 - 1)

-- The strings of a stream have no space round their plus signs on a single line, and no test of their own.
abbrev pub in_chunk : Layout → Layout
in_chunk (Inline OneLine) = Inline Comments
in_chunk l = l

-- the layout that takes no memory
abbrev pub least : Layout
least = Inline Least

-- The layout of the parts of an item that is so many bytes wide on a single line: that line where it is less than `width` bytes wide
-- behind the spaces of the item's line, else lines of their own.
abbrev pub of_parts : Layout → ℕ → Layout
of_parts Kept n = Kept
of_parts (Inline column) n = Inline column
of_parts (Lines base end level width) n =
    if nat_lt (saturating_add n base) width
    then Inline OneLine
    else Lines (saturating_add base level) base level width
