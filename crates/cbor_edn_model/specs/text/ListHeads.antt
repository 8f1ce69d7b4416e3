-- What stands in front of the entries of a list: an indicator and the space behind it, if they are there.
use Rattle.std.specs.Prelude.{Option, Some, None}
use Rattle.cbor_edn_parts.specs.Leaves.{BorrowsMandatory}
use Rattle.cbor_edn_parts.specs.declared.base.indicator.Indicator.{Indicator}
use Rattle.cbor_edn_parts.specs.declared.space.MandatorySpace.{MandatorySpace}
use Rattle.cbor_edn_model.specs.declared.text.list_head.ListHeadOf.{ListHeadOf}
use Rattle.cbor_edn_model.specs.tree.TreeLeaves.{Ghosts}
use Rattle.cbor_edn_model.specs.tree.Trees.{ListHead, NoIndicator, WithIndicator}

abbrev pub view_indicated : {O M C E N L D : Type 0} → Ghosts O M C E N L D → Option (Indicator × M) → ListHead
view_indicated leaves None = NoIndicator
view_indicated leaves (Some p) = WithIndicator p.0 (leaves.mandatory p.1)

abbrev pub view_list_head : {O M C E N L D : Type 0} → Ghosts O M C E N L D → ListHeadOf M → ListHead
view_list_head leaves h = view_indicated leaves h.indicated

-- the text of the space is borrowed
abbrev pub BorrowsIndicated : Option (Indicator × MandatorySpace) → Type 0
BorrowsIndicated None = Unit {0}
BorrowsIndicated (Some p) = BorrowsMandatory p.1

abbrev pub BorrowsListHead : ListHeadOf MandatorySpace → Type 0
BorrowsListHead h = BorrowsIndicated h.indicated
