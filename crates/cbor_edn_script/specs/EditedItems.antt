-- What edits make of items, whatever the spaces between them.
use Rattle.std.specs.Prelude.{ℕ, ◌≡◌, ◌≢◌, List, None}
use Rattle.cbor_edn_parts.specs.declared.space.policy.DelimiterPolicy.TheVariants as policies
use Rattle.cbor_edn_core.specs.tree.View.{item_tree}
use Rattle.cbor_edn_model.specs.layout.Bare.{bare}
use Rattle.cbor_edn_model.specs.layout.Fewer.{Fewer}
use Rattle.cbor_edn_model.specs.tree.Items.{Items, Tagged}
use Rattle.cbor_edn_model.specs.visit.Seeking.{CallArguments, IsTag, IsApplication}
use Rattle.cbor_edn_model.specs.tree.Trees.{Tree, OneItem, Seq, items}
use Rattle.cbor_edn_model.specs.visit.Visits.{cut}
use Rattle.cbor_edn_conversions.specs.All.{resolve_all, pretty_all}
use Rattle.cbor_edn_conversions.specs.ConversionLaws.{Made}
use Rattle.cbor_edn_conversions.specs.Tag999.{to_tag999}
use Rattle.cbor_edn_conversions.specs.VisitedItems.{IsTagNode, IsApplicationNode, VisitedNode}
use Rattle.cbor_edn_application.specs.Acts.{Act, IsVisited}
use Rattle.cbor_edn_script.specs.Edits.{InTurn, Stopped, AreEdited, AreBegun}
use Rattle.cbor_edn_script.specs.ItemPaths.{changed_in}
use Rattle.cbor_edn_script.specs.declared.script.Edit.{Edit}
use Rattle.cbor_edn_script.specs.declared.script.Edit.TheVariants as edit

-- What one edit leaves. A conversion is a whole visit, whose calls make of an item what the function makes of it with any spaces.
abbrev pub EditedBy : Edit → Items → Items → Type 0
EditedBy (edit.Delimit policy) x y = y ≡ x
EditedBy edit.Discard x y = y ≡ bare x
EditedBy (edit.Replace path item) x y = y ≡ changed_in path.items (λ _. items (item_tree item)) x
EditedBy (edit.TagAt path number) x y = y ≡ changed_in path.items (Tagged number None) x
EditedBy (edit.CommentTags c) x y = y ≡ x
EditedBy edit.Prettify x y = VisitedNode IsTagNode (Made pretty_all) _ x y
EditedBy edit.Resolve x y = VisitedNode IsApplicationNode (Made resolve_all) _ x y
EditedBy edit.To999 x y = VisitedNode IsApplicationNode (Made to_tag999) _ x y

-- What a visit that was cut short leaves of the items of a tree, with any spaces.
abbrev pub IsCutShort : (Tree OneItem → CallArguments → Type 0) → Act → Items → Items → Type 0
IsCutShort IsSought act x y = (w v : Tree Seq) × (items w ≡ x) × (items v ≡ y) × IsVisited IsSought act w cut v

-- What one edit may leave where memory is refused.
abbrev pub BegunBy : Edit → Items → Items → Type 0
BegunBy (edit.Delimit policy) x y = (policy ≢ policies.DiscardAll) × (y ≡ x)
BegunBy edit.Discard x y = Fewer x y
BegunBy (edit.Replace path item) x y = ⊥
BegunBy (edit.TagAt path number) x y = y ≡ x
BegunBy (edit.CommentTags c) x y = y ≡ x
BegunBy edit.Prettify x y = IsCutShort IsTag pretty_all x y
BegunBy edit.Resolve x y = IsCutShort IsApplication resolve_all x y
BegunBy edit.To999 x y = IsCutShort IsApplication to_tag999 x y

-- What a list of edits leaves.
abbrev pub Edited : List Edit → Items → Items → Type 0
Edited = InTurn EditedBy

-- What it leaves where memory is refused after n of them.
abbrev pub Begun : List Edit → ℕ → Items → Items → Type 0
Begun = Stopped EditedBy BegunBy

-- ---- laws

-- Of a tree, edits leave what they leave of its items, also where memory is refused.
abbrev pub EditsItems : Type 0
EditsItems = (es : List Edit) (w v : Tree Seq) → AreEdited es w v → Edited es (items w) (items v)

abbrev pub BegunEditsItems : Type 0
BegunEditsItems = (es : List Edit) (n : ℕ) (w v : Tree Seq) → AreBegun es n w v → Begun es n (items w) (items v)

-- A list of edits leaves one tree, and of items one list of items.
abbrev pub EditedOnce : Type 0
EditedOnce = (es : List Edit) (w v u : Tree Seq) → AreEdited es w v → AreEdited es w u → v ≡ u

abbrev pub ItemsEditedOnce : Type 0
ItemsEditedOnce = (es : List Edit) (x y z : Items) → Edited es x y → Edited es x z → y ≡ z
