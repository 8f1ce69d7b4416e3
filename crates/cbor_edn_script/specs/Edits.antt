-- What edits make of a sequence, spaces included.
use Rattle.std.specs.Prelude.{ℕ, zero, suc, ◌≡◌, ◌≢◌, List, [], ◌∷◌, option_map, unwrap_or, string_bytes}
use Rattle.cbor_edn_parts.specs.declared.space.policy.DelimiterPolicy.TheVariants as policies
use Rattle.cbor_edn_model.specs.tree.Constructed.{tagged_tree}
use Rattle.cbor_edn_core.specs.tree.View.{item_tree}
use Rattle.cbor_edn_model.specs.layout.Bare.{without_indicators}
use Rattle.cbor_edn_model.specs.cbor.Decoded.{alone}
use Rattle.cbor_edn_model.specs.layout.Fewer.{Fewer}
use Rattle.cbor_edn_model.specs.layout.Layout.{laid_out}
use Rattle.cbor_edn_model.specs.access.Paths.{at_sequence, with_at_sequence}
use Rattle.cbor_edn_model.specs.tree.Trees.{Tree, Seq, items}
use Rattle.cbor_edn_model.specs.visit.Seeking.{IsTag, IsApplication}
use Rattle.cbor_edn_model.specs.visit.Visits.{whole, cut}
use Rattle.cbor_edn_conversions.specs.All.{resolve_all, pretty_all}
use Rattle.cbor_edn_conversions.specs.Annotations.{commenting}
use Rattle.cbor_edn_conversions.specs.Tag999.{to_tag999}
use Rattle.cbor_edn_application.specs.Acts.{IsVisited}
use Rattle.cbor_edn_script.specs.declared.script.Edit.{Edit}
use Rattle.cbor_edn_script.specs.declared.script.Edit.TheVariants as edit

-- The item where the path leads stands in a new tag, without an indicator and without space: `[1 24(2)]` of `[1 2]`. Where the path
-- leads nowhere nothing changes.
abbrev pub tagged_at : List ℕ → ℕ → Tree Seq → Tree Seq
tagged_at path n w = unwrap_or (option_map (λ x. with_at_sequence path (tagged_tree n (alone x)) w) (at_sequence path w)) w

-- What one edit leaves.
abbrev pub IsEdited : Edit → Tree Seq → Tree Seq → Type 0
IsEdited (edit.Delimit policy) w v = v ≡ laid_out policy w
IsEdited edit.Discard w v = v ≡ without_indicators w
IsEdited (edit.Replace path item) w v = v ≡ with_at_sequence path.items (item_tree item) w
IsEdited (edit.TagAt path number) w v = v ≡ tagged_at path.items number w
IsEdited (edit.CommentTags c) w v = IsVisited IsTag (commenting (string_bytes c)) w whole v
IsEdited edit.Prettify w v = IsVisited IsTag pretty_all w whole v
IsEdited edit.Resolve w v = IsVisited IsApplication resolve_all w whole v
IsEdited edit.To999 w v = IsVisited IsApplication to_tag999 w whole v

-- What it may leave where memory runs out. A replacement takes none, nor does the removal of all space.
abbrev pub IsBegun : Edit → Tree Seq → Tree Seq → Type 0
IsBegun (edit.Delimit policy) w v = (policy ≢ policies.DiscardAll) × (items v ≡ items w)
IsBegun edit.Discard w v = Fewer (items w) (items v)
IsBegun (edit.Replace path item) w v = ⊥
IsBegun (edit.TagAt path number) w v = v ≡ w
IsBegun (edit.CommentTags c) w v = IsVisited IsTag (commenting (string_bytes c)) w cut v
IsBegun edit.Prettify w v = IsVisited IsTag pretty_all w cut v
IsBegun edit.Resolve w v = IsVisited IsApplication resolve_all w cut v
IsBegun edit.To999 w v = IsVisited IsApplication to_tag999 w cut v

-- Each step begins with what the one before left.
abbrev pub InTurn : {E T : Type 0} → (E → T → T → Type 0) → List E → T → T → Type 0
InTurn R [] w v = v ≡ w
InTurn {E} {T} R (e ∷ es) w v = (u : T) × R e w u × InTurn R es u v

-- n steps are done, and the next one is begun.
abbrev pub Stopped : {E T : Type 0} → (E → T → T → Type 0) → (E → T → T → Type 0) → List E → ℕ → T → T → Type 0
Stopped R B [] n w v = ⊥
Stopped R B (e ∷ es) zero w v = B e w v
Stopped {E} {T} R B (e ∷ es) (suc n) w v = (u : T) × R e w u × Stopped R B es n u v

-- What a list of edits leaves.
abbrev pub AreEdited : List Edit → Tree Seq → Tree Seq → Type 0
AreEdited = InTurn IsEdited

-- What it leaves where memory runs out after n of them.
abbrev pub AreBegun : List Edit → ℕ → Tree Seq → Tree Seq → Type 0
AreBegun = Stopped IsEdited IsBegun
