-- The form of an item, and what its view tells of it.
use Rattle.std.proofs.Common.{◌≡◌, ◌≢◌, ◌⊎◌, inl, inr, Bool, true, false, Option, None, refl, sym, ap, subst, ◌∙◌}
use Rattle.std.specs.Global.{Box}
use Rattle.cbor_edn_parts.specs.declared.base.indicator.Indicator.{Indicator}
use Rattle.cbor_edn_core.specs.declared.tree.CborStringOf.{CborStringOf}
use Rattle.cbor_edn_model.specs.declared.text.opener.Opener.{Opener}
use Rattle.cbor_edn_core.specs.declared.tree.InnerItemOf.{InnerItemOf, roll-InnerItemOf, roll-out-InnerItemOf}
use Rattle.cbor_edn_core.specs.declared.tree.InnerItemOf.TheBlock.{shown-the_row-CborStringOf-row-3-0}
use Rattle.cbor_edn_core.specs.declared.tree.InnerItemOf.TheVariants as inner
use Rattle.cbor_edn_core.specs.declared.tree.InnerItemOf.TheViews.{outs-String', rolls-String}
use Rattle.cbor_edn_core.specs.declared.tree.ItemListOf.{ItemListOf}
use Rattle.cbor_edn_model.specs.declared.text.opener.OpenerKind.TheVariants as opener
use Rattle.cbor_edn_core.specs.declared.tree.PairListOf.{PairListOf}
use Rattle.cbor_edn_core.specs.declared.tree.StandaloneItemOf.{StandaloneItemOf}
use Rattle.cbor_edn_core.specs.declared.tree.StreamOf.{StreamOf, StreamOf'}
use Rattle.cbor_edn_model.specs.declared.text.keyword.NamedSimple.{NamedSimple}
use Rattle.cbor_edn_model.specs.declared.text.keyword.NonFinite as keyword
use Rattle.cbor_edn_model.specs.tree.Items as kind
use Rattle.cbor_edn_model.specs.tree.TreeLeaves.{Ghosts}
use Rattle.cbor_edn_model.specs.cbor.Meaning.{means_simple}
use Rattle.cbor_edn_model.specs.internal.Same.{same_tree, same_are}
use Rattle.cbor_edn_model.specs.tree.Trees.{Tree, OneItem, NumberTree, FloatTree, NamedTree, EnclosedTree, ListTree, StringTree, StreamTree, items}
use Rattle.cbor_edn_core.specs.tree.View.{view_inner}

pub data Form : Type 0 where
  Number : Form
  NonFinite : Form
  Named : Form
  Enclosed : Form
  Array : Form
  Map : Form
  String : Form
  Stream : Form

abbrev pub form : Tree OneItem → Form
form (NumberTree x i) = Number
form (FloatTree f i) = NonFinite
form (NamedTree b) = Named
form (EnclosedTree l w) = Enclosed
form (ListTree kind.Array w) = Array
form (ListTree kind.Map w) = Map
form (StringTree w) = String
form (StreamTree ms m) = Stream

-- only a number is the number of a simple value
no_simple : (v : Tree OneItem) → form v ≢ Number → means_simple (items v) ≡ None
unfolding items
no_simple (NumberTree x i) differs = absurd (differs refl)
no_simple (FloatTree f i) differs = refl
no_simple (NamedTree b) differs = refl
no_simple (EnclosedTree (opener.Tag i n) w) differs = refl
no_simple (EnclosedTree opener.Simple w) differs = refl
no_simple (ListTree k w) differs = refl
no_simple (StringTree w) differs = refl
no_simple (StreamTree ms m) differs = refl

not_true : (b : Bool) → b ≢ true → false ≡ b
not_true true differs = absurd (differs refl)
not_true false differs = refl

module _ {S P M O N T D : Type 0} where
  abbrev pub IsForm : Form → InnerItemOf S P M O N T D → Type 0
  IsForm Number y = (i : Option Indicator) × (n : N) × (y ≡ inner.Number i n)
  IsForm NonFinite y = (i : Option Indicator) × (f : keyword.NonFinite) × (y ≡ inner.NonFinite i f)
  IsForm Named y = (b : NamedSimple) × (y ≡ inner.Named b)
  IsForm Enclosed y = (l : Opener) × (b : Box (StandaloneItemOf S P M O N T D)) × (y ≡ inner.Enclosed l b)
  IsForm Array y = (b : Box (ItemListOf S P M O N T D)) × (y ≡ inner.Array b)
  IsForm Map y = (b : Box (PairListOf S P M O N T D)) × (y ≡ inner.Map b)
  IsForm String y = ((i : Option Indicator) × (l : T) × (y ≡ inner.Literal i l)) ⊎ ((b : Box (CborStringOf S P M O N T D)) × (y ≡ inner.String b))
  IsForm Stream y = (b : Box (StreamOf S P M O N T D)) × (y ≡ inner.Stream b)

  has_form : (leaves : Ghosts S P M O N T D) (y : InnerItemOf S P M O N T D) → IsForm (form (view_inner leaves y)) y
  has_form leaves (inner.Number i n) = (i, n, refl)
  has_form leaves (inner.NonFinite i f) = (i, f, refl)
  has_form leaves (inner.Named b) = (b, refl)
  has_form leaves (inner.Enclosed' l p before item after) = (l, record { ptr = p.ptr; alloc = p.alloc; value = record { before = before; item = record { inner = item }; after = after } }, refl)
  has_form leaves (inner.Array' p list) = (record { ptr = p.ptr; alloc = p.alloc; value = list }, refl)
  has_form leaves (inner.Map' p list) = (record { ptr = p.ptr; alloc = p.alloc; value = list }, refl)
  has_form leaves (inner.Literal i l) = inl (i, l, refl)
  has_form leaves (inner.String' p n row last) =
      let b : Box (CborStringOf S P M O N T D) = record { ptr = p.ptr; alloc = p.alloc; value = record { row = shown-the_row-CborStringOf-row-3-0 S P M O N T D n row; last = last } } in
      inr (b, sym (roll-out-InnerItemOf S P M O N T D (inner.String' p n row last)) ∙ ap (roll-InnerItemOf S P M O N T D) (outs-String' p n row last) ∙ rolls-String b)
  has_form leaves (inner.Stream' p (StreamOf' ms strings)) = (record { ptr = p.ptr; alloc = p.alloc; value = StreamOf' ms strings }, refl)

  pub no_other : (leaves : Ghosts S P M O N T D) (k : Form) (x y : InnerItemOf S P M O N T D) → form (view_inner leaves x) ≡ k → (IsForm k y → ⊥) → false ≡ same_tree (view_inner leaves x) (view_inner leaves y)
  no_other leaves k x y is differs =
      not_true (same_tree (view_inner leaves x) (view_inner leaves y)) (λ e. differs (subst (λ k. IsForm k y) (ap form (sym (same_are (view_inner leaves x) (view_inner leaves y) e)) ∙ is) (has_form leaves y)))

  pub no_number : (leaves : Ghosts S P M O N T D) (y : InnerItemOf S P M O N T D) → (IsForm Number y → ⊥) → means_simple (items (view_inner leaves y)) ≡ None
  no_number leaves y differs = no_simple (view_inner leaves y) (λ e. differs (subst (λ k. IsForm k y) e (has_form leaves y)))
