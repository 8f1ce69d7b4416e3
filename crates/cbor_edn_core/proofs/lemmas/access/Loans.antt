-- What has no part to lend.
use Rattle.std.proofs.Common.{◌≡◌, None, false, refl}
use Rattle.std.specs.Global.{Box}
use Rattle.cbor_edn_model.specs.access.Accessed.{tag_content}
use Rattle.cbor_edn_model.specs.tree.TreeLeaves.{Ghosts}
use Rattle.cbor_edn_model.specs.internal.Counted.{is_simple_item}
use Rattle.cbor_edn_core.specs.tree.View.{view_inner}
use Rattle.cbor_edn_core.specs.declared.tree.InnerItemOf.{InnerItemOf}
use Rattle.cbor_edn_core.specs.declared.tree.InnerItemOf.TheVariants as inner
use Rattle.cbor_edn_model.specs.declared.text.opener.Opener.{Opener}
use Rattle.cbor_edn_core.specs.declared.tree.StandaloneItemOf.{StandaloneItemOf}
use Rattle.cbor_edn_core.specs.declared.tree.StreamOf.{StreamOf'}

module _ {O M C E N L D : Type 0} (leaves : Ghosts O M C E N L D) where
  pub no_tag : (x : InnerItemOf O M C E N L D) → ((l : Opener) (b : Box (StandaloneItemOf O M C E N L D)) → x ≡ inner.Enclosed l b → ⊥) → None ≡ tag_content (view_inner leaves x)
  no_tag (inner.Number i n) differs = refl
  no_tag (inner.NonFinite i f) differs = refl
  no_tag (inner.Named b) differs = refl
  no_tag (inner.Enclosed' l p before item after) differs = absurd (differs l (record { ptr = p.ptr; alloc = p.alloc; value = record { before = before; item = record { inner = item }; after = after } }) refl)
  no_tag (inner.Array' p list) differs = refl
  no_tag (inner.Map' p list) differs = refl
  no_tag (inner.Literal i literal) differs = refl
  no_tag (inner.String' p n row last) differs = refl
  no_tag (inner.Stream' p (StreamOf' ms strings)) differs = refl

  pub not_simple : (x : InnerItemOf O M C E N L D) → ((l : Opener) (b : Box (StandaloneItemOf O M C E N L D)) → x ≡ inner.Enclosed l b → ⊥) → false ≡ is_simple_item (view_inner leaves x)
  not_simple (inner.Number i n) differs = refl
  not_simple (inner.NonFinite i f) differs = refl
  not_simple (inner.Named b) differs = refl
  not_simple (inner.Enclosed' l p before item after) differs = absurd (differs l (record { ptr = p.ptr; alloc = p.alloc; value = record { before = before; item = record { inner = item }; after = after } }) refl)
  not_simple (inner.Array' p list) differs = refl
  not_simple (inner.Map' p list) differs = refl
  not_simple (inner.Literal i literal) differs = refl
  not_simple (inner.String' p n row last) differs = refl
  not_simple (inner.Stream' p (StreamOf' ms strings)) differs = refl
