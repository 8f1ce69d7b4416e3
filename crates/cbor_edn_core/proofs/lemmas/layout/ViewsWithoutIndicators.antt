-- The tree of a value of which each part has lost its indicators, and the items of one that has lost some.
use Rattle.std.proofs.Common.{ℕ, ◌≡◌, List, map, Option, None, Result, Ok, Err, OnOk, IfErr, refl, sym, ap, ◌∙◌, subst, inl, inr}
use Rattle.std.specs.Global.{Box}
use Rattle.cbor_edn_parts.specs.declared.base.indicator.Indicator.{Indicator}
use Rattle.cbor_edn_model.specs.declared.text.keyword.NonFinite.{NonFinite}
use Rattle.cbor_edn_model.specs.declared.text.opener.OpenerKind.{OpenerKind}
use Rattle.cbor_edn_model.specs.declared.text.opener.OpenerKind.TheVariants as opener
use Rattle.cbor_edn_core.specs.declared.tree.ItemsOf.{ItemsOf, out-ItemsOf, roll-ItemsOf}
use Rattle.cbor_edn_core.specs.declared.tree.PairsOf.{PairsOf, out-PairsOf, roll-PairsOf}
use Rattle.cbor_edn_core.specs.declared.tree.CborStringOf.{CborStringOf, roll-CborStringOf, out-roll-CborStringOf}
use Rattle.cbor_edn_core.specs.declared.tree.StreamOf.{StreamOf'}
use Rattle.cbor_edn_core.specs.declared.tree.InnerItemOf.{InnerItemOf}
use Rattle.cbor_edn_core.specs.declared.tree.InnerItemOf.TheVariants as inner
use Rattle.cbor_edn_core.specs.declared.tree.StringsOf.{StringsOf, out-StringsOf, roll-StringsOf}
use Rattle.cbor_edn_model.specs.tree.TreeLeaves.{Ghosts}
use Rattle.cbor_edn_model.specs.tree.Items as kind
use Rattle.cbor_edn_model.specs.tree.Items.{Bracketed, entries_of}
use Rattle.cbor_edn_model.specs.tree.Trees.{OneItem, Inside, Rest, Standalone, Tree, ListHead, NoIndicator, NumberTree, FloatTree, StringTree, EnclosedTree, ListTree, LastPieceTree, LiteralTree, ElementTree, PairTree, ChunkTree, EmptyTree, FullTree, LastTree, SequenceTree, StandaloneTree, items}
use Rattle.cbor_edn_core.specs.tree.View.{seen, seen_pair, seen_piece, seen_string, view_item, view_items, view_pair, view_pairs, view_piece, view_string, view_strings, view_inner}
use Rattle.cbor_edn_model.specs.tree.Rows.{entries_onto, pieces_onto}
use Rattle.cbor_edn_model.specs.layout.Bare.{without_indicators, bare_opener}
use Rattle.cbor_edn_model.specs.layout.Fewer.{Fewer, number, float, listed, tagged, simple, element, pair, end, then}
use Rattle.cbor_edn_model.specs.internal.LayoutRows.{entry_without_indicators, piece_without_indicators}
use Rattle.cbor_edn_model.specs.internal.IndicatorRemoval.{FewerInside, FewerEntries, headless, opener_gone}
use Rattle.cbor_edn_core.proofs.lemmas.tree.Forms.{Enclosed, IsForm}
use Rattle.cbor_edn_core.proofs.lemmas.tree.Views.{view_items_is, view_items_made, view_string_is, view_string_at, view_pairs_is, view_pairs_made, view_strings_is, view_strings_made}
use Rattle.cbor_edn_model.proofs.lemmas.layout.FewestIndicators.{bare_fewer}
use Rattle.cbor_edn_model.proofs.lemmas.layout.WithoutIndicators.{without_indicators_is_bare}
use Rattle.cbor_edn_model.proofs.lemmas.layout.LaidRows.{entries_without_indicators, pieces_without_indicators}

module _ {S P M O N T D : Type 0} (leaves : Ghosts S P M O N T D) where
  pub string_without_indicators : (x y : CborStringOf S P M O N T D) (f : _) → y ≡ roll-CborStringOf S P M O N T D f → map (seen_piece leaves) f.row.items ≡ map piece_without_indicators (map (seen_piece leaves) x.row.items) → view_piece leaves f.last ≡ without_indicators (view_piece leaves x.last) → view_string leaves y ≡ without_indicators (view_string leaves x)
  unfolding without_indicators
  string_without_indicators x y f is row last =
      ap (view_string leaves) is
      ∙ ap (λ f. pieces_onto (map (seen_piece leaves) f.row.items) (LastPieceTree (view_piece leaves f.last))) (out-roll-CborStringOf S P M O N T D f)
      ∙ (λ i. pieces_onto (row i) (LastPieceTree (last i)))
      ∙ sym (pieces_without_indicators (map (seen_piece leaves) x.row.items) (LastPieceTree (view_piece leaves x.last)))

  pub strings_without_indicators : (x y : StringsOf S P M O N T D) (f : _) → y ≡ roll-StringsOf S P M O N T D f → map (seen_string leaves) f.row.items ≡ map entry_without_indicators (map (seen_string leaves) (out-StringsOf S P M O N T D x).row.items) → view_string leaves f.last ≡ without_indicators (view_string leaves (out-StringsOf S P M O N T D x).last) → f.end ≡ (out-StringsOf S P M O N T D x).end → view_strings leaves y ≡ without_indicators (view_strings leaves x)
  unfolding without_indicators
  strings_without_indicators x y f is row last list_end =
      ap (view_strings leaves) is
      ∙ view_strings_made leaves f
      ∙ (λ i. entries_onto (row i) (LastTree (ChunkTree (last i)) (leaves.end (list_end i))))
      ∙ sym (entries_without_indicators (map (seen_string leaves) (out-StringsOf S P M O N T D x).row.items) _)
      ∙ ap without_indicators (sym (view_strings_is leaves x))

  pub items_without_indicators : (x y : ItemsOf S P M O N T D) (f : _) → y ≡ roll-ItemsOf S P M O N T D f → map (seen leaves) f.row.items ≡ map entry_without_indicators (map (seen leaves) (out-ItemsOf S P M O N T D x).row.items) → view_item leaves f.last ≡ without_indicators (view_item leaves (out-ItemsOf S P M O N T D x).last) → f.end ≡ (out-ItemsOf S P M O N T D x).end → view_items leaves y ≡ without_indicators (view_items leaves x)
  unfolding without_indicators
  items_without_indicators x y f is row last list_end =
      ap (view_items leaves) is
      ∙ view_items_made leaves f
      ∙ (λ i. entries_onto (row i) (LastTree (ElementTree (last i)) (leaves.end (list_end i))))
      ∙ sym (entries_without_indicators (map (seen leaves) (out-ItemsOf S P M O N T D x).row.items) _)
      ∙ ap without_indicators (sym (view_items_is leaves x))

  pub pairs_without_indicators : (x y : PairsOf S P M O N T D) (f : _) → y ≡ roll-PairsOf S P M O N T D f → map (seen_pair leaves) f.row.items ≡ map entry_without_indicators (map (seen_pair leaves) (out-PairsOf S P M O N T D x).row.items) → view_pair leaves f.last ≡ without_indicators (view_pair leaves (out-PairsOf S P M O N T D x).last) → f.end ≡ (out-PairsOf S P M O N T D x).end → view_pairs leaves y ≡ without_indicators (view_pairs leaves x)
  unfolding without_indicators
  pairs_without_indicators x y f is row last list_end =
      ap (view_pairs leaves) is
      ∙ view_pairs_made leaves f
      ∙ (λ i. entries_onto (row i) (LastTree (last i) (leaves.end (list_end i))))
      ∙ sym (entries_without_indicators (map (seen_pair leaves) (out-PairsOf S P M O N T D x).row.items) _)
      ∙ ap without_indicators (sym (view_pairs_is leaves x))

  pub items_fewer : (x y : ItemsOf S P M O N T D) (f : _) → y ≡ roll-ItemsOf S P M O N T D f → FewerEntries (map (seen leaves) (out-ItemsOf S P M O N T D x).row.items) (map (seen leaves) f.row.items) → Fewer (items (view_item leaves (out-ItemsOf S P M O N T D x).last)) (items (view_item leaves f.last)) → Fewer (items (view_items leaves x)) (items (view_items leaves y))
  unfolding items
  items_fewer x y f is row last =
      let o = out-ItemsOf S P M O N T D x in
      subst (λ m. Fewer (items m) (items (view_items leaves y))) (sym (view_items_is leaves x))
      (subst (λ n. Fewer (items (entries_onto (map (seen leaves) o.row.items) (LastTree (ElementTree (view_item leaves o.last)) (leaves.end o.end)))) (items n)) (sym (ap (view_items leaves) is ∙ view_items_made leaves f))
      (row (LastTree (ElementTree (view_item leaves o.last)) (leaves.end o.end)) (LastTree (ElementTree (view_item leaves f.last)) (leaves.end f.end)) (then (element last) end)))

  pub pairs_fewer : (x y : PairsOf S P M O N T D) (f : _) → y ≡ roll-PairsOf S P M O N T D f → FewerEntries (map (seen_pair leaves) (out-PairsOf S P M O N T D x).row.items) (map (seen_pair leaves) f.row.items) → Fewer (items (view_pair leaves (out-PairsOf S P M O N T D x).last)) (items (view_pair leaves f.last)) → Fewer (items (view_pairs leaves x)) (items (view_pairs leaves y))
  unfolding items
  pairs_fewer x y f is row last =
      let o = out-PairsOf S P M O N T D x in
      subst (λ m. Fewer (items m) (items (view_pairs leaves y))) (sym (view_pairs_is leaves x))
      (subst (λ n. Fewer (items (entries_onto (map (seen_pair leaves) o.row.items) (LastTree (view_pair leaves o.last) (leaves.end o.end)))) (items n)) (sym (ap (view_pairs leaves) is ∙ view_pairs_made leaves f))
      (row (LastTree (view_pair leaves o.last) (leaves.end o.end)) (LastTree (view_pair leaves f.last) (leaves.end f.end)) (then last end)))

  -- what is no item between parentheses
  pub no_opener : (y : InnerItemOf S P M O N T D) → (IsForm Enclosed y → ⊥) → view_inner leaves y ≡ opener_gone (view_inner leaves y)
  no_opener (inner.Number i n) differs = refl
  no_opener (inner.NonFinite i f) differs = refl
  no_opener (inner.Named b) differs = refl
  no_opener (inner.Enclosed' l p before item after) differs =
      absurd (differs (l, record { ptr = p.ptr; alloc = p.alloc; value = record { before = before; item = record { inner = item }; after = after } }, refl))
  no_opener (inner.Array' p list) differs = refl
  no_opener (inner.Map' p list) differs = refl
  no_opener (inner.Literal i literal) differs = refl
  no_opener (inner.String' p n row last) differs = refl
  no_opener (inner.Stream' p (StreamOf' ms strings)) differs = refl

  -- a string that is an item, through the pointer that is read
  pub string_item : (x y : InnerItemOf S P M O N T D) (b d : Box (CborStringOf S P M O N T D)) (s : CborStringOf S P M O N T D) → x ≡ inner.String b → s ≡ b.value → y ≡ inner.String d → view_string leaves d.value ≡ without_indicators (view_string leaves s) → view_inner leaves y ≡ without_indicators (view_inner leaves x)
  unfolding without_indicators
  string_item x y b d s is read made e =
      ap (view_inner leaves) made ∙ view_string_is leaves d ∙ ap StringTree e ∙ sym (ap without_indicators (view_string_at leaves x b s is read))

-- the head stands, or is gone
pub full_same : (k : Bracketed) (h : ListHead) (s t : List ℕ) (m n : Tree (Rest (entries_of k))) → Fewer (items m) (items n) → FewerInside {k = k} (FullTree h s m) (FullTree h t n)
unfolding items
full_same k h s t m n r = (inl refl, r)

pub full_gone : (k : Bracketed) (h : ListHead) (s t : List ℕ) (m n : Tree (Rest (entries_of k))) → Fewer (items m) (items n) → FewerInside {k = k} (FullTree h s m) (FullTree NoIndicator t n)
unfolding items
full_gone k h s t m n r = (inr refl, r)

pub empty_gone : (k : Bracketed) (i : Option Indicator) (s : List ℕ) → FewerInside {k = k} (EmptyTree i s) (EmptyTree None s)
unfolding items
empty_gone k i s = (inr refl, end)

headless_fewer : {k : Bracketed} (w v : Tree (Inside k)) → FewerInside w v → FewerInside w (headless v)
unfolding items
headless_fewer w (EmptyTree i s) r = (inr refl, r.1)
headless_fewer w (FullTree h s m) r = (inr refl, r.1)

-- a list whose own indicator goes last, where memory suffices
pub list_left : {k : Bracketed} {A E : Type 0} (w v u : Tree (Inside k)) (r : Result A E) → FewerInside w v → OnOk r (u ≡ headless v) → IfErr r (λ _. u ≡ v) → FewerInside w u
list_left w v u (Ok x) f gone same = subst (λ t. FewerInside w t) (sym gone) (headless_fewer w v f)
list_left w v u (Err x) f gone same = subst (λ t. FewerInside w t) (sym same) f

pub list_fewer : {k : Bracketed} (w v : Tree (Inside k)) → FewerInside w v → Fewer (items (ListTree k w)) (items (ListTree k v))
unfolding items
list_fewer w v r = listed r.0 r.1

pub enclosed_fewer : (l : OpenerKind) (w v : Tree Standalone) → Fewer (items w) (items v) → Fewer (items (EnclosedTree l w)) (items (EnclosedTree (bare_opener l) v))
unfolding items
enclosed_fewer (opener.Tag i n) w v r = tagged (inr refl) r
enclosed_fewer opener.Simple w v r = simple r

pub reopened_fewer : (l : OpenerKind) (a b : Tree Standalone) (w v : Tree OneItem) → w ≡ EnclosedTree l a → v ≡ opener_gone (EnclosedTree l b) → Fewer (items a) (items b) → Fewer (items w) (items v)
reopened_fewer l a b w v e f r = subst (λ x. Fewer (items x) (items v)) (sym e) (subst (λ x. Fewer (items (EnclosedTree l a)) (items x)) (sym f) (enclosed_fewer l a b r))

pub pair_fewer : (a b w v : Tree OneItem) (s t : List ℕ) → Fewer (items a) (items b) → Fewer (items w) (items v) → Fewer (items (PairTree a s t w)) (items (PairTree b s t v))
unfolding items
pair_fewer a b w v s t r q = pair r q

pub standalone_fewer : (w v : Tree OneItem) (s t : List ℕ) → Fewer (items w) (items v) → Fewer (items (StandaloneTree s w t)) (items (StandaloneTree s v t))
unfolding items
standalone_fewer w v s t r = r

pub sequence_fewer : (m n : Tree (Rest kind.Elements)) (s : List ℕ) → Fewer (items m) (items n) → Fewer (items (SequenceTree s m)) (items (SequenceTree s n))
unfolding items
sequence_fewer m n s r = r

pub number_fewer : (x : List ℕ) (i : Option Indicator) → Fewer (items (NumberTree x i)) (items (NumberTree x None))
unfolding items
number_fewer x i = number (inr refl)

pub float_fewer : (f : NonFinite) (i : Option Indicator) → Fewer (items (FloatTree f i)) (items (FloatTree f None))
unfolding items
float_fewer f i = float (inr refl)

-- an item whose indicators are all gone
pub item_fewer : (w v : Tree OneItem) → v ≡ without_indicators w → Fewer (items w) (items v)
item_fewer w v e = subst (λ x. Fewer (items w) x) (sym (without_indicators_is_bare.0 w) ∙ ap items (sym e)) (bare_fewer (items w))

pub literal_fewer : (x : List ℕ) (i : Option Indicator) → Fewer (items (StringTree (LastPieceTree (LiteralTree x i)))) (items (StringTree (LastPieceTree (LiteralTree x None))))
unfolding without_indicators
literal_fewer x i = item_fewer (StringTree (LastPieceTree (LiteralTree x i))) (StringTree (LastPieceTree (LiteralTree x None))) refl
