-- An item with another first item below it, and a tag with another content.
use Rattle.std.proofs.Common.{◌≡◌, ◌-◌, ◌==◌, ℕ, Bool, true, false, Option, Some, None, List, [], ◌∷◌, ◌++◌, length, refl, sym, ap, ◌∙◌, subst}
use Rattle.std.specs.Prelude.{if◌then◌else◌, ltb, slice_get, option_map, unwrap_or}
use Rattle.cbor_edn_model.specs.declared.text.opener.OpenerKind.TheVariants as opener
use Rattle.cbor_edn_parts.specs.declared.base.indicator.Indicator.{Indicator}
use Rattle.cbor_edn_model.specs.access.Accessed.{tag_content}
use Rattle.cbor_edn_model.specs.cbor.Decoded.{alone}
use Rattle.cbor_edn_model.specs.access.Paths.{items_in, at, with_item, with_at, at_standalone, with_at_standalone}
use Rattle.cbor_edn_model.specs.tree.Trees.{Rule, Tree, OneItem, Standalone, NumberTree, FloatTree, NamedTree, EnclosedTree, ListTree, StringTree, StreamTree, LiteralTree, EllipsisTree, EmbeddedTree, LastPieceTree, PlusTree, ElementTree, PairTree, ChunkTree, EmptyTree, FullTree, LastTree, MoreTree, NothingTree, SequenceTree, StandaloneTree}
use Rattle.cbor_edn_model.specs.visit.Seeking.{number}
use Rattle.cbor_edn_model.proofs.lemmas.cbor.MeaningSteps.{some_is}
use Rattle.cbor_edn_model.specs.tree.Constructed.{tagged_tree}
use Rattle.cbor_edn_core.specs.access.Lent.{with_tag_content}
use Rattle.cbor_edn_conversions.specs.Conversions.{called_tag, tag_tree}
use Rattle.cbor_edn_application.proofs.TagParts.{parts}

none_in_two : {A : Type 0} (xs ys : List A) → xs ++ ys ≡ [] → (xs ≡ []) × (ys ≡ [])
none_in_two [] ys e = (refl, e)
none_in_two (x ∷ xs) ys e = absurd cc

-- where there is none, nothing changes
none_first : {s : Rule} (x : Tree OneItem) (t : Tree s) → items_in t ≡ [] → with_item 0 x t ≡ t
none_first x (NumberTree n p) e = refl
none_first x (FloatTree f p) e = refl
none_first x (NamedTree b) e = refl
none_first x (EnclosedTree (opener.Tag p n) w) e = ap (EnclosedTree (opener.Tag p n)) (none_first x w e)
none_first x (EnclosedTree opener.Simple w) e = refl
none_first x (ListTree k w) e = ap (ListTree k) (none_first x w e)
none_first x (StringTree w) e = ap StringTree (none_first x w e)
none_first x (StreamTree ms m) e = ap (StreamTree ms) (none_first x m e)
none_first x (LiteralTree y p) e = refl
none_first x (EllipsisTree y) e = refl
none_first x (EmbeddedTree w p) e = ap (λ z. EmbeddedTree z p) (none_first x w e)
none_first x (LastPieceTree p) e = ap LastPieceTree (none_first x p e)
none_first x (PlusTree p s t w) e =
    let h = none_in_two (items_in p) (items_in w) e in
    subst (λ l. (if ltb 0 (length l) then PlusTree (with_item 0 x p) s t w else PlusTree p s t (with_item (0 - length l) x w)) ≡ PlusTree p s t w) (sym h.0)
    (ap (λ z. PlusTree p s t z) (none_first x w h.1))
none_first x (ElementTree w) e = absurd cc
none_first x (PairTree v s t w) e = absurd cc
none_first x (ChunkTree w) e = ap ChunkTree (none_first x w e)
none_first x (EmptyTree p s) e = refl
none_first x (FullTree h s m) e = ap (FullTree h s) (none_first x m e)
none_first x (LastTree w s) e = ap (λ z. LastTree z s) (none_first x w e)
none_first x (MoreTree w s m) e =
    let h = none_in_two (items_in w) (items_in m) e in
    subst (λ l. (if ltb 0 (length l) then MoreTree (with_item 0 x w) s m else MoreTree w s (with_item (0 - length l) x m)) ≡ MoreTree w s m) (sym h.0)
    (ap (λ z. MoreTree w s z) (none_first x m h.1))
none_first x (NothingTree s) e = refl
none_first x (SequenceTree s m) e = ap (SequenceTree s) (none_first x m e)
none_first x (StandaloneTree s w t) e = absurd cc

pub first_put : (x w : Tree OneItem) → with_at (0 ∷ []) x w ≡ with_item 0 x w
first_put x w = by_items (items_in w) refl
  where
    by_items : (l : List (Tree OneItem)) → items_in w ≡ l → unwrap_or (option_map (λ c. with_item 0 x w) (slice_get l 0)) w ≡ with_item 0 x w
    by_items [] e = sym (none_first x w e)
    by_items (c ∷ l) e = refl

pub first_by : (w v x r y : Tree OneItem) (s t : Tree Standalone) → w ≡ v → s ≡ StandaloneTree [] w [] → t ≡ with_at_standalone (0 ∷ []) x s → r ≡ unwrap_or (at_standalone [] t) y → r ≡ with_item 0 x v
first_by w v x r y s t same alone put is =
    is ∙ (ap (λ t. unwrap_or (at_standalone [] t) y) (put ∙ ap (λ s. with_at_standalone (0 ∷ []) x s) alone) ∙ (first_put x w ∙ ap (λ w. with_item 0 x w) same))

-- ---- a tag with another content

-- the tag of the call, without its spaces
record IsTagOf (n : ℕ) (i : Option Indicator) (w old : Tree OneItem) : Type 0 where
  pub before : List ℕ
  pub behind : List ℕ
  pub is : old ≡ EnclosedTree (opener.Tag i n) (StandaloneTree before w behind)

abbrev tag_of : Option Indicator → ℕ → List ℕ → Tree OneItem → List ℕ → Tree OneItem
tag_of i n s w t = EnclosedTree (opener.Tag i n) (StandaloneTree s w t)

called_by : (b : Bool) (m n : ℕ) (j i : Option Indicator) (s t : List ℕ) (v w : Tree OneItem) → (if b then Some (parts m j v) else None) ≡ Some (parts n i w) → IsTagOf n i w (EnclosedTree (opener.Tag j m) (StandaloneTree s v t))
called_by true m n j i s t v w e =
    let same = some_is (parts m j v) (parts n i w) e in
    record { before = s; behind = t; is = by (ap (λ (p : ℕ × Option Indicator × Tree OneItem). p.0) same) (ap (λ (p : ℕ × Option Indicator × Tree OneItem). p.1) same) (ap (λ (p : ℕ × Option Indicator × Tree OneItem). p.2) same) }
  where
    by : {m n : ℕ} {j i : Option Indicator} {v w : Tree OneItem} → m ≡ n → j ≡ i → v ≡ w → tag_of j m s v t ≡ tag_of i n s w t
    by a b c = cc
called_by false m n j i s t v w e = absurd cc

is_tag_of : (k n : ℕ) (i : Option Indicator) (w old : Tree OneItem) → called_tag (number k) old ≡ Some (n, i, w) → IsTagOf n i w old
is_tag_of k n i w (EnclosedTree (opener.Tag j m) (StandaloneTree s v t)) e = called_by (k == m) m n j i s t v w e
is_tag_of k n i w (EnclosedTree opener.Simple c) e = absurd cc
is_tag_of k n i w (NumberTree x j) e = absurd cc
is_tag_of k n i w (FloatTree f j) e = absurd cc
is_tag_of k n i w (NamedTree b) e = absurd cc
is_tag_of k n i w (ListTree l c) e = absurd cc
is_tag_of k n i w (StringTree c) e = absurd cc
is_tag_of k n i w (StreamTree s m) e = absurd cc

-- the content, once x stands in the place of its first item
pub content_with_first : (n : ℕ) (i : Option Indicator) (w old x y : Tree OneItem) → called_tag (number n) old ≡ Some (n, i, w) → unwrap_or (at (0 ∷ []) (with_at (0 ∷ 0 ∷ []) x old)) y ≡ with_item 0 x w
content_with_first n i w old x y called = ap (λ o. unwrap_or (at (0 ∷ []) (with_at (0 ∷ 0 ∷ []) x o)) y) (is_tag_of n n i w old called).is ∙ first_put x w

-- what a loan of the content leaves and gives
module _ (n : ℕ) (w old : Tree OneItem) (is : old ≡ tag_tree n w) (s : Tree Standalone) (content : Some s ≡ tag_content old) (path : List ℕ) (x : Tree OneItem) where
  content_is : s ≡ alone w
  content_is = let e : Some s ≡ Some (alone w) = content ∙ ap tag_content is in cc

  pub inside_put : (v : Tree OneItem) (t : Tree Standalone) → v ≡ with_tag_content t old → t ≡ with_at_standalone path x s → v ≡ tag_tree n (with_at path x w)
  inside_put v t left put = left ∙ (ap (with_tag_content t) is ∙ ap (tagged_tree n) (put ∙ ap (with_at_standalone path x) content_is))

  pub inside_before : (r : Tree OneItem) → r ≡ unwrap_or (at_standalone path s) x → r ≡ unwrap_or (at path w) x
  inside_before r before = before ∙ ap (λ s. unwrap_or (at_standalone path s) x) content_is

pub has_content : (n : ℕ) (w old : Tree OneItem) → old ≡ tag_tree n w → tag_content old ≡ None → ⊥
has_content n w old is none = let e : Some (alone w) ≡ None = sym (ap tag_content is) ∙ none in cc
