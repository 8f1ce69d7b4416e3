-- The parts of the tag of a call.
use Rattle.std.proofs.Common.{ℕ, ◌≡◌, ◌≢◌, Option, Some, None, refl, sym, ap, ◌∙◌, ne_eqb, eq-eqb}
use Rattle.cbor_edn_parts.specs.declared.base.indicator.Indicator.{Indicator}
use Rattle.cbor_edn_model.specs.declared.text.opener.OpenerKind.TheVariants as opener
use Rattle.cbor_edn_model.specs.access.Accessed.{tag_head, tag_content, inner_item}
use Rattle.cbor_edn_model.specs.visit.Seeking.{number}
use Rattle.cbor_edn_model.specs.tree.Trees.{Tree, OneItem, Standalone, NumberTree, FloatTree, NamedTree, EnclosedTree, ListTree, StringTree, StreamTree}
use Rattle.cbor_edn_model.proofs.lemmas.cbor.MeaningSteps.{some_is}
use Rattle.cbor_edn_conversions.specs.Conversions.{called_tag}

abbrev head : ℕ → Option Indicator → ℕ × Option Indicator
head n i = (n, i)

abbrev pub parts : ℕ → Option Indicator → Tree OneItem → ℕ × Option Indicator × Tree OneItem
parts n i w = (n, i, w)

pub no_tag : (n : ℕ) (w : Tree OneItem) → tag_head w ≡ None → called_tag (number n) w ≡ None
no_tag n (EnclosedTree (opener.Tag i m) c) e = absurd cc
no_tag n (EnclosedTree opener.Simple c) e = refl
no_tag n (NumberTree x i) e = refl
no_tag n (FloatTree f i) e = refl
no_tag n (NamedTree b) e = refl
no_tag n (ListTree k c) e = refl
no_tag n (StringTree c) e = refl
no_tag n (StreamTree s m) e = refl

-- a tag of another number
pub another_tag : (n m : ℕ) (i : Option Indicator) (w : Tree OneItem) → tag_head w ≡ Some (m, i) → m ≢ n → called_tag (number n) w ≡ None
another_tag n m i (EnclosedTree (opener.Tag j k) c) e other =
    let same : k ≡ m = ap (λ (p : ℕ × Option Indicator). p.0) (some_is (head k j) (head m i) e) in
    rw (ne_eqb n k (λ is. other (sym (is ∙ same))))
another_tag n m i (EnclosedTree opener.Simple c) e other = refl
another_tag n m i (NumberTree x j) e other = refl
another_tag n m i (FloatTree f j) e other = refl
another_tag n m i (NamedTree b) e other = refl
another_tag n m i (ListTree k c) e other = refl
another_tag n m i (StringTree c) e other = refl
another_tag n m i (StreamTree s k) e other = refl

-- the tag of this number
pub this_tag : (n m : ℕ) (i : Option Indicator) (c : Tree Standalone) (w : Tree OneItem) → tag_head w ≡ Some (m, i) → m ≡ n → tag_content w ≡ Some c → Some (parts n i (inner_item c)) ≡ called_tag (number n) w
this_tag n m i c (EnclosedTree (opener.Tag j k) d) e same content =
    let is = some_is (head k j) (head m i) e in
    let inner : d ≡ c = some_is d c content in
    let number : k ≡ n = ap (λ (p : ℕ × Option Indicator). p.0) is ∙ same in
    let indicator : j ≡ i = ap (λ (p : ℕ × Option Indicator). p.1) is in
    rw (eq-eqb n k (sym number)) (sym (by number indicator inner))
  where
    by : {k n : ℕ} {j i : Option Indicator} {d c : Tree Standalone} → k ≡ n → j ≡ i → d ≡ c → Some (parts k j (inner_item d)) ≡ Some (parts n i (inner_item c))
    by a b e = cc
this_tag n m i c (EnclosedTree opener.Simple d) e same content = absurd cc
this_tag n m i c (NumberTree x j) e same content = absurd cc
this_tag n m i c (FloatTree f j) e same content = absurd cc
this_tag n m i c (NamedTree b) e same content = absurd cc
this_tag n m i c (ListTree k d) e same content = absurd cc
this_tag n m i c (StringTree d) e same content = absurd cc
this_tag n m i c (StreamTree s k) e same content = absurd cc

-- a tag has a content
pub has_content : (m : ℕ) (i : Option Indicator) (w : Tree OneItem) → tag_head w ≡ Some (m, i) → tag_content w ≡ None → ⊥
has_content m i (EnclosedTree (opener.Tag j k) d) e content = cc
has_content m i (EnclosedTree opener.Simple d) e content = cc
has_content m i (NumberTree x j) e content = cc
has_content m i (FloatTree f j) e content = cc
has_content m i (NamedTree b) e content = cc
has_content m i (ListTree k d) e content = cc
has_content m i (StringTree d) e content = cc
has_content m i (StreamTree s k) e content = cc
