-- Comments in what stands in a tag.
use Rattle.std.proofs.Common.{ℕ, Bool, true, false, List, [], ◌≡◌, None, Some, refl, sym, ap, subst, ◌∙◌, if◌then◌else◌}
use Rattle.cbor_edn_model.specs.declared.text.opener.OpenerKind.TheVariants as opener
use Rattle.cbor_edn_model.specs.access.Accessed.{tag_content}
use Rattle.cbor_edn_model.specs.access.Paths.{at_standalone, with_at_standalone}
use Rattle.cbor_edn_model.specs.visit.Seeking.{CallArguments}
use Rattle.cbor_edn_model.specs.tree.Trees.{Tree, OneItem, Standalone, NumberTree, FloatTree, NamedTree, EnclosedTree, ListTree, StringTree, StreamTree, StandaloneTree}
use Rattle.cbor_edn_model.specs.visit.Visits.{Answer, fine, comment, no_memory}
use Rattle.cbor_edn_core.specs.access.Lent.{with_tag_content}
use Rattle.cbor_edn_conversions.specs.Annotations.{with_direction, at_content, is_called_tag, comment_lang}
use Rattle.cbor_edn_conversions.specs.Conversions.{Reply}
use Rattle.cbor_edn_application.specs.Acts.{ActsSo, ActsBy, ActsInside}

content_acts : (f : Tree OneItem → Reply) (i : _) (n : ℕ) (a b : List ℕ) (x y : Tree OneItem) (r : Answer)
    → ActsSo f x r y → ActsSo (at_content f) (EnclosedTree (opener.Tag i n) (StandaloneTree a x b)) r (EnclosedTree (opener.Tag i n) (StandaloneTree a y b))
content_acts f i n a b x y fine h = (h.0, ap (λ z. EnclosedTree (opener.Tag i n) (StandaloneTree a z b)) h.1)
content_acts f i n a b x y (comment c) h = (h.0, ap (λ z. EnclosedTree (opener.Tag i n) (StandaloneTree a z b)) h.1)
content_acts f i n a b x y no_memory h = ap (λ z. EnclosedTree (opener.Tag i n) (StandaloneTree a z b)) h

some_is : (x y : Tree OneItem) → Some x ≡ Some y → x ≡ y
some_is x y e = cc

-- What stands between spaces, once the loan of the item is over.
pub inside_acts : (f : Tree OneItem → Reply) (s t : Tree Standalone) (x y : Tree OneItem) (r : Answer)
    → Some x ≡ at_standalone [] s → t ≡ with_at_standalone [] y s → ActsSo f x r y → ActsInside f s r t
inside_acts f (StandaloneTree a z b) t x y r at lent acts = let item : x ≡ z = some_is x z at in (y, lent, subst (λ o. ActsSo f o r y) item acts)

pub nothing_inside : (s : Tree Standalone) → None ≡ at_standalone [] s → ⊥
nothing_inside (StandaloneTree a z b) at = cc

-- A tag acts as what it holds, once the loan of that is over.
pub tag_acts : (f : Tree OneItem → Reply) (w v : Tree OneItem) (s t : Tree Standalone) (r : Answer)
    → Some s ≡ tag_content w → v ≡ with_tag_content t w → ActsInside f s r t → ActsSo (at_content f) w r v
tag_acts f (EnclosedTree (opener.Tag i n) (StandaloneTree a z b)) v s t r holds lent acts =
    let is : s ≡ StandaloneTree a z b = cc in
    let h : ActsInside f (StandaloneTree a z b) r t = subst (λ o. ActsInside f o r t) is acts in
    let left : v ≡ EnclosedTree (opener.Tag i n) (StandaloneTree a h.0 b) = lent ∙ ap (λ c. EnclosedTree (opener.Tag i n) c) h.1 in
    subst (λ o. ActsSo (at_content f) (EnclosedTree (opener.Tag i n) (StandaloneTree a z b)) r o) (sym left) (content_acts f i n a b z h.0 r h.2)
tag_acts f (NumberTree p i) v s t r holds lent acts = absurd cc
tag_acts f (FloatTree p i) v s t r holds lent acts = absurd cc
tag_acts f (NamedTree b) v s t r holds lent acts = absurd cc
tag_acts f (EnclosedTree opener.Simple w) v s t r holds lent acts = absurd cc
tag_acts f (ListTree k w) v s t r holds lent acts = absurd cc
tag_acts f (StringTree w) v s t r holds lent acts = absurd cc
tag_acts f (StreamTree p m) v s t r holds lent acts = absurd cc

-- ---- tag 38

-- the tag of a call has a content
pub called_content : (a : CallArguments) (n : ℕ) (w : Tree OneItem) → is_called_tag a n w ≡ true → tag_content w ≡ None → ⊥
called_content a n (EnclosedTree (opener.Tag i m) w) called none = cc
called_content a n (EnclosedTree opener.Simple w) called none = cc
called_content a n (NumberTree x i) called none = cc
called_content a n (FloatTree f i) called none = cc
called_content a n (NamedTree b) called none = cc
called_content a n (ListTree k w) called none = cc
called_content a n (StringTree w) called none = cc
called_content a n (StreamTree s m) called none = cc

same_acts : (f g : Tree OneItem → Reply) (w v : Tree OneItem) (r : Answer) → f w ≡ g w → ActsSo f w r v → ActsSo g w r v
same_acts f g w v fine same h = (h.0 ∙ ap (λ p. p.0) same, h.1 ∙ ap (λ p. p.1) same)
same_acts f g w v (comment c) same h = (h.0 ∙ ap (λ p. p.0) same, h.1 ∙ ap (λ p. p.1) same)
same_acts f g w v no_memory same h = h

chosen : (b : Bool) (p q : Reply) → b ≡ true → p ≡ (if b then p else q)
chosen b p q is = rw is refl

passed : (b : Bool) (p q : Reply) → b ≡ false → q ≡ (if b then p else q)
passed b p q is = rw is refl

-- the tag of the call, where it is 38
pub language_acts : (a : CallArguments) (w v : Tree OneItem) (r : Answer) → is_called_tag a 38 w ≡ true → ActsSo (at_content with_direction) w r v → ActsBy comment_lang a w r v
unfolding comment_lang
language_acts a w v r is acts = same_acts (at_content with_direction) (comment_lang a) w v r (chosen _ _ _ is) acts

-- any other item
pub other_acts : (a : CallArguments) (w : Tree OneItem) → is_called_tag a 38 w ≡ false → ActsBy comment_lang a w fine w
unfolding comment_lang
other_acts a w is = same_acts (λ x. (fine, x)) (comment_lang a) w w fine (passed _ _ _ is) (refl, refl)
