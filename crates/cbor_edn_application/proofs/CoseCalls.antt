-- What functions make of COSE messages at their tags.
use Rattle.std.proofs.Common.{ℕ, pos, List, [], ◌==◌, ◌≡◌, ◌≢◌, true, false, cond, None, Some, Option, refl, sym, ap, subst, ◌∙◌, arith}
use Rattle.std.proofs.lemmas.Bool.Decides.{nat_tests}
use Rattle.cbor_edn_parts.specs.declared.base.indicator.Indicator.{Indicator}
use Rattle.cbor_edn_model.specs.declared.text.opener.OpenerKind.TheVariants as opener
use Rattle.cbor_edn_model.specs.access.Accessed.{tag_content, tag_head}
use Rattle.cbor_edn_model.specs.access.Paths.{at_standalone, with_at_standalone}
use Rattle.cbor_edn_model.specs.tree.Items as kind
use Rattle.cbor_edn_model.specs.visit.Seeking.{CallArguments, number}
use Rattle.cbor_edn_model.specs.tree.Trees.{Tree, OneItem, Standalone, NumberTree, FloatTree, NamedTree, EnclosedTree, ListTree, StringTree, StreamTree, StandaloneTree, items}
use Rattle.cbor_edn_model.specs.visit.Visits.{Answer, fine, comment, no_memory}
use Rattle.cbor_edn_core.specs.access.Lent.{with_tag_content}
use Rattle.cbor_edn_conversions.specs.declared.tables.Structure.{Structure}
use Rattle.cbor_edn_conversions.specs.Conversions.{Reply}
use Rattle.cbor_edn_conversions.specs.Cose.{called_message, named_message, comment_cose, with_parts, all_levels}
use Rattle.cbor_edn_conversions.specs.CoseTables.{messages}
use Rattle.cbor_edn_conversions.specs.Tables.{found}
use Rattle.cbor_edn_conversions.proofs.conversions.CoseKept.{parts_left}
use Rattle.cbor_edn_application.specs.Acts.{AnswersSo}
use Rattle.cbor_edn_application.specs.Comments.{CommentsSo, CommentsBy, CommentsInside, message_reply}

some_is : (x y : Tree OneItem) → Some x ≡ Some y → x ≡ y
some_is x y e = cc

-- What stands between spaces, once the loan of the item is over.
pub inside_comments : (f : Tree OneItem → Reply) (s t : Tree Standalone) (x y : Tree OneItem) (r : Answer)
    → Some x ≡ at_standalone [] s → t ≡ with_at_standalone [] y s → CommentsSo f x r y → CommentsInside f s r t
inside_comments f (StandaloneTree a z b) t x y r at lent h = let item : x ≡ z = some_is x z at in (y, lent, subst (λ o. CommentsSo f o r y) item h)

-- what is put into the array, and then answered
pub array_comments : (name : List ℕ) (x : Structure) (w v : Tree OneItem) (r : Answer) → v ≡ with_parts all_levels x w → AnswersSo (comment name) r → CommentsSo (message_reply name x) w r v
array_comments name x w v fine left said = (said, left)
array_comments name x w v (comment c) left said = (said, left)
array_comments name x w v no_memory left said = ap (λ z. items z) left ∙ parts_left all_levels x w

-- ---- tags

content_comments : (name : List ℕ) (x : Structure) (i : Option Indicator) (n : ℕ) (a b : List ℕ) (z y : Tree OneItem) (r : Answer) (v : Tree OneItem)
    → CommentsSo (message_reply name x) z r y → v ≡ EnclosedTree (opener.Tag i n) (StandaloneTree a y b)
    → CommentsSo (λ w. named_message w (Some (name, x))) (EnclosedTree (opener.Tag i n) (StandaloneTree a z b)) r v
unfolding items
content_comments name x i n a b z y fine v h left = (h.0, left ∙ ap (λ z. EnclosedTree (opener.Tag i n) (StandaloneTree a z b)) h.1)
content_comments name x i n a b z y (comment c) v h left = (h.0, left ∙ ap (λ z. EnclosedTree (opener.Tag i n) (StandaloneTree a z b)) h.1)
content_comments name x i n a b z y no_memory v h left = ap (λ z. items z) left ∙ ap (λ m. kind.Tagged n i m) h

-- A tag has comments in what it holds, once the loan of that is over.
tag_comments : (name : List ℕ) (x : Structure) (w v : Tree OneItem) (s t : Tree Standalone) (r : Answer)
    → Some s ≡ tag_content w → v ≡ with_tag_content t w → CommentsInside (message_reply name x) s r t → CommentsSo (λ w. named_message w (Some (name, x))) w r v
tag_comments name x (EnclosedTree (opener.Tag i n) (StandaloneTree a z b)) v s t r holds lent h =
    let is : s ≡ StandaloneTree a z b = cc in
    let k : CommentsInside (message_reply name x) (StandaloneTree a z b) r t = subst (λ o. CommentsInside (message_reply name x) o r t) is h in
    content_comments name x i n a b z k.0 r v k.2 (lent ∙ ap (λ c. EnclosedTree (opener.Tag i n) c) k.1)
tag_comments name x (NumberTree p i) v s t r holds lent h = absurd cc
tag_comments name x (FloatTree p i) v s t r holds lent h = absurd cc
tag_comments name x (NamedTree b) v s t r holds lent h = absurd cc
tag_comments name x (EnclosedTree opener.Simple w) v s t r holds lent h = absurd cc
tag_comments name x (ListTree k w) v s t r holds lent h = absurd cc
tag_comments name x (StringTree w) v s t r holds lent h = absurd cc
tag_comments name x (StreamTree p m) v s t r holds lent h = absurd cc

by_message : (a : CallArguments) (w v : Tree OneItem) (r : Answer) (o : Option (List ℕ × Structure)) → called_message a w ≡ o → CommentsSo (λ w. named_message w o) w r v → CommentsBy comment_cose a w r v
unfolding comment_cose
by_message a w v fine o is h = (h.0 ∙ ap (λ o. (named_message w o).0) (sym is), h.1 ∙ ap (λ o. (named_message w o).1) (sym is))
by_message a w v (comment c) o is h = (h.0 ∙ ap (λ o. (named_message w o).0) (sym is), h.1 ∙ ap (λ o. (named_message w o).1) (sym is))
by_message a w v no_memory o is h = h

pub message_comments : (a : CallArguments) (name : List ℕ) (x : Structure) (w v : Tree OneItem) (s t : Tree Standalone) (r : Answer) → called_message a w ≡ Some (name, x)
    → Some s ≡ tag_content w → v ≡ with_tag_content t w → CommentsInside (message_reply name x) s r t → CommentsBy comment_cose a w r v
message_comments a name x w v s t r is holds lent h = by_message a w v r (Some (name, x)) is (tag_comments name x w v s t r holds lent h)

pub no_message : (a : CallArguments) (w : Tree OneItem) → called_message a w ≡ None → CommentsBy comment_cose a w fine w
no_message a w is = by_message a w w fine None is (refl, refl)

-- a message has a content
pub message_content : (a : CallArguments) (w : Tree OneItem) (m : List ℕ × Structure) → called_message a w ≡ Some m → tag_content w ≡ None → ⊥
message_content a (EnclosedTree (opener.Tag i n) w) m is none = cc
message_content a (EnclosedTree opener.Simple w) m is none = cc
message_content a (NumberTree x i) m is none = cc
message_content a (FloatTree f i) m is none = cc
message_content a (NamedTree b) m is none = cc
message_content a (ListTree k w) m is none = cc
message_content a (StringTree w) m is none = cc
message_content a (StreamTree s m') m is none = cc

-- ---- the message by the head of its tag

abbrev by_head : ℕ → Option (ℕ × Option Indicator) → Option (List ℕ × Structure)
by_head n None = None
by_head n (Some p) = cond (n == p.0) (found messages (pos p.0)) None

is_by_head : (n : ℕ) (w : Tree OneItem) → by_head n (tag_head w) ≡ called_message (number n) w
is_by_head n (EnclosedTree (opener.Tag j l) w) = refl
is_by_head n (EnclosedTree opener.Simple w) = refl
is_by_head n (NumberTree x j) = refl
is_by_head n (FloatTree f j) = refl
is_by_head n (NamedTree b) = refl
is_by_head n (ListTree r w) = refl
is_by_head n (StringTree w) = refl
is_by_head n (StreamTree s r) = refl

pub called_none : (n : ℕ) (w : Tree OneItem) → tag_head w ≡ None → None ≡ called_message (number n) w
called_none n w is = ap (by_head n) (sym is) ∙ is_by_head n w

same : (n : ℕ) → (n == n) ≡ true
same n = grind (arith, nat_tests)

others : (n m : ℕ) → m ≢ n → (n == m) ≡ false
others n m e = grind (arith, nat_tests)

pub called_other : (n m : ℕ) (i : Option Indicator) (w : Tree OneItem) → tag_head w ≡ Some (m, i) → m ≢ n → None ≡ called_message (number n) w
called_other n m i w is other = ap (λ b. cond b (found messages (pos m)) None) (sym (others n m other)) ∙ (ap (by_head n) (sym is) ∙ is_by_head n w)

pub called_by : (n : ℕ) (i : Option Indicator) (w : Tree OneItem) → tag_head w ≡ Some (n, i) → found messages (pos n) ≡ called_message (number n) w
called_by n i w is = ap (λ b. cond b (found messages (pos n)) None) (sym (same n)) ∙ (ap (by_head n) (sym is) ∙ is_by_head n w)

pub called_of : (n m : ℕ) (i : Option Indicator) (w : Tree OneItem) → tag_head w ≡ Some (m, i) → m ≡ n → found messages (pos n) ≡ called_message (number n) w
called_of n m i w is e = called_by n i w (is ∙ ap (λ k. Some (k, i)) e)
