-- The comments of a space text are those of the set, and a separator is cut at its comma.
use Rattle.std.proofs.Common.{ℕ, ◌≡◌, ◌≢◌, ◌⊎◌, inl, inr, List, [], ◌∷◌, ◌++◌, Bool, true, false, cond, refl, sym, ap, ◌∙◌, subst, append_assoc, arith}
use Rattle.std.specs.Prelude.{eqb}
use mathlib.Core.Logic.{⊎_elim}
use Rattle.std.proofs.lemmas.Bool.Decides.{nat_tests, Decides-or, Decides-eqb}
use Rattle.std.proofs.lemmas.List.{append-nil}
use Rattle.std.proofs.lemmas.List.Elements.{All-nil}
use Rattle.cbor_edn_parts.specs.space.Space.{IsBlank, InSlashes, InHash, IsComment, slashes, hash, IsSpace, empty, blank, comment}
use Rattle.cbor_edn_parts.specs.space.Comments.{BeginsWithComment, EndsWithComment, IsCommentsOf, OneCommentsOf, CutAtComma}
use Rattle.cbor_edn_parts.specs.internal.CommentReading.{is_blank, past, from_first, unless_last, to_last, comments_of, is_comma, up_to_comma, past_comma, before_comma, after_comma}
use Rattle.cbor_edn_parts.specs.declared.space.SpaceState.TheVariants as within
use Rattle.cbor_edn_parts.proofs.lemmas.base.Each.{Each, end, next, each, each_of, all}

-- ---- bytes

blank_is : (c : ℕ) → IsBlank c → is_blank c ≡ true
blank_is c b = (Decides-or (eqb c 9) _ (Decides-eqb c 9) (Decides-or (eqb c 10) _ (Decides-eqb c 10) (Decides-or (eqb c 13) _ (Decides-eqb c 13) (Decides-eqb c 32)))).1 b

blank_stays : (c : ℕ) → is_blank c ≡ true → past within.Between c ≡ within.Between
blank_stays c b = grind (arith, nat_tests)

blank_past : (c : ℕ) → IsBlank c → past within.Between c ≡ within.Between
blank_past c b = blank_stays c (blank_is c b)

blank_comma : (c : ℕ) → is_blank c ≡ true → is_comma within.Between c ≡ false
blank_comma c b = grind (arith, nat_tests)

slashes_past : (c : ℕ) → c ≢ 47 → past within.InSlashes c ≡ within.InSlashes
slashes_past c h = grind (arith, nat_tests)

hash_stays : (c : ℕ) → c ≢ 10 → past within.InHash c ≡ within.InHash
hash_stays c h = grind (arith, nat_tests)

hash_past : (c : ℕ) → InHash c → past within.InHash c ≡ within.InHash
hash_past c h = hash_stays c (⊎_elim (λ e. omega arith) (⊎_elim (λ e. omega arith) (λ p. omega arith)) h)

-- ---- lists of blanks, and space in a row

pub spaces_append : {x y : List ℕ} → IsSpace x → IsSpace y → IsSpace (x ++ y)
spaces_append empty t = t
spaces_append (blank b s) t = blank b (spaces_append s t)
spaces_append (comment {b = c} {x = x} k s) t = subst IsSpace (sym (append_assoc c x _)) (comment k (spaces_append s t))

pub comment_space : {c : List ℕ} → IsComment c → IsSpace c
comment_space {c} k = subst IsSpace (append-nil c) (comment k empty)

pub blanks_space : {x : List ℕ} → Each IsBlank x → IsSpace x
blanks_space end = empty
blanks_space (next b more) = blank b (blanks_space more)

-- ---- to the last comment

to_last-blank : (c : ℕ) (x : List ℕ) → IsBlank c → to_last within.Between (c ∷ x) ≡ unless_last true c (to_last within.Between x)
unfolding to_last
to_last-blank c x b = rw (blank_is c b, blank_past c b)

to_last-in_slashes : {x : List ℕ} (y : List ℕ) → Each InSlashes x → to_last within.InSlashes ((x ++ (47 ∷ [])) ++ y) ≡ (x ++ (47 ∷ [])) ++ to_last within.Between y
unfolding to_last
to_last-in_slashes y end = refl
to_last-in_slashes y (next {c = c} h more) = rw (slashes_past c h.0) (ap (c ∷◌) (to_last-in_slashes y more))

to_last-in_hash : {x : List ℕ} (y : List ℕ) → Each InHash x → to_last within.InHash ((x ++ (10 ∷ [])) ++ y) ≡ (x ++ (10 ∷ [])) ++ to_last within.Between y
unfolding to_last
to_last-in_hash y end = refl
to_last-in_hash y (next {c = c} h more) = rw (hash_past c h) (ap (c ∷◌) (to_last-in_hash y more))

to_last-comment : {c : List ℕ} (y : List ℕ) → IsComment c → to_last within.Between (c ++ y) ≡ c ++ to_last within.Between y
unfolding to_last
to_last-comment y (slashes x h) = ap (47 ∷◌) (to_last-in_slashes y (each_of x h))
to_last-comment y (hash x h) = ap (35 ∷◌) (to_last-in_hash y (each_of x h))

to_last-blanks : {x : List ℕ} → Each IsBlank x → to_last within.Between x ≡ []
unfolding to_last
to_last-blanks end = refl
to_last-blanks (next {c = c} {x = x} b more) = to_last-blank c x b ∙ ap (unless_last true c) (to_last-blanks more)

not_last : (c : ℕ) (t : List ℕ) → t ≢ [] → unless_last true c t ≡ c ∷ t
not_last c [] some = absurd (some refl)
not_last c (a ∷ t) some = refl

behind_some : (x t : List ℕ) → t ≢ [] → x ++ t ≢ []
behind_some [] t some = some
behind_some (c ∷ x) t some = λ e. cc

-- space in front of what is left
to_last-space : {x : List ℕ} (y t : List ℕ) → IsSpace x → t ≢ [] → to_last within.Between y ≡ t → to_last within.Between (x ++ y) ≡ x ++ t
to_last-space y t empty some e = e
to_last-space y t (blank {c = c} {x = x} b s) some e = to_last-blank c (x ++ y) b ∙ (ap (unless_last true c) (to_last-space y t s some e) ∙ not_last c (x ++ t) (behind_some x t some))
to_last-space y t (comment {b = c} {x = x} k s) some e = ap (to_last within.Between) (append_assoc c x y) ∙ (to_last-comment (x ++ y) k ∙ (ap (c ++◌) (to_last-space y t s some e) ∙ sym (append_assoc c x t)))

-- t is what is left of x up to its last comment.
record Ended (x t : List ℕ) : Type 0 where
  back : List ℕ
  blanks : Each IsBlank back
  whole : x ≡ t ++ back
  ends : (t ≡ []) ⊎ EndsWithComment t

blank_ended : (c : ℕ) (x t : List ℕ) → IsBlank c → Ended x t → Ended (c ∷ x) (unless_last true c t)
blank_ended c x [] b e = record { back = c ∷ x; blanks = next b (subst (Each IsBlank) (sym e.whole) e.blanks); whole = refl; ends = inl refl }
blank_ended c x (a ∷ t) b e = record {
  back = e.back;
  blanks = e.blanks;
  whole = ap (c ∷◌) e.whole;
  ends = ⊎_elim (λ q. absurd (cc)) (λ (s, d, is, k, q). inr (c ∷ s, d, blank b is, k, ap (c ∷◌) q)) e.ends;
}

comment_ended : {c : List ℕ} (x t : List ℕ) → IsComment c → Ended x t → Ended (c ++ x) (c ++ t)
comment_ended {c} x t k e = record {
  back = e.back;
  blanks = e.blanks;
  whole = ap (c ++◌) e.whole ∙ sym (append_assoc c t e.back);
  ends = inr (⊎_elim (λ q. ([], c, empty, k, ap (c ++◌) q ∙ append-nil c)) (λ (s, d, is, j, q). (c ++ s, d, comment k is, j, ap (c ++◌) q ∙ sym (append_assoc c s d))) e.ends);
}

ended : {x : List ℕ} → IsSpace x → Ended x (to_last within.Between x)
unfolding to_last
ended empty = record { back = []; blanks = end; whole = refl; ends = inl refl }
ended (blank {c = c} {x = x} b s) = subst (Ended (c ∷ x)) (sym (to_last-blank c x b)) (blank_ended c x (to_last within.Between x) b (ended s))
ended (comment {b = c} {x = x} k s) = subst (Ended (c ++ x)) (sym (to_last-comment x k)) (comment_ended x (to_last within.Between x) k (ended s))

ends_space : {t : List ℕ} → EndsWithComment t → IsSpace t
ends_space (s, d, is, k, q) = subst IsSpace (sym q) (spaces_append is (comment_space k))

ended_space : (x t : List ℕ) → Ended x t → IsSpace t
ended_space x t e = ⊎_elim (λ q. subst IsSpace (sym q) empty) ends_space e.ends

-- ---- from the first comment

from_first-blank : (c : ℕ) (x : List ℕ) → IsBlank c → from_first (c ∷ x) ≡ from_first x
unfolding from_first
from_first-blank c x b = rw (blank_is c b)

from_first-comment : {c : List ℕ} (x : List ℕ) → IsComment c → from_first (c ++ x) ≡ c ++ x
unfolding from_first
from_first-comment x (slashes y h) = refl
from_first-comment x (hash y h) = refl

from_first-blanks : {u : List ℕ} (x : List ℕ) → Each IsBlank u → from_first (u ++ x) ≡ from_first x
from_first-blanks x end = refl
from_first-blanks x (next {c = c} {x = u} b more) = from_first-blank c (u ++ x) b ∙ from_first-blanks x more

record Begun (x t : List ℕ) : Type 0 where
  front : List ℕ
  blanks : Each IsBlank front
  whole : x ≡ front ++ t
  begins : (t ≡ []) ⊎ BeginsWithComment t

begun : {x : List ℕ} → IsSpace x → Begun x (from_first x)
unfolding from_first
begun empty = record { front = []; blanks = end; whole = refl; begins = inl refl }
begun (blank {c = c} {x = x} b s) =
    let e : Begun x (from_first x) = begun s in
    subst (Begun (c ∷ x)) (sym (from_first-blank c x b)) (record { front = c ∷ e.front; blanks = next b e.blanks; whole = ap (c ∷◌) e.whole; begins = e.begins })
begun (comment {b = c} {x = x} k s) = subst (Begun (c ++ x)) (sym (from_first-comment x k)) (record { front = []; blanks = end; whole = refl; begins = inr (c, x, k, s, refl) })

-- ---- the comments

some_comment : {c : List ℕ} (x : List ℕ) → IsComment c → c ++ x ≢ []
some_comment x (slashes y h) = λ e. cc
some_comment x (hash y h) = λ e. cc

with_comment : (x c s t : List ℕ) → IsComment c → IsSpace s → from_first x ≡ c ++ s → Begun x (from_first x) → IsCommentsOf x (c ++ to_last within.Between s)
with_comment x c s t k is q b =
    let r : List ℕ = to_last within.Between s in
    let e : Ended (c ++ s) (c ++ r) = comment_ended s r k (ended is) in
    record {
      front = b.front;
      back = e.back;
      front_blank = all b.blanks;
      back_blank = all e.blanks;
      trimmed = inr ((c, r, k, ended_space s r (ended is), refl), ⊎_elim (λ n. absurd (some_comment r k n)) (λ h. h) e.ends);
      whole = b.whole ∙ ap (b.front ++◌) (q ∙ e.whole);
    }

pub comments_is : {x : List ℕ} → IsSpace x → IsCommentsOf x (comments_of x)
unfolding to_last
comments_is {x} s =
    let b : Begun x (from_first x) = begun s in
    ⊎_elim
    (λ q. subst (IsCommentsOf x) (sym (ap (to_last within.Between) q)) (record { front = b.front; back = []; front_blank = all b.blanks; back_blank = All-nil IsBlank; trimmed = inl refl; whole = b.whole ∙ ap (b.front ++◌) q }))
    (λ (c, r, k, is, q). subst (IsCommentsOf x) (sym (ap (to_last within.Between) q ∙ to_last-comment r k)) (with_comment x c r r k is q b))
    b.begins

from_begins : (t back : List ℕ) → BeginsWithComment t → from_first (t ++ back) ≡ t ++ back
from_begins t back (c, s, k, is, q) = subst (λ t. from_first (t ++ back) ≡ t ++ back) (sym q) (ap from_first (append_assoc c s back) ∙ (from_first-comment (s ++ back) k ∙ sym (append_assoc c s back)))

to_ends : (t back : List ℕ) → EndsWithComment t → Each IsBlank back → to_last within.Between (t ++ back) ≡ t
to_ends t back (s, d, is, k, q) blanks =
    let e : to_last within.Between (d ++ back) ≡ d = to_last-comment back k ∙ (ap (d ++◌) (to_last-blanks blanks) ∙ append-nil d) in
    let some : d ≢ [] = λ n. some_comment [] k (append-nil d ∙ n) in
    subst (λ t. to_last within.Between (t ++ back) ≡ t) (sym q) (ap (to_last within.Between) (append_assoc s d back) ∙ to_last-space (d ++ back) d is some e)

-- what has such comments has these
pub comments_only : (x t : List ℕ) → IsCommentsOf x t → comments_of x ≡ t
unfolding from_first to_last
comments_only x t h =
    let e : from_first x ≡ from_first (t ++ h.back) = ap from_first h.whole ∙ from_first-blanks (t ++ h.back) (each h.front_blank) in
    ap (to_last within.Between) e
    ∙ ⊎_elim
    (λ q. ap (λ t. to_last within.Between (from_first (t ++ h.back))) q ∙ (ap (λ x. to_last within.Between (from_first x)) (sym (append-nil h.back)) ∙ (ap (to_last within.Between) (from_first-blanks [] (each h.back_blank)) ∙ sym q)))
    (λ (b, k). ap (to_last within.Between) (from_begins t h.back b) ∙ to_ends t h.back k (each h.back_blank))
    h.trimmed

pub one_comments_of : (x : List ℕ) → OneCommentsOf x
one_comments_of x s t = (λ h. sym (comments_only x t h), λ e. subst (IsCommentsOf x) (sym e) (comments_is s))

-- ---- the comma

in_front-in_slashes : {x : List ℕ} (y : List ℕ) → Each InSlashes x → up_to_comma within.InSlashes ((x ++ (47 ∷ [])) ++ y) ≡ (x ++ (47 ∷ [])) ++ up_to_comma within.Between y
unfolding up_to_comma
in_front-in_slashes y end = refl
in_front-in_slashes y (next {c = c} h more) = rw (slashes_past c h.0) (ap (c ∷◌) (in_front-in_slashes y more))

in_front-in_hash : {x : List ℕ} (y : List ℕ) → Each InHash x → up_to_comma within.InHash ((x ++ (10 ∷ [])) ++ y) ≡ (x ++ (10 ∷ [])) ++ up_to_comma within.Between y
unfolding up_to_comma
in_front-in_hash y end = refl
in_front-in_hash y (next {c = c} h more) = rw (hash_past c h) (ap (c ∷◌) (in_front-in_hash y more))

in_front-space : {x : List ℕ} (y : List ℕ) → IsSpace x → up_to_comma within.Between (x ++ y) ≡ x ++ up_to_comma within.Between y
unfolding up_to_comma
in_front-space y empty = refl
in_front-space y (blank {c = c} {x = x} b s) = rw (blank_comma c (blank_is c b), blank_past c b) (ap (c ∷◌) (in_front-space y s))
in_front-space y (comment {x = x} (slashes c h) s) = ap (λ t. 47 ∷ up_to_comma within.InSlashes t) (append_assoc (c ++ (47 ∷ [])) x y) ∙ (ap (47 ∷◌) (in_front-in_slashes (x ++ y) (each_of c h)) ∙ (ap (λ t. 47 ∷ ((c ++ (47 ∷ [])) ++ t)) (in_front-space y s) ∙ ap (47 ∷◌) (sym (append_assoc (c ++ (47 ∷ [])) x _))))
in_front-space y (comment {x = x} (hash c h) s) = ap (λ t. 35 ∷ up_to_comma within.InHash t) (append_assoc (c ++ (10 ∷ [])) x y) ∙ (ap (35 ∷◌) (in_front-in_hash (x ++ y) (each_of c h)) ∙ (ap (λ t. 35 ∷ ((c ++ (10 ∷ [])) ++ t)) (in_front-space y s) ∙ ap (35 ∷◌) (sym (append_assoc (c ++ (10 ∷ [])) x _))))

behind-in_slashes : {x : List ℕ} (y : List ℕ) → Each InSlashes x → past_comma within.InSlashes ((x ++ (47 ∷ [])) ++ y) ≡ past_comma within.Between y
unfolding past_comma
behind-in_slashes y end = refl
behind-in_slashes y (next {c = c} h more) = rw (slashes_past c h.0) (behind-in_slashes y more)

behind-in_hash : {x : List ℕ} (y : List ℕ) → Each InHash x → past_comma within.InHash ((x ++ (10 ∷ [])) ++ y) ≡ past_comma within.Between y
unfolding past_comma
behind-in_hash y end = refl
behind-in_hash y (next {c = c} h more) = rw (hash_past c h) (behind-in_hash y more)

behind-space : {x : List ℕ} (y : List ℕ) → IsSpace x → past_comma within.Between (x ++ y) ≡ past_comma within.Between y
unfolding past_comma
behind-space y empty = refl
behind-space y (blank {c = c} {x = x} b s) = rw (blank_comma c (blank_is c b), blank_past c b) (behind-space y s)
behind-space y (comment {x = x} (slashes c h) s) = ap (past_comma within.InSlashes) (append_assoc (c ++ (47 ∷ [])) x y) ∙ (behind-in_slashes (x ++ y) (each_of c h) ∙ behind-space y s)
behind-space y (comment {x = x} (hash c h) s) = ap (past_comma within.InHash) (append_assoc (c ++ (10 ∷ [])) x y) ∙ (behind-in_hash (x ++ y) (each_of c h) ∙ behind-space y s)

pub cut_at_comma : (x y : List ℕ) → CutAtComma x y
unfolding up_to_comma past_comma
cut_at_comma x y = record {
  front = λ s. in_front-space (44 ∷ y) s ∙ append-nil x;
  back = λ s. behind-space (44 ∷ y) s;
  alone = λ s. ap (up_to_comma within.Between) (sym (append-nil x)) ∙ (in_front-space [] s ∙ append-nil x);
  nothing = λ s. ap (past_comma within.Between) (sym (append-nil x)) ∙ behind-space [] s;
}

-- ---- blanks in front

other_front : (c : ℕ) (comma : Bool) (x : List ℕ) → is_blank c ≡ false → from_first (cond comma [] (c ∷ x)) ≡ cond comma [] (c ∷ x)
unfolding from_first
other_front c true x e = refl
other_front c false x e = rw e refl

front_step : (c : ℕ) (x : List ℕ) (b : Bool) → is_blank c ≡ b → from_first (before_comma x) ≡ before_comma (from_first x) → from_first (before_comma (c ∷ x)) ≡ before_comma (from_first (c ∷ x))
unfolding from_first up_to_comma
front_step c x true e rest = rw (blank_comma c e, blank_stays c e, e) rest
front_step c x false e rest = rw e (other_front c (is_comma within.Between c) (up_to_comma (past within.Between c) x) e)

-- Blanks that a text begins with stand in front of its comma, and are none of its comments.
pub front_first : (x : List ℕ) → from_first (before_comma x) ≡ before_comma (from_first x)
unfolding from_first up_to_comma
front_first [] = refl
front_first (c ∷ x) = front_step c x (is_blank c) refl (front_first x)

behind_step : (c : ℕ) (x : List ℕ) (b : Bool) → is_blank c ≡ b → after_comma x ≡ after_comma (from_first x) → after_comma (c ∷ x) ≡ after_comma (from_first (c ∷ x))
unfolding from_first past_comma
behind_step c x true e rest = rw (blank_comma c e, blank_stays c e, e) rest
behind_step c x false e rest = rw e refl

-- What stands behind the comma stays.
pub behind_first : (x : List ℕ) → after_comma x ≡ after_comma (from_first x)
unfolding from_first past_comma
behind_first [] = refl
behind_first (c ∷ x) = behind_step c x (is_blank c) refl (behind_first x)
