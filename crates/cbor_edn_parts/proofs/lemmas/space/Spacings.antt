-- The table of spaces keeps each text in its set, and forgets an earlier column that keeps comments.
use Rattle.std.proofs.Common.{ℕ, zero, suc, ◌≡◌, ◌≢◌, inl, inr, List, [], ◌∷◌, ◌++◌, refl, sym, ap, ◌∙◌, subst, append_assoc}
use mathlib.Core.Logic.{⊎_elim}
use Rattle.std.proofs.Math.ListN.{replicate}
use Rattle.std.proofs.lemmas.List.{append-nil}
use Rattle.cbor_edn_parts.specs.space.Space.{IsBlank, IsSpace, empty, comment, IsMandatorySpace, IsListEnd, IsSeparator, space, comma, comma_first, space_alone, space_comma}
use Rattle.cbor_edn_parts.specs.space.Comments.{BeginsWithComment, EndsWithComment, IsTrimmed, CutAtComma}
use Rattle.cbor_edn_parts.specs.internal.CommentReading.{from_first, to_last, comments_of, before_comma, after_comma}
use Rattle.cbor_edn_parts.specs.space.Spacing.{SpaceKind, Optional, Mandatory, Separating, AtEnd, Spacing, Least, Comments, OneLine, NewLine, OneSpace, line, or_space, comments_before, comments_after, spaced}
use Rattle.cbor_edn_parts.specs.space.SpacingLaws.{KeepsComments, StaysOfKind, ForgetsColumn}
use Rattle.cbor_edn_parts.proofs.lemmas.base.Each.{Each, end, next, all}
use Rattle.cbor_edn_parts.proofs.lemmas.space.SpaceTexts.{optional_texts, mandatory_texts, at_end_texts, separating_texts}
use Rattle.cbor_edn_parts.proofs.lemmas.space.CommentTexts.{spaces_append, blanks_space, comments_is, comments_only, cut_at_comma}

-- ---- trimmed texts

begins_space : {t : List ℕ} → BeginsWithComment t → IsSpace t
begins_space (c, s, k, is, q) = subst IsSpace (sym q) (comment k is)

trimmed_space : {t : List ℕ} → IsTrimmed t → IsSpace t
trimmed_space h = ⊎_elim (λ q. subst IsSpace (sym q) empty) (λ p. begins_space p.0) h

begins_append : (s t : List ℕ) → BeginsWithComment s → IsSpace t → BeginsWithComment (s ++ t)
begins_append s t (c, x, k, is, q) h = (c, x ++ t, k, spaces_append is h, ap (◌++ t) q ∙ append_assoc c x t)

ends_append : (s t : List ℕ) → IsSpace s → EndsWithComment t → EndsWithComment (s ++ t)
ends_append s t h (x, c, is, k, q) = (s ++ x, c, spaces_append h is, k, ap (s ++◌) q ∙ sym (append_assoc s x c))

trimmed_append : (s t : List ℕ) → IsTrimmed s → IsTrimmed t → IsTrimmed (s ++ t)
trimmed_append s t (inl e) h = subst IsTrimmed (sym (ap (◌++ t) e)) h
trimmed_append s t (inr p) (inl e) = subst IsTrimmed (sym (ap (s ++◌) e ∙ append-nil s)) (inr p)
trimmed_append s t (inr p) (inr q) = inr (begins_append s t p.0 (begins_space q.0), ends_append s t (begins_space p.0) q.1)

-- the comments of a text are trimmed
comments_trimmed : (x : List ℕ) → IsSpace x → IsTrimmed (comments_of x)
comments_trimmed x s = (comments_is s).trimmed

comments_space : (x : List ℕ) → IsSpace x → IsSpace (comments_of x)
comments_space x s = trimmed_space (comments_trimmed x s)

-- behind blanks they are themselves
comments_behind : (u t : List ℕ) → Each IsBlank u → IsTrimmed t → comments_of (u ++ t) ≡ t
comments_behind u t blanks h = comments_only (u ++ t) t (record { front = u; back = []; front_blank = all blanks; back_blank = all end; trimmed = h; whole = ap (u ++◌) (sym (append-nil t)) })

-- ---- what the columns put in front

replicate_blank : (n : ℕ) → Each IsBlank (replicate n 32)
replicate_blank zero = end
replicate_blank (suc n) = next (inr (inr (inr refl))) (replicate_blank n)

line_blank : (n : ℕ) → Each IsBlank (line n)
unfolding line
line_blank n = next (inr (inl refl)) (replicate_blank n)

one_blank : Each IsBlank (32 ∷ [])
one_blank = next (inr (inr (inr refl))) end

-- y is t behind blanks.
abbrev Behind : List ℕ → List ℕ → Type 0
Behind t y = (u : List ℕ) × Each IsBlank u × (y ≡ u ++ t)

behind_space : (t y : List ℕ) → IsSpace t → Behind t y → IsSpace y
behind_space t y s (u, blanks, q) = subst IsSpace (sym q) (spaces_append (blanks_space blanks) s)

behind_comments : (t y : List ℕ) → IsTrimmed t → Behind t y → comments_of y ≡ t
behind_comments t y h (u, blanks, q) = ap comments_of q ∙ comments_behind u t blanks h

itself : (t : List ℕ) → Behind t t
itself t = ([], end, refl)

behind_one : (t : List ℕ) → Behind t (32 ∷ t)
behind_one t = (32 ∷ [], one_blank, refl)

behind_line : (n : ℕ) (t : List ℕ) → Behind t (line n ++ t)
behind_line n t = (line n, line_blank n, refl)

behind_or : (t : List ℕ) → Behind t (or_space t)
behind_or [] = behind_one []
behind_or (c ∷ t) = itself (c ∷ t)

optional_behind : (d : Spacing) (x : List ℕ) → KeepsComments d → Behind (comments_of x) (spaced Optional d x)
optional_behind Least x k = absurd k
optional_behind Comments x k = itself (comments_of x)
optional_behind OneLine x k = itself (comments_of x)
optional_behind (NewLine n) x k = behind_line n (comments_of x)
optional_behind OneSpace x k = behind_one (comments_of x)

mandatory_behind : (d : Spacing) (x : List ℕ) → KeepsComments d → Behind (comments_of x) (spaced Mandatory d x)
mandatory_behind Least x k = absurd k
mandatory_behind Comments x k = behind_or (comments_of x)
mandatory_behind OneLine x k = behind_or (comments_of x)
mandatory_behind (NewLine n) x k = behind_line n (comments_of x)
mandatory_behind OneSpace x k = behind_one (comments_of x)

-- the comments on both sides of a comma, one behind the other
abbrev both : List ℕ → List ℕ
both x = comments_before x ++ comments_after x

at_end_behind : (d : Spacing) (x : List ℕ) → KeepsComments d → Behind (both x) (spaced AtEnd d x)
at_end_behind Least x k = absurd k
at_end_behind Comments x k = itself (both x)
at_end_behind OneLine x k = itself (both x)
at_end_behind (NewLine n) x k = behind_line n (both x)
at_end_behind OneSpace x k = behind_one (both x)

-- a comma between the comments of both sides
record Cut (x y : List ℕ) : Type 0 where
  front : List ℕ
  back : List ℕ
  before : Behind (comments_before x) front
  after : Behind (comments_after x) back
  whole : y ≡ front ++ (44 ∷ back)

separating_cut : (d : Spacing) (x : List ℕ) → KeepsComments d → Cut x (spaced Separating d x)
separating_cut Least x k = absurd k
separating_cut Comments x k = record { front = comments_before x; back = comments_after x; before = itself (comments_before x); after = itself (comments_after x); whole = refl }
separating_cut OneLine x k = record { front = comments_before x; back = 32 ∷ comments_after x; before = itself (comments_before x); after = behind_one (comments_after x); whole = refl }
separating_cut (NewLine n) x k = record { front = comments_before x; back = line n ++ comments_after x; before = itself (comments_before x); after = behind_line n (comments_after x); whole = refl }
separating_cut OneSpace x k = record { front = 32 ∷ comments_before x; back = comments_after x; before = behind_one (comments_before x); after = itself (comments_after x); whole = refl }

-- ---- both sides of the comma are space

abbrev Sides : List ℕ → Type 0
Sides x = IsSpace (before_comma x) × IsSpace (after_comma x)

at_end_sides : {x : List ℕ} → IsListEnd x → Sides x
at_end_sides (space {x = x} s) = let c : CutAtComma x [] = cut_at_comma x [] in (subst IsSpace (sym (c.alone s)) s, subst IsSpace (sym (c.nothing s)) empty)
at_end_sides (comma {x = x} {y = y} s r) = let c : CutAtComma x y = cut_at_comma x y in (subst IsSpace (sym (c.front s)) s, subst IsSpace (sym (c.back s)) r)

separating_sides : {x : List ℕ} → IsSeparator x → Sides x
separating_sides (comma_first s) = at_end_sides (comma empty s)
separating_sides (space_alone s) = at_end_sides (space s.0)
separating_sides (space_comma s r) = at_end_sides (comma s.0 r)

both_trimmed : (x : List ℕ) → Sides x → IsTrimmed (both x)
both_trimmed x h = trimmed_append (comments_before x) (comments_after x) (comments_trimmed (before_comma x) h.0) (comments_trimmed (after_comma x) h.1)

cut_separating : (f g : List ℕ) → IsSpace f → IsSpace g → IsSeparator (f ++ (44 ∷ g))
cut_separating [] g s r = comma_first r
cut_separating (c ∷ f) g s r = space_comma (s, λ e. cc) r

-- ---- each text stays in its set

optional_stays : (c : Spacing) (x : List ℕ) → IsSpace x → IsSpace (spaced Optional c x)
optional_stays Least x s = empty
optional_stays c x s = behind_space (comments_of x) (spaced Optional c x) (comments_space x s) (optional_behind c x tt)

or_some : (t : List ℕ) → or_space t ≢ []
or_some [] = λ e. cc
or_some (c ∷ t) = λ e. cc

mandatory_some : (c : Spacing) (x : List ℕ) → spaced Mandatory c x ≢ []
unfolding line
mandatory_some Least x = λ e. cc
mandatory_some Comments x = or_some (comments_of x)
mandatory_some OneLine x = or_some (comments_of x)
mandatory_some (NewLine n) x = λ e. cc
mandatory_some OneSpace x = λ e. cc

mandatory_stays : (c : Spacing) (x : List ℕ) → IsSpace x → IsMandatorySpace (spaced Mandatory c x)
mandatory_stays Least x s = (blanks_space one_blank, mandatory_some Least x)
mandatory_stays c x s = (behind_space (comments_of x) (spaced Mandatory c x) (comments_space x s) (mandatory_behind c x tt), mandatory_some c x)

separating_stays : (c : Spacing) (x : List ℕ) → Sides x → IsSeparator (spaced Separating c x)
separating_stays Least x h = comma_first empty
separating_stays c x h =
    let e : Cut x (spaced Separating c x) = separating_cut c x tt in
    subst IsSeparator (sym e.whole) (cut_separating e.front e.back (behind_space (comments_before x) e.front (comments_space (before_comma x) h.0) e.before) (behind_space (comments_after x) e.back (comments_space (after_comma x) h.1) e.after))

at_end_stays : (c : Spacing) (x : List ℕ) → Sides x → IsListEnd (spaced AtEnd c x)
at_end_stays Least x h = space empty
at_end_stays c x h = space (behind_space (both x) (spaced AtEnd c x) (trimmed_space (both_trimmed x h)) (at_end_behind c x tt))

pub spaced_stays : StaysOfKind
spaced_stays Optional c x e = (optional_texts (spaced Optional c x)).0 (optional_stays c x ((optional_texts x).1 e))
spaced_stays Mandatory c x e = (mandatory_texts (spaced Mandatory c x)).0 (mandatory_stays c x ((mandatory_texts x).1 e).0)
spaced_stays Separating c x e = (separating_texts (spaced Separating c x)).0 (separating_stays c x (separating_sides ((separating_texts x).1 e)))
spaced_stays AtEnd c x e = (at_end_texts (spaced AtEnd c x)).0 (at_end_stays c x (at_end_sides ((at_end_texts x).1 e)))

-- ---- an earlier column is forgotten

same_space : (c : Spacing) (x y : List ℕ) → comments_of x ≡ comments_of y → spaced Optional c x ≡ spaced Optional c y
same_space Least x y e = refl
same_space Comments x y e = e
same_space OneLine x y e = e
same_space (NewLine n) x y e = ap (line n ++◌) e
same_space OneSpace x y e = ap (32 ∷◌) e

same_mandatory : (c : Spacing) (x y : List ℕ) → comments_of x ≡ comments_of y → spaced Mandatory c x ≡ spaced Mandatory c y
same_mandatory Least x y e = refl
same_mandatory Comments x y e = ap or_space e
same_mandatory OneLine x y e = ap or_space e
same_mandatory (NewLine n) x y e = ap (line n ++◌) e
same_mandatory OneSpace x y e = ap (32 ∷◌) e

same_list_end : (c : Spacing) (x y : List ℕ) → both x ≡ both y → spaced AtEnd c x ≡ spaced AtEnd c y
same_list_end Least x y e = refl
same_list_end Comments x y e = e
same_list_end OneLine x y e = e
same_list_end (NewLine n) x y e = ap (line n ++◌) e
same_list_end OneSpace x y e = ap (32 ∷◌) e

same_separator : (c : Spacing) (x y : List ℕ) → comments_before x ≡ comments_before y → comments_after x ≡ comments_after y → spaced Separating c x ≡ spaced Separating c y
same_separator Least x y b a = refl
same_separator Comments x y b a = cc
same_separator OneLine x y b a = cc
same_separator (NewLine n) x y b a = cc
same_separator OneSpace x y b a = cc

at_end_both : (d : Spacing) (x : List ℕ) → KeepsComments d → Sides x → both (spaced AtEnd d x) ≡ both x
unfolding from_first to_last
at_end_both d x k h =
    let y : List ℕ = spaced AtEnd d x in
    let s : IsSpace y = behind_space (both x) y (trimmed_space (both_trimmed x h)) (at_end_behind d x k) in
    let cut : CutAtComma y [] = cut_at_comma y [] in
    ap (λ b. comments_of b ++ comments_after y) (cut.alone s)
    ∙ (ap (λ a. comments_of y ++ comments_of a) (cut.nothing s) ∙ (append-nil (comments_of y) ∙ behind_comments (both x) y (both_trimmed x h) (at_end_behind d x k)))

separating_before : (d : Spacing) (x : List ℕ) → KeepsComments d → Sides x → comments_before (spaced Separating d x) ≡ comments_before x
separating_before d x k h =
    let e : Cut x (spaced Separating d x) = separating_cut d x k in
    let s : IsSpace e.front = behind_space (comments_before x) e.front (comments_space (before_comma x) h.0) e.before in
    ap comments_before e.whole ∙ (ap comments_of ((cut_at_comma e.front e.back).front s) ∙ behind_comments (comments_before x) e.front (comments_trimmed (before_comma x) h.0) e.before)

separating_after : (d : Spacing) (x : List ℕ) → KeepsComments d → Sides x → comments_after (spaced Separating d x) ≡ comments_after x
separating_after d x k h =
    let e : Cut x (spaced Separating d x) = separating_cut d x k in
    let s : IsSpace e.front = behind_space (comments_before x) e.front (comments_space (before_comma x) h.0) e.before in
    ap comments_after e.whole ∙ (ap comments_of ((cut_at_comma e.front e.back).back s) ∙ behind_comments (comments_after x) e.back (comments_trimmed (after_comma x) h.1) e.after)

pub spaced_forgets : ForgetsColumn
spaced_forgets Optional c d x k e = same_space c (spaced Optional d x) x (behind_comments (comments_of x) (spaced Optional d x) (comments_trimmed x ((optional_texts x).1 e)) (optional_behind d x k))
spaced_forgets Mandatory c d x k e = same_mandatory c (spaced Mandatory d x) x (behind_comments (comments_of x) (spaced Mandatory d x) (comments_trimmed x ((mandatory_texts x).1 e).0) (mandatory_behind d x k))
spaced_forgets Separating c d x k e = let h : Sides x = separating_sides ((separating_texts x).1 e) in same_separator c (spaced Separating d x) x (separating_before d x k h) (separating_after d x k h)
spaced_forgets AtEnd c d x k e = same_list_end c (spaced AtEnd d x) x (at_end_both d x k (at_end_sides ((at_end_texts x).1 e)))

-- the first column forgets every text
pub least_forgets : (k : SpaceKind) (x y : List ℕ) → spaced k Least x ≡ spaced k Least y
least_forgets Optional x y = refl
least_forgets Mandatory x y = refl
least_forgets Separating x y = refl
least_forgets AtEnd x y = refl
