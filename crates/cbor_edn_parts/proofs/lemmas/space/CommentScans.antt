-- Scans for comments and commas, byte by byte. The end of the last comment is behind the last byte that is no blank between comments.
use Rattle.std.proofs.Common.{ℕ, ◌≡◌, ◌<◌, ◌+◌, List, [], ◌∷◌, ◌++◌, true, false, length, get_or, take, drop, add-one, refl, sym, ap, ◌∙◌, append_assoc, arith}
use Rattle.std.specs.Prelude.{◌&&◌}
use Rattle.std.specs.Str.{IsUtf8, IsCharBoundary}
use Rattle.std.proofs.Math.Seq.{drop-cons}
use Rattle.std.proofs.lemmas.Bool.Decides.{nat_tests}
use Rattle.std.proofs.lemmas.List.{take_more, append-nil}
use Rattle.std.proofs.lemmas.Str.{IsCharBoundary-before_ascii, IsCharBoundary-after_ascii}
use Rattle.cbor_edn_parts.specs.internal.CommentReading.{is_blank, past, is_between, from_first, unless_last, to_last, is_comma, up_to_comma, past_comma}
use Rattle.cbor_edn_parts.specs.declared.space.SpaceState.{SpaceState}
use Rattle.cbor_edn_parts.specs.declared.space.SpaceState.TheVariants.{Between, InSlashes, InHash}

-- What is kept of a text, whose front was passed and kept up to a point: all of the front, where something of the rest is kept.
abbrev pub kept_with : List ℕ → List ℕ → List ℕ → List ℕ
kept_with kept front [] = kept
kept_with kept front (c ∷ t) = front ++ (c ∷ t)

next_kept : (front : List ℕ) (c : ℕ) (t : List ℕ) → front ++ (c ∷ t) ≡ kept_with (front ++ (c ∷ [])) (front ++ (c ∷ [])) t
next_kept front c [] = refl
next_kept front c (d ∷ t) = sym (append_assoc front (c ∷ []) (d ∷ t))

next_passed : (kept front : List ℕ) (c : ℕ) (t : List ℕ) → kept_with kept front (unless_last true c t) ≡ kept_with kept (front ++ (c ∷ [])) t
next_passed kept front c [] = refl
next_passed kept front c (d ∷ t) = sym (append_assoc front (c ∷ []) (d ∷ t))

pub kept_start : (x : List ℕ) → kept_with [] [] (to_last Between x) ≡ to_last Between x
kept_start x = same (to_last Between x) where
  same : (t : List ℕ) → kept_with [] [] t ≡ t
  same [] = refl
  same (c ∷ t) = refl

-- a blank between comments is passed
pub kept_passed : (kept front : List ℕ) (m : SpaceState) (c : ℕ) (x : List ℕ) → (is_between m && is_blank c) ≡ true → kept_with kept front (to_last m (c ∷ x)) ≡ kept_with kept (front ++ (c ∷ [])) (to_last (past m c) x)
unfolding to_last
kept_passed kept front m c x e = ap (λ b. kept_with kept front (unless_last b c (to_last (past m c) x))) e ∙ next_passed kept front c (to_last (past m c) x)

-- any other byte is kept, and all in front of it
pub kept_more : (kept front : List ℕ) (m : SpaceState) (c : ℕ) (x : List ℕ) → (is_between m && is_blank c) ≡ false → kept_with kept front (to_last m (c ∷ x)) ≡ kept_with (front ++ (c ∷ [])) (front ++ (c ∷ [])) (to_last (past m c) x)
unfolding to_last
kept_more kept front m c x e = ap (λ b. kept_with kept front (unless_last b c (to_last (past m c) x))) e ∙ next_kept front c (to_last (past m c) x)

pub kept_end : (kept front : List ℕ) (m : SpaceState) → kept_with kept front (to_last m []) ≡ kept
unfolding to_last
kept_end kept front m = refl

-- ---- at a place of a text

next_place : (x : List ℕ) (i : ℕ) → i < length x → drop i x ≡ get_or x i 0 ∷ drop (i + 1) x
next_place x i lt = rw (add-one) (drop-cons x i 0 lt)

pub first_blank : (x : List ℕ) (i : ℕ) → i < length x → is_blank (get_or x i 0) ≡ true → from_first (drop i x) ≡ from_first (drop (i + 1) x)
unfolding from_first
first_blank x i lt e = ap from_first (next_place x i lt) ∙ rw e refl

pub first_other : (x : List ℕ) (i : ℕ) → i < length x → is_blank (get_or x i 0) ≡ false → from_first (drop i x) ≡ drop i x
unfolding from_first
first_other x i lt e = ap from_first (next_place x i lt) ∙ rw e (sym (next_place x i lt))

pub blank_here : (x kept : List ℕ) (m : SpaceState) (i : ℕ) → i < length x → (is_between m && is_blank (get_or x i 0)) ≡ true → kept_with kept (take i x) (to_last m (drop i x)) ≡ kept_with kept (take (i + 1) x) (to_last (past m (get_or x i 0)) (drop (i + 1) x))
blank_here x kept m i lt e =
    ap (λ t. kept_with kept (take i x) (to_last m t)) (next_place x i lt)
    ∙ (kept_passed kept (take i x) m (get_or x i 0) (drop (i + 1) x) e ∙ ap (λ f. kept_with kept f (to_last (past m (get_or x i 0)) (drop (i + 1) x))) (sym (take_more x i 0 lt)))

pub other_here : (x kept : List ℕ) (m : SpaceState) (i : ℕ) → i < length x → (is_between m && is_blank (get_or x i 0)) ≡ false → kept_with kept (take i x) (to_last m (drop i x)) ≡ kept_with (take (i + 1) x) (take (i + 1) x) (to_last (past m (get_or x i 0)) (drop (i + 1) x))
other_here x kept m i lt e =
    ap (λ t. kept_with kept (take i x) (to_last m t)) (next_place x i lt)
    ∙ (kept_more kept (take i x) m (get_or x i 0) (drop (i + 1) x) e ∙ ap (λ f. kept_with f f (to_last (past m (get_or x i 0)) (drop (i + 1) x))) (sym (take_more x i 0 lt)))

pub front_on : (x : List ℕ) (m : SpaceState) (i : ℕ) → i < length x → is_comma m (get_or x i 0) ≡ false → take i x ++ up_to_comma m (drop i x) ≡ take (i + 1) x ++ up_to_comma (past m (get_or x i 0)) (drop (i + 1) x)
unfolding up_to_comma
front_on x m i lt e =
    let r : List ℕ = up_to_comma (past m (get_or x i 0)) (drop (i + 1) x) in
    ap (λ t. take i x ++ up_to_comma m t) (next_place x i lt)
    ∙ rw e (sym (append_assoc (take i x) (get_or x i 0 ∷ []) r) ∙ ap (◌++ r) (sym (take_more x i 0 lt)))

pub front_found : (x : List ℕ) (m : SpaceState) (i : ℕ) → i < length x → is_comma m (get_or x i 0) ≡ true → take i x ++ up_to_comma m (drop i x) ≡ take i x
unfolding up_to_comma
front_found x m i lt e = ap (λ t. take i x ++ up_to_comma m t) (next_place x i lt) ∙ rw e (append-nil (take i x))

pub behind_on : (x : List ℕ) (m : SpaceState) (i : ℕ) → i < length x → is_comma m (get_or x i 0) ≡ false → past_comma m (drop i x) ≡ past_comma (past m (get_or x i 0)) (drop (i + 1) x)
unfolding past_comma
behind_on x m i lt e = ap (past_comma m) (next_place x i lt) ∙ rw e refl

pub behind_found : (x : List ℕ) (m : SpaceState) (i : ℕ) → i < length x → is_comma m (get_or x i 0) ≡ true → past_comma m (drop i x) ≡ drop (i + 1) x
unfolding past_comma
behind_found x m i lt e = ap (past_comma m) (next_place x i lt) ∙ rw e refl

-- ---- where a text may be cut

blank_small : (c : ℕ) → is_blank c ≡ true → c < 128
blank_small c e = grind (arith, nat_tests)

between_blank : (m : SpaceState) (c : ℕ) → (is_between m && is_blank c) ≡ true → is_blank c ≡ true
between_blank Between c e = e
between_blank InSlashes c e = absurd (cc)
between_blank InHash c e = absurd (cc)

comma_small : (m : SpaceState) (c : ℕ) → is_comma m c ≡ true → c < 128
comma_small Between c e = grind (arith, nat_tests)
comma_small InSlashes c e = absurd (cc)
comma_small InHash c e = absurd (cc)

pub before_blank : (x : List ℕ) (m : SpaceState) (i : ℕ) → i < length x → (is_between m && is_blank (get_or x i 0)) ≡ true → IsCharBoundary x i
before_blank x m i lt e = IsCharBoundary-before_ascii x i lt (blank_small (get_or x i 0) (between_blank m (get_or x i 0) e))

pub after_blank : (x : List ℕ) (i : ℕ) → IsUtf8 x → i < length x → is_blank (get_or x i 0) ≡ true → IsCharBoundary x (i + 1)
after_blank x i u lt e = IsCharBoundary-after_ascii x i u lt (blank_small (get_or x i 0) e)

pub before_comma_here : (x : List ℕ) (m : SpaceState) (i : ℕ) → i < length x → is_comma m (get_or x i 0) ≡ true → IsCharBoundary x i
before_comma_here x m i lt e = IsCharBoundary-before_ascii x i lt (comma_small m (get_or x i 0) e)

pub after_comma_here : (x : List ℕ) (m : SpaceState) (i : ℕ) → IsUtf8 x → i < length x → is_comma m (get_or x i 0) ≡ true → IsCharBoundary x (i + 1)
after_comma_here x m i u lt e = IsCharBoundary-after_ascii x i u lt (comma_small m (get_or x i 0) e)
