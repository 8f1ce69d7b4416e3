-- What the texts with two other items have in common.
use Rattle.std.proofs.Common.{◌≡◌, ◌≢◌, ℕ, suc, ◌+◌, ◌<◌, ◌≤◌, List, [], ◌∷◌, ◌++◌, Bool, true, false, Some, None, length, take, drop, get_or, refl, sym, ap, ◌∙◌, subst, arith, eq-eqb}
use Prim.Native.Nat.{zero}
use Rattle.std.specs.Prelude.{◌==◌, if◌then◌else◌, eqb, pos}
use Rattle.std.specs.Str.{IsUtf8}
use Rattle.std.proofs.Math.Seq.{take-append_seam, get_or-append_seam}
use Rattle.std.proofs.lemmas.Bool.{eqb-true}
use Rattle.std.proofs.lemmas.List.{length-append}
use Rattle.std.proofs.lemmas.Str.{IsUtf8-take, IsCharBoundary-before_ascii}
use Rattle.std.specs.Fmt.{signed_decimal}
use Rattle.std.proofs.lemmas.Fmt.{decimal_digit}
use Rattle.cbor_edn_parts.specs.base.Indicator.{indicator_text}
use Rattle.cbor_edn_parts.specs.string.Contents.{text_literal}
use Rattle.cbor_edn_model.specs.tree.Constructed.{literal_tree}
use Rattle.cbor_edn_model.specs.tree.Trees.{Tree, OneItem, Seq, NumberTree, onto, text}
use Rattle.cbor_edn_model.specs.access.Paths.{at_sequence, with_at_sequence}
use Rattle.cbor_edn_places.specs.Between.{IsBetween, IsOffset}
use Rattle.cbor_edn_places.specs.internal.Common.{common}
use Rattle.cbor_edn_places.proofs.Around.{between}

-- ---- the loop

no_other : (xs : List ℕ) → common xs [] ≡ 0
no_other [] = refl
no_other (x ∷ xs) = refl

pub at_end : (xs ys : List ℕ) (i : ℕ) → length ys ≤ i → common (drop i xs) (drop i ys) ≡ 0
at_end [] ys zero le = refl
at_end [] ys (suc i) le = refl
at_end (x ∷ xs) [] zero le = refl
at_end (x ∷ xs) [] (suc i) le = no_other (drop i xs)
at_end (x ∷ xs) (y ∷ ys) zero le = absurd (omega (arith, le))
at_end (x ∷ xs) (y ∷ ys) (suc i) le = at_end xs ys i (omega (arith, le))

pub at_own_end : (xs ys : List ℕ) (i : ℕ) → length xs ≤ i → common (drop i xs) (drop i ys) ≡ 0
at_own_end [] ys zero le = refl
at_own_end [] ys (suc i) le = refl
at_own_end (x ∷ xs) ys zero le = absurd (omega (arith, le))
at_own_end (x ∷ xs) [] (suc i) le = no_other (drop i xs)
at_own_end (x ∷ xs) (y ∷ ys) (suc i) le = at_own_end xs ys i (omega (arith, le))

apart : (x y : ℕ) → x ≢ y → (b : Bool) → eqb x y ≡ b → b ≡ false
apart x y ne true e = absurd (ne (eqb-true x y e))
apart x y ne false e = refl

pub at_other : (xs ys : List ℕ) (i : ℕ) → i < length xs → i < length ys → get_or xs i 0 ≢ get_or ys i 0 → common (drop i xs) (drop i ys) ≡ 0
at_other [] ys i lt less ne = absurd (omega (arith, lt))
at_other (x ∷ xs) [] i lt less ne = absurd (omega (arith, less))
at_other (x ∷ xs) (y ∷ ys) zero lt less ne = ap (λ b. if b then suc (common xs ys) else 0) (apart x y ne (eqb x y) refl)
at_other (x ∷ xs) (y ∷ ys) (suc i) lt less ne = at_other xs ys i (omega (arith, lt)) (omega (arith, less)) ne

pub at_same : (xs ys : List ℕ) (i : ℕ) → i < length xs → i < length ys → get_or xs i 0 ≡ get_or ys i 0 → common (drop i xs) (drop i ys) ≡ suc (common (drop (suc i) xs) (drop (suc i) ys))
at_same [] ys i lt less e = absurd (omega (arith, lt))
at_same (x ∷ xs) [] i lt less e = absurd (omega (arith, less))
at_same (x ∷ xs) (y ∷ ys) zero lt less e = ap (λ b. if b then suc (common xs ys) else 0) (eq-eqb x y e)
at_same (x ∷ xs) (y ∷ ys) (suc i) lt less e = at_same xs ys i (omega (arith, lt)) (omega (arith, less)) e

-- ---- two items in the same place

common_in : (front a b : List ℕ) → common (front ++ (48 ∷ a)) (front ++ (34 ∷ b)) ≡ length front
common_in [] a b = refl
common_in (c ∷ front) a b = ap (λ t. if t then suc (common (front ++ (48 ∷ a)) (front ++ (34 ∷ b))) else 0) (eq-eqb c c refl) ∙ ap suc (common_in front a b)

text_of_number : text (NumberTree (signed_decimal (pos 0)) None) ≡ 48 ∷ []
unfolding onto
text_of_number = ap (λ d. d ++ (indicator_text None ++ [])) (decimal_digit 0 (omega arith))

text_of_string : text (literal_tree (text_literal [])) ≡ 34 ∷ 34 ∷ []
unfolding onto
text_of_string = refl

front_utf8 : (t front rest : List ℕ) → t ≡ front ++ (48 ∷ rest) → IsUtf8 t → IsUtf8 front
front_utf8 t front rest e utf8 =
    let longer : length (front ++ (48 ∷ rest)) ≡ length front + suc (length rest) = length-append front (48 ∷ rest) in
    let here : get_or (front ++ (48 ∷ rest)) (length front) 0 ≡ 48 = get_or-append_seam front 48 rest 0 in
    let whole : IsUtf8 (front ++ (48 ∷ rest)) = subst IsUtf8 e utf8 in
    subst IsUtf8 (take-append_seam front (48 ∷ rest))
    (IsUtf8-take (front ++ (48 ∷ rest)) (length front) whole (IsCharBoundary-before_ascii (front ++ (48 ∷ rest)) (length front) (omega (arith, longer)) (omega (arith, here))))

pub offset_is : (w : Tree Seq) (path s t : List ℕ) (n : ℕ) → s ≡ text (with_at_sequence path (NumberTree (signed_decimal (pos 0)) None) w) → t ≡ text (with_at_sequence path (literal_tree (text_literal [])) w)
    → IsUtf8 s → n ≡ common s t → IsOffset w path n
offset_is w path s t n optional_is t_is utf8 is x there =
    let h = between w path x there in
    let first : s ≡ h.0 ++ (48 ∷ h.1) = optional_is ∙ h.2.with_other (NumberTree (signed_decimal (pos 0)) None) ∙ ap (λ u. h.0 ++ (u ++ h.1)) text_of_number in
    let second : t ≡ h.0 ++ (34 ∷ 34 ∷ h.1) = t_is ∙ h.2.with_other (literal_tree (text_literal [])) ∙ ap (λ u. h.0 ++ (u ++ h.1)) text_of_string in
    (h.0, h.1, h.2, front_utf8 s h.0 h.1 first utf8, sym (common_in h.0 h.1 (34 ∷ h.1)) ∙ sym (is ∙ ap (λ u. common u t) first ∙ ap (λ u. common (h.0 ++ (48 ∷ h.1)) u) second))
