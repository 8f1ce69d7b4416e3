-- A row whose entries are changed in place, one by one.
use Rattle.std.proofs.Common.{ℕ, zero, suc, ◌+◌, ◌<◌, ◌≤◌, ◌≡◌, List, [], ◌∷◌, length, map, take, drop, ◌++◌, get_or, arith, Result, Ok, Err, OnOk, refl, sym, ap, ◌∙◌}
use Rattle.std.proofs.Math.ListN.{set}
use Rattle.std.proofs.lemmas.List.{get_or-drop}

pub on_ok : {A E P Q : Type 0} (r : Result A E) → (P → Q) → OnOk r P → OnOk r Q
on_ok (Ok x) f p = f p
on_ok (Err e) f p = p

-- what a vector holds after a loan of all its elements
pub kept : {A : Type 0} (xs ys : List A) (n : ℕ) → length xs ≡ n → take n (xs ++ ys) ≡ xs
kept [] ys zero e = refl
kept [] ys (suc n) e = absurd (omega arith)
kept (x ∷ xs) ys zero e = absurd (omega arith)
kept (x ∷ xs) ys (suc n) e = ap (λ zs. x ∷ zs) (kept xs ys n (omega arith))

-- an element of what is left is as it was
pub same_here : {A : Type 0} (xs ys : List A) (i : ℕ) (d : A) → drop i xs ≡ drop i ys → get_or xs i d ≡ get_or ys i d
same_here xs ys i d e =
    let first : i + 0 ≡ i = omega arith in
    sym (get_or-drop i xs 0 d ∙ ap (λ n. get_or xs n d) first) ∙ ap (λ zs. get_or zs 0 d) e ∙ get_or-drop i ys 0 d ∙ ap (λ n. get_or ys n d) first

-- a list whose first n elements are changed
abbrev pub begun : {B : Type 0} → (B → B) → ℕ → List B → List B
begun f zero zs = zs
begun f (suc n) [] = []
begun f (suc n) (z ∷ zs) = f z ∷ begun f n zs

module _ {A B : Type 0} (seen : A → B) (f : B → B) where
  step : (xs : List A) (n : ℕ) (x y : A) (zs : List B) → map seen xs ≡ begun f n zs → n < length xs → x ≡ get_or xs n x → seen y ≡ f (seen x) → map seen (set xs n y) ≡ begun f (suc n) zs
  step [] n x y zs e h g s = absurd (omega arith)
  step (w ∷ xs) zero x y zs e h g s = (λ i. (s ∙ ap (λ a. f (seen a)) g) i ∷ map seen xs) ∙ ap (begun f 1) e
  step (w ∷ xs) (suc n) x y [] e h g s = absurd cc
  step (w ∷ xs) (suc n) x y (z ∷ zs) e h g s =
      let first : seen w ≡ f z = cc in
      let others : map seen xs ≡ begun f n zs = cc in
      λ i. first i ∷ step xs n x y zs others (omega arith) g s i

  pub one_more : (xs : List A) (n : ℕ) (x y : A) (zs : List B) → map seen xs ≡ begun f n zs → n < length xs → x ≡ get_or xs n x → seen y ≡ f (seen x) → map seen (set xs n y) ≡ begun f (n + 1) zs
  one_more xs n x y zs e h g s =
      let next : suc n ≡ n + 1 = omega arith in
      step xs n x y zs e h g s ∙ ap (λ m. begun f m zs) next

  pub all_done : (xs : List A) (n : ℕ) (zs : List B) → map seen xs ≡ begun f n zs → length xs ≤ n → map seen xs ≡ map f zs
  all_done [] n [] e h = refl
  all_done [] zero (z ∷ zs) e h = absurd cc
  all_done [] (suc n) (z ∷ zs) e h = absurd cc
  all_done (x ∷ xs) zero zs e h = absurd (omega arith)
  all_done (x ∷ xs) (suc n) [] e h = absurd cc
  all_done (x ∷ xs) (suc n) (z ∷ zs) e h =
      let first : seen x ≡ f z = cc in
      let others : map seen xs ≡ begun f n zs = cc in
      λ i. first i ∷ all_done xs n zs others (omega arith) i

-- what a change of an element keeps is kept of all
module _ {A B C : Type 0} (seen : A → B) (same : B → C) where
  pub one_same : (xs : List A) (n : ℕ) (x y : A) (zs : List C) → map same (map seen xs) ≡ zs → n < length xs → x ≡ get_or xs n x → same (seen y) ≡ same (seen x) → map same (map seen (set xs n y)) ≡ zs
  one_same [] n x y zs e h g s = absurd (omega arith)
  one_same (w ∷ xs) zero x y zs e h g s = (λ i. (s ∙ ap (λ a. same (seen a)) g) i ∷ map same (map seen xs)) ∙ e
  one_same (w ∷ xs) (suc n) x y [] e h g s = absurd cc
  one_same (w ∷ xs) (suc n) x y (z ∷ zs) e h g s =
      let first : same (seen w) ≡ z = cc in
      let others : map same (map seen xs) ≡ zs = cc in
      λ i. first i ∷ one_same xs n x y zs others (omega arith) g s i
