-- Tables that are looked through one behind the other.
use Rattle.std.proofs.Common.{ℤ, ◌≡◌, Bool, true, false, cond, List, [], ◌∷◌, ◌++◌, Option, Some, None}
use Rattle.std.specs.Ordering.{int_eq}
use Rattle.cbor_edn_conversions.specs.Tables.{found}

module _ {X : Type 0} where
  row_has : (b : Bool) (x y : X) (o p : Option X) → (Some x ≡ o → Some x ≡ p) → Some x ≡ cond b (Some y) o → Some x ≡ cond b (Some y) p
  row_has true x y o p rest e = e
  row_has false x y o p rest e = rest e

  row_lacks : (b : Bool) (y : X) (o p q : Option X) → (None ≡ o → q ≡ p) → None ≡ cond b (Some y) o → q ≡ cond b (Some y) p
  row_lacks true y o p q rest e = absurd cc
  row_lacks false y o p q rest e = rest e

  -- what the first table has,
  pub found_first : (xs ys : List (ℤ × X)) (z : ℤ) (x : X) → Some x ≡ found xs z → Some x ≡ found (xs ++ ys) z
  found_first [] ys z x e = absurd cc
  found_first (a ∷ xs) ys z x e = row_has (int_eq a.0 z) x a.1 (found xs z) (found (xs ++ ys) z) (λ h. found_first xs ys z x h) e

  -- and what the second has, where the first has nothing
  pub found_second : (xs ys : List (ℤ × X)) (z : ℤ) (o : Option X) → None ≡ found xs z → o ≡ found ys z → o ≡ found (xs ++ ys) z
  found_second [] ys z o e h = h
  found_second (a ∷ xs) ys z o e h = row_lacks (int_eq a.0 z) a.1 (found xs z) (found (xs ++ ys) z) o (λ none. found_second xs ys z o none h) e
