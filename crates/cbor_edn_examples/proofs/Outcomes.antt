-- What is answered of an item whose meaning came back.
use Rattle.std.proofs.Common.{◌≡◌, Option, Some, None, Result, Ok, Err, refl, sym, subst, ◌∙◌}
use Rattle.std.specs.Prelude.{IfOk}

module _ {X : Type 0} (o p : Option X) (again : (x : X) → o ≡ Some x → p ≡ Some x) where
  -- what was meant before is what is meant again
  pub ok_again : {B E : Type 0} (r : Result B E) (P : B → X → Type 0) → IfOk r (λ b. (x : X) × (p ≡ Some x) × P b x) → IfOk r (λ b. (x : X) → o ≡ Some x → P b x)
  ok_again (Err e) P h = tt
  ok_again (Ok b) P h = λ x is. let there = again x is in let meant = h.1 in let same : h.0 ≡ x = cc in subst (P b) same h.2

  none_by : (q : Option X) → o ≡ q → p ≡ None → o ≡ None
  none_by None is none = is
  none_by (Some x) is none = let there = again x is in let bad : ⊥ = cc in absurd bad

  pub none_again : p ≡ None → o ≡ None
  none_again = none_by o refl
