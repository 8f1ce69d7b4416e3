-- Options by tests.
use Rattle.std.proofs.Common.{◌≡◌, Bool, true, false, cond, Some, None, refl}

-- what is found by a test
pub some_if : {A : Type 0} (b : Bool) (x y : A) → cond b (Some x) None ≡ Some y → (b ≡ true) × (x ≡ y)
some_if true x y e = (refl, cc)
some_if false x y e = absurd (cc)
