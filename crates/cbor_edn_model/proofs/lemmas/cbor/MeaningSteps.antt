-- Steps that may give nothing.
use Rattle.std.proofs.Common.{◌≡◌, Bool, true, false, ◌&&◌, cond, Option, Some, None, refl}
use Rattle.cbor_edn_model.specs.cbor.Meaning.{◌>>=◌}

-- a step and what follows it
abbrev pub bind : {A B : Type 0} → Option A → (A → Option B) → Option B
bind o f = o >>= f

-- a value of two steps
pub both_steps : {A B : Type 0} (o : Option A) (f : A → Option B) (y : B) → (o >>= f) ≡ Some y → (x : A) × (o ≡ Some x) × (f x ≡ Some y)
both_steps None f y e = absurd cc
both_steps (Some x) f y e = (x, refl, e)

pub some_if : {A : Type 0} (b : Bool) (x y : A) → cond b (Some x) None ≡ Some y → (b ≡ true) × (x ≡ y)
some_if true x y e = (refl, cc)
some_if false x y e = absurd cc

abbrev pub given : {A : Type 0} → A → Option A
given x = Some x

pub some_is : {A : Type 0} (x y : A) → given x ≡ given y → x ≡ y
some_is x y e = cc

pub if_both : (a b : Bool) → (a && b) ≡ true → (a ≡ true) × (b ≡ true)
if_both true b e = (refl, e)
if_both false b e = absurd cc
