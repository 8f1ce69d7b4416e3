-- Reads one after the other, with the depth of what they read: the deepest decides.
use Rattle.std.proofs.Common.{ℕ, suc, ◌≡◌, ◌<◌, arith, ◌∙◌}
use Rattle.std.specs.Prelude.{true, false, nat_le, max, Result, Ok, Err}
use Rattle.std.proofs.Math.Dec.{leb-suc-suc}
use Rattle.std.proofs.lemmas.Bool.{leb-true, leb-false, le-leb, lt-leb, cases_Bool}
use mathlib.Core.Logic.{◌⊎◌, inl, inr}
use Rattle.cbor_edn_parts.specs.declared.base.error.ParseErrorKind.{ParseErrorKind}
use Rattle.cbor_edn_parts.specs.declared.base.error.ParseErrorKind.TheVariants.{Invalid, TooDeep}
use Rattle.cbor_edn_model.specs.internal.Results.{◌>>=◌}
use Rattle.cbor_edn_model.specs.internal.Reading.{outcome}

pub within : {A : Type 0} (depth limit : ℕ) (x : A) → nat_le depth limit ≡ true → outcome depth limit x ≡ Ok x
within depth limit x e = rw e

pub beyond : {A : Type 0} (depth limit : ℕ) (x : A) → nat_le depth limit ≡ false → outcome depth limit x ≡ Err TooDeep
beyond depth limit x e = rw e

pub flat : {A : Type 0} (limit : ℕ) (x : A) → outcome 0 limit x ≡ Ok x
flat limit x = within 0 limit x (le-leb 0 limit (omega arith))

-- Behind an opening byte the limit is one less.
pub deeper : {A : Type 0} (depth limit : ℕ) (x : A) → outcome (suc depth) (suc limit) x ≡ outcome depth limit x
deeper depth limit x = rw (leb-suc-suc depth limit)

pub too_deep : {A : Type 0} (depth : ℕ) (x : A) → outcome (suc depth) 0 x ≡ Err TooDeep
too_deep depth x = beyond (suc depth) 0 x (lt-leb (suc depth) 0 (omega arith))

-- The first of two reads is within no limit.
pub then_ok : {A B : Type 0} {m : Result A ParseErrorKind} {x : A} (f : A → Result B ParseErrorKind) {y : Result B ParseErrorKind} → m ≡ Ok x → f x ≡ y → (m >>= f) ≡ y
then_ok f e h = rw e h

then_err : {A B : Type 0} {m : Result A ParseErrorKind} {k : ParseErrorKind} (f : A → Result B ParseErrorKind) → m ≡ Err k → (m >>= f) ≡ Err k
then_err f e = rw e

-- The second of two reads is within no limit.
pub then_done : {A B : Type 0} {m : Result A ParseErrorKind} (depth limit : ℕ) {x : A} (f : A → Result B ParseErrorKind) {y : B} → m ≡ outcome depth limit x → f x ≡ Ok y → (m >>= f) ≡ outcome depth limit y
then_done {m = m} depth limit {x} f {y} e h = go (cases_Bool (nat_le depth limit))
  where
    go : (nat_le depth limit ≡ true) ⊎ (nat_le depth limit ≡ false) → (m >>= f) ≡ outcome depth limit y
    go (inl t) = rw (within depth limit y t) (then_ok f (e ∙ within depth limit x t) h)
    go (inr t) = rw (beyond depth limit y t) (then_err f (e ∙ beyond depth limit x t))

pub then_outcome : {A B : Type 0} {m : Result A ParseErrorKind} (a b limit : ℕ) {x : A} (f : A → Result B ParseErrorKind) (y : B) → m ≡ outcome a limit x → f x ≡ outcome b limit y → (m >>= f) ≡ outcome (max a b) limit y
then_outcome {m = m} a b limit {x} f y e h = go (cases_Bool (nat_le a limit)) (cases_Bool (nat_le b limit))
  where
    go : (nat_le a limit ≡ true) ⊎ (nat_le a limit ≡ false) → (nat_le b limit ≡ true) ⊎ (nat_le b limit ≡ false) → (m >>= f) ≡ outcome (max a b) limit y
    go (inl s) (inl t) = let n = leb-true a limit s in let k = leb-true b limit t in rw (within (max a b) limit y (le-leb (max a b) limit (omega arith))) (then_ok f (e ∙ within a limit x s) (h ∙ within b limit y t))
    go (inl s) (inr t) = let k = leb-false b limit t in rw (beyond (max a b) limit y (lt-leb (max a b) limit (omega arith))) (then_ok f (e ∙ within a limit x s) (h ∙ beyond b limit y t))
    go (inr s) t = let k = leb-false a limit s in rw (beyond (max a b) limit y (lt-leb (max a b) limit (omega arith))) (then_err f (e ∙ beyond a limit x s))

-- What an outcome tells.
pub outcome-valid : {A : Type 0} (depth limit : ℕ) (x : A) → outcome depth limit x ≡ Err Invalid → ⊥
outcome-valid depth limit x e = go (cases_Bool (nat_le depth limit))
  where
    go : (nat_le depth limit ≡ true) ⊎ (nat_le depth limit ≡ false) → ⊥
    go (inl t) = let q = within depth limit x t in absurd (cc)
    go (inr t) = let q = beyond depth limit x t in absurd (cc)

pub outcome-deep : {A : Type 0} (depth limit : ℕ) (x : A) → outcome depth limit x ≡ Err TooDeep → limit < depth
outcome-deep depth limit x e = go (cases_Bool (nat_le depth limit))
  where
    go : (nat_le depth limit ≡ true) ⊎ (nat_le depth limit ≡ false) → limit < depth
    go (inl t) = let q = within depth limit x t in absurd (cc)
    go (inr t) = leb-false depth limit t
