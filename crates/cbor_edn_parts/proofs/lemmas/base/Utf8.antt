-- Bytes that stay UTF-8 where a text is appended.
use Rattle.std.proofs.Common.{◌≡◌, ◌++◌, ℕ, List, Bool, true, false, if◌then◌else◌, sym, subst}
use Rattle.std.specs.Str.{IsUtf8}
use Rattle.std.proofs.lemmas.Str.{IsUtf8-append, IsUtf8-had}

pub stays_utf8 : (pushed : Bool) (xs ys zs : List ℕ) → ∥ IsUtf8 xs ∥₁ → ∥ IsUtf8 ys ∥₁ → zs ≡ (if pushed then xs ++ ys else xs) → ∥ IsUtf8 zs ∥₁
stays_utf8 true xs ys zs old more is = ∣ subst IsUtf8 (sym is) (IsUtf8-append xs ys (IsUtf8-had xs old) (IsUtf8-had ys more)) ∣₁
stays_utf8 false xs ys zs old more is = subst (λ t. ∥ IsUtf8 t ∥₁) (sym is) old
