-- Fields of a struct that are written one after another, where the struct does not compute.
use Rattle.std.proofs.Common.{◌≡◌, ap, ◌∙◌}

module _ {F X : Type 0} (roll : F → X) (out : X → F) (back : (f : F) → out (roll f) ≡ f) where
  pub two_written : (g h : F → F) (f : F) → roll (h (out (roll (g f)))) ≡ roll (h (g f))
  two_written g h f = ap (λ f. roll (h f)) (back (g f))

  pub after_two : (g h : F → F) (f : F) → out (roll (h (out (roll (g f))))) ≡ h (g f)
  after_two g h f = ap out (two_written g h f) ∙ back (h (g f))

  pub three_written : (g h k : F → F) (f : F) → roll (k (out (roll (h (out (roll (g f))))))) ≡ roll (k (h (g f)))
  three_written g h k f = ap (λ f. roll (k f)) (after_two g h f)
