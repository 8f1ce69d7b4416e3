-- `All` as a list is built, for recursion over it.
use Rattle.std.proofs.Common.{ℕ, List, [], ◌∷◌, All}
use Rattle.std.proofs.lemmas.List.Elements.{All-nil, All-cons, All-head, All-tail}

pub data Each (P : ℕ → Type 0) : List ℕ → Type 0 where
  end : Each P []
  next : {c : ℕ} {x : List ℕ} → P c → Each P x → Each P (c ∷ x)

pub each_of : {P : ℕ → Type 0} (x : List ℕ) → All P x → Each P x
each_of [] h = end
each_of {P} (c ∷ x) h = next (All-head P c x h) (each_of x (All-tail P c x h))

pub each : {P : ℕ → Type 0} {x : List ℕ} → All P x → Each P x
each {x = x} h = each_of x h

pub all : {P : ℕ → Type 0} {x : List ℕ} → Each P x → All P x
all {P} end = All-nil P
all {P} (next {c = c} {x = x} h more) = All-cons P c x h (all more)
