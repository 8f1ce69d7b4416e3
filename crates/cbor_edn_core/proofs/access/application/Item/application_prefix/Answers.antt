use Rattle.std.proofs.Common.{ℕ, List, Option, Some, None, IfSome}
use Rattle.std.specs.Prelude.{◌↔◌, IfNone}
use Rattle.cbor_edn_core.proofs.access.application.Item.application_prefix.Goals as goal

-- what is said of the prefix of the literal, of an item that is that literal
module _ {A : Type 0} (P Q : List ℕ → List ℕ → Type 0) (same : (p v : List ℕ) → P p v ↔ Q p v) (text : A → List ℕ) where
  found : (o : Option A) → IfSome o (λ p. (v : List ℕ) × Q (text p) v) → IfSome o (λ p. (v : List ℕ) × P (text p) v)
  found (Some p) h = (h.0, (same (text p) h.0).1 h.1)
  found None h = tt

  none : (o : Option A) → IfNone o ((p v : List ℕ) → Q p v → ⊥) → IfNone o ((p v : List ℕ) → P p v → ⊥)
  none (Some p) h = tt
  none None h = λ p v k. h p v ((same p v).0 k)

pub returns-clause-found : goal.returns-clause-found
returns-clause-found c = found _ _ c.in_ok-lone_literal.ensures.literal (λ p. p.now) c.application_prefix.result c.application_prefix.ensures.found

pub returns-clause-none : goal.returns-clause-none
returns-clause-none c = none _ _ c.in_ok-lone_literal.ensures.literal (λ p. p.now) c.application_prefix.result c.application_prefix.ensures.none
