-- What the calls answer that put byte strings behind others.
use Rattle.std.specs.Prelude.{◌≡◌, List, [], ◌∷◌, ℕ, ◌++◌, map, Option, Some, None, Result, Ok, Err}
use Rattle.cbor_edn_parts.specs.declared.base.error.Fault.{Fault}
use Rattle.cbor_edn_parts.specs.base.Refusals.{IfTold}
use Rattle.cbor_edn_model.specs.access.Accessed.{all_joined}

-- A call puts a byte string behind the bytes that were there, and refuses with the one refusal where there is none.
abbrev pub Adds : {E : Type 0} → E → Option (List ℕ) → List ℕ → List ℕ → Result (Unit {0}) (Fault E) → Type 0
Adds refusal bytes old new (Ok u) = (bs : List ℕ) × (bytes ≡ Some bs) × (new ≡ old ++ bs)
Adds refusal bytes old new (Err f) = IfTold {X = Unit {0}} (Err f) (λ e. (e ≡ refusal) × (bytes ≡ None))

-- byte strings, and a last one, one behind the other
abbrev pub with_last : {Q : Type 0} → (Q → Option (List ℕ)) → List Q → Option (List ℕ) → Option (List ℕ)
with_last bytes qs last = all_joined (map bytes qs ++ last ∷ [])
