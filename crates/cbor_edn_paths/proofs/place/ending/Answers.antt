use Rattle.std.proofs.Common.{◌≡◌, ℕ, List, Option, None, refl, sym}
use Rattle.cbor_edn_paths.specs.declared.place.Outcome.{Outcome}
use Rattle.cbor_edn_paths.specs.declared.place.Place.{Place}
use Rattle.cbor_edn_paths.specs.internal.Places as places
use Rattle.cbor_edn_paths.specs.internal.Moves.{outcome_of, IsMove}
use Rattle.cbor_edn_paths.proofs.place.ending.Goals as goal

begins_none : (text : List ℕ) (at : ℕ) (w : places.Outcome) (r : Option (Outcome × Place)) (p : Option places.Place) → r ≡ None → p ≡ None → IsMove text at r (places.ending w p)
begins_none text at w r p e f = rw (e, f) refl

-- src/place.rt:284:17
pub returns-in_err-place-clause-value : goal.returns-in_err-place-clause-value
returns-in_err-place-clause-value c = λ text.
    begins_none text c.args.behind (outcome_of c.args.outcome) c.from_residual.result _ c.from_residual.ensures (sym (c.in_err-place.ensures.value text))
