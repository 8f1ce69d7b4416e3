-- What functions make of the keys in claims sets.
use Rattle.std.proofs.Common.{◌≡◌, None, Result, Ok, Err, sym, ap, ◌∙◌}
use Rattle.std.specs.Prelude.{OnOk}
use Rattle.cbor_edn_core.specs.declared.access.TypeMismatch.{TypeMismatch}
use Rattle.cbor_edn_core.specs.declared.access.TypeMismatch.TheVariants.{Map}
use Rattle.cbor_edn_parts.specs.base.Refusals.{IfTold}
use Rattle.cbor_edn_parts.specs.declared.base.error.Fault.{Fault}
use Rattle.cbor_edn_parts.specs.declared.base.error.Fault.TheVariants.{Memory, Told}
use Rattle.cbor_edn_model.specs.access.Accessed.{map_items}
use Rattle.cbor_edn_model.specs.tree.Trees.{Tree, OneItem}
use Rattle.cbor_edn_conversions.specs.Claims.{claim_key, with_claims}
use Rattle.cbor_edn_application.specs.Passed.{IsPassed}
use Rattle.cbor_edn_application.proofs.MapVisits.{no_map}

-- what a visit of claims leaves that was passed
pub claims_passed : (w v : Tree OneItem) (a : Result (Unit {0}) (Fault TypeMismatch)) → IsPassed a → OnOk a (v ≡ (with_claims w).1)
    → IfTold a (λ e. (e ≡ Map) × (map_items w ≡ None) × (v ≡ w)) → v ≡ (with_claims w).1
unfolding with_claims
claims_passed w v (Ok u) passed done told = done
claims_passed w v (Err (Told e)) passed done told = told.2 ∙ sym (ap (λ p. p.1) (no_map claim_key w told.1))
claims_passed w v (Err (Memory e)) passed done told = absurd passed
