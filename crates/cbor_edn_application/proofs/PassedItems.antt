-- What visits leave that pass over items of another type.
use Rattle.std.proofs.Common.{Result, Ok, Err}
use Rattle.std.specs.Prelude.{OnOk}
use Rattle.std.specs.declared.alloc.AllocError.{AllocError}
use Rattle.cbor_edn_parts.specs.base.Refusals.{IfTold}
use Rattle.cbor_edn_parts.specs.declared.base.error.Fault.{Fault}
use Rattle.cbor_edn_parts.specs.declared.base.error.Fault.TheVariants.{Memory, Told}
use Rattle.cbor_edn_core.specs.visit.Callbacks.{IfVisited}
use Rattle.cbor_edn_model.specs.visit.Visits.{Ending, whole, cut}
use Rattle.cbor_edn_application.specs.Passed.{IsPassed}

module _ {E : Type 0} (P : Ending → Type 0) (Q : E → Type 0) (N : Type 0) (told : (e : E) → Q e → N) where
  done_by : (a : Result (Unit {0}) (Fault E)) → IsPassed a → IfVisited a P → IfTold a Q → (P whole → N) → N
  done_by (Ok u) passed visited refused when_whole = when_whole visited
  done_by (Err (Told e)) passed visited refused when_whole = told e refused
  done_by (Err (Memory e)) passed visited refused when_whole = absurd passed

  -- of a whole visit, or where there was nothing to visit
  pub passed_by : (a : Result (Unit {0}) (Fault E)) (b : Result (Unit {0}) AllocError) → OnOk b (IsPassed a) → IfVisited a P → IfTold a Q → (P whole → N) → OnOk b N
  passed_by a (Ok u) passed visited refused when_whole = done_by a passed visited refused when_whole
  passed_by a (Err e) passed visited refused when_whole = tt

  -- however it ended
  pub kept_by : (a : Result (Unit {0}) (Fault E)) → IfVisited a P → IfTold a Q → ((r : Ending) → P r → N) → N
  kept_by (Ok u) visited refused each = each whole visited
  kept_by (Err (Told e)) visited refused each = told e refused
  kept_by (Err (Memory e)) visited refused each = each cut visited
