-- Visits that pass over items of another type.
use Rattle.std.specs.Prelude.{Result, Ok, Err}
use Rattle.cbor_edn_parts.specs.declared.base.error.Fault.{Fault}
use Rattle.cbor_edn_parts.specs.declared.base.error.Fault.TheVariants.{Memory, Told}

-- Memory was not refused: the visit went through, or there was nothing to visit.
abbrev pub IsPassed : {E : Type 0} → Result (Unit {0}) (Fault E) → Type 0
IsPassed (Ok u) = Unit {0}
IsPassed (Err (Told e)) = Unit {0}
IsPassed (Err (Memory e)) = ⊥
