-- What holds where a call refuses, by an answer of its own or for want of memory.
use Rattle.std.specs.Prelude.{Result, Ok, Err}
use Rattle.cbor_edn_parts.specs.declared.base.error.Fault.{Fault}
use Rattle.cbor_edn_parts.specs.declared.base.error.Fault.TheVariants.{Memory, Told}

abbrev pub IfTold : {X E : Type 0} → Result X (Fault E) → (E → Type 0) → Type 0
IfTold (Ok x) P = Unit {0}
IfTold (Err (Memory e)) P = Unit {0}
IfTold (Err (Told e)) P = P e

abbrev pub OnMemory : {X E : Type 0} → Result X (Fault E) → Type 0 → Type 0
OnMemory (Ok x) P = Unit {0}
OnMemory (Err (Memory e)) P = P
OnMemory (Err (Told e)) P = Unit {0}
