-- Words on devices.
use Rattle.std.specs.Prelude.{◌≡◌, ℕ, ◌+◌, ◌<◌, ◌≤◌, ◌++◌, List, Option, Result, Ok, Err}
use Rattle.std.specs.Io.KnownBytes.{Appends}
use Rattle.cbor_edn_parts.specs.declared.base.error.Fault.{Fault}
use Rattle.cbor_edn_parts.specs.declared.base.error.Fault.TheVariants.{Memory, Told}

-- known bytes grow by a beginning of bs, all of it or none of it too
abbrev pub AppendsBeginning : Option (List ℕ) → Option (List ℕ) → List ℕ → Type 0
AppendsBeginning old new bs = (front rest : List ℕ) × (bs ≡ front ++ rest) × Appends old new front

-- A device's count of failures before and after a call in which it fails once at most, and is not called any more where it
-- failed: so many of its calls succeeded since.
abbrev pub FailsAtMostOnce : ℕ → ℕ → ℕ → Type 0
FailsAtMostOnce old new since = (old ≤ new) × (new ≤ old + 1) × (old < new → since ≡ 0)

-- how often a device fails in a call that answers so
abbrev pub told_faults : {X E : Type 0} → Result X (Fault E) → ℕ
told_faults (Ok _) = 0
told_faults (Err (Memory _)) = 0
told_faults (Err (Told _)) = 1
