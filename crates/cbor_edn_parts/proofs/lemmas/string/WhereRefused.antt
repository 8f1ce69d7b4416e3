-- What holds where a call refuses.
use Rattle.std.proofs.Common.{ℕ, Err}
use Rattle.cbor_edn_parts.specs.base.Refusals.{IfTold}
use Rattle.cbor_edn_parts.specs.declared.base.error.Fault.{Fault}
use Rattle.cbor_edn_parts.specs.declared.base.error.Fault.TheVariants.{Memory, Told}

pub told_weaker : {E : Type 0} (f : Fault E) (P Q : E → Type 0) → ((e : E) → P e → Q e) → IfTold {X = ℕ} (Err f) P → IfTold {X = ℕ} (Err f) Q
told_weaker (Memory x) P Q to h = tt
told_weaker (Told x) P Q to h = to x h
