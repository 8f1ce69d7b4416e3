-- What holds where a call refuses by an answer of its own.
use Rattle.std.proofs.Common.{◌≡◌, Result, Ok, Err, subst}
use Rattle.cbor_edn_parts.specs.declared.base.error.Fault.{Fault}
use Rattle.cbor_edn_parts.specs.declared.base.error.Fault.TheVariants.{Memory, Told}
use Rattle.cbor_edn_parts.specs.base.Refusals.{IfTold}

pub told_holds : {E : Type 0} (P : E → Type 0) (f : Fault E) (e : E) → f ≡ Told e → IfTold {X = Unit {0}} (Err f) P → P e
told_holds P f e is h = subst (λ f. IfTold {X = Unit {0}} (Err f) P) is h

pub told_weaker : {X E : Type 0} (r : Result X (Fault E)) (P Q : E → Type 0) → ((e : E) → P e → Q e) → IfTold r P → IfTold r Q
told_weaker (Ok x) P Q each h = tt
told_weaker (Err (Memory m)) P Q each h = tt
told_weaker (Err (Told e)) P Q each h = each e h

pub fault_weaker : {E : Type 0} (f : Fault E) (P Q : E → Type 0) → ((e : E) → P e → Q e) → IfTold {X = Unit {0}} (Err f) P → IfTold {X = Unit {0}} (Err f) Q
fault_weaker (Memory m) P Q each h = tt
fault_weaker (Told e) P Q each h = each e h
