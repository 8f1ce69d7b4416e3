-- What holds of a result that is known.
use Rattle.std.proofs.Common.{rules, Option, Some, Result, Ok, Err, ◌≡◌, subst, sym}
use Rattle.std.specs.Result.{IsOk, OnOk, OnErr}
use Rattle.cbor_edn_parts.specs.declared.base.error.Fault.{Fault}
use Rattle.cbor_edn_parts.specs.declared.base.error.Fault.TheVariants as fault
use Rattle.cbor_edn_core.specs.visit.Callbacks.{IfVisited}
use Rattle.cbor_edn_model.specs.visit.Visits.{Ending, whole, cut}
use Rattle.std.specs.Option.{OnSome}

abbrev some : {X : Type 0} → X → Option X
some x = Some x

abbrev ok : {X E : Type 0} → X → Result X E
ok x = Ok x

abbrev err : {X E : Type 0} → E → Result X E
err x = Err x

pub ok_is : {X E : Type 0} (r : Result X E) (x : X) → r ≡ ok x → IsOk r
ok_is {X = X} {E = E} r x e = subst (λ o. IsOk o) (sym e) (holds x)
  where
    holds : (x : X) → IsOk (ok {E = E} x)
    holds x = search rules

pub on_some : {X P : Type 0} (r : Option X) (x : X) → r ≡ some x → OnSome r P → P
on_some {P = P} r x e h = subst (λ o. OnSome o P) e h

pub on_err : {X E P : Type 0} (r : Result X E) (x : E) → r ≡ err x → OnErr r P → P
on_err {P = P} r x e h = subst (λ o. OnErr o P) e h

-- what holds of the whole visit
pub on_visited : {X Q : Type 0} (P : Ending → Type 0) (r : Result (Unit {0}) (Fault X)) → IfVisited r P → (P whole → Q) → OnOk r Q
on_visited P (Ok x) h each = each h
on_visited P (Err (fault.Memory e)) h each = tt
on_visited P (Err (fault.Told e)) h each = tt

pub if_visited : {X : Type 0} {P Q : Ending → Type 0} (r : Result (Unit {0}) (Fault X)) → ((e : Ending) → P e → Q e) → IfVisited r P → IfVisited r Q
if_visited (Ok x) each h = each whole h
if_visited (Err (fault.Memory e)) each h = each cut h
if_visited (Err (fault.Told e)) each h = tt
