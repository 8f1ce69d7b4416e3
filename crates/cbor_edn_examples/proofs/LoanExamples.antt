-- What holds where something was lent.
use Rattle.std.specs.Option.{OnSome}
use Rattle.std.proofs.Common.{◌≡◌, Option, Some, subst}

pub where_lent : {A P : Type 0} {o : Option A} {x : A} → o ≡ Some x → OnSome o P → P
where_lent {A} {P} h k = subst (λ r. OnSome r P) h k
