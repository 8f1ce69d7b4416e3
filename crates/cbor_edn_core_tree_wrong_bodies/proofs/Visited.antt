-- What may always be called may be called by a visit.
use Rattle.std.proofs.Common.{List}
use Rattle.cbor_edn_model.specs.tree.Trees.{Tree, OneItem}
use Rattle.cbor_edn_core.specs.visit.Callbacks.{Callback, MayVisit}
use Rattle.cbor_edn_core_tree_wrong_bodies.specs.Callable.{AlwaysCallable}

pub may_visit : {T R F C : Type 0} (look : T → Tree OneItem) (callback : Callback T R F) {Step : F → C → F → Type 0} {before : C → Tree OneItem} {items : List (Tree OneItem)} {f : F}
    → AlwaysCallable callback → MayVisit look callback Step before items f
may_visit look callback always = record { at = λ cs g k a w i x l. always g x }
