-- A callback that may be called at each item, in any state.
use Rattle.std.specs.Borrow.{MutBor}
use Rattle.cbor_edn_core.specs.visit.Callbacks.{Callback}

abbrev pub AlwaysCallable : {T R F : Type 0} → Callback T R F → Type 0
AlwaysCallable {T} {R} {F} callback = (f : F) (x : MutBor T) → callback.pre f (x, tt)
