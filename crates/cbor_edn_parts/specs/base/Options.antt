-- Steps that may give nothing.
use Rattle.std.specs.Prelude.{Option, Some, None}

-- what the step makes of the value, as `and_then` of Rust
infixl 10 ◌>>=◌
abbrev pub ◌>>=◌ : {A B : Type 0} → Option A → (A → Option B) → Option B
None >>= f = None
(Some x) >>= f = f x
