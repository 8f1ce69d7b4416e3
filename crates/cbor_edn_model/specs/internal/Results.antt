-- Steps of a reader that may refuse, and how what a function answers stands to what a reader on lists gives.
use Rattle.std.specs.Prelude.{◌≡◌, Result, Ok, Err}
use Rattle.cbor_edn_parts.specs.declared.base.error.Fault.{Fault}
use Rattle.cbor_edn_parts.specs.declared.base.error.Fault.TheVariants.{Memory, Told}

infixl 10 ◌>>=◌
abbrev pub ◌>>=◌ : {A B E : Type 0} → Result A E → (A → Result B E) → Result B E
(Ok x) >>= f = f x
(Err e) >>= f = Err e

module _ {F E : Type 0} (reason : F → E) where
  -- The refusal is the reader's, by its reason, unless memory ran out.
  abbrev pub FailsBy : {Y : Type 0} → Fault F → Result Y E → Type 0
  FailsBy (Memory _) read = Unit {0}
  FailsBy (Told f) read = read ≡ Err (reason f)

  -- What a function answered, seen by `view`, is what the reader gives.
  abbrev pub GivesBy : {X Y : Type 0} → (X → Y) → Result X (Fault F) → Result Y E → Type 0
  GivesBy view (Ok x) read = read ≡ Ok (view x)
  GivesBy view (Err e) read = FailsBy e read
