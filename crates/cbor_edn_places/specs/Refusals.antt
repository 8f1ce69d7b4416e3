-- Where bytes are refused: a reader goes from the left, so a front suffices, but where the bytes end too early.
use Rattle.std.specs.Prelude.{◌≡◌, ◌≢◌, ℕ, List, ◌++◌, ◌⊎◌, Ok, Err}
use Rattle.cbor_edn_model.specs.declared.cbor.decode.CborError.{CborError}
use Rattle.cbor_edn_model.specs.declared.cbor.decode.CborError.TheVariants.{OutOfData, MissingArgument, MissingBytes, TooDeep}
use Rattle.cbor_edn_model.specs.internal.CborReading.{sequence_at, trees}
use Rattle.cbor_edn_model.specs.cbor.Decoded.{NoSequence}

-- for want of bytes
abbrev pub IsShort : CborError → Type 0
IsShort OutOfData = Unit {0}
IsShort MissingArgument = Unit {0}
IsShort MissingBytes = Unit {0}
IsShort e = ⊥

-- the reader of bytes meets this fault first
abbrev pub IsRefusedAs : ℕ → List ℕ → CborError → Type 0
IsRefusedAs limit bytes e = sequence_at trees limit bytes ≡ Err e

-- A front that is refused, but for want of bytes, is refused as the whole is: none that begins so is CBOR.
abbrev pub FrontsSuffice : Type 0
FrontsSuffice = (limit : ℕ) (front behind : List ℕ) (e : CborError) → IsRefusedAs limit front e → IsShort e ⊎ (IsRefusedAs limit (front ++ behind) e × (e ≢ TooDeep → NoSequence (front ++ behind)))

-- A front of bytes that are refused is read, or ends too early, or is refused as they are.
abbrev pub FrontsAreRefusedSo : Type 0
FrontsAreRefusedSo = (limit : ℕ) (front behind : List ℕ) (d e : CborError) → IsRefusedAs limit (front ++ behind) e → IsRefusedAs limit front d → IsShort d ⊎ (d ≡ e)
