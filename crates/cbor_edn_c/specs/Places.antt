-- Where in its input a run is refused.
use Rattle.std.specs.Prelude.{◌≡◌, ℕ, List, Ok}
use Rattle.std.specs.Str.{IsCharBoundary}
use Rattle.cbor_edn_parts.specs.base.Location.{IsLocation}
use Rattle.cbor_edn_command.specs.Hexadecimal.{input_bytes}
use Rattle.cbor_edn_command.specs.declared.options.Options.{Options}
use Rattle.cbor_edn.specs.declared.engine.RunError.{RunError}
use Rattle.cbor_edn.specs.declared.engine.RunError.TheVariants.{Read, NotUtf8, Parse, Cbor, Hex, Inconsistent, Write, Memory}
use Rattle.cbor_edn_findings.specs.FaultOffsets.{IsFaultOffset}
use Rattle.cbor_edn_findings.specs.WithoutEncoding.{IsFirstWithout, NoneWithout}
use Rattle.cbor_edn_c_calls.specs.Reports.{text_place}
use Rattle.cbor_edn_c_calls.specs.declared.place.Place.{Place}
use Rattle.cbor_edn_c_calls.specs.declared.place.Place.TheVariants.{Nowhere, NotFound, InText, InBytes}

-- an offset of a text, with its line and its column; nowhere only where no character begins there
abbrev pub IsPlaceAt : List ℕ → ℕ → Place → Type 0
IsPlaceAt text offset Nowhere = IsCharBoundary text offset → ⊥
IsPlaceAt text offset NotFound = ⊥
IsPlaceAt text offset (InText at line column) = (at ≡ offset) × IsLocation text offset line column
IsPlaceAt text offset (InBytes at) = ⊥

-- Of a text that has no encoding: where the first item begins that has none, with its line and its column.
abbrev pub IsTextPlace : Options → List ℕ → Place → Type 0
IsTextPlace o input Nowhere = NoneWithout o input
IsTextPlace o input NotFound = Unit {0}
IsTextPlace o input (InText offset line column) = IsFirstWithout o input offset × IsLocation input offset line column
IsTextPlace o input (InBytes offset) = ⊥

-- Of CBOR, or of what digits stand for: the head of which it is refused.
abbrev pub IsByteOfFault : Options → List ℕ → ℕ → Type 0
IsByteOfFault o input offset = (bytes : List ℕ) × (input_bytes o.hex input ≡ Ok bytes) × IsFaultOffset o.limit bytes offset

abbrev pub IsBytePlace : Options → List ℕ → Place → Type 0
IsBytePlace o input Nowhere = ⊥
IsBytePlace o input NotFound = Unit {0}
IsBytePlace o input (InText offset line column) = ⊥
IsBytePlace o input (InBytes offset) = IsByteOfFault o input offset

-- The place of a fault that a run of some options refuses an input by.
abbrev pub IsPlace : Options → List ℕ → RunError → Place → Type 0
IsPlace o input Read p = p ≡ Nowhere
IsPlace o input NotUtf8 p = p ≡ Nowhere
IsPlace o input (Parse e) p = p ≡ text_place e
IsPlace o input (Cbor _) p = IsBytePlace o input p
IsPlace o input Hex p = p ≡ Nowhere
IsPlace o input (Inconsistent _) p = IsTextPlace o input p
IsPlace o input Write p = p ≡ Nowhere
IsPlace o input (Memory _) p = p ≡ Nowhere
