-- What findings tell, and where.
use Rattle.std.specs.Prelude.{◌≡◌, ◌⊎◌, ℕ, ◌<◌, ◌≤◌, List, ◌++◌, length, take, Result, Ok, Err, codes, string_bytes}
use Rattle.std.specs.Str.{IsUtf8, IsCharBoundary}
use Rattle.cbor_edn_parts.specs.declared.base.error.ParseErrorKind.{ParseErrorKind}
use Rattle.cbor_edn_parts.specs.declared.base.error.ParseErrorKind.TheVariants.{Invalid, TooDeep}
use Rattle.cbor_edn_parts.specs.declared.base.error.ParseError.{ParseError}
use Rattle.cbor_edn_parts.specs.base.Errors.{error_kind, error_offset, error_line, error_column}
use Rattle.cbor_edn_parts.specs.base.Location.{IsLocation}
use Rattle.cbor_edn_command.specs.declared.options.Options.{Options}
use Rattle.cbor_edn_command.specs.Hexadecimal.{input_bytes}
use Rattle.cbor_edn.specs.declared.engine.RunError.{RunError}
use Rattle.cbor_edn.specs.declared.engine.RunError.TheVariants.{Read, NotUtf8, Parse, Cbor, Hex, Inconsistent, Write, Memory}
use Rattle.cbor_edn_findings.specs.FaultOffsets.{IsFaultOffset}
use Rattle.cbor_edn_findings.specs.WithoutEncoding.{IsFirstWithout, NoneWithout}
use Rattle.cbor_edn_findings.specs.declared.finding.Finding.{Finding}
use Rattle.cbor_edn_findings.specs.declared.finding.Finding.TheVariants.{InText, InBytes, Nowhere}

-- these words, at this place of a text
abbrev pub IsPlaced : List ℕ → ℕ → ℕ → ℕ → Finding → Type 0
IsPlaced told offset line column (InText words at l c) = (string_bytes words ≡ told) × (at ≡ offset) × (l ≡ line) × (c ≡ column)
IsPlaced told offset line column (InBytes words at) = ⊥
IsPlaced told offset line column (Nowhere words) = ⊥

-- these words, at an offset of a text, with its line and its column; without a place only where no character begins there
abbrev pub IsAt : List ℕ → List ℕ → ℕ → Finding → Type 0
IsAt told text offset (InText words at line column) = (string_bytes words ≡ told) × (at ≡ offset) × IsLocation text offset line column
IsAt told text offset (InBytes words at) = ⊥
IsAt told text offset (Nowhere words) = (string_bytes words ≡ told) × (IsCharBoundary text offset → ⊥)

abbrev pub words_of : ParseErrorKind → List ℕ
words_of Invalid = codes "Invalid EDN"
words_of TooDeep = codes "EDN nested too deeply"

-- what the refusal of a text says, at its place
abbrev pub IsRefusal : ParseError → Finding → Type 0
IsRefusal e f = IsPlaced (words_of (error_kind e)) (error_offset e) (error_line e) (error_column e) f

-- the longest text with which the bytes begin
pub record IsValidPart (bytes text : List ℕ) : Type 0 where
  pub behind : List ℕ
  pub parts : bytes ≡ text ++ behind
  pub is_text : IsUtf8 text
  pub longest : (n : ℕ) → length text < n → n ≤ length bytes → IsUtf8 (take n bytes) → ⊥

-- at the first byte that is of no character
abbrev pub IsNotText : List ℕ → Finding → Type 0
IsNotText input f = (text : List ℕ) × IsValidPart input text × IsAt (codes "Not UTF-8") text (length text) f

-- at the head of which the bytes are refused
abbrev pub IsInBytes : ℕ → List ℕ → Finding → Type 0
IsInBytes limit bytes (InText words at line column) = ⊥
IsInBytes limit bytes (InBytes words at) = IsFaultOffset limit bytes at
IsInBytes limit bytes (Nowhere words) = ⊥

abbrev pub IsNowhere : Finding → Type 0
IsNowhere (InText words at line column) = ⊥
IsNowhere (InBytes words at) = ⊥
IsNowhere (Nowhere words) = Unit {0}

abbrev pub IsInDecoded : {E : Type 0} → ℕ → Result (List ℕ) E → Finding → Type 0
IsInDecoded limit (Ok bytes) f = IsInBytes limit bytes f
IsInDecoded limit (Err e) f = IsNowhere f

-- at the first item of a text that has no encoding, with its line and its column
abbrev pub IsAtFirst : Options → List ℕ → Finding → Type 0
IsAtFirst o text (InText words at line column) = IsFirstWithout o text at × IsLocation text at line column
IsAtFirst o text (InBytes words at) = ⊥
IsAtFirst o text (Nowhere words) = ⊥

-- there, or without a place where there is none
abbrev pub IsInText : Options → List ℕ → Finding → Type 0
IsInText o text f = IsAtFirst o text f ⊎ (IsNowhere f × NoneWithout o text)

abbrev pub IsInValidPart : Options → List ℕ → Finding → Type 0
IsInValidPart o input f = (text : List ℕ) × IsValidPart input text × IsInText o text f

-- what is found of an input whose run was refused so
abbrev pub IsFoundOf : Options → List ℕ → RunError → Finding → Type 0
IsFoundOf o input Read f = IsNowhere f
IsFoundOf o input NotUtf8 f = IsNotText input f
IsFoundOf o input (Parse e) f = IsRefusal e f
IsFoundOf o input (Cbor e) f = IsInDecoded o.limit (input_bytes o.hex input) f
IsFoundOf o input Hex f = IsNowhere f
IsFoundOf o input (Inconsistent e) f = IsInValidPart o input f
IsFoundOf o input Write f = IsNowhere f
IsFoundOf o input (Memory e) f = ⊥
