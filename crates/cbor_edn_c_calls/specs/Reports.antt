-- What a call tells beside its status.
use Rattle.std.specs.Prelude.{◌≡◌, ℕ}
use Rattle.cbor_edn_parts.specs.base.Errors.{error_offset, error_line, error_column}
use Rattle.cbor_edn_parts.specs.declared.base.error.ParseError.{ParseError}
use Rattle.cbor_edn_c_calls.specs.declared.place.Place.{Place}
use Rattle.cbor_edn_c_calls.specs.declared.place.Place.TheVariants.{Nowhere, NotFound, InText, InBytes}
use Rattle.cbor_edn_c_calls.specs.declared.report.Report.{Report}
use Rattle.cbor_edn_c_calls.specs.declared.report.TheConstants.{NO_OFFSET}

-- the place that a refusal of a text says
abbrev pub text_place : ParseError → Place
text_place e = InText (error_offset e) (error_line e) (error_column e)

-- an offset, with its line and its column
abbrev pub TellsLocation : ℕ → ℕ → ℕ → Report → Type 0
TellsLocation offset line column r = (r.offset ≡ offset) × (r.line ≡ line) × (r.column ≡ column)

-- A place, of which CBOR has the offset alone: the line and the column are 0 where there is none, and the offset too, unless the place was not found.
abbrev pub TellsPlace : Place → Report → Type 0
TellsPlace Nowhere = TellsLocation 0 0 0
TellsPlace NotFound = TellsLocation NO_OFFSET 0 0
TellsPlace (InText offset line column) = TellsLocation offset line column
TellsPlace (InBytes offset) = TellsLocation offset 0 0

-- the length of an output, and no fault
abbrev pub TellsOutput : ℕ → Report → Type 0
TellsOutput n r = (r.output_len ≡ n) × (r.message_len ≡ 0) × TellsPlace Nowhere r
