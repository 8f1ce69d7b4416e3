-- What a call of the library does, by how it ends.
use Rattle.std.specs.Prelude.{◌≡◌, ℕ, List, length}
use Rattle.cbor_edn_model.specs.declared.cbor.decode.CborError.{CborError}
use Rattle.cbor_edn_model.specs.declared.cbor.decode.CborError.TheVariants as cbor
use Rattle.cbor_edn.specs.declared.engine.RunError.{RunError}
use Rattle.cbor_edn.specs.declared.engine.RunError.TheVariants as run
use Rattle.cbor_edn.specs.Runs.{IsOutput, IsRefused}
use Rattle.cbor_edn.specs.Show.{IsShown, IsUnshown}
use Rattle.cbor_edn_c_calls.specs.Flags.{IsBadCall, IsCallOf}
use Rattle.cbor_edn_command.specs.FileOptions.{show_steps}
use Rattle.cbor_edn_command.specs.declared.options.Options.{Options}
use Rattle.cbor_edn_c.specs.Places.{IsPlace}
use Rattle.cbor_edn_c_calls.specs.Reports.{TellsOutput, TellsPlace}
use Rattle.cbor_edn_c_calls.specs.Buffers.{HasNoRoom, IsPutFront, IsPutWhole}
use Rattle.cbor_edn_c_calls.specs.declared.flags.Asked.{Asked}
use Rattle.cbor_edn_c_calls.specs.declared.flags.Asked.TheVariants.{Run, Show}
use Rattle.cbor_edn_c_calls.specs.declared.place.Place.{Place}
use Rattle.cbor_edn_c_calls.specs.declared.report.Report.{Report}
use Rattle.cbor_edn_c_calls.specs.declared.status.CallFault.{CallFault}
use Rattle.cbor_edn_c_calls.specs.declared.status.CallFault.TheVariants.{NotUtf8, InvalidCbor, InvalidHex, NoEncoding, OutOfMemory, TooDeep}
use Rattle.cbor_edn_c_calls.specs.Statuses.{text_fault}
use Rattle.cbor_edn_c_calls.specs.declared.status.Status.{Status}
use Rattle.cbor_edn_c_calls.specs.declared.status.Status.TheVariants.{Done, NoRoom, BadCall, Fault}

-- the fault of bytes that are refused so
abbrev pub cbor_fault : CborError → CallFault
cbor_fault cbor.TooDeep = TooDeep
cbor_fault _ = InvalidCbor

-- The fault of a run, as a call tells it. In memory no device fails.
abbrev pub call_fault : RunError → CallFault
call_fault run.NotUtf8 = NotUtf8
call_fault (run.Parse e) = text_fault e
call_fault (run.Cbor e) = cbor_fault e
call_fault run.Hex = InvalidHex
call_fault (run.Inconsistent _) = NoEncoding
call_fault (run.Memory _) = OutOfMemory
call_fault run.Read = OutOfMemory
call_fault run.Write = OutOfMemory

-- the options of the run that is refused where a call is
abbrev pub steps_of : Asked → Options
steps_of (Run o) = o
steps_of (Show s) = show_steps s

-- what is written for an input, and why nothing is
abbrev pub IsMade : Asked → List ℕ → List ℕ → Type 0
IsMade (Run o) = IsOutput o
IsMade (Show s) = IsShown s

abbrev pub IsUnmade : Asked → List ℕ → RunError → Type 0
IsUnmade (Run o) = IsRefused o
IsUnmade (Show s) = IsUnshown s

-- a message of n bytes, as far as it fits
abbrev pub IsMessage : ℕ → List ℕ → List ℕ → Type 0
IsMessage n old new = (text : List ℕ) × IsPutFront text old new × (n ≡ length text)

-- What a call did that ends so: by the three numbers that say what is asked for, the input, the room for the output and the room for a
-- message (each as it was and as it is), and what is told.
abbrev pub Did : Status → ℕ → ℕ → ℕ → List ℕ → List ℕ → List ℕ → List ℕ → List ℕ → Report → Type 0
Did Done command flags limit input old new message said r =
    (a : Asked) × IsCallOf command flags limit a × ((out : List ℕ) × IsMade a input out × IsPutWhole out old new × TellsOutput (length out) r)
    × (said ≡ message)
Did NoRoom command flags limit input old new message said r =
    (a : Asked) × IsCallOf command flags limit a × ((out : List ℕ) × IsMade a input out × HasNoRoom out old new × TellsOutput (length out) r)
    × (said ≡ message)
Did BadCall command flags limit input old new message said r = IsBadCall command flags limit × (new ≡ old) × TellsOutput 0 r × (said ≡ message)
Did (Fault f) command flags limit input old new message said r =
    (a : Asked) × IsCallOf command flags limit a
    × ((e : RunError) × IsUnmade a input e × (f ≡ call_fault e) × ((p : Place) × IsPlace (steps_of a) input e p × TellsPlace p r))
    × (new ≡ old) × (r.output_len ≡ 0) × IsMessage r.message_len message said
