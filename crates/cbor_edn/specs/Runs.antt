-- What a run writes, what it answers, and what it leaves.
use Rattle.std.specs.Prelude.{◌≡◌, ◌≢◌, ℕ, ◌≤◌, ◌++◌, ◌∷◌, [], List, All, codes, Bool, ◌⊎◌, if◌then◌else◌, Option, Some, None, Result, Ok, Err, IfSome, IsErr}
use Rattle.std.specs.Str.{IsUtf8}
use Rattle.std.specs.Io.KnownBytes.{Appends, Keeps}
use Rattle.cbor_edn_parts.specs.declared.base.error.Fault.{Fault}
use Rattle.cbor_edn_parts.specs.declared.base.error.Fault.TheVariants as fault
use Rattle.cbor_edn_model.specs.declared.cbor.decode.CborError.{CborError}
use Rattle.cbor_edn_model.specs.declared.cbor.decode.CborError.TheVariants.{TooDeep}
use Rattle.cbor_edn_model.specs.tree.Items.{nesting}
use Rattle.cbor_edn_model.specs.text.Spelling.{SpellsSequence}
use Rattle.cbor_edn_model.specs.text.Parsing.{Unparsed}
use Rattle.cbor_edn_model.specs.tree.Trees.{Tree, Seq, Valid, Merged, items, text}
use Rattle.cbor_edn_model.specs.cbor.Meaning.{means}
use Rattle.cbor_edn_model.specs.cbor.Value.{Values, EncAll}
use Rattle.cbor_edn_model.specs.cbor.Decoded.{IsDecodedSequence, NoSequence, IsTooDeepSequence}
use Rattle.cbor_edn_command.specs.Devices.{AppendsBeginning}
use Rattle.cbor_edn_command.specs.Hexadecimal.{input_bytes, hex_lines}
use Rattle.cbor_edn_command.specs.declared.options.Command.{Command}
use Rattle.cbor_edn_command.specs.declared.options.Command.TheVariants.{Diag2Cbor, Cbor2Diag, Diag2Diag}
use Rattle.cbor_edn_command.specs.declared.options.Options.{Options}
use Rattle.cbor_edn.specs.RunSteps.{StepsGive}
use Rattle.cbor_edn.specs.declared.engine.RunError.{RunError}
use Rattle.cbor_edn.specs.declared.engine.RunError.TheVariants.{Read, NotUtf8, Parse, Cbor, Hex, Inconsistent, Write, Memory}

-- ---- what is written

-- The tree that a text is read as, if its items nest within the limit: the only one with this text.
pub record IsReadAs (limit : ℕ) (input : List ℕ) (w : Tree Seq) : Type 0 where
  pub utf8 : IsUtf8 input
  pub prints : text w ≡ input
  pub valid : Valid w
  pub merged : Merged w
  pub within : nesting (items w) ≤ limit

-- The tree that bytes are decoded as, if the items of the values that they encode nest within the limit.
abbrev pub IsDecodedAs : ℕ → List ℕ → Tree Seq → Type 0
IsDecodedAs limit bytes w = IsDecodedSequence limit bytes w × Valid w

-- The tree that a run works on.
abbrev pub Loads : Command → Options → List ℕ → Tree Seq → Type 0
Loads Diag2Cbor o input w = IsReadAs o.limit input w
Loads Cbor2Diag o input w = (bytes : List ℕ) × (input_bytes o.hex input ≡ Ok bytes) × IsDecodedAs o.limit bytes w
Loads Diag2Diag o input w = IsReadAs o.limit input w

-- the bytes that a tree's items mean, or their digits in lines
abbrev pub IsEncodedAs : Bool → Tree Seq → List ℕ → Type 0
IsEncodedAs hex w out = (vs : Values) × (bytes : List ℕ) × (means (items w) ≡ Some vs) × EncAll bytes vs × (out ≡ (if hex then hex_lines bytes else bytes))

-- the text of a tree whose texts are each in their set
abbrev pub IsPrintedAs : Tree Seq → List ℕ → Type 0
IsPrintedAs w out = Valid w × IsUtf8 out × (out ≡ text w)

abbrev pub IsWrittenAs : Command → Options → Tree Seq → List ℕ → Type 0
IsWrittenAs Diag2Cbor o w out = IsEncodedAs o.hex w out
IsWrittenAs Cbor2Diag o w out = IsPrintedAs w out
IsWrittenAs Diag2Diag o w out = IsPrintedAs w out

-- What is written for an input: `83 01 18 1f 80` for `[1, 0x1f, []]` by `Diag2Cbor`, and `[1, 31, []]` with a line feed for that by
-- `Cbor2Diag`.
abbrev pub IsOutput : Options → List ℕ → List ℕ → Type 0
IsOutput o input out = (w v : Tree Seq) × Loads o.command o input w × StepsGive o w v × IsWrittenAs o.command o v out

-- ---- what is refused

-- Why a text is not read: it is no UTF-8, or it spells nothing within the limit.
abbrev pub IsUnread : ℕ → List ℕ → RunError → Type 0
IsUnread limit input Read = ⊥
IsUnread limit input NotUtf8 = ¬ IsUtf8 input
IsUnread limit input (Parse e) = IsUtf8 input × Unparsed SpellsSequence limit input e
IsUnread limit input (Cbor _) = ⊥
IsUnread limit input Hex = ⊥
IsUnread limit input (Inconsistent _) = ⊥
IsUnread limit input Write = ⊥
IsUnread limit input (Memory _) = Unit {0}

-- Why bytes are not decoded: they encode no values, or only such as have items that nest too deep.
abbrev pub IsUndecoded : ℕ → List ℕ → CborError → Type 0
IsUndecoded limit bytes e = (e ≢ TooDeep → NoSequence bytes) × (e ≡ TooDeep → IsTooDeepSequence limit bytes)

abbrev pub ReadsText : Command → Type 0
ReadsText Diag2Cbor = Unit {0}
ReadsText Cbor2Diag = ⊥
ReadsText Diag2Diag = Unit {0}

-- Why nothing is written for an input. Devices have no part in it, and memory may run out at any input.
abbrev pub IsRefused : Options → List ℕ → RunError → Type 0
IsRefused o input Read = ⊥
IsRefused o input NotUtf8 = ReadsText o.command × IsUnread o.limit input NotUtf8
IsRefused o input (Parse e) = ReadsText o.command × IsUnread o.limit input (Parse e)
IsRefused o input (Cbor e) = (o.command ≡ Cbor2Diag) × ((bytes : List ℕ) × (input_bytes o.hex input ≡ Ok bytes) × IsUndecoded o.limit bytes e)
IsRefused o input Hex = (o.command ≡ Cbor2Diag) × IsErr (input_bytes o.hex input)
IsRefused o input (Inconsistent e) = (o.command ≡ Diag2Cbor) × ((w v : Tree Seq) × IsReadAs o.limit input w × StepsGive o w v × (means (items v) ≡ None))
IsRefused o input Write = ⊥
IsRefused o input (Memory _) = Unit {0}

-- ---- what a run does

-- what a run does to what its sink holds, by its answer, for an input where it is known
abbrev pub Wrote : Options → Result (Unit {0}) RunError → Option (List ℕ) → Option (List ℕ) → Option (List ℕ) → Type 0
Wrote o (Ok _) input old new = (out : List ℕ) × IfSome input (λ i. IsOutput o i out) × Appends old new out
Wrote o (Err Write) input old new = (out : List ℕ) × IfSome input (λ i. IsOutput o i out) × AppendsBeginning old new out
Wrote o (Err Read) input old new = Keeps old new
Wrote o (Err NotUtf8) input old new = IfSome input (λ i. IsRefused o i NotUtf8) × Keeps old new
Wrote o (Err (Parse e)) input old new = IfSome input (λ i. IsRefused o i (Parse e)) × Keeps old new
Wrote o (Err (Cbor e)) input old new = IfSome input (λ i. IsRefused o i (Cbor e)) × Keeps old new
Wrote o (Err Hex) input old new = IfSome input (λ i. IsRefused o i Hex) × Keeps old new
Wrote o (Err (Inconsistent e)) input old new = IfSome input (λ i. IsRefused o i (Inconsistent e)) × Keeps old new
Wrote o (Err (Memory _)) input old new = Keeps old new

-- whether a run that answers so has read its input to the end
abbrev pub HasReadAll : {T : Type 0} → Result T RunError → Type 0
HasReadAll (Ok _) = Unit {0}
HasReadAll (Err Read) = ⊥
HasReadAll (Err NotUtf8) = Unit {0}
HasReadAll (Err (Parse _)) = Unit {0}
HasReadAll (Err (Cbor _)) = Unit {0}
HasReadAll (Err Hex) = Unit {0}
HasReadAll (Err (Inconsistent _)) = Unit {0}
HasReadAll (Err Write) = Unit {0}
HasReadAll (Err (Memory _)) = ⊥

-- how often each device fails in a run that answers so
abbrev pub read_faults : {T : Type 0} → Result T RunError → ℕ
read_faults (Ok _) = 0
read_faults (Err Read) = 1
read_faults (Err NotUtf8) = 0
read_faults (Err (Parse _)) = 0
read_faults (Err (Cbor _)) = 0
read_faults (Err Hex) = 0
read_faults (Err (Inconsistent _)) = 0
read_faults (Err Write) = 0
read_faults (Err (Memory _)) = 0

abbrev pub write_faults : {T : Type 0} → Result T RunError → ℕ
write_faults (Ok _) = 0
write_faults (Err Read) = 0
write_faults (Err NotUtf8) = 0
write_faults (Err (Parse _)) = 0
write_faults (Err (Cbor _)) = 0
write_faults (Err Hex) = 0
write_faults (Err (Inconsistent _)) = 0
write_faults (Err Write) = 1
write_faults (Err (Memory _)) = 0

-- a run that answers so leaves its source alone once it failed: so many reads succeeded since
abbrev pub EndsReading : {T : Type 0} → Result T RunError → ℕ → Type 0
EndsReading (Ok _) since = Unit {0}
EndsReading (Err Read) since = since ≡ 0
EndsReading (Err NotUtf8) since = Unit {0}
EndsReading (Err (Parse _)) since = Unit {0}
EndsReading (Err (Cbor _)) since = Unit {0}
EndsReading (Err Hex) since = Unit {0}
EndsReading (Err (Inconsistent _)) since = Unit {0}
EndsReading (Err Write) since = Unit {0}
EndsReading (Err (Memory _)) since = Unit {0}

-- the same of its sink, and writes
abbrev pub EndsWriting : {T : Type 0} → Result T RunError → ℕ → Type 0
EndsWriting (Ok _) since = Unit {0}
EndsWriting (Err Read) since = Unit {0}
EndsWriting (Err NotUtf8) since = Unit {0}
EndsWriting (Err (Parse _)) since = Unit {0}
EndsWriting (Err (Cbor _)) since = Unit {0}
EndsWriting (Err Hex) since = Unit {0}
EndsWriting (Err (Inconsistent _)) since = Unit {0}
EndsWriting (Err Write) since = since ≡ 0
EndsWriting (Err (Memory _)) since = Unit {0}

-- the exit status of a run that answers so
abbrev pub status : Result (Unit {0}) RunError → ℕ
status (Ok _) = 0
status (Err _) = 1

-- the one line that tells of a fault in some words
abbrev pub IsFaultLine : List ℕ → Type 0
IsFaultLine line = (words : List ℕ) × (words ≢ []) × All (λ b. b ≢ 10) words × (line ≡ codes "cbor-edn: " ++ (words ++ (10 ∷ [])))

-- a sink took a beginning of such a line, which may be all of it or none of it
abbrev pub IsReported : Option (List ℕ) → Option (List ℕ) → Type 0
IsReported old new = (line : List ℕ) × IsFaultLine line × AppendsBeginning old new line

-- a sink took nothing, or the whole of such a line
abbrev pub IsReportedWhole : Option (List ℕ) → Option (List ℕ) → Type 0
IsReportedWhole old new = Keeps old new ⊎ ((line : List ℕ) × IsFaultLine line × Appends old new line)

-- what a call is refused by as a fault of the run
abbrev pub told_as : {E : Type 0} → (E → RunError) → Fault E → RunError
told_as kind (fault.Memory e) = Memory e
told_as kind (fault.Told e) = kind e
