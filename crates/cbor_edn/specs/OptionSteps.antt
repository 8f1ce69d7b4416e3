-- What only clauses of private functions cite: the steps of a run, which together give its output.
use Rattle.std.specs.Prelude.{◌≡◌, ℕ, List, Some, None}
use Rattle.cbor_edn_model.specs.tree.Trees.{Tree, Seq, items}
use Rattle.cbor_edn_model.specs.cbor.Meaning.{means}
use Rattle.cbor_edn_model.specs.cbor.Value.{Values, EncAll}
use Rattle.cbor_edn.specs.Runs.{IsReadAs, IsDecodedAs, IsPrintedAs, IsUnread, IsUndecoded}
use Rattle.cbor_edn.specs.RunSteps.{StepsGive}
use Rattle.cbor_edn_command.specs.declared.options.Options.{Options}
use Rattle.cbor_edn.specs.declared.engine.RunError.{RunError}
use Rattle.cbor_edn.specs.declared.engine.RunError.TheVariants.{Read, NotUtf8, Parse, Cbor, Hex, Inconsistent, Write, Memory}

-- the encodings of what a text means
abbrev pub IsEncoded : Options → List ℕ → List ℕ → Type 0
IsEncoded o input bytes = (w v : Tree Seq) × (vs : Values) × IsReadAs o.limit input w × StepsGive o w v × (means (items v) ≡ Some vs) × EncAll bytes vs

abbrev pub IsUnencoded : Options → List ℕ → RunError → Type 0
IsUnencoded o input Read = ⊥
IsUnencoded o input NotUtf8 = IsUnread o.limit input NotUtf8
IsUnencoded o input (Parse e) = IsUnread o.limit input (Parse e)
IsUnencoded o input (Cbor _) = ⊥
IsUnencoded o input Hex = ⊥
IsUnencoded o input (Inconsistent e) = (w v : Tree Seq) × IsReadAs o.limit input w × StepsGive o w v × (means (items v) ≡ None)
IsUnencoded o input Write = ⊥
IsUnencoded o input (Memory _) = Unit {0}

-- the text of what bytes encode
abbrev pub IsDiagnosed : Options → List ℕ → List ℕ → Type 0
IsDiagnosed o bytes out = (w v : Tree Seq) × IsDecodedAs o.limit bytes w × StepsGive o w v × IsPrintedAs v out

abbrev pub IsUndiagnosed : Options → List ℕ → RunError → Type 0
IsUndiagnosed o bytes Read = ⊥
IsUndiagnosed o bytes NotUtf8 = ⊥
IsUndiagnosed o bytes (Parse _) = ⊥
IsUndiagnosed o bytes (Cbor e) = IsUndecoded o.limit bytes e
IsUndiagnosed o bytes Hex = ⊥
IsUndiagnosed o bytes (Inconsistent _) = ⊥
IsUndiagnosed o bytes Write = ⊥
IsUndiagnosed o bytes (Memory _) = Unit {0}

-- the text of the items of a text
abbrev pub IsReprinted : Options → List ℕ → List ℕ → Type 0
IsReprinted o input out = (w v : Tree Seq) × IsReadAs o.limit input w × StepsGive o w v × IsPrintedAs v out
