-- The laws of `show`, as contracts name them.
use Rattle.std.specs.Prelude.{◌≡◌, ◌≤◌, ◌++◌, ℕ, List, Some, Ok}
use Rattle.cbor_edn_model.specs.tree.Items.{nesting}
use Rattle.cbor_edn_model.specs.tree.Trees.{Tree, OneItem, Seq, items}
use Rattle.cbor_edn_conversions.specs.Conversions.{Reply}
use Rattle.cbor_edn_terminal.specs.Terminal.{shown_text, IsHarmlessInLines}
use Rattle.cbor_edn_command.specs.Hexadecimal.{input_bytes}
use Rattle.cbor_edn_command.specs.declared.options.Options.{Options}
use Rattle.cbor_edn_command.specs.declared.file_options.ShowOptions.{ShowOptions}
use Rattle.std.specs.Str.{chars}
use Rattle.cbor_edn_parts.specs.space.Notes.{noted}
use Rattle.cbor_edn.specs.Format.{ended}
use Rattle.cbor_edn.specs.RunLaws.{Encodes, Fault, fault_of}
use Rattle.cbor_edn.specs.Runs.{IsDecodedAs, IsOutput}
use Rattle.cbor_edn.specs.Show.{IsShown, IsUnshown, ShowGives}
use Rattle.cbor_edn.specs.declared.engine.RunError.{RunError}

-- An input is shown in one way,
abbrev pub ShownOnce : Type 0
ShownOnce = (s : ShowOptions) (input a b : List ℕ) → IsShown s input a → IsShown s input b → a ≡ b

-- and in none where it has a fault.
abbrev pub ShownOrFault : Type 0
ShownOrFault = (s : ShowOptions) (input out : List ℕ) (e : RunError) (f : Fault) → IsShown s input out → IsUnshown s input e → fault_of e ≡ Some f → ⊥

-- What is left of an item nests no deeper than the item.
abbrev pub NeverDeepens : (Tree OneItem → Reply) → Type 0
NeverDeepens f = (w : Tree OneItem) → nesting (items (f w).1) ≤ nesting (items w)

-- What is shown nests within the limit.
abbrev pub ShownNestsWithin : Type 0
ShownNestsWithin = (s : ShowOptions) (bytes : List ℕ) (w v : Tree Seq) → IsDecodedAs s.limit bytes w → ShowGives s w v → nesting (items v) ≤ s.limit

-- What is shown of some bytes, or of their digits, is encoded as these bytes again, and as no others, at one limit: embedded CBOR, times,
-- addresses, bignums, claims, names and indentation included.
abbrev pub ShownReadsBack : Type 0
ShownReadsBack =
    (s : ShowOptions) (back : Options) (input bytes out : List ℕ) → input_bytes s.hex input ≡ Ok bytes → Encodes back → back.limit ≡ s.limit
    → IsShown s input out → IsOutput back out bytes × ((b : List ℕ) → IsOutput back out b → b ≡ bytes)

-- What is shown acts on a terminal by no character but its line feeds,
abbrev pub ShownActsOnNothing : Type 0
ShownActsOnNothing = (s : ShowOptions) (input out : List ℕ) → IsShown s input out → IsHarmlessInLines out

-- and so does what is written of a file behind its name.
abbrev pub NamedActsOnNothing : Type 0
NamedActsOnNothing = (name text : List ℕ) → IsHarmlessInLines text → IsHarmlessInLines (ended (ended (noted (shown_text (chars name))) ++ text))
