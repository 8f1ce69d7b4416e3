-- The laws of whole runs, as contracts name them.
use Rattle.std.specs.Prelude.{◌≡◌, ℕ, List, Option, Some, None, true, false}
use Rattle.cbor_edn_model.specs.tree.Trees.{Tree, Seq}
use Rattle.cbor_edn_command.specs.declared.options.Command.TheVariants.{Diag2Cbor, Cbor2Diag}
use Rattle.cbor_edn_command.specs.declared.options.Options.{Options}
use Rattle.cbor_edn.specs.RunSteps.{StepsGive}
use Rattle.cbor_edn.specs.Runs.{IsOutput, IsRefused}
use Rattle.cbor_edn.specs.declared.engine.RunError.{RunError}
use Rattle.cbor_edn.specs.declared.engine.RunError.TheVariants.{Read, NotUtf8, Parse, Cbor, Hex, Inconsistent, Write, Memory}

-- ---- one result

-- Why an input is refused. What devices and memory do is no fault of an input.
pub data Fault : Type 0 where
  NoText : Fault
  NoItems : Fault
  NoEncodings : Fault
  NoDigits : Fault
  NoMeaning : Fault

abbrev pub fault_of : RunError → Option Fault
fault_of Read = None
fault_of NotUtf8 = Some NoText
fault_of (Parse e) = Some NoItems
fault_of (Cbor e) = Some NoEncodings
fault_of Hex = Some NoDigits
fault_of (Inconsistent e) = Some NoMeaning
fault_of Write = None
fault_of (Memory e) = None

-- The steps of a run have one result.
abbrev pub StepsGiveOnce : Type 0
StepsGiveOnce = (o : Options) (w v u : Tree Seq) → StepsGive o w v → StepsGive o w u → v ≡ u

-- An input has one output at most,
abbrev pub OneOutput : Type 0
OneOutput = (o : Options) (input a b : List ℕ) → IsOutput o input a → IsOutput o input b → a ≡ b

-- and none where it has a fault,
abbrev pub OutputOrFault : Type 0
OutputOrFault = (o : Options) (input out : List ℕ) (e : RunError) (f : Fault) → IsOutput o input out → IsRefused o input e → fault_of e ≡ Some f → ⊥

-- of which it has one at most.
abbrev pub OneFault : Type 0
OneFault = (o : Options) (input : List ℕ) (d e : RunError) (f g : Fault) → IsRefused o input d → IsRefused o input e → fault_of d ≡ Some f → fault_of e ≡ Some g → f ≡ g

-- ---- back again

-- The steps of a run that shows what bytes encode: all options but `hex` and `apply_999`.
pub record Shows (o : Options) : Type 0 where
  pub command : o.command ≡ Cbor2Diag
  pub binary : o.hex ≡ false
  pub literals_stay : o.apply_999 ≡ false

-- The steps of a run that encodes again, whatever it does to spaces: of the others `aol_to_item` alone.
pub record Encodes (o : Options) : Type 0 where
  pub command : o.command ≡ Diag2Cbor
  pub binary : o.hex ≡ false
  pub tags_stay : o.annotate_tags ≡ false
  pub others_stay : o.apply_999 ≡ false
  pub literals : o.aol_to_item ≡ true
  pub bignums_stay : o.bignum_from_tags ≡ false
  pub no_claims : o.annotate_ccs ≡ false

-- What a run shows of some bytes, whatever its options, is encoded as these bytes again, and as no others, at one limit: annotated tags,
-- claims, bignums, comments and indentation included.
abbrev pub ReadsBack : Type 0
ReadsBack =
    (there back : Options) (bytes out : List ℕ) → Shows there → Encodes back → back.limit ≡ there.limit
    → IsOutput there bytes out → IsOutput back out bytes × ((b : List ℕ) → IsOutput back out b → b ≡ bytes)
