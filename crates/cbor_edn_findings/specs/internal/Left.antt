-- What the steps of a run leave.
use Rattle.std.specs.Prelude.{◌≢◌, None, Option, Vec, ℕ, not}
use Rattle.cbor_edn_parts.specs.declared.base.error.InconsistentEdn.{InconsistentEdn}
use Rattle.cbor_edn_parts.specs.space.Spacing.{indented}
use Rattle.cbor_edn_model.specs.cbor.Meaning.{means}
use Rattle.cbor_edn_model.specs.tree.Trees.{Tree, Seq, items}
use Rattle.cbor_edn_command.specs.declared.options.Options.{Options}
use Rattle.cbor_edn.specs.RunSteps.{Where, IsLaidOut, StepsGive}
use Rattle.cbor_edn_places.specs.Places.{IsFound}

-- all steps but the last, which sets spaces
abbrev pub IsLeft : Options → Tree Seq → Tree Seq → Type 0
IsLeft o w u = (v : Tree Seq) → Where (not o.preserve_space) (IsLaidOut indented) u v → StepsGive o w v

-- the path of the first item that means nothing then, if there is one
abbrev pub IsFoundLeft : {A : Type 0} → Options → Tree Seq → Option (Vec ℕ A × InconsistentEdn) → Type 0
IsFoundLeft o w r = (v : Tree Seq) × StepsGive o w v × IsFound v r

-- what is left means values
abbrev pub HasMeaning : Options → Tree Seq → Type 0
HasMeaning o w = (v : Tree Seq) × StepsGive o w v × (means (items v) ≢ None)
