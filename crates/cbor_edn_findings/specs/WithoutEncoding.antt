-- Where the first item begins in a text that has no encoding, by the steps of a run.
use Rattle.std.specs.Prelude.{◌≡◌, ◌≢◌, ℕ, List, [], Some, None}
use Rattle.cbor_edn_model.specs.access.Paths.{items_in, at_sequence}
use Rattle.cbor_edn_model.specs.cbor.Meaning.{means}
use Rattle.cbor_edn_model.specs.tree.Trees.{Tree, OneItem, Seq, items}
use Rattle.cbor_edn_command.specs.declared.options.Options.{Options}
use Rattle.cbor_edn.specs.RunSteps.{StepsGive}
use Rattle.cbor_edn.specs.Runs.{IsReadAs}
use Rattle.cbor_edn_places.specs.Between.{IsOffset}
use Rattle.cbor_edn_places.specs.Places.{IsCut, IsFirstPath}

-- The first item that has no encoding begins there, in the text of the items that were read.
pub record IsFirstOffset (o : Options) (read : Tree Seq) (offset : ℕ) : Type 0 where
  -- what the steps leave, and the path to the first item in it that means nothing
  pub left : Tree Seq
  pub path : List ℕ
  pub are_steps : StepsGive o read left
  pub some : path ≢ []
  pub first : IsFirstPath (items_in left) path
  -- as much of the path as leads to an item that was read
  pub cut : List ℕ
  pub item : Tree OneItem
  pub is_cut : IsCut read path cut
  pub leads : at_sequence cut read ≡ Some item
  pub begins : IsOffset read cut offset

-- The same in a text: `1.5` in `[dt'1970-01-01T00:00:00Z', 1.5]` where literals are resolved.
abbrev pub IsFirstWithout : Options → List ℕ → ℕ → Type 0
IsFirstWithout o text offset = (w : Tree Seq) × IsReadAs o.limit text w × IsFirstOffset o w offset

-- There is no such item: what is read of the text, if it is read, has an encoding.
abbrev pub NoneWithout : Options → List ℕ → Type 0
NoneWithout o text = (w v : Tree Seq) → IsReadAs o.limit text w → StepsGive o w v → means (items v) ≢ None
