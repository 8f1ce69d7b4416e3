-- Texts of what bytes encode.
use Rattle.std.specs.Prelude.{ℕ, List, ◌≡◌, ◌≤◌, Some}
use Rattle.cbor_edn_model.specs.tree.Items.{Sort, Node, nesting}
use Rattle.cbor_edn_model.specs.text.Spelling.{SpellsOne, SpellsSequence}
use Rattle.cbor_edn_model.specs.cbor.Value.{Enc, EncAll}
use Rattle.cbor_edn_model.specs.cbor.Meaning.{MeaningOf, means}

-- The text spells what nests no deeper than the limit, and the bytes are the encoding of what that means.
abbrev pub IsTextOf : {s : Sort} → (Node s → List ℕ → Type 0) → (List ℕ → MeaningOf s → Type 0) → ℕ → List ℕ → List ℕ → Type 0
IsTextOf {s} Spelled Encoded limit bytes text = (x : Node s) × (v : MeaningOf s) × Spelled x text × (nesting x ≤ limit) × (means x ≡ Some v) × Encoded bytes v

abbrev pub IsTextOfItems : ℕ → List ℕ → List ℕ → Type 0
IsTextOfItems = IsTextOf SpellsSequence EncAll

abbrev pub IsTextOfItem : ℕ → List ℕ → List ℕ → Type 0
IsTextOfItem = IsTextOf SpellsOne Enc
