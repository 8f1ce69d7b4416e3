-- The laws of encodings, as contracts name them.
use Rattle.std.specs.Prelude.{ℕ, List, ◌++◌, ◌≡◌, Some}
use Rattle.cbor_edn_model.specs.tree.Items.{Node, Item, Items}
use Rattle.cbor_edn_model.specs.text.Spelling.{SpellsOne, SpellsSequence}
use Rattle.cbor_edn_model.specs.cbor.Value.{Value, Values, Fits, ValuesFit, Enc}
use Rattle.cbor_edn_model.specs.cbor.Meaning.{means}
use Rattle.cbor_edn_model.specs.cbor.Decoded.{item_of, items_of}

-- One byte string encodes at most one value, one value has at most one encoding, and no encoding begins another.
abbrev pub OneEncoding : Type 0
OneEncoding =
    ((a b r s : List ℕ) (v w : Value) → Enc a v → Enc b w → a ++ r ≡ b ++ s → (v ≡ w) × (a ≡ b) × (r ≡ s))
    × ((a b : List ℕ) (v : Value) → Enc a v → Enc b v → a ≡ b)

-- Whatever a text spells that spells the item of a value means this value; the same of lists.
abbrev pub SpelledMeans : Type 0
SpelledMeans =
    ((v : Value) (x : Node Item) (t : List ℕ) → Fits v → SpellsOne (item_of v) t → SpellsOne x t → means x ≡ Some v)
    × ((vs : Values) (x : Items) (t : List ℕ) → ValuesFit vs → SpellsSequence (items_of vs) t → SpellsSequence x t → means x ≡ Some vs)

-- The item of a value means it.
abbrev pub ItemMeans : Type 0
ItemMeans = (v : Value) → Fits v → means (item_of v) ≡ Some v
