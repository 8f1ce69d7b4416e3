-- The laws of the grammar, as the contracts name them.
use Rattle.std.specs.Prelude.{List, ℕ, ◌≡◌, ◌↔◌}
use Rattle.cbor_edn_model.specs.tree.Items.{Node, Item, Items}
use Rattle.cbor_edn_model.specs.text.Spelling.{SpellsSequence, SpellsOne}
use Rattle.cbor_edn_model.specs.tree.Trees.{Rule, Seq, Standalone, Tree, Valid, Merged, text, spaces, items}

-- A text spells at most one list of items, and at most one item.
abbrev pub UniqueItems : Type 0
UniqueItems = ((x y : Items) (t : List ℕ) → SpellsSequence x t → SpellsSequence y t → x ≡ y) × ((x y : Node Item) (t : List ℕ) → SpellsOne x t → SpellsOne y t → x ≡ y)

-- Two trees of one rule with the same text have the same items and spaces, so they are the same: where each of their texts
-- is in its set, and the S after each indicator's mandatory space is empty (a text does not say where one ends and the
-- other begins).
abbrev pub UniqueSpaces : Type 0
UniqueSpaces = ((w v : Tree Seq) → Valid w → Valid v → Merged w → Merged v → text w ≡ text v → w ≡ v) × ((w v : Tree Standalone) → Valid w → Valid v → Merged w → Merged v → text w ≡ text v → w ≡ v)

-- What a text spells are the items of one tree whose text it is, with no space after an indicator's mandatory space; and the
-- text of a tree, also of one with such a space, spells its items.
abbrev pub SpelledByTrees : Type 0
SpelledByTrees =
    ((x : Items) (t : List ℕ) → SpellsSequence x t → (w : Tree Seq) × Valid w × Merged w × (items w ≡ x) × (text w ≡ t))
    × ((x : Node Item) (t : List ℕ) → SpellsOne x t → (w : Tree Standalone) × Valid w × Merged w × (items w ≡ x) × (text w ≡ t))
    × ((w : Tree Seq) → Valid w → SpellsSequence (items w) (text w))
    × ((w : Tree Standalone) → Valid w → SpellsOne (items w) (text w))

-- A tree is its items and its spaces: two of one rule are the same exactly where both are.
abbrev pub ItemsAndSpaces : Type 0
ItemsAndSpaces = (s : Rule) (a b : Tree s) → (a ≡ b) ↔ ((items a ≡ items b) × (spaces a ≡ spaces b))
