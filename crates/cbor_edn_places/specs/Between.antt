-- Where an item stands in the text of a sequence.
use Rattle.std.specs.Prelude.{◌≡◌, ℕ, List, ◌++◌, Some, length}
use Rattle.std.specs.Str.{IsUtf8}
use Rattle.cbor_edn_model.specs.tree.Trees.{Tree, OneItem, Seq, text}
use Rattle.cbor_edn_model.specs.access.Paths.{at_sequence, with_at_sequence}

-- The text of a sequence is that of the item where a path leads, between two others; with any item in its place, it is the text of that one between the same.
pub record IsBetween (w : Tree Seq) (path before behind : List ℕ) : Type 0 where
  pub there : (x : Tree OneItem) × (at_sequence path w ≡ Some x) × (text w ≡ before ++ (text x ++ behind))
  pub with_other : (y : Tree OneItem) → text (with_at_sequence path y w) ≡ before ++ (text y ++ behind)

-- Where a path leads to an item, the item begins behind so many bytes of the text, which end with a character.
abbrev pub IsOffset : Tree Seq → List ℕ → ℕ → Type 0
IsOffset w path offset = (x : Tree OneItem) → at_sequence path w ≡ Some x → (before behind : List ℕ) × IsBetween w path before behind × IsUtf8 before × (length before ≡ offset)
