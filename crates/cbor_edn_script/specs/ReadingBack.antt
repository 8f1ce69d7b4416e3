-- Printed texts that are read back as the items that were printed.
use Rattle.std.specs.Prelude.{ℕ, List, ◌≡◌, ◌≤◌}
use Rattle.cbor_edn_parts.specs.declared.base.error.ParseError.{ParseError}
use Rattle.cbor_edn_model.specs.text.Parsing.{Unparsed}
use Rattle.cbor_edn_core.specs.text.Parsing.{ParsedSequence, ParsedStandalone}
use Rattle.cbor_edn_core.specs.tree.View.{sequence_tree, standalone_tree}
use Rattle.cbor_edn_model.specs.tree.Items.{Sort, Node, nesting}
use Rattle.cbor_edn_model.specs.text.Spelling.{SpellsOne, SpellsSequence}
use Rattle.cbor_edn_model.specs.tree.Trees.{Tree, OneItem, Seq, Standalone, items, text}

-- The text spells the items. By any limit that holds their nesting, a parser that says what `parse_within` does reads these items of it, and
-- does not refuse it. (Want of memory is no refusal of the text.)
pub record IsReadBack {s : Sort} {X : Type 0} (Spelled : Node s → List ℕ → Type 0) (IsParsed : ℕ → List ℕ → X → Type 0) (items_of : X → Node s) (x : Node s) (t : List ℕ) : Type 0 where
  pub spelled : Spelled x t
  pub same : (limit : ℕ) (y : X) → nesting x ≤ limit → IsParsed limit t y → items_of y ≡ x
  pub accepted : (limit : ℕ) (e : ParseError) → nesting x ≤ limit → Unparsed Spelled limit t e → ⊥

-- the text of a sequence
abbrev pub ReadsBackSequence : Tree Seq → Type 0
ReadsBackSequence w = IsReadBack SpellsSequence ParsedSequence (λ y. items (sequence_tree y)) (items w) (text w)

-- of an item between spaces
abbrev pub ReadsBackStandalone : Tree Standalone → Type 0
ReadsBackStandalone w = IsReadBack SpellsOne ParsedStandalone (λ y. items (standalone_tree y)) (items w) (text w)

-- and of an item alone, which is read as one between spaces that are empty
abbrev pub ReadsBackItem : Tree OneItem → Type 0
ReadsBackItem w = IsReadBack SpellsOne ParsedStandalone (λ y. items (standalone_tree y)) (items w) (text w)
