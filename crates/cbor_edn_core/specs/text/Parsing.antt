-- What is read of a whole text: of sequences with `SpellsSequence`, of standalone items with `SpellsOne`.
use Rattle.std.specs.Prelude.{ℕ, List, ◌≡◌}
use Rattle.cbor_edn_core.specs.tree.Borrowed.{BorrowsSequence, BorrowsStandalone}
use Rattle.cbor_edn_model.specs.tree.Items.{Sort, Node}
use Rattle.cbor_edn_model.specs.text.Parsing.{IsAccepted}
use Rattle.cbor_edn_model.specs.text.Spelling.{SpellsSequence, SpellsOne}
use Rattle.cbor_edn_model.specs.tree.Trees.{Rule, Tree, Merged, items, text}
use Rattle.cbor_edn_core.specs.tree.View.{Sequence, StandaloneItem, sequence_tree, standalone_tree}

-- What is read of a text: it prints the text, which spells its items within the limit; behind an indicator's mandatory space
-- no other space stands; and each of its texts is borrowed, so none was copied.
pub record Parsed {s : Sort} {r : Rule} {X : Type 0} (Spelled : Node s → List ℕ → Type 0) (items_of : Tree r → Node s) (tree_of : X → Tree r) (Borrows : X → Type 0) (limit : ℕ) (input : List ℕ) (x : X) : Type 0 where
  pub prints : text (tree_of x) ≡ input
  pub accepted : IsAccepted Spelled limit input (items_of (tree_of x))
  pub merged : Merged (tree_of x)
  pub borrowed : Borrows x

abbrev pub ParsedSequence : ℕ → List ℕ → Sequence → Type 0
ParsedSequence = Parsed SpellsSequence items sequence_tree BorrowsSequence

abbrev pub ParsedStandalone : ℕ → List ℕ → StandaloneItem → Type 0
ParsedStandalone = Parsed SpellsOne items standalone_tree BorrowsStandalone
