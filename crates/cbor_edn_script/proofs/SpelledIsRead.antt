-- What is spelled is read back.
use Rattle.std.proofs.Common.{ℕ, List, [], ◌≡◌, ◌≤◌, refl, sym, arith, append-nil}
use Rattle.cbor_edn_parts.specs.declared.base.error.ParseErrorKind.{ParseErrorKind}
use Rattle.cbor_edn_parts.specs.declared.base.error.ParseErrorKind.TheVariants.{Invalid, TooDeep}
use Rattle.cbor_edn_parts.specs.base.Errors.{error_kind}
use Rattle.cbor_edn_parts.specs.space.Space.{empty}
use Rattle.cbor_edn_model.specs.text.Parsing.{IsInvalid, IsTooDeep}
use Rattle.cbor_edn_core.specs.text.Parsing.{ParsedSequence, ParsedStandalone}
use Rattle.cbor_edn_core.specs.tree.View.{Item, StandaloneItem, Sequence, item_tree, standalone_tree, sequence_tree}
use Rattle.cbor_edn_core.proofs.lemmas.text.Printable.{item_spelled, standalone_spelled, sequence_spelled}
use Rattle.cbor_edn_model.proofs.lemmas.text.GrammarLaws.{unique_items}
use Rattle.cbor_edn_model.specs.tree.Items as kind
use Rattle.cbor_edn_model.specs.tree.Items.{Sort, Node, Items, nesting}
use Rattle.cbor_edn_model.specs.text.Spelling.{Spells, SpellsOne, SpellsSequence}
use Rattle.cbor_edn_model.specs.tree.Trees.{items, text}
use Rattle.cbor_edn_script.specs.ReadingBack.{IsReadBack, ReadsBackSequence, ReadsBackStandalone, ReadsBackItem}

-- a refusal says that nothing is spelled, or nothing that nests so little
no_refusal : {s : Sort} (Spelled : Node s → List ℕ → Type 0) (limit : ℕ) (x : Node s) (t : List ℕ) (k : ParseErrorKind) → Spelled x t → nesting x ≤ limit → (k ≡ Invalid → IsInvalid Spelled t) → (k ≡ TooDeep → IsTooDeep Spelled limit t) → ⊥
no_refusal Spelled limit x t Invalid h within invalid deep = invalid refl x h
no_refusal Spelled limit x t TooDeep h within invalid deep = let d = (deep refl).deeper x h in omega (arith, d, within)

sequence_back : (x : Items) (t : List ℕ) → SpellsSequence x t → IsReadBack SpellsSequence ParsedSequence (λ y. items (sequence_tree y)) x t
sequence_back x t h = record {
  spelled = h;
  same = λ limit y within parsed. unique_items.0 (items (sequence_tree y)) x t parsed.accepted.spelled h;
  accepted = λ limit e within refused. no_refusal SpellsSequence limit x t (error_kind e) h within refused.invalid refused.too_deep;
}

one_back : (x : Node kind.Item) (t : List ℕ) → SpellsOne x t → IsReadBack SpellsOne ParsedStandalone (λ y. items (standalone_tree y)) x t
one_back x t h = record {
  spelled = h;
  same = λ limit y within parsed. unique_items.1 (items (standalone_tree y)) x t parsed.accepted.spelled h;
  accepted = λ limit e within refused. no_refusal SpellsOne limit x t (error_kind e) h within refused.invalid refused.too_deep;
}

-- an item is spelled with empty spaces round it
alone_spelled : (x : Node kind.Item) (t : List ℕ) → Spells x t → SpellsOne x t
unfolding SpellsOne
alone_spelled x t h = ([], t, [], empty, h, empty, sym (append-nil t))

pub sequence_reads_back : (x : Sequence) → ReadsBackSequence (sequence_tree x)
sequence_reads_back x = sequence_back (items (sequence_tree x)) (text (sequence_tree x)) (sequence_spelled x (text (sequence_tree x)) refl)

pub standalone_reads_back : (x : StandaloneItem) → ReadsBackStandalone (standalone_tree x)
standalone_reads_back x = one_back (items (standalone_tree x)) (text (standalone_tree x)) (standalone_spelled x (text (standalone_tree x)) refl)

pub item_reads_back : (x : Item) → ReadsBackItem (item_tree x)
item_reads_back x = one_back (items (item_tree x)) (text (item_tree x)) (alone_spelled (items (item_tree x)) (text (item_tree x)) (item_spelled x (text (item_tree x)) refl))
