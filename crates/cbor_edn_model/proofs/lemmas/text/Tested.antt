-- Trees whose texts pass the tests of their sets: these are the valid ones.
use Rattle.std.proofs.Common.{◌≡◌, true}
use Rattle.cbor_edn_parts.specs.internal.SpaceTokens.{is_space, is_mandatory_space, is_separator, is_list_end}
use Rattle.cbor_edn_parts.specs.internal.NumberTokens.{is_number}
use Rattle.cbor_edn_parts.specs.internal.LiteralTokens.{is_literal, is_ellipsis}
use Rattle.cbor_edn_parts.proofs.lemmas.space.SpaceTexts.{optional_texts, mandatory_texts, at_end_texts, separating_texts}
use Rattle.cbor_edn_parts.proofs.lemmas.number.NumberTexts.{number_texts}
use Rattle.cbor_edn_parts.proofs.lemmas.string.LiteralTexts.{literal_test}
use Rattle.cbor_edn_parts.proofs.lemmas.string.EllipsisTexts.{ellipsis_test}
use Rattle.cbor_edn_model.specs.text.Openers.{IsOpener}
use Rattle.cbor_edn_model.specs.tree.Trees.{Rule, Tree, ListHead, NoIndicator, WithIndicator, NumberTree, FloatTree, NamedTree, EnclosedTree, ListTree, StringTree, StreamTree, LiteralTree, EllipsisTree, EmbeddedTree, LastPieceTree, PlusTree, ElementTree, PairTree, ChunkTree, EmptyTree, FullTree, LastTree, MoreTree, NothingTree, SequenceTree, StandaloneTree, IsListHead, Valid}

abbrev pub IsTestedListHead : ListHead → Type 0
IsTestedListHead NoIndicator = Unit {0}
IsTestedListHead (WithIndicator i ms) = is_mandatory_space ms ≡ true

-- Each text of a tree passes the test of its set, which the leaves of Rust trees carry.
unfoldable pub Tested : {s : Rule} → Tree s → Type 0
Tested (NumberTree x i) = is_number x ≡ true
Tested (FloatTree f i) = Unit {0}
Tested (NamedTree b) = Unit {0}
Tested (EnclosedTree l w) = IsOpener l × Tested w
Tested (ListTree k w) = Tested w
Tested (StringTree w) = Tested w
Tested (StreamTree ms m) = (is_mandatory_space ms ≡ true) × Tested m
Tested (LiteralTree x i) = is_literal x ≡ true
Tested (EllipsisTree x) = is_ellipsis x ≡ true
Tested (EmbeddedTree w i) = Tested w
Tested (LastPieceTree p) = Tested p
Tested (PlusTree p s t w) = Tested p × (is_space s ≡ true) × (is_space t ≡ true) × Tested w
Tested (ElementTree w) = Tested w
Tested (PairTree v s t w) = Tested v × (is_space s ≡ true) × (is_space t ≡ true) × Tested w
Tested (ChunkTree w) = Tested w
Tested (EmptyTree i s) = is_space s ≡ true
Tested (FullTree h s m) = IsTestedListHead h × (is_space s ≡ true) × Tested m
Tested (LastTree e s) = Tested e × (is_list_end s ≡ true)
Tested (MoreTree e s m) = Tested e × (is_separator s ≡ true) × Tested m
Tested (NothingTree s) = is_space s ≡ true
Tested (SequenceTree s m) = (is_space s ≡ true) × Tested m
Tested (StandaloneTree s w t) = (is_space s ≡ true) × Tested w × (is_space t ≡ true)

tested_head : (h : ListHead) → IsListHead h → IsTestedListHead h
tested_head NoIndicator v = tt
tested_head (WithIndicator i ms) v = (mandatory_texts ms).0 v

valid_head : (h : ListHead) → IsTestedListHead h → IsListHead h
valid_head NoIndicator v = tt
valid_head (WithIndicator i ms) v = (mandatory_texts ms).1 v

pub tested : {s : Rule} (w : Tree s) → Valid w → Tested w
unfolding Valid Tested
tested (NumberTree x i) v = (number_texts x).0 v
tested (FloatTree f i) v = tt
tested (NamedTree b) v = tt
tested (EnclosedTree l w) v = (v.0, tested w v.1)
tested (ListTree k w) v = tested w v
tested (StringTree w) v = tested w v
tested (StreamTree ms m) v = ((mandatory_texts ms).0 v.0, tested m v.1)
tested (LiteralTree x i) v = (literal_test x).0 v
tested (EllipsisTree x) v = (ellipsis_test x).0 v
tested (EmbeddedTree w i) v = tested w v
tested (LastPieceTree p) v = tested p v
tested (PlusTree p s t w) v = (tested p v.0, (optional_texts s).0 v.1, (optional_texts t).0 v.2, tested w v.3)
tested (ElementTree w) v = tested w v
tested (PairTree k s t w) v = (tested k v.0, (optional_texts s).0 v.1, (optional_texts t).0 v.2, tested w v.3)
tested (ChunkTree w) v = tested w v
tested (EmptyTree i s) v = (optional_texts s).0 v
tested (FullTree h s m) v = (tested_head h v.0, (optional_texts s).0 v.1, tested m v.2)
tested (LastTree e s) v = (tested e v.0, (at_end_texts s).0 v.1)
tested (MoreTree e s m) v = (tested e v.0, (separating_texts s).0 v.1, tested m v.2)
tested (NothingTree s) v = (optional_texts s).0 v
tested (SequenceTree s m) v = ((optional_texts s).0 v.0, tested m v.1)
tested (StandaloneTree s w t) v = ((optional_texts s).0 v.0, tested w v.1, (optional_texts t).0 v.2)

pub valid : {s : Rule} (w : Tree s) → Tested w → Valid w
unfolding Valid Tested
valid (NumberTree x i) v = (number_texts x).1 v
valid (FloatTree f i) v = tt
valid (NamedTree b) v = tt
valid (EnclosedTree l w) v = (v.0, valid w v.1)
valid (ListTree k w) v = valid w v
valid (StringTree w) v = valid w v
valid (StreamTree ms m) v = ((mandatory_texts ms).1 v.0, valid m v.1)
valid (LiteralTree x i) v = (literal_test x).1 v
valid (EllipsisTree x) v = (ellipsis_test x).1 v
valid (EmbeddedTree w i) v = valid w v
valid (LastPieceTree p) v = valid p v
valid (PlusTree p s t w) v = (valid p v.0, (optional_texts s).1 v.1, (optional_texts t).1 v.2, valid w v.3)
valid (ElementTree w) v = valid w v
valid (PairTree k s t w) v = (valid k v.0, (optional_texts s).1 v.1, (optional_texts t).1 v.2, valid w v.3)
valid (ChunkTree w) v = valid w v
valid (EmptyTree i s) v = (optional_texts s).1 v
valid (FullTree h s m) v = (valid_head h v.0, (optional_texts s).1 v.1, valid m v.2)
valid (LastTree e s) v = (valid e v.0, (at_end_texts s).1 v.1)
valid (MoreTree e s m) v = (valid e v.0, (separating_texts s).1 v.1, valid m v.2)
valid (NothingTree s) v = (optional_texts s).1 v
valid (SequenceTree s m) v = ((optional_texts s).1 v.0, valid m v.1)
valid (StandaloneTree s w t) v = ((optional_texts s).1 v.0, valid w v.1, (optional_texts t).1 v.2)
