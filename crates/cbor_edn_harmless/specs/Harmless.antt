-- The tree whose text acts on nothing: its quoted texts stand for what they stood for, its comments tell what would act.
use Rattle.std.specs.Prelude.{ℕ, ◌==◌, ◌||◌, if◌then◌else◌, List, [], ◌∷◌, ◌++◌, false, encode_utf8}
use Rattle.std.specs.Fmt.{digits}
use Rattle.std.specs.List.{flat_map}
use Rattle.std.specs.Str.{chars}
use Rattle.cbor_edn_terminal.specs.Terminal.{acts_in_lines}
use Rattle.cbor_edn_model.specs.tree.Trees.{Rule, Tree, ListHead, NoIndicator, WithIndicator, NumberTree, FloatTree, NamedTree, EnclosedTree, ListTree, StringTree, StreamTree, LiteralTree, EllipsisTree, EmbeddedTree, LastPieceTree, PlusTree, ElementTree, PairTree, ChunkTree, EmptyTree, FullTree, LastTree, MoreTree, NothingTree, SequenceTree, StandaloneTree}

-- `\u{202e}`, with lower-case digits and no leading zeros
abbrev pub escape : ℕ → List ℕ
escape c = 92 ∷ 117 ∷ 123 ∷ (digits 16 false c ++ (125 ∷ []))

-- a character that is no tab and no CR
abbrev pub escaped_character : ℕ → List ℕ
escaped_character c = if acts_in_lines c then escape c else encode_utf8 c

-- A character of a space text, between comments or in one. Tabs and CRs are spaces.
abbrev pub in_space : ℕ → List ℕ
in_space c = if c == 9 || c == 13 then 32 ∷ [] else escaped_character c

-- A character of a quoted text, where a raw CR stands for nothing, and a raw tab doesn't stand.
abbrev pub in_quotes : ℕ → List ℕ
in_quotes c = if c == 13 then [] else escaped_character c

unfoldable pub harmless_space : List ℕ → List ℕ
harmless_space s = flat_map in_space (chars s)

unfoldable pub harmless_literal : List ℕ → List ℕ
harmless_literal x = flat_map in_quotes (chars x)

abbrev pub harmless_list_head : ListHead → ListHead
harmless_list_head NoIndicator = NoIndicator
harmless_list_head (WithIndicator i ms) = WithIndicator i (harmless_space ms)

-- What is neither a quoted text nor space has letters, digits and signs alone.
unfoldable pub harmless : {s : Rule} → Tree s → Tree s
harmless (NumberTree x i) = NumberTree x i
harmless (FloatTree f i) = FloatTree f i
harmless (NamedTree b) = NamedTree b
harmless (EnclosedTree l w) = EnclosedTree l (harmless w)
harmless (ListTree k w) = ListTree k (harmless w)
harmless (StringTree w) = StringTree (harmless w)
harmless (StreamTree ms m) = StreamTree (harmless_space ms) (harmless m)
harmless (LiteralTree x i) = LiteralTree (harmless_literal x) i
harmless (EllipsisTree x) = EllipsisTree x
harmless (EmbeddedTree w i) = EmbeddedTree (harmless w) i
harmless (LastPieceTree p) = LastPieceTree (harmless p)
harmless (PlusTree p s t w) = PlusTree (harmless p) (harmless_space s) (harmless_space t) (harmless w)
harmless (ElementTree w) = ElementTree (harmless w)
harmless (PairTree v s t w) = PairTree (harmless v) (harmless_space s) (harmless_space t) (harmless w)
harmless (ChunkTree w) = ChunkTree (harmless w)
harmless (EmptyTree i s) = EmptyTree i (harmless_space s)
harmless (FullTree h s m) = FullTree (harmless_list_head h) (harmless_space s) (harmless m)
harmless (LastTree e s) = LastTree (harmless e) (harmless_space s)
harmless (MoreTree e s m) = MoreTree (harmless e) (harmless_space s) (harmless m)
harmless (NothingTree s) = NothingTree (harmless_space s)
harmless (SequenceTree s m) = SequenceTree (harmless_space s) (harmless m)
harmless (StandaloneTree s w t) = StandaloneTree (harmless_space s) (harmless w) (harmless_space t)
