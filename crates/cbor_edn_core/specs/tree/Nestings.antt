-- How deep items nest, by the levels that count.
use Rattle.std.specs.Prelude.{ℕ, suc, max, List, [], ◌∷◌}
use Rattle.cbor_edn_core.specs.declared.tree.nesting.Levels.{Levels}
use Rattle.cbor_edn_core.specs.declared.tree.nesting.Levels.TheVariants as levels
use Rattle.cbor_edn_model.specs.declared.text.opener.OpenerKind.TheVariants as opener
use Rattle.cbor_edn_model.specs.tree.Items.{Row}
use Rattle.cbor_edn_model.specs.tree.Trees.{Rule, Tree, OneEntry, OnePiece, NumberTree, FloatTree, NamedTree, EnclosedTree, ListTree, StringTree, StreamTree, LiteralTree, EllipsisTree, EmbeddedTree, LastPieceTree, PlusTree, ElementTree, PairTree, ChunkTree, EmptyTree, FullTree, LastTree, MoreTree, NothingTree, SequenceTree, StandaloneTree}

-- how deep `simple(..)` nests round an item that nests so deep
abbrev pub simple_nesting : Levels → ℕ → ℕ
simple_nesting levels.Visited n = 0
simple_nesting levels.Read n = suc n

-- `tree_nesting` by the levels of a reader, `depth` by those of a visit
abbrev pub nesting_by : Levels → {s : Rule} → Tree s → ℕ
nesting_by l (NumberTree x i) = 0
nesting_by l (FloatTree f i) = 0
nesting_by l (NamedTree b) = 0
nesting_by l (EnclosedTree (opener.Tag i n) w) = suc (nesting_by l w)
nesting_by l (EnclosedTree opener.Simple w) = simple_nesting l (nesting_by l w)
nesting_by l (ListTree k w) = suc (nesting_by l w)
nesting_by l (StringTree w) = nesting_by l w
nesting_by l (StreamTree ms m) = nesting_by l m
nesting_by l (LiteralTree x i) = 0
nesting_by l (EllipsisTree x) = 0
nesting_by l (EmbeddedTree w i) = suc (nesting_by l w)
nesting_by l (LastPieceTree p) = nesting_by l p
nesting_by l (PlusTree p s t w) = max (nesting_by l p) (nesting_by l w)
nesting_by l (ElementTree w) = nesting_by l w
nesting_by l (PairTree v s t w) = max (nesting_by l v) (nesting_by l w)
nesting_by l (ChunkTree w) = nesting_by l w
nesting_by l (EmptyTree i s) = 0
nesting_by l (FullTree h s m) = nesting_by l m
nesting_by l (LastTree e s) = nesting_by l e
nesting_by l (MoreTree e s m) = max (nesting_by l e) (nesting_by l m)
nesting_by l (NothingTree s) = 0
nesting_by l (SequenceTree s m) = nesting_by l m
nesting_by l (StandaloneTree s w t) = nesting_by l w

-- of the entries of a row the deepest
abbrev pub entries_nesting : Levels → {k : Row} → List (Tree (OneEntry k) × List ℕ) → ℕ
entries_nesting l [] = 0
entries_nesting l (p ∷ ps) = max (nesting_by l p.0) (entries_nesting l ps)

-- the same of pieces
abbrev pub pieces_nesting : Levels → List (Tree OnePiece × List ℕ × List ℕ) → ℕ
pieces_nesting l [] = 0
pieces_nesting l (p ∷ ps) = max (nesting_by l p.0) (pieces_nesting l ps)
