-- How deep items nest, as visits count it.
use Rattle.std.specs.Prelude.{ℕ, suc, max}
use Rattle.cbor_edn_model.specs.declared.text.opener.OpenerKind.TheVariants as opener
use Rattle.cbor_edn_model.specs.tree.Trees.{Rule, Tree, NumberTree, FloatTree, NamedTree, EnclosedTree, ListTree, StringTree, StreamTree, LiteralTree, EllipsisTree, EmbeddedTree, LastPieceTree, PlusTree, ElementTree, PairTree, ChunkTree, EmptyTree, FullTree, LastTree, MoreTree, NothingTree, SequenceTree, StandaloneTree}

-- how deep a piece `<<..>>` nests whose items nest so deep
abbrev pub embedded_depth : ℕ → ℕ
embedded_depth d = suc d

-- How deep arrays, maps, tags and embedded sequences nest: 0 for `1`, 1 for `[]` and `<<>>`, 2 for `1([2])`; of several parts the
-- deepest. Nothing counts in `simple(..)`.
unfoldable pub depth : {s : Rule} → Tree s → ℕ
depth (NumberTree x i) = 0
depth (FloatTree f i) = 0
depth (NamedTree b) = 0
depth (EnclosedTree (opener.Tag i n) w) = suc (depth w)
depth (EnclosedTree opener.Simple w) = 0
depth (ListTree k w) = suc (depth w)
depth (StringTree w) = depth w
depth (StreamTree ms m) = depth m
depth (LiteralTree x i) = 0
depth (EllipsisTree x) = 0
depth (EmbeddedTree w i) = embedded_depth (depth w)
depth (LastPieceTree p) = depth p
depth (PlusTree p s t w) = max (depth p) (depth w)
depth (ElementTree w) = depth w
depth (PairTree v s t w) = max (depth v) (depth w)
depth (ChunkTree w) = depth w
depth (EmptyTree i s) = 0
depth (FullTree h s m) = depth m
depth (LastTree e s) = depth e
depth (MoreTree e s m) = max (depth e) (depth m)
depth (NothingTree s) = 0
depth (SequenceTree s m) = depth m
depth (StandaloneTree s w t) = depth w
