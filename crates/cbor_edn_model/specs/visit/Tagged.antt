-- Whether a visit of tags finds any.
use Rattle.std.specs.Prelude.{Bool, true, false, ◌||◌}
use Rattle.cbor_edn_model.specs.declared.text.opener.OpenerKind.TheVariants as opener
use Rattle.cbor_edn_model.specs.tree.Trees.{Rule, Tree, NumberTree, FloatTree, NamedTree, EnclosedTree, ListTree, StringTree, StreamTree, LiteralTree, EllipsisTree, EmbeddedTree, LastPieceTree, PlusTree, ElementTree, PairTree, ChunkTree, EmptyTree, FullTree, LastTree, MoreTree, NothingTree, SequenceTree, StandaloneTree}

-- A tag stands in the tree, at any depth and in embedded sequences too: in `[1(2)]` and in `<<1(2)>>`. None does in `simple(..)`.
unfoldable pub has_tag : {s : Rule} → Tree s → Bool
has_tag (NumberTree x i) = false
has_tag (FloatTree f i) = false
has_tag (NamedTree b) = false
has_tag (EnclosedTree (opener.Tag i n) w) = true
has_tag (EnclosedTree opener.Simple w) = false
has_tag (ListTree k w) = has_tag w
has_tag (StringTree w) = has_tag w
has_tag (StreamTree ms m) = has_tag m
has_tag (LiteralTree x i) = false
has_tag (EllipsisTree x) = false
has_tag (EmbeddedTree w i) = has_tag w
has_tag (LastPieceTree p) = has_tag p
has_tag (PlusTree p s t w) = has_tag p || has_tag w
has_tag (ElementTree w) = has_tag w
has_tag (PairTree v s t w) = has_tag v || has_tag w
has_tag (ChunkTree w) = has_tag w
has_tag (EmptyTree i s) = false
has_tag (FullTree h s m) = has_tag m
has_tag (LastTree e s) = has_tag e
has_tag (MoreTree e s m) = has_tag e || has_tag m
has_tag (NothingTree s) = false
has_tag (SequenceTree s m) = has_tag m
has_tag (StandaloneTree s w t) = has_tag w
