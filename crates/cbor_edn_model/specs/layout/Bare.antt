-- Items and trees without their encoding indicators.
use Rattle.std.specs.Prelude.{ℕ, Bool, false, cond, eqb, List, [], ◌∷◌, ◌++◌, None}
use Rattle.cbor_edn_model.specs.declared.text.opener.OpenerKind.{OpenerKind}
use Rattle.cbor_edn_model.specs.declared.text.opener.OpenerKind.TheVariants as opener
use Rattle.cbor_edn_model.specs.tree.Items.{Sort, Node, Number, Float, Listed, Tagged, Named, Simple, String, Stream, Literal, Ellipsis, Embedded, LastPiece, Plus, Element, Pair, Chunk, End, Then}
use Rattle.cbor_edn_model.specs.tree.Trees.{Rule, Tree, ListHead, NoIndicator, WithIndicator, NumberTree, FloatTree, NamedTree, EnclosedTree, ListTree, StringTree, StreamTree, LiteralTree, EllipsisTree, EmbeddedTree, LastPieceTree, PlusTree, ElementTree, PairTree, ChunkTree, EmptyTree, FullTree, LastTree, MoreTree, NothingTree, SequenceTree, StandaloneTree}

-- The items without any indicator outside embedded sequences: that of an embedded sequence itself goes, and what stands in it stays.
-- A stream stays one.
unfoldable pub bare : {s : Sort} → Node s → Node s
bare (Number x i) = Number x None
bare (Float f i) = Float f None
bare (Listed k i m) = Listed k None (bare m)
bare (Tagged n i w) = Tagged n None (bare w)
bare (Named b) = Named b
bare (Simple w) = Simple (bare w)
bare (String w) = String (bare w)
bare (Stream m) = Stream (bare m)
bare (Literal x i) = Literal x None
bare (Ellipsis x) = Ellipsis x
bare (Embedded m i) = Embedded m None
bare (LastPiece p) = LastPiece (bare p)
bare (Plus p w) = Plus (bare p) (bare w)
bare (Element w) = Element (bare w)
bare (Pair v w) = Pair (bare v) (bare w)
bare (Chunk w) = Chunk (bare w)
bare End = End
bare (Then e m) = Then (bare e) (bare m)

abbrev pub is_one_space : List ℕ → Bool
is_one_space (c ∷ []) = eqb c 32
is_one_space _ = false

-- the first space of a list: the one behind its indicator stands in front of it, but for a single space, which goes with the indicator
abbrev pub first_space : ListHead → List ℕ → List ℕ
first_space NoIndicator s = s
first_space (WithIndicator i ms) s = cond (is_one_space ms) s (ms ++ s)

abbrev pub bare_opener : OpenerKind → OpenerKind
bare_opener (opener.Tag i n) = opener.Tag None n
bare_opener opener.Simple = opener.Simple

-- The tree of the bare items, with the spaces that stay: `[_ 1]` becomes `[1]`, and `[_ /c/ 1]` becomes `[ /c/ 1]`.
unfoldable pub without_indicators : {s : Rule} → Tree s → Tree s
without_indicators (NumberTree x i) = NumberTree x None
without_indicators (FloatTree f i) = FloatTree f None
without_indicators (NamedTree b) = NamedTree b
without_indicators (EnclosedTree l w) = EnclosedTree (bare_opener l) (without_indicators w)
without_indicators (ListTree k w) = ListTree k (without_indicators w)
without_indicators (StringTree w) = StringTree (without_indicators w)
without_indicators (StreamTree ms m) = StreamTree ms (without_indicators m)
without_indicators (LiteralTree x i) = LiteralTree x None
without_indicators (EllipsisTree x) = EllipsisTree x
without_indicators (EmbeddedTree w i) = EmbeddedTree w None
without_indicators (LastPieceTree p) = LastPieceTree (without_indicators p)
without_indicators (PlusTree p s t w) = PlusTree (without_indicators p) s t (without_indicators w)
without_indicators (ElementTree w) = ElementTree (without_indicators w)
without_indicators (PairTree v s t w) = PairTree (without_indicators v) s t (without_indicators w)
without_indicators (ChunkTree w) = ChunkTree (without_indicators w)
without_indicators (EmptyTree i s) = EmptyTree None s
without_indicators (FullTree h s m) = FullTree NoIndicator (first_space h s) (without_indicators m)
without_indicators (LastTree e s) = LastTree (without_indicators e) s
without_indicators (MoreTree e s m) = MoreTree (without_indicators e) s (without_indicators m)
without_indicators (NothingTree s) = NothingTree s
without_indicators (SequenceTree s m) = SequenceTree s (without_indicators m)
without_indicators (StandaloneTree s w t) = StandaloneTree s (without_indicators w) t
