-- The spaces of a tree after a delimiter policy. Everything that is no space stays.
use Rattle.std.specs.Prelude.{length}
use Rattle.cbor_edn_parts.specs.space.Spacing.{Optional, Mandatory, Separating, AtEnd}
use Rattle.cbor_edn_parts.specs.declared.space.policy.DelimiterPolicy.{DelimiterPolicy}
use Rattle.cbor_edn_parts.specs.declared.space.policy.Spacing.TheVariants.{OneLine}
pub use Rattle.cbor_edn_parts.specs.declared.space.layout.Layout.{Layout}
pub use Rattle.cbor_edn_parts.specs.declared.space.layout.Layout.TheVariants.{Kept, Inline, Lines}
pub use Rattle.cbor_edn_parts.specs.declared.space.layout.Slot.{Slot}
pub use Rattle.cbor_edn_parts.specs.declared.space.layout.Slot.TheVariants.{First, Between, Last, BeforePlus, AfterPlus, AfterColon, Elsewhere}
pub use Rattle.cbor_edn_parts.specs.space.LayoutColumns.{layout, spacing, spaced_or_kept, respaced, saturating_add, in_chunk, of_parts}
use Rattle.cbor_edn_model.specs.tree.Trees.{Rule, OneItem, Tree, ListHead, NoIndicator, WithIndicator, NumberTree, FloatTree, NamedTree, EnclosedTree, ListTree, StringTree, StreamTree, LiteralTree, EllipsisTree, EmbeddedTree, LastPieceTree, PlusTree, ElementTree, PairTree, ChunkTree, EmptyTree, FullTree, LastTree, MoreTree, NothingTree, SequenceTree, StandaloneTree, text}

-- An item whose parts are laid out by `part`, as wide as the item is on a single line.
abbrev pub fitted : Layout → (Layout → Tree OneItem) → Tree OneItem
fitted l part = part (of_parts l (length (text (part (Inline OneLine)))))

-- an indicator and the space behind it
abbrev pub laid_list_head : Layout → ListHead → ListHead
laid_list_head l NoIndicator = NoIndicator
laid_list_head l (WithIndicator i ms) = WithIndicator i (respaced Mandatory Elsewhere l ms)

-- A tree with other spaces. What stands in an embedded sequence stays as it is.
unfoldable pub laid : {s : Rule} → Layout → Tree s → Tree s
laid l (NumberTree x i) = NumberTree x i
laid l (FloatTree f i) = FloatTree f i
laid l (NamedTree b) = NamedTree b
laid l (EnclosedTree opener w) = fitted l (λ l. EnclosedTree opener (laid l w))
laid l (ListTree k w) = fitted l (λ l. ListTree k (laid l w))
laid l (StringTree w) = fitted l (λ l. StringTree (laid l w))
laid l (StreamTree ms m) = fitted l (λ l. StreamTree (respaced Mandatory First l ms) (laid l m))
laid l (LiteralTree x i) = LiteralTree x i
laid l (EllipsisTree x) = EllipsisTree x
laid l (EmbeddedTree w i) = EmbeddedTree w i
laid l (LastPieceTree p) = LastPieceTree p
laid l (PlusTree p s t w) = PlusTree p (respaced Optional BeforePlus l s) (respaced Optional AfterPlus l t) (laid l w)
laid l (ElementTree w) = ElementTree (laid l w)
laid l (PairTree v s t w) = PairTree (laid l v) (respaced Optional Elsewhere l s) (respaced Optional AfterColon l t) (laid l w)
laid l (ChunkTree w) = ChunkTree (laid (in_chunk l) w)
laid l (EmptyTree i s) = EmptyTree i (respaced Optional Elsewhere l s)
laid l (FullTree h s m) = FullTree (laid_list_head l h) (respaced Optional First l s) (laid l m)
laid l (LastTree e s) = LastTree (laid l e) (respaced AtEnd Last l s)
laid l (MoreTree e s m) = MoreTree (laid l e) (respaced Separating Between l s) (laid l m)
laid l (NothingTree s) = NothingTree (respaced Optional Elsewhere l s)
laid l (SequenceTree s m) = SequenceTree (respaced Optional Elsewhere l s) (laid l m)
laid l (StandaloneTree s w t) = StandaloneTree (respaced Optional Elsewhere l s) (laid l w) (respaced Optional Elsewhere l t)

-- The tree after a policy. A sequence has no test of its own: under the indented policy each of its items begins a line.
abbrev pub laid_out : {s : Rule} → DelimiterPolicy → Tree s → Tree s
laid_out policy w = laid (layout policy) w
