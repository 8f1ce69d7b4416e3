-- The tree of an item with the spaces of a single line, part by part.
use Rattle.std.specs.Prelude.{[], ◌∷◌, Option, Some, None}
use Rattle.cbor_edn_parts.specs.declared.base.indicator.Indicator.{Indicator}
use Rattle.cbor_edn_model.specs.declared.text.opener.OpenerKind.TheVariants as opener
use Rattle.cbor_edn_model.specs.tree.Items as kind
use Rattle.cbor_edn_model.specs.tree.Items.{Row, Elements, Strings, Bracketed, entries_of, Sort, Item, Piece, Pieces, Entry, Entries, Node, Number, Float, Listed, Tagged, Named, Simple, String, Stream, Literal, Ellipsis, Embedded, LastPiece, Plus, Element, Pair, Chunk, End, Then, Items}
use Rattle.cbor_edn_model.specs.tree.Trees.{Tree, OneItem, OnePiece, OneString, OneEntry, Inside, Rest, Seq, ListHead, NoIndicator, WithIndicator, NumberTree, FloatTree, NamedTree, EnclosedTree, ListTree, StringTree, StreamTree, LiteralTree, EllipsisTree, EmbeddedTree, LastPieceTree, PlusTree, ElementTree, PairTree, ChunkTree, EmptyTree, FullTree, LastTree, MoreTree, NothingTree, SequenceTree}
use Rattle.cbor_edn_model.specs.cbor.Decoded.{alone}

-- an entry in front of others: `, ` between two, and nothing behind the last
abbrev pub in_front : {k : Row} → Tree (OneEntry k) → Option (Tree (Rest k)) → Tree (Rest k)
in_front e None = LastTree e []
in_front e (Some m) = MoreTree e (44 ∷ 32 ∷ []) m

-- one space behind an indicator
abbrev pub spaced_list_head : Option Indicator → ListHead
spaced_list_head None = NoIndicator
spaced_list_head (Some i) = WithIndicator i (32 ∷ [])

-- what stands between brackets: `[_]` and `[]` have no space
abbrev pub list_inside : {k : Bracketed} → Option Indicator → Option (Tree (Rest (entries_of k))) → Tree (Inside k)
list_inside i None = EmptyTree i []
list_inside i (Some m) = FullTree (spaced_list_head i) [] m

abbrev pub key_value : Tree OneItem → Tree OneItem → Tree (OneEntry kind.Pairs)
key_value v w = PairTree v [] (32 ∷ []) w

abbrev pub sequence_tree_of : Option (Tree (Rest Elements)) → Tree Seq
sequence_tree_of None = NothingTree []
sequence_tree_of (Some m) = SequenceTree [] m

-- A stream: one space behind `(_`. No text spells a stream without strings, and no value has it for its item.
abbrev pub stream_tree : Option (Tree (Rest Strings)) → Tree OneItem
stream_tree None = StringTree (LastPieceTree (LiteralTree [] None))
stream_tree (Some m) = StreamTree (32 ∷ []) m

-- an embedded sequence
abbrev pub embedded_tree : Option (Tree (Rest Elements)) → Option Indicator → Tree OnePiece
embedded_tree m i = EmbeddedTree (sequence_tree_of m) i

abbrev pub Regular : Sort → Type 0
Regular Item = Tree OneItem
Regular Piece = Tree OnePiece
Regular Pieces = Tree OneString
Regular (Entry k) = Tree (OneEntry k)
Regular (Entries k) = Option (Tree (Rest k))

-- An item with the spaces of a single line, as in `[_ 1, {2: 3}]`; of a row what stands behind the first space of its list, if anything.
unfoldable pub regular : {s : Sort} → Node s → Regular s
regular (Number x i) = NumberTree x i
regular (Float f i) = FloatTree f i
regular (Listed k i m) = ListTree k (list_inside i (regular m))
regular (Tagged n i w) = EnclosedTree (opener.Tag i n) (alone (regular w))
regular (Named b) = NamedTree b
regular (Simple w) = EnclosedTree opener.Simple (alone (regular w))
regular (String w) = StringTree (regular w)
regular (Stream m) = stream_tree (regular m)
regular (Literal x i) = LiteralTree x i
regular (Ellipsis x) = EllipsisTree x
regular (Embedded m i) = embedded_tree (regular m) i
regular (LastPiece p) = LastPieceTree (regular p)
regular (Plus p w) = PlusTree (regular p) (32 ∷ []) (32 ∷ []) (regular w)
regular (Element w) = ElementTree (regular w)
regular (Pair v w) = key_value (regular v) (regular w)
regular (Chunk w) = ChunkTree (regular w)
regular End = None
regular (Then e m) = Some (in_front (regular e) (regular m))

abbrev pub regular_sequence : Items → Tree Seq
regular_sequence m = sequence_tree_of (regular m)
