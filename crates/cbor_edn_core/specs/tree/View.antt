-- The tree that a declared value stands for.
use Rattle.std.specs.Prelude.{ℕ, map, List, Option, None, Some}
use Rattle.cbor_edn_parts.specs.declared.space.Space.{Space}
use Rattle.cbor_edn_parts.specs.declared.space.MandatorySpace.{MandatorySpace}
use Rattle.cbor_edn_parts.specs.declared.space.Separator.{Separator}
use Rattle.cbor_edn_parts.specs.declared.space.ListEnd.{ListEnd}
use Rattle.cbor_edn_parts.specs.declared.number.Number.{Number}
use Rattle.cbor_edn_parts.specs.declared.string.Literal.{Literal}
use Rattle.cbor_edn_parts.specs.declared.string.Ellipsis.{Ellipsis}
use Rattle.cbor_edn_model.specs.tree.TreeLeaves.{Ghosts, texts}
use Rattle.cbor_edn_model.specs.text.ListHeads.{view_list_head}
use Rattle.cbor_edn_model.specs.tree.Rows.{entries_onto, pieces_onto}
use Rattle.cbor_edn_core.specs.declared.tree.InnerItemOf.{InnerItemOf}
use Rattle.cbor_edn_core.specs.declared.tree.InnerItemOf.TheVariants as inner
use Rattle.cbor_edn_core.specs.declared.tree.ItemOf.{ItemOf}
use Rattle.cbor_edn_core.specs.declared.tree.ItemListOf.{ItemListOf}
use Rattle.cbor_edn_core.specs.declared.tree.ItemListOf.TheVariants as item_list
use Rattle.cbor_edn_core.specs.declared.tree.ItemsOf.{ItemsOf, ItemsOf', Row_of-ItemsOf-row-2, end_of-ItemsOf-row-2, more_of-ItemsOf-row-2}
use Rattle.cbor_edn_core.specs.declared.tree.PairOf.{PairOf}
use Rattle.cbor_edn_core.specs.declared.tree.PairListOf.{PairListOf}
use Rattle.cbor_edn_core.specs.declared.tree.PairListOf.TheVariants as pair_list
use Rattle.cbor_edn_core.specs.declared.tree.PairsOf.{PairsOf, PairsOf', Row_of-PairsOf-row-2, end_of-PairsOf-row-2, more_of-PairsOf-row-2}
use Rattle.cbor_edn_core.specs.declared.tree.CborStringOf.{CborStringOf, Row_of-CborStringOf-row-3, end_of-CborStringOf-row-3, more_of-CborStringOf-row-3}
use Rattle.cbor_edn_core.specs.declared.tree.PieceOf.{PieceOf}
use Rattle.cbor_edn_core.specs.declared.tree.PieceOf.TheVariants as piece
use Rattle.cbor_edn_core.specs.declared.tree.StreamOf.{StreamOf, StreamOf'}
use Rattle.cbor_edn_core.specs.declared.tree.StringsOf.{StringsOf, StringsOf', Row_of-StringsOf-row-2, end_of-StringsOf-row-2, more_of-StringsOf-row-2}
use Rattle.cbor_edn_core.specs.declared.tree.StandaloneItemOf.{StandaloneItemOf}
use Rattle.cbor_edn_core.specs.declared.tree.SequenceOf.{SequenceOf, SequenceOf', Held-SequenceOf-items}
use Rattle.cbor_edn_core.specs.declared.tree.SequenceOf as sequence
use Rattle.cbor_edn_model.specs.tree.Items as kind
use Rattle.cbor_edn_model.specs.tree.Trees.{Tree, OneItem, OnePiece, OneString, OneEntry, Inside, Rest, Seq, Standalone, NumberTree, FloatTree, NamedTree, EnclosedTree, ListTree, StringTree, StreamTree, LiteralTree, EllipsisTree, EmbeddedTree, LastPieceTree, PlusTree, ElementTree, PairTree, ChunkTree, EmptyTree, FullTree, LastTree, MoreTree, NothingTree, SequenceTree, StandaloneTree}

module _ {O M C E N L D : Type 0} (leaves : Ghosts O M C E N L D) where
  abbrev mutual
    pub view_inner : InnerItemOf O M C E N L D → Tree OneItem
    view_inner (inner.Number i n) = NumberTree (leaves.number n) i
    view_inner (inner.NonFinite i f) = FloatTree f i
    view_inner (inner.Named b) = NamedTree b
    view_inner (inner.Enclosed' opener p before item after) = EnclosedTree opener.kind (StandaloneTree (leaves.space before) (view_inner item) (leaves.space after))
    view_inner (inner.Array' p list) = ListTree kind.Array (view_list list)
    view_inner (inner.Map' p list) = ListTree kind.Map (view_pair_list list)
    view_inner (inner.Literal i literal) = StringTree (LastPieceTree (LiteralTree (leaves.literal literal) i))
    view_inner (inner.String' p n row last) = StringTree (view_pieces row (LastPieceTree (view_piece last)))
    view_inner (inner.Stream' p stream) = view_stream stream

    -- pieces, each with the spaces round the plus sign behind it, in front of others
    pub view_pieces : {n : _} → Row_of-CborStringOf-row-3 O M C E N L D n → Tree OneString → Tree OneString
    view_pieces end_of-CborStringOf-row-3 w = w
    view_pieces (more_of-CborStringOf-row-3 p before after row) w = PlusTree (view_piece p) (leaves.space before) (leaves.space after) (view_pieces row w)

    pub view_piece : PieceOf O M C E N L D → Tree OnePiece
    view_piece (piece.Literal i literal) = LiteralTree (leaves.literal literal) i
    view_piece (piece.Ellipsis ellipsis) = EllipsisTree (leaves.ellipsis ellipsis)
    view_piece (piece.Embedded' i p sequence) = EmbeddedTree (view_sequence sequence) i

    -- a sequence
    pub view_sequence : SequenceOf O M C E N L D → Tree Seq
    view_sequence (SequenceOf' before items) = view_held (leaves.space before) items

    pub view_held : List ℕ → Held-SequenceOf-items O M C E N L D → Tree Seq
    view_held s sequence.None' = NothingTree s
    view_held s (sequence.Some' items) = SequenceTree s (view_items items)

    pub view_stream : StreamOf O M C E N L D → Tree OneItem
    view_stream (StreamOf' ms strings) = StreamTree (leaves.mandatory ms) (view_strings strings)

    pub view_strings : StringsOf O M C E N L D → Tree (Rest kind.Strings)
    view_strings (StringsOf' n row m pieces last list_end) = view_string_row row (LastTree (ChunkTree (view_pieces pieces (LastPieceTree (view_piece last)))) (leaves.end list_end))

    pub view_string_row : {n : _} → Row_of-StringsOf-row-2 O M C E N L D n → Tree (Rest kind.Strings) → Tree (Rest kind.Strings)
    view_string_row end_of-StringsOf-row-2 m = m
    view_string_row (more_of-StringsOf-row-2 m pieces last separator row) rest = MoreTree (ChunkTree (view_pieces pieces (LastPieceTree (view_piece last)))) (leaves.separator separator) (view_string_row row rest)

    pub view_list : ItemListOf O M C E N L D → Tree (Inside kind.Array)
    view_list (item_list.Present head s items) = FullTree (view_list_head leaves head) (leaves.space s) (view_items items)
    view_list (item_list.Absent i s) = EmptyTree i (leaves.space s)

    pub view_items : ItemsOf O M C E N L D → Tree (Rest kind.Elements)
    view_items (ItemsOf' n row last list_end) = view_row row (LastTree (ElementTree (view_inner last)) (leaves.end list_end))

    pub view_row : {n : _} → Row_of-ItemsOf-row-2 O M C E N L D n → Tree (Rest kind.Elements) → Tree (Rest kind.Elements)
    view_row end_of-ItemsOf-row-2 m = m
    view_row (more_of-ItemsOf-row-2 item separator row) m = MoreTree (ElementTree (view_inner item)) (leaves.separator separator) (view_row row m)

    pub view_pair_list : PairListOf O M C E N L D → Tree (Inside kind.Map)
    view_pair_list (pair_list.Present head s pairs) = FullTree (view_list_head leaves head) (leaves.space s) (view_pairs pairs)
    view_pair_list (pair_list.Absent i s) = EmptyTree i (leaves.space s)

    pub view_pairs : PairsOf O M C E N L D → Tree (Rest kind.Pairs)
    view_pairs (PairsOf' n row key before after value list_end) = view_pair_row row (LastTree (PairTree (view_inner key) (leaves.space before) (leaves.space after) (view_inner value)) (leaves.end list_end))

    pub view_pair_row : {n : _} → Row_of-PairsOf-row-2 O M C E N L D n → Tree (Rest kind.Pairs) → Tree (Rest kind.Pairs)
    view_pair_row end_of-PairsOf-row-2 m = m
    view_pair_row (more_of-PairsOf-row-2 key before after value separator row) m = MoreTree (PairTree (view_inner key) (leaves.space before) (leaves.space after) (view_inner value)) (leaves.separator separator) (view_pair_row row m)

  abbrev pub view_item : ItemOf O M C E N L D → Tree OneItem
  view_item x = view_inner x.inner

  abbrev pub view_pair : PairOf O M C E N L D → Tree (OneEntry kind.Pairs)
  view_pair x = PairTree (view_item x.key) (leaves.space x.before_colon) (leaves.space x.after_colon) (view_item x.value)

  -- an item and the separator behind it
  abbrev pub seen : ItemOf O M C E N L D × C → Tree (OneEntry kind.Elements) × List ℕ
  seen p = (ElementTree (view_item p.0), leaves.separator p.1)

  -- a pair and the separator behind it
  abbrev pub seen_pair : PairOf O M C E N L D × C → Tree (OneEntry kind.Pairs) × List ℕ
  seen_pair p = (view_pair p.0, leaves.separator p.1)

  -- items, each with the separator behind it, in front of a rest
  abbrev pub row_onto : List (ItemOf O M C E N L D × C) → Tree (Rest kind.Elements) → Tree (Rest kind.Elements)
  row_onto ps m = entries_onto (map seen ps) m

  -- the same of pairs
  abbrev pub pair_row_onto : List (PairOf O M C E N L D × C) → Tree (Rest kind.Pairs) → Tree (Rest kind.Pairs)
  pair_row_onto ps m = entries_onto (map seen_pair ps) m

  -- pieces, each with the spaces round the plus sign behind it, in front of others
  abbrev pub seen_piece : PieceOf O M C E N L D × O × O → Tree OnePiece × List ℕ × List ℕ
  seen_piece p = (view_piece p.0, leaves.space p.1, leaves.space p.2)

  abbrev pub piece_row_onto : List (PieceOf O M C E N L D × O × O) → Tree OneString → Tree OneString
  piece_row_onto ps w = pieces_onto (map seen_piece ps) w

  abbrev pub view_string : CborStringOf O M C E N L D → Tree OneString
  view_string x = piece_row_onto x.row.items (LastPieceTree (view_piece x.last))

  -- a string of a stream and the separator behind it
  abbrev pub seen_string : CborStringOf O M C E N L D × C → Tree (OneEntry kind.Strings) × List ℕ
  seen_string p = (ChunkTree (view_string p.0), leaves.separator p.1)

  abbrev pub string_row_onto : List (CborStringOf O M C E N L D × C) → Tree (Rest kind.Strings) → Tree (Rest kind.Strings)
  string_row_onto ps m = entries_onto (map seen_string ps) m

  -- what follows a sequence's first space
  abbrev pub view_some : List ℕ → Option (ItemsOf O M C E N L D) → Tree Seq
  view_some s None = NothingTree s
  view_some s (Some items) = SequenceTree s (view_items items)

  abbrev pub view_standalone : StandaloneItemOf O M C E N L D → Tree Standalone
  view_standalone x = StandaloneTree (leaves.space x.before) (view_item x.item) (leaves.space x.after)

-- the values of a text
abbrev pub Item : Type 0
Item = ItemOf Space MandatorySpace Separator ListEnd Number Literal Ellipsis

abbrev pub Pair : Type 0
Pair = PairOf Space MandatorySpace Separator ListEnd Number Literal Ellipsis

abbrev pub StandaloneItem : Type 0
StandaloneItem = StandaloneItemOf Space MandatorySpace Separator ListEnd Number Literal Ellipsis

abbrev pub Sequence : Type 0
Sequence = SequenceOf Space MandatorySpace Separator ListEnd Number Literal Ellipsis

-- the trees of the values of a text
abbrev pub item_tree : Item → Tree OneItem
item_tree = view_item texts

abbrev pub standalone_tree : StandaloneItem → Tree Standalone
standalone_tree = view_standalone texts

abbrev pub sequence_tree : Sequence → Tree Seq
sequence_tree = view_sequence texts

-- an item of a row
abbrev pub row_item : Item × Separator → Tree OneItem
row_item p = item_tree p.0

-- the key of a row's pair
abbrev pub row_key : Pair × Separator → Tree OneItem
row_key p = item_tree p.0.key
