-- Each text of a declared tree is in its set.
use Rattle.std.proofs.Common.{◌≡◌, ℕ, List, Option, None, Some, subst, sym}
use Rattle.cbor_edn_parts.specs.Leaves.{space_bytes}
use Rattle.cbor_edn_parts.specs.declared.base.indicator.Indicator.{Indicator}
use Rattle.cbor_edn_parts.specs.declared.space.Space.{Space}
use Rattle.cbor_edn_parts.specs.declared.space.MandatorySpace.{MandatorySpace}
use Rattle.cbor_edn_parts.specs.declared.space.Separator.{Separator}
use Rattle.cbor_edn_parts.specs.declared.space.ListEnd.{ListEnd}
use Rattle.cbor_edn_parts.specs.declared.number.Number.{Number}
use Rattle.cbor_edn_parts.specs.declared.string.Literal.{Literal}
use Rattle.cbor_edn_parts.specs.declared.string.Ellipsis.{Ellipsis}
use Rattle.cbor_edn_core.specs.declared.tree.InnerItemOf.{InnerItemOf}
use Rattle.cbor_edn_core.specs.declared.tree.InnerItemOf.TheVariants as inner
use Rattle.cbor_edn_core.specs.declared.tree.ItemListOf.{ItemListOf}
use Rattle.cbor_edn_core.specs.declared.tree.ItemListOf.TheVariants as item_list
use Rattle.cbor_edn_core.specs.declared.tree.ItemsOf.{ItemsOf, ItemsOf', Row_of-ItemsOf-row-2, end_of-ItemsOf-row-2, more_of-ItemsOf-row-2}
use Rattle.cbor_edn_core.specs.declared.tree.PairListOf.{PairListOf}
use Rattle.cbor_edn_core.specs.declared.tree.PairListOf.TheVariants as pair_list
use Rattle.cbor_edn_core.specs.declared.tree.PairsOf.{PairsOf, PairsOf', Row_of-PairsOf-row-2, end_of-PairsOf-row-2, more_of-PairsOf-row-2}
use Rattle.cbor_edn_core.specs.declared.tree.CborStringOf.{Row_of-CborStringOf-row-3, end_of-CborStringOf-row-3, more_of-CborStringOf-row-3}
use Rattle.cbor_edn_core.specs.declared.tree.PieceOf.{PieceOf}
use Rattle.cbor_edn_core.specs.declared.tree.PieceOf.TheVariants as piece
use Rattle.cbor_edn_core.specs.declared.tree.StreamOf.{StreamOf, StreamOf'}
use Rattle.cbor_edn_core.specs.declared.tree.StringsOf.{StringsOf, StringsOf', Row_of-StringsOf-row-2, end_of-StringsOf-row-2, more_of-StringsOf-row-2}
use Rattle.cbor_edn_core.specs.declared.tree.SequenceOf.{SequenceOf', Held-SequenceOf-items}
use Rattle.cbor_edn_core.specs.declared.tree.SequenceOf as sequence
use Rattle.cbor_edn_model.specs.tree.Items as kind
use Rattle.cbor_edn_model.specs.tree.Trees.{Tree, OneString, Rest, items, text}
use Rattle.cbor_edn_model.proofs.lemmas.text.Tested.{IsTestedListHead, Tested}
use Rattle.cbor_edn_model.specs.text.Spelling.{Spells, SpellsSequence, SpellsOne}
use Rattle.cbor_edn_model.proofs.lemmas.text.Spelled.{tells}
use Rattle.cbor_edn_core.specs.tree.View.{view_inner, view_list, view_items, view_row, view_pair_list, view_pairs, view_pair_row, view_pieces, view_piece, view_held, view_stream, view_strings, view_string_row, Item, StandaloneItem, Sequence, item_tree, standalone_tree, sequence_tree}
use Rattle.cbor_edn_model.specs.declared.text.list_head.ListHeadOf.{ListHeadOf}
use Rattle.cbor_edn_model.specs.text.ListHeads.{view_indicated, view_list_head}
use Rattle.cbor_edn_model.specs.tree.TreeLeaves.{texts}

indicated_valid : (o : Option (Indicator × MandatorySpace)) → IsTestedListHead (view_indicated texts o)
indicated_valid None = tt
indicated_valid (Some p) = p.1.spelled

head_valid : (h : ListHeadOf MandatorySpace) → IsTestedListHead (view_list_head texts h)
head_valid h = indicated_valid h.indicated

mutual
  unfolding Tested

  inner_valid : (x : InnerItemOf Space MandatorySpace Separator ListEnd Number Literal Ellipsis) → Tested (view_inner texts x)
  inner_valid (inner.Number i n) = n.spelled
  inner_valid (inner.NonFinite i f) = tt
  inner_valid (inner.Named b) = tt
  inner_valid (inner.Enclosed' opener p before item after) = (opener.fits, (before.spelled, inner_valid item, after.spelled))
  inner_valid (inner.Array' p list) = list_valid list
  inner_valid (inner.Map' p list) = pair_list_valid list
  inner_valid (inner.Literal i literal) = literal.spelled
  inner_valid (inner.String' p n row last) = pieces_valid row _ (piece_valid last)
  inner_valid (inner.Stream' p stream) = stream_valid stream

  pieces_valid : {n : _} (row : Row_of-CborStringOf-row-3 Space MandatorySpace Separator ListEnd Number Literal Ellipsis n) (w : Tree OneString) → Tested w → Tested (view_pieces texts row w)
  pieces_valid end_of-CborStringOf-row-3 w v = v
  pieces_valid (more_of-CborStringOf-row-3 p before after row) w v = (piece_valid p, before.spelled, after.spelled, pieces_valid row w v)

  piece_valid : (x : PieceOf Space MandatorySpace Separator ListEnd Number Literal Ellipsis) → Tested (view_piece texts x)
  piece_valid (piece.Literal i literal) = literal.spelled
  piece_valid (piece.Ellipsis ellipsis) = ellipsis.spelled
  piece_valid (piece.Embedded' i p sequence) = sequence_valid sequence

  pub sequence_valid : (x : Sequence) → Tested (sequence_tree x)
  sequence_valid (SequenceOf' before items) = held_valid before items

  held_valid : (s : Space) (x : Held-SequenceOf-items Space MandatorySpace Separator ListEnd Number Literal Ellipsis) → Tested (view_held texts (space_bytes s) x)
  held_valid s sequence.None' = s.spelled
  held_valid s (sequence.Some' items) = (s.spelled, items_valid items)

  stream_valid : (x : StreamOf Space MandatorySpace Separator ListEnd Number Literal Ellipsis) → Tested (view_stream texts x)
  stream_valid (StreamOf' ms strings) = (ms.spelled, strings_valid strings)

  strings_valid : (x : StringsOf Space MandatorySpace Separator ListEnd Number Literal Ellipsis) → Tested (view_strings texts x)
  strings_valid (StringsOf' n row m pieces last list_end) = string_row_valid row _ (pieces_valid pieces _ (piece_valid last), list_end.spelled)

  string_row_valid : {n : _} (row : Row_of-StringsOf-row-2 Space MandatorySpace Separator ListEnd Number Literal Ellipsis n) (m : Tree (Rest kind.Strings)) → Tested m → Tested (view_string_row texts row m)
  string_row_valid end_of-StringsOf-row-2 m v = v
  string_row_valid (more_of-StringsOf-row-2 n pieces last separator row) m v = (pieces_valid pieces _ (piece_valid last), separator.spelled, string_row_valid row m v)

  list_valid : (x : ItemListOf Space MandatorySpace Separator ListEnd Number Literal Ellipsis) → Tested (view_list texts x)
  list_valid (item_list.Present head s items) = (head_valid head, s.spelled, items_valid items)
  list_valid (item_list.Absent i s) = s.spelled

  items_valid : (x : ItemsOf Space MandatorySpace Separator ListEnd Number Literal Ellipsis) → Tested (view_items texts x)
  items_valid (ItemsOf' n row last list_end) = row_valid row _ (inner_valid last, list_end.spelled)

  row_valid : {n : _} (row : Row_of-ItemsOf-row-2 Space MandatorySpace Separator ListEnd Number Literal Ellipsis n) (m : Tree (Rest kind.Elements)) → Tested m → Tested (view_row texts row m)
  row_valid end_of-ItemsOf-row-2 m v = v
  row_valid (more_of-ItemsOf-row-2 item separator row) m v = (inner_valid item, separator.spelled, row_valid row m v)

  pair_list_valid : (x : PairListOf Space MandatorySpace Separator ListEnd Number Literal Ellipsis) → Tested (view_pair_list texts x)
  pair_list_valid (pair_list.Present head s pairs) = (head_valid head, s.spelled, pairs_valid pairs)
  pair_list_valid (pair_list.Absent i s) = s.spelled

  pairs_valid : (x : PairsOf Space MandatorySpace Separator ListEnd Number Literal Ellipsis) → Tested (view_pairs texts x)
  pairs_valid (PairsOf' n row key before after value list_end) = pair_row_valid row _ ((inner_valid key, before.spelled, after.spelled, inner_valid value), list_end.spelled)

  pair_row_valid : {n : _} (row : Row_of-PairsOf-row-2 Space MandatorySpace Separator ListEnd Number Literal Ellipsis n) (m : Tree (Rest kind.Pairs)) → Tested m → Tested (view_pair_row texts row m)
  pair_row_valid end_of-PairsOf-row-2 m v = v
  pair_row_valid (more_of-PairsOf-row-2 key before after value separator row) m v = ((inner_valid key, before.spelled, after.spelled, inner_valid value), separator.spelled, pair_row_valid row m v)

pub item_valid : (x : Item) → Tested (item_tree x)
item_valid x = inner_valid x.inner

pub standalone_valid : (x : StandaloneItem) → Tested (standalone_tree x)
unfolding Tested
standalone_valid x = (x.before.spelled, inner_valid x.item.inner, x.after.spelled)

-- What is the text of a declared tree spells its items.
pub item_spelled : (x : Item) (t : List ℕ) → t ≡ text (item_tree x) → Spells (items (item_tree x)) t
item_spelled x t e = subst (λ u. Spells (items (item_tree x)) u) (sym e) (tells (item_tree x) (item_valid x))

pub standalone_spelled : (x : StandaloneItem) (t : List ℕ) → t ≡ text (standalone_tree x) → SpellsOne (items (standalone_tree x)) t
standalone_spelled x t e = subst (λ u. SpellsOne (items (standalone_tree x)) u) (sym e) (tells (standalone_tree x) (standalone_valid x))

pub sequence_spelled : (x : Sequence) (t : List ℕ) → t ≡ text (sequence_tree x) → SpellsSequence (items (sequence_tree x)) t
sequence_spelled x t e = subst (λ u. SpellsSequence (items (sequence_tree x)) u) (sym e) (tells (sequence_tree x) (sequence_valid x))
