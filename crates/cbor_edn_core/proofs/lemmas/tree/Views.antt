-- What a view is, read through the fields of a declared value, and at a value that is made of fields.
use Rattle.std.proofs.Common.{◌≡◌, ℕ, List, refl, sym, ap, ◌∙◌}
use Rattle.std.specs.Global.{Box}
use Rattle.cbor_edn_core.specs.declared.tree.InnerItemOf.{InnerItemOf}
use Rattle.cbor_edn_core.specs.declared.tree.InnerItemOf.TheVariants as inner
use Rattle.cbor_edn_core.specs.declared.tree.InnerItemOf.TheBlock.{hidden-the_row-CborStringOf-row-3-0}
use Rattle.cbor_edn_model.specs.tree.TreeLeaves.{Ghosts}
use Rattle.cbor_edn_core.specs.declared.tree.ItemsOf.{ItemsOf, ItemsOf', outs-ItemsOf', out-ItemsOf, roll-ItemsOf, out-roll-ItemsOf, Row_of-ItemsOf-row-2, end_of-ItemsOf-row-2, more_of-ItemsOf-row-2, items-the_row-ItemsOf-row-2, items_shown-the_row-ItemsOf-row-2-1}
use Rattle.cbor_edn_core.specs.declared.tree.PairsOf.{PairsOf, PairsOf', outs-PairsOf', out-PairsOf, roll-PairsOf, out-roll-PairsOf, Row_of-PairsOf-row-2, end_of-PairsOf-row-2, more_of-PairsOf-row-2, items-the_row-PairsOf-row-2, items_shown-the_row-PairsOf-row-2-2}
use Rattle.cbor_edn_core.specs.declared.tree.CborStringOf.{CborStringOf, Row_of-CborStringOf-row-3, end_of-CborStringOf-row-3, more_of-CborStringOf-row-3, items-the_row-CborStringOf-row-3, items_shown-the_row-CborStringOf-row-3-0, items_hidden-the_row-CborStringOf-row-3-0}
use Rattle.cbor_edn_core.specs.declared.tree.PieceOf.{PieceOf}
use Rattle.cbor_edn_core.specs.declared.tree.StreamOf.{StreamOf, StreamOf', outs-StreamOf', out-StreamOf, roll-StreamOf, out-roll-StreamOf}
use Rattle.cbor_edn_core.specs.declared.tree.StringsOf.{StringsOf, StringsOf', outs-StringsOf', out-StringsOf, roll-StringsOf, out-roll-StringsOf, Row_of-StringsOf-row-2, end_of-StringsOf-row-2, more_of-StringsOf-row-2, items-the_row-StringsOf-row-2, items_shown-the_row-StringsOf-row-2-3}
use Rattle.cbor_edn_core.specs.declared.tree.SequenceOf.{SequenceOf, SequenceOf', outs-SequenceOf', out-SequenceOf, roll-SequenceOf, out-roll-SequenceOf, Held-SequenceOf-items, view-SequenceOf-items}
use Rattle.cbor_edn_core.specs.declared.tree.SequenceOf as sequence
use Rattle.cbor_edn_model.specs.tree.Items as kind
use Rattle.cbor_edn_model.specs.tree.Trees.{Tree, OneString, Rest, StringTree, StreamTree, LastPieceTree, PlusTree, ElementTree, PairTree, ChunkTree, LastTree, MoreTree}
use Rattle.cbor_edn_core.specs.tree.View.{view_item, view_inner, view_items, view_row, row_onto, view_pair, view_pairs, view_pair_row, pair_row_onto, view_piece, view_pieces, piece_row_onto, view_string, view_strings, view_string_row, string_row_onto, view_stream, view_sequence, view_held, view_some}

module _ {S P M O N T D : Type 0} (leaves : Ghosts S P M O N T D) where
  row_is : {n : _} (row : Row_of-ItemsOf-row-2 S P M O N T D n) (m : Tree (Rest kind.Elements)) → view_row leaves row m ≡ row_onto leaves (items-the_row-ItemsOf-row-2 S P M O N T D n row) m
  row_is end_of-ItemsOf-row-2 m = refl
  row_is (more_of-ItemsOf-row-2 item separator row) m = ap (λ r. MoreTree (ElementTree (view_inner leaves item)) (leaves.separator separator) r) (row_is row m)

  pub view_items_is : (x : ItemsOf S P M O N T D) → view_items leaves x ≡ row_onto leaves (out-ItemsOf S P M O N T D x).row.items (LastTree (ElementTree (view_item leaves (out-ItemsOf S P M O N T D x).last)) (leaves.end (out-ItemsOf S P M O N T D x).end))
  view_items_is (ItemsOf' n row last list_end) =
      row_is row _
      ∙ ap (λ ps. row_onto leaves ps (LastTree (ElementTree (view_inner leaves last)) (leaves.end list_end))) (sym (items_shown-the_row-ItemsOf-row-2-1 S P M O N T D n row))
      ∙ ap (λ f. row_onto leaves f.row.items (LastTree (ElementTree (view_item leaves f.last)) (leaves.end f.end))) (sym (outs-ItemsOf' n row last list_end))

  pub view_items_made : (f : _) → view_items leaves (roll-ItemsOf S P M O N T D f) ≡ row_onto leaves f.row.items (LastTree (ElementTree (view_item leaves f.last)) (leaves.end f.end))
  view_items_made f = view_items_is (roll-ItemsOf S P M O N T D f) ∙ ap (λ f. row_onto leaves f.row.items (LastTree (ElementTree (view_item leaves f.last)) (leaves.end f.end))) (out-roll-ItemsOf S P M O N T D f)

  pair_row_is : {n : _} (row : Row_of-PairsOf-row-2 S P M O N T D n) (m : Tree (Rest kind.Pairs)) → view_pair_row leaves row m ≡ pair_row_onto leaves (items-the_row-PairsOf-row-2 S P M O N T D n row) m
  pair_row_is end_of-PairsOf-row-2 m = refl
  pair_row_is (more_of-PairsOf-row-2 key before after value separator row) m = ap (λ r. MoreTree (PairTree (view_inner leaves key) (leaves.space before) (leaves.space after) (view_inner leaves value)) (leaves.separator separator) r) (pair_row_is row m)

  pub view_pairs_is : (x : PairsOf S P M O N T D) → view_pairs leaves x ≡ pair_row_onto leaves (out-PairsOf S P M O N T D x).row.items (LastTree (view_pair leaves (out-PairsOf S P M O N T D x).last) (leaves.end (out-PairsOf S P M O N T D x).end))
  view_pairs_is (PairsOf' n row key before after value list_end) =
      pair_row_is row _
      ∙ ap (λ ps. pair_row_onto leaves ps (LastTree (PairTree (view_inner leaves key) (leaves.space before) (leaves.space after) (view_inner leaves value)) (leaves.end list_end))) (sym (items_shown-the_row-PairsOf-row-2-2 S P M O N T D n row))
      ∙ ap (λ f. pair_row_onto leaves f.row.items (LastTree (view_pair leaves f.last) (leaves.end f.end))) (sym (outs-PairsOf' n row key before after value list_end))

  pub view_pairs_made : (f : _) → view_pairs leaves (roll-PairsOf S P M O N T D f) ≡ pair_row_onto leaves f.row.items (LastTree (view_pair leaves f.last) (leaves.end f.end))
  view_pairs_made f = view_pairs_is (roll-PairsOf S P M O N T D f) ∙ ap (λ f. pair_row_onto leaves f.row.items (LastTree (view_pair leaves f.last) (leaves.end f.end))) (out-roll-PairsOf S P M O N T D f)

  row_pieces : {n : _} (row : Row_of-CborStringOf-row-3 S P M O N T D n) (w : Tree OneString) → view_pieces leaves row w ≡ piece_row_onto leaves (items-the_row-CborStringOf-row-3 S P M O N T D n row) w
  row_pieces end_of-CborStringOf-row-3 w = refl
  row_pieces (more_of-CborStringOf-row-3 p before after row) w = ap (λ r. PlusTree (view_piece leaves p) (leaves.space before) (leaves.space after) r) (row_pieces row w)

  pieces_are : {n : _} (row : Row_of-CborStringOf-row-3 S P M O N T D n) (ps : List (PieceOf S P M O N T D × S × S)) (w : Tree OneString) → items-the_row-CborStringOf-row-3 S P M O N T D n row ≡ ps → view_pieces leaves row w ≡ piece_row_onto leaves ps w
  pieces_are row ps w e = row_pieces row w ∙ ap (λ qs. piece_row_onto leaves qs w) e

  -- a string that is an item
  pub view_string_is : (b : Box (CborStringOf S P M O N T D)) → view_inner leaves (inner.String b) ≡ StringTree (view_string leaves b.value)
  view_string_is b = ap StringTree (pieces_are (hidden-the_row-CborStringOf-row-3-0 S P M O N T D b.value.row) b.value.row.items (LastPieceTree (view_piece leaves b.value.last)) (items_hidden-the_row-CborStringOf-row-3-0 S P M O N T D b.value.row))

  -- the same, through the pointer that is read
  pub view_string_at : (x : InnerItemOf S P M O N T D) (b : Box (CborStringOf S P M O N T D)) (s : CborStringOf S P M O N T D) → x ≡ inner.String b → s ≡ b.value → view_inner leaves x ≡ StringTree (view_string leaves s)
  view_string_at x b s is read = ap (view_inner leaves) is ∙ view_string_is b ∙ ap (λ s. StringTree (view_string leaves s)) (sym read)

  string_row_is : {n : _} (row : Row_of-StringsOf-row-2 S P M O N T D n) (m : Tree (Rest kind.Strings)) → view_string_row leaves row m ≡ string_row_onto leaves (items-the_row-StringsOf-row-2 S P M O N T D n row) m
  string_row_is end_of-StringsOf-row-2 m = refl
  string_row_is (more_of-StringsOf-row-2 n pieces last separator row) m =
      λ i. MoreTree (ChunkTree (pieces_are pieces _ (LastPieceTree (view_piece leaves last)) (sym (items_shown-the_row-CborStringOf-row-3-0 S P M O N T D n pieces)) i)) (leaves.separator separator) (string_row_is row m i)

  pub view_strings_is : (x : StringsOf S P M O N T D) → view_strings leaves x ≡ string_row_onto leaves (out-StringsOf S P M O N T D x).row.items (LastTree (ChunkTree (view_string leaves (out-StringsOf S P M O N T D x).last)) (leaves.end (out-StringsOf S P M O N T D x).end))
  view_strings_is (StringsOf' n row m pieces last list_end) =
      string_row_is row _
      ∙ (λ i. string_row_onto leaves (sym (items_shown-the_row-StringsOf-row-2-3 S P M O N T D n row) i) (LastTree (ChunkTree (pieces_are pieces _ (LastPieceTree (view_piece leaves last)) (sym (items_shown-the_row-CborStringOf-row-3-0 S P M O N T D m pieces)) i)) (leaves.end list_end)))
      ∙ ap (λ f. string_row_onto leaves f.row.items (LastTree (ChunkTree (view_string leaves f.last)) (leaves.end f.end))) (sym (outs-StringsOf' n row m pieces last list_end))

  pub view_strings_made : (f : _) → view_strings leaves (roll-StringsOf S P M O N T D f) ≡ string_row_onto leaves f.row.items (LastTree (ChunkTree (view_string leaves f.last)) (leaves.end f.end))
  view_strings_made f = view_strings_is (roll-StringsOf S P M O N T D f) ∙ ap (λ f. string_row_onto leaves f.row.items (LastTree (ChunkTree (view_string leaves f.last)) (leaves.end f.end))) (out-roll-StringsOf S P M O N T D f)

  pub view_stream_is : (x : StreamOf S P M O N T D) → view_stream leaves x ≡ StreamTree (leaves.mandatory (out-StreamOf S P M O N T D x).space) (view_strings leaves (out-StreamOf S P M O N T D x).strings)
  view_stream_is (StreamOf' ms strings) = ap (λ f. StreamTree (leaves.mandatory f.space) (view_strings leaves f.strings)) (sym (outs-StreamOf' ms strings))

  pub view_stream_made : (f : _) → view_stream leaves (roll-StreamOf S P M O N T D f) ≡ StreamTree (leaves.mandatory f.space) (view_strings leaves f.strings)
  view_stream_made f = view_stream_is (roll-StreamOf S P M O N T D f) ∙ ap (λ f. StreamTree (leaves.mandatory f.space) (view_strings leaves f.strings)) (out-roll-StreamOf S P M O N T D f)

  held_is : (s : List ℕ) (x : Held-SequenceOf-items S P M O N T D) → view_held leaves s x ≡ view_some leaves s (view-SequenceOf-items S P M O N T D x)
  held_is s sequence.None' = refl
  held_is s (sequence.Some' items) = refl

  pub view_sequence_is : (x : SequenceOf S P M O N T D) → view_sequence leaves x ≡ view_some leaves (leaves.space (out-SequenceOf S P M O N T D x).before) (out-SequenceOf S P M O N T D x).items
  view_sequence_is (SequenceOf' before items) = held_is (leaves.space before) items ∙ ap (λ f. view_some leaves (leaves.space f.before) f.items) (sym (outs-SequenceOf' before items))

  pub view_sequence_made : (f : _) → view_sequence leaves (roll-SequenceOf S P M O N T D f) ≡ view_some leaves (leaves.space f.before) f.items
  view_sequence_made f = view_sequence_is (roll-SequenceOf S P M O N T D f) ∙ ap (λ f. view_some leaves (leaves.space f.before) f.items) (out-roll-SequenceOf S P M O N T D f)

-- what strings and streams are, of items that may be either
pub ruleset strings_are = (view_string_is, view_stream_is)
