-- Rows with tags, by their entries, and the visit of what has no tag.
use Rattle.std.proofs.Common.{ℕ, Bool, true, false, ◌||◌, ◌≡◌, List, [], ◌∷◌, refl, ap, ◌∙◌}
use Rattle.std.proofs.lemmas.Bool.{or_parts}
use Rattle.cbor_edn_model.specs.visit.Tagged.{has_tag}
use Rattle.cbor_edn_model.specs.visit.Seeking.{CallArguments, IsTag, number, prefix_and_text, passed, VisitParts, of_number, of_float, of_name, of_simple, of_list, of_string, of_stream, of_literal, of_ellipsis, of_embedded, of_last_piece, of_pieces, of_none_inside, of_all_inside, of_last, of_more, of_nothing, of_sequence, VisitEntry, of_element, of_pair, of_chunk}
use Rattle.cbor_edn_model.specs.declared.text.opener.OpenerKind.TheVariants as opener
use Rattle.cbor_edn_model.specs.tree.Items.{Row, Bracketed}
use Rattle.cbor_edn_model.specs.tree.Rows.{entries_onto, pieces_onto}
use Rattle.cbor_edn_model.specs.tree.Trees.{Tree, OneItem, OneEntry, OnePiece, OneString, Inside, Rest, Seq, NumberTree, FloatTree, NamedTree, EnclosedTree, ListTree, StringTree, StreamTree, LiteralTree, EllipsisTree, EmbeddedTree, LastPieceTree, PlusTree, ElementTree, PairTree, ChunkTree, EmptyTree, FullTree, LastTree, MoreTree, NothingTree, SequenceTree}
use Rattle.cbor_edn_model.specs.visit.Visits.{whole}
use Rattle.cbor_edn_model.specs.internal.TaggedRows.{entries_have_tag, pieces_have_tag}

either_more : (a b c : Bool) → a || (b || c) ≡ (a || b) || c
either_more true b c = refl
either_more false b c = refl

pub has_tag_entries : {k : Row} (ps : List (Tree (OneEntry k) × List ℕ)) (m : Tree (Rest k)) → has_tag (entries_onto ps m) ≡ entries_have_tag ps || has_tag m
unfolding has_tag
has_tag_entries [] m = refl
has_tag_entries (p ∷ ps) m = ap (λ b. has_tag p.0 || b) (has_tag_entries ps m) ∙ either_more (has_tag p.0) (entries_have_tag ps) (has_tag m)

pub has_tag_pieces : (ps : List (Tree OnePiece × List ℕ × List ℕ)) (w : Tree OneString) → has_tag (pieces_onto ps w) ≡ pieces_have_tag ps || has_tag w
unfolding has_tag
has_tag_pieces [] w = refl
has_tag_pieces (p ∷ ps) w = ap (λ b. has_tag p.0 || b) (has_tag_pieces ps w) ∙ either_more (has_tag p.0) (pieces_have_tag ps) (has_tag w)

-- an item in which no tag stands is none
no_tag : (w : Tree OneItem) → has_tag w ≡ false → (a : CallArguments) → IsTag w a → ⊥
unfolding has_tag
no_tag (EnclosedTree (opener.Tag i n) w) h a is = absurd cc
no_tag (NumberTree x i) h (number n) is = cc
no_tag (FloatTree f i) h (number n) is = cc
no_tag (NamedTree b) h (number n) is = cc
no_tag (EnclosedTree opener.Simple w) h (number n) is = cc
no_tag (ListTree k w) h (number n) is = cc
no_tag (StringTree w) h (number n) is = cc
no_tag (StreamTree ms m) h (number n) is = cc
no_tag _ h (prefix_and_text p t) is = is

-- A visit of what has no tag makes no call, and leaves it.
mutual
  unfolding has_tag

  item_untagged : (w : Tree OneItem) → has_tag w ≡ false → VisitParts IsTag _ w [] w whole
  item_untagged (NumberTree x i) h = of_number
  item_untagged (FloatTree f i) h = of_float
  item_untagged (NamedTree b) h = of_name
  item_untagged (EnclosedTree (opener.Tag i n) w) h = absurd cc
  item_untagged (EnclosedTree opener.Simple w) h = of_simple
  item_untagged (ListTree k w) h = of_list (inside_untagged w h)
  item_untagged (StringTree w) h = of_string (string_untagged w h)
  item_untagged (StreamTree ms m) h = of_stream (rest_untagged m h)

  piece_untagged : (p : Tree OnePiece) → has_tag p ≡ false → VisitParts IsTag _ p [] p whole
  piece_untagged (LiteralTree x i) h = of_literal
  piece_untagged (EllipsisTree x) h = of_ellipsis
  piece_untagged (EmbeddedTree w i) h = of_embedded (sequence_untagged w h)

  string_untagged : (w : Tree OneString) → has_tag w ≡ false → VisitParts IsTag _ w [] w whole
  string_untagged (LastPieceTree p) h = of_last_piece (piece_untagged p h)
  string_untagged (PlusTree p s t w) h = of_pieces (piece_untagged p (or_parts _ _ h).0) (string_untagged w (or_parts _ _ h).1) refl

  inside_untagged : {k : Bracketed} (w : Tree (Inside k)) → has_tag w ≡ false → VisitParts IsTag _ w [] w whole
  inside_untagged (EmptyTree i s) h = of_none_inside
  inside_untagged (FullTree a s m) h = of_all_inside (rest_untagged m h)

  rest_untagged : {k : Row} (m : Tree (Rest k)) → has_tag m ≡ false → VisitParts IsTag _ m [] m whole
  rest_untagged (LastTree e s) h = of_last (entry_untagged e s h)
  rest_untagged (MoreTree e s m) h = of_more (entry_untagged e s (or_parts _ _ h).0) (rest_untagged m (or_parts _ _ h).1) refl

  entry_untagged : {k : Row} (e : Tree (OneEntry k)) (s : List ℕ) → has_tag e ≡ false → VisitEntry IsTag k e s [] e s whole
  entry_untagged (ElementTree w) s h = of_element (passed (no_tag w h) (item_untagged w h))
  entry_untagged (PairTree v s t w) u h =
      let none = or_parts (has_tag v) (has_tag w) h in
      of_pair (passed (no_tag v none.0) (item_untagged v none.0)) (passed (no_tag w none.1) (item_untagged w none.1)) refl
  entry_untagged (ChunkTree w) s h = of_chunk (string_untagged w h)

  pub sequence_untagged : (w : Tree Seq) → has_tag w ≡ false → VisitParts IsTag _ w [] w whole
  sequence_untagged (NothingTree s) h = of_nothing
  sequence_untagged (SequenceTree s m) h = of_sequence (rest_untagged m h)
