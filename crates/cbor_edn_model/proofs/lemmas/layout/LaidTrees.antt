-- An item is laid out by its measured width, and what is made of parts that are laid out is so too.
use Rattle.std.proofs.Common.{ℕ, ◌≡◌, List, map, length, refl, sym, ap, ◌∙◌}
use Rattle.std.specs.Prelude.{nat_lt, if◌then◌else◌}
use Rattle.cbor_edn_parts.specs.space.Spacing.{Mandatory, AtEnd}
use Rattle.cbor_edn_parts.specs.declared.space.policy.Spacing.TheVariants.{OneLine}
use Rattle.cbor_edn_parts.specs.space.LayoutColumns.{of_parts}
use Rattle.cbor_edn_model.specs.declared.text.opener.OpenerKind.{OpenerKind}
use Rattle.cbor_edn_model.specs.tree.Items.{Strings, Bracketed, Chunk, End, Then}
use Rattle.cbor_edn_model.specs.tree.Trees.{Rule, OneItem, OnePiece, OneString, OneEntry, Inside, Rest, Standalone, ListHead, NoIndicator, WithIndicator, Tree, NumberTree, FloatTree, NamedTree, EnclosedTree, ListTree, StringTree, StreamTree, LiteralTree, EllipsisTree, EmbeddedTree, LastPieceTree, PlusTree, ElementTree, PairTree, ChunkTree, EmptyTree, FullTree, LastTree, MoreTree, NothingTree, SequenceTree, StandaloneTree, items, text}
use Rattle.cbor_edn_model.specs.tree.Rows.{entries_onto, pieces_onto}
use Rattle.cbor_edn_model.specs.layout.Layout.{Layout, Kept, Inline, Lines, First, Last, respaced, saturating_add, fitted, in_chunk, laid_list_head, laid}
use Rattle.cbor_edn_model.specs.internal.Laying.{laid_stream}
use Rattle.cbor_edn_model.specs.internal.LayoutRows.{laid_entry, entry_items, laid_piece, piece_items}
use Rattle.cbor_edn_model.specs.internal.Widths.{measured}
use Rattle.cbor_edn_model.proofs.lemmas.layout.LaidRows.{laid_entries, laid_pieces, same_entries, same_pieces}
use Rattle.cbor_edn_model.proofs.lemmas.layout.MeasuredWidths.{test_is}

-- Where spaces are kept, the tree is the same.
pub laid_kept : {s : Rule} (w : Tree s) → laid Kept w ≡ w
unfolding laid
laid_kept (NumberTree x i) = refl
laid_kept (FloatTree f i) = refl
laid_kept (NamedTree b) = refl
laid_kept (EnclosedTree opener w) = ap (EnclosedTree opener) (laid_kept w)
laid_kept (ListTree k w) = ap (ListTree k) (laid_kept w)
laid_kept (StringTree w) = ap StringTree (laid_kept w)
laid_kept (StreamTree ms m) = ap (StreamTree ms) (laid_kept m)
laid_kept (LiteralTree x i) = refl
laid_kept (EllipsisTree x) = refl
laid_kept (EmbeddedTree w i) = refl
laid_kept (LastPieceTree p) = refl
laid_kept (PlusTree p a b w) = ap (PlusTree p a b) (laid_kept w)
laid_kept (ElementTree w) = ap ElementTree (laid_kept w)
laid_kept (PairTree v a b w) = ap (λ v. PairTree v a b (laid Kept w)) (laid_kept v) ∙ ap (PairTree v a b) (laid_kept w)
laid_kept (ChunkTree w) = ap ChunkTree (laid_kept w)
laid_kept (EmptyTree i a) = refl
laid_kept (FullTree h a m) = ap (λ h. FullTree h a (laid Kept m)) (head_kept h) ∙ ap (FullTree h a) (laid_kept m) where
  head_kept : (h : ListHead) → laid_list_head Kept h ≡ h
  head_kept NoIndicator = refl
  head_kept (WithIndicator i ms) = refl
laid_kept (LastTree e a) = ap (λ e. LastTree e a) (laid_kept e)
laid_kept (MoreTree e a m) = ap (λ e. MoreTree e a (laid Kept m)) (laid_kept e) ∙ ap (MoreTree e a) (laid_kept m)
laid_kept (NothingTree a) = refl
laid_kept (SequenceTree a m) = ap (SequenceTree a) (laid_kept m)
laid_kept (StandaloneTree a w b) = ap (λ w. StandaloneTree a w b) (laid_kept w)

-- an item whose layout is told by its width
fitted_by : (l : Layout) (w : Tree OneItem) (part : Layout → Tree OneItem) → laid (Inline OneLine) w ≡ part (Inline OneLine) → fitted l part ≡ part (of_parts l (measured w))
fitted_by Kept w part e = refl
fitted_by (Inline c) w part e = refl
fitted_by (Lines base end level width) w part e =
    sym (ap (λ b. part (if b then Inline OneLine else Lines (saturating_add base level) base level width)) (test_is w base width ∙ ap (λ v. nat_lt (saturating_add (length (text v)) base) width) e))

pub laid_enclosed : (l : Layout) (opener : OpenerKind) (w : Tree Standalone) → laid l (EnclosedTree opener w) ≡ EnclosedTree opener (laid (of_parts l (measured (EnclosedTree opener w))) w)
unfolding laid
laid_enclosed l opener w = fitted_by l (EnclosedTree opener w) (λ l. EnclosedTree opener (laid l w)) refl

pub laid_list : (l : Layout) (k : Bracketed) (w : Tree (Inside k)) → laid l (ListTree k w) ≡ ListTree k (laid (of_parts l (measured (ListTree k w))) w)
unfolding laid
laid_list l k w = fitted_by l (ListTree k w) (λ l. ListTree k (laid l w)) refl

pub laid_string : (l : Layout) (w : Tree OneString) → laid l (StringTree w) ≡ StringTree (laid (of_parts l (measured (StringTree w))) w)
unfolding laid
laid_string l w = fitted_by l (StringTree w) (λ l. StringTree (laid l w)) refl

pub stream_laid : (l : Layout) (ms : List ℕ) (m : Tree (Rest Strings)) → laid l (StreamTree ms m) ≡ laid_stream (of_parts l (measured (StreamTree ms m))) (StreamTree ms m)
unfolding laid
stream_laid l ms m = fitted_by l (StreamTree ms m) (λ l. StreamTree (respaced Mandatory First l ms) (laid l m)) refl

-- ---- what is made of parts that are laid out

pub string_laid : (l : Layout) (ps qs : List (Tree OnePiece × List ℕ × List ℕ)) (p : Tree OnePiece) → qs ≡ map (laid_piece l) ps → pieces_onto qs (LastPieceTree p) ≡ laid l (pieces_onto ps (LastPieceTree p))
unfolding laid
string_laid l ps qs p e = ap (λ qs. pieces_onto qs (LastPieceTree p)) e ∙ sym (laid_pieces l ps (LastPieceTree p))

pub string_same : (ps qs : List (Tree OnePiece × List ℕ × List ℕ)) (p : Tree OnePiece) → map piece_items qs ≡ map piece_items ps → items (pieces_onto qs (LastPieceTree p)) ≡ items (pieces_onto ps (LastPieceTree p))
string_same ps qs p e = same_pieces qs ps (LastPieceTree p) (LastPieceTree p) e refl

pub strings_laid : (l : Layout) (ps qs : List (Tree (OneEntry Strings) × List ℕ)) (v w : Tree OneString) (a b : List ℕ) → qs ≡ map (laid_entry l) ps → w ≡ laid (in_chunk l) v → b ≡ respaced AtEnd Last l a
    → entries_onto qs (LastTree (ChunkTree w) b) ≡ laid l (entries_onto ps (LastTree (ChunkTree v) a))
unfolding laid
strings_laid l ps qs v w a b e f g =
    ap (λ qs. entries_onto qs (LastTree (ChunkTree w) b)) e
    ∙ ap (λ w. entries_onto (map (laid_entry l) ps) (LastTree (ChunkTree w) b)) f
    ∙ ap (λ b. entries_onto (map (laid_entry l) ps) (LastTree (ChunkTree (laid (in_chunk l) v)) b)) g
    ∙ sym (laid_entries l ps (LastTree (ChunkTree v) a))

pub strings_same : (ps qs : List (Tree (OneEntry Strings) × List ℕ)) (v w : Tree OneString) (a b : List ℕ) → map entry_items qs ≡ map entry_items ps → items w ≡ items v
    → items (entries_onto qs (LastTree (ChunkTree w) b)) ≡ items (entries_onto ps (LastTree (ChunkTree v) a))
unfolding items
strings_same ps qs v w a b e f = same_entries qs ps (LastTree (ChunkTree w) b) (LastTree (ChunkTree v) a) e (ap (λ x. Then (Chunk x) End) f)
