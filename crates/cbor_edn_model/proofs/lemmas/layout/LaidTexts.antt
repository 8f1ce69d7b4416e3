-- The text of a tree that is laid out, by its parts.
use Rattle.std.proofs.Common.{ℕ, ◌≡◌, List, [], ◌∷◌, ◌++◌, map, refl, ap, ◌∙◌, Option}
use Rattle.cbor_edn_parts.specs.declared.base.indicator.Indicator.{Indicator}
use Rattle.cbor_edn_parts.specs.base.Indicator.{indicator_text}
use Rattle.cbor_edn_parts.specs.space.LayoutColumns.{of_parts}
use Rattle.cbor_edn_parts.specs.space.Spacing.{Optional, AtEnd}
use Rattle.cbor_edn_model.specs.declared.text.keyword.NamedSimple.{NamedSimple}
use Rattle.cbor_edn_model.specs.declared.text.keyword.NonFinite.{NonFinite}
use Rattle.cbor_edn_model.specs.declared.text.opener.OpenerKind.{OpenerKind}
use Rattle.cbor_edn_model.specs.text.Spelling.{open_byte, close_byte}
use Rattle.cbor_edn_model.specs.tree.Items.{Row, Elements, Strings, Bracketed, entries_of}
use Rattle.cbor_edn_model.specs.tree.Rows.{entries_onto, entries_text, pieces_onto, pieces_text}
use Rattle.cbor_edn_model.specs.tree.Trees.{OneItem, OnePiece, OneString, OneEntry, Inside, Rest, Standalone, ListHead, Tree, NumberTree, FloatTree, NamedTree, EnclosedTree, ListTree, StringTree, StreamTree, LastPieceTree, ElementTree, PairTree, ChunkTree, EmptyTree, FullTree, LastTree, NothingTree, SequenceTree, StandaloneTree, opener_text, list_head_text, text}
use Rattle.cbor_edn_model.specs.layout.Layout.{Layout, First, Last, AfterColon, Elsewhere, respaced, in_chunk, laid_list_head, laid}
use Rattle.cbor_edn_model.specs.internal.Laying.{laid_stream}
use Rattle.cbor_edn_model.specs.internal.LayoutRows.{laid_entry, laid_piece}
use Rattle.cbor_edn_model.specs.internal.Widths.{measured}
use Rattle.cbor_edn_model.proofs.lemmas.layout.LaidRows.{laid_entries, laid_pieces}
use Rattle.cbor_edn_model.proofs.lemmas.layout.LaidTrees.{laid_enclosed, laid_list, laid_string, stream_laid}
use Rattle.cbor_edn_model.proofs.lemmas.text.Texts.{text_enclosed, text_list, text_string, text_pieces, text_last_piece, text_element, text_pair, text_chunk, text_empty, text_full, text_last, text_entries, text_nothing, text_sequence, text_standalone}

-- ---- items, whose parts are laid out as wide as the item is on a single line

pub text_laid_number : (l : Layout) (x : List ℕ) (i : Option Indicator) → text (laid l (NumberTree x i)) ≡ text (NumberTree x i)
unfolding laid
text_laid_number l x i = refl

pub text_laid_float : (l : Layout) (f : NonFinite) (i : Option Indicator) → text (laid l (FloatTree f i)) ≡ text (FloatTree f i)
unfolding laid
text_laid_float l f i = refl

pub text_laid_named : (l : Layout) (b : NamedSimple) → text (laid l (NamedTree b)) ≡ text (NamedTree b)
unfolding laid
text_laid_named l b = refl

pub text_laid_enclosed : (l : Layout) (opener : OpenerKind) (w : Tree Standalone) → text (laid l (EnclosedTree opener w)) ≡ opener_text opener ++ (40 ∷ (text (laid (of_parts l (measured (EnclosedTree opener w))) w) ++ (41 ∷ [])))
text_laid_enclosed l opener w = ap text (laid_enclosed l opener w) ∙ text_enclosed opener _

pub text_laid_list : (l : Layout) (k : Bracketed) (w : Tree (Inside k)) → text (laid l (ListTree k w)) ≡ open_byte k ∷ (text (laid (of_parts l (measured (ListTree k w))) w) ++ (close_byte k ∷ []))
text_laid_list l k w = ap text (laid_list l k w) ∙ text_list k _

pub text_laid_string : (l : Layout) (w : Tree OneString) → text (laid l (StringTree w)) ≡ text (laid (of_parts l (measured (StringTree w))) w)
text_laid_string l w = ap text (laid_string l w) ∙ text_string _

pub text_laid_stream : (l : Layout) (ms : List ℕ) (m : Tree (Rest Strings)) → text (laid l (StreamTree ms m)) ≡ text (laid_stream (of_parts l (measured (StreamTree ms m))) (StreamTree ms m))
text_laid_stream l ms m = ap text (stream_laid l ms m)

-- ---- what stands in items

pub text_laid_pieces : (l : Layout) (ps : List (Tree OnePiece × List ℕ × List ℕ)) (p : Tree OnePiece) → text (laid l (pieces_onto ps (LastPieceTree p))) ≡ pieces_text (map (laid_piece l) ps) ++ text p
unfolding laid
text_laid_pieces l ps p = ap text (laid_pieces l ps (LastPieceTree p)) ∙ (text_pieces (map (laid_piece l) ps) (LastPieceTree p) ∙ ap (λ t. pieces_text (map (laid_piece l) ps) ++ t) (text_last_piece p))

pub text_laid_element : (l : Layout) (w : Tree OneItem) → text (laid l (ElementTree w)) ≡ text (laid l w)
unfolding laid
text_laid_element l w = text_element (laid l w)

pub text_laid_pair : (l : Layout) (v : Tree OneItem) (s t : List ℕ) (w : Tree OneItem) → text (laid l (PairTree v s t w)) ≡ text (laid l v) ++ (respaced Optional Elsewhere l s ++ (58 ∷ (respaced Optional AfterColon l t ++ text (laid l w))))
unfolding laid
text_laid_pair l v s t w = text_pair (laid l v) _ _ (laid l w)

pub text_laid_chunk : (l : Layout) (w : Tree OneString) → text (laid l (ChunkTree w)) ≡ text (laid (in_chunk l) w)
unfolding laid
text_laid_chunk l w = text_chunk (laid (in_chunk l) w)

pub text_laid_empty : (l : Layout) (k : Bracketed) (i : Option Indicator) (s : List ℕ) → text (laid l (EmptyTree {k = k} i s)) ≡ indicator_text i ++ respaced Optional Elsewhere l s
unfolding laid
text_laid_empty l k i s = text_empty k i _

pub text_laid_full : (l : Layout) (k : Bracketed) (h : ListHead) (s : List ℕ) (m : Tree (Rest (entries_of k))) → text (laid l (FullTree {k = k} h s m)) ≡ list_head_text (laid_list_head l h) ++ (respaced Optional First l s ++ text (laid l m))
unfolding laid
text_laid_full l k h s m = text_full k _ _ (laid l m)

-- entries, each with the separator behind it, and the last with the end of its list
pub text_laid_rest : {k : Row} (l : Layout) (ps : List (Tree (OneEntry k) × List ℕ)) (e : Tree (OneEntry k)) (s : List ℕ)
    → text (laid l (entries_onto ps (LastTree e s))) ≡ entries_text (map (laid_entry l) ps) ++ (text (laid l e) ++ respaced AtEnd Last l s)
unfolding laid
text_laid_rest l ps e s =
    ap text (laid_entries l ps (LastTree e s))
    ∙ (text_entries (map (laid_entry l) ps) (LastTree (laid l e) (respaced AtEnd Last l s)) ∙ ap (λ t. entries_text (map (laid_entry l) ps) ++ t) (text_last (laid l e) (respaced AtEnd Last l s)))

pub text_laid_nothing : (l : Layout) (s : List ℕ) → text (laid l (NothingTree s)) ≡ respaced Optional Elsewhere l s
unfolding laid
text_laid_nothing l s = text_nothing _

pub text_laid_sequence : (l : Layout) (s : List ℕ) (m : Tree (Rest Elements)) → text (laid l (SequenceTree s m)) ≡ respaced Optional Elsewhere l s ++ text (laid l m)
unfolding laid
text_laid_sequence l s m = text_sequence _ (laid l m)

pub text_laid_standalone : (l : Layout) (s : List ℕ) (w : Tree OneItem) (t : List ℕ) → text (laid l (StandaloneTree s w t)) ≡ respaced Optional Elsewhere l s ++ (text (laid l w) ++ respaced Optional Elsewhere l t)
unfolding laid
text_laid_standalone l s w t = text_standalone _ (laid l w) _
