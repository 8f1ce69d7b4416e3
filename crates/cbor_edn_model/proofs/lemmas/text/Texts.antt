-- The text of a tree by its parts.
use Rattle.std.proofs.Common.{◌≡◌, ℕ, List, [], ◌∷◌, ◌++◌, refl, ap, ◌∙◌, append_assoc, Option}
use Rattle.std.proofs.lemmas.List.{append-nil}
use Rattle.cbor_edn_parts.specs.declared.base.indicator.Indicator.{Indicator}
use Rattle.cbor_edn_parts.specs.base.Indicator.{indicator_text}
use Rattle.cbor_edn_model.specs.tree.Items.{Row, Elements, Strings, Bracketed, entries_of}
use Rattle.cbor_edn_model.specs.text.Spelling.{open_byte, close_byte}
use Rattle.cbor_edn_model.specs.tree.Trees.{OneItem, OnePiece, OneString, OneEntry, Inside, Rest, Seq, Standalone, ListHead, Tree, NumberTree, FloatTree, NamedTree, EnclosedTree, ListTree, StringTree, StreamTree, LiteralTree, EllipsisTree, EmbeddedTree, LastPieceTree, PlusTree, ElementTree, ChunkTree, PairTree, EmptyTree, FullTree, LastTree, MoreTree, NothingTree, SequenceTree, StandaloneTree, list_head_text, opener_text, onto, text}
use Rattle.cbor_edn_model.specs.declared.text.opener.OpenerKind.{OpenerKind}
use Rattle.cbor_edn_model.specs.declared.text.keyword.NamedSimple.{NamedSimple}
use Rattle.cbor_edn_model.specs.declared.text.keyword.NonFinite.{NonFinite}
use Rattle.cbor_edn_model.specs.text.Keywords.{named_text, non_finite_text}
use Rattle.cbor_edn_model.specs.tree.Rows.{entries_onto, entries_text, pieces_onto, pieces_text}
use Rattle.cbor_edn_model.proofs.lemmas.text.Spelled.{onto-text}

pub text_number : (x : List ℕ) (i : Option Indicator) → text (NumberTree x i) ≡ x ++ indicator_text i
unfolding onto
text_number x i = ap (λ t. x ++ t) (append-nil (indicator_text i))

pub text_float : (f : NonFinite) (i : Option Indicator) → text (FloatTree f i) ≡ non_finite_text f ++ indicator_text i
unfolding onto
text_float f i = ap (λ t. non_finite_text f ++ t) (append-nil (indicator_text i))

pub text_named : (b : NamedSimple) → text (NamedTree b) ≡ named_text b
unfolding onto
text_named b = append-nil (named_text b)

pub text_enclosed : (l : OpenerKind) (w : Tree Standalone) → text (EnclosedTree l w) ≡ opener_text l ++ (40 ∷ (text w ++ (41 ∷ [])))
unfolding onto
text_enclosed l w = ap (λ t. opener_text l ++ (40 ∷ t)) (onto-text w (41 ∷ []))

pub text_list : (k : Bracketed) (w : Tree (Inside k)) → text (ListTree k w) ≡ open_byte k ∷ (text w ++ (close_byte k ∷ []))
unfolding onto
text_list k w = ap (λ t. open_byte k ∷ t) (onto-text w (close_byte k ∷ []))

pub text_string : (w : Tree OneString) → text (StringTree w) ≡ text w
unfolding onto
text_string w = refl

pub text_stream : (ms : List ℕ) (m : Tree (Rest Strings)) → text (StreamTree ms m) ≡ 40 ∷ 95 ∷ (ms ++ (text m ++ (41 ∷ [])))
unfolding onto
text_stream ms m = ap (λ t. 40 ∷ 95 ∷ (ms ++ t)) (onto-text m (41 ∷ []))

pub text_literal : (x : List ℕ) (i : Option Indicator) → text (LiteralTree x i) ≡ x ++ indicator_text i
unfolding onto
text_literal x i = ap (λ t. x ++ t) (append-nil (indicator_text i))

pub text_ellipsis : (x : List ℕ) → text (EllipsisTree x) ≡ x
unfolding onto
text_ellipsis x = append-nil x

pub text_embedded : (w : Tree Seq) (i : Option Indicator) → text (EmbeddedTree w i) ≡ 60 ∷ 60 ∷ (text w ++ (62 ∷ 62 ∷ indicator_text i))
unfolding onto
text_embedded w i = ap (λ t. 60 ∷ 60 ∷ t) (onto-text w (62 ∷ 62 ∷ (indicator_text i ++ [])) ∙ ap (λ t. text w ++ (62 ∷ 62 ∷ t)) (append-nil (indicator_text i)))

pub text_last_piece : (p : Tree OnePiece) → text (LastPieceTree p) ≡ text p
unfolding onto
text_last_piece p = refl

text_plus : (p : Tree OnePiece) (s t : List ℕ) (w : Tree OneString) → text (PlusTree p s t w) ≡ text p ++ (s ++ (43 ∷ (t ++ text w)))
unfolding onto
text_plus p s t w = onto-text p (s ++ (43 ∷ (t ++ text w)))

-- pieces, each with a plus sign behind it
pub text_pieces : (ps : List (Tree OnePiece × List ℕ × List ℕ)) (w : Tree OneString) → text (pieces_onto ps w) ≡ pieces_text ps ++ text w
text_pieces [] w = refl
text_pieces (p ∷ ps) w = text_plus p.0 p.1 p.2 (pieces_onto ps w) ∙ rw (text_pieces ps w) (simp append_assoc)

pub text_chunk : (w : Tree OneString) → text (ChunkTree w) ≡ text w
unfolding onto
text_chunk w = refl

pub text_element : (w : Tree OneItem) → text (ElementTree w) ≡ text w
unfolding onto
text_element w = refl

pub text_pair : (v : Tree OneItem) (s t : List ℕ) (w : Tree OneItem) → text (PairTree v s t w) ≡ text v ++ (s ++ (58 ∷ (t ++ text w)))
unfolding onto
text_pair v s t w = onto-text v (s ++ (58 ∷ (t ++ text w)))

pub text_empty : (k : Bracketed) (i : Option Indicator) (s : List ℕ) → text (EmptyTree {k = k} i s) ≡ indicator_text i ++ s
unfolding onto
text_empty k i s = ap (λ t. indicator_text i ++ t) (append-nil s)

pub text_full : (k : Bracketed) (h : ListHead) (s : List ℕ) (m : Tree (Rest (entries_of k))) → text (FullTree {k = k} h s m) ≡ list_head_text h ++ (s ++ text m)
unfolding onto
text_full k h s m = refl

pub text_last : {k : Row} (e : Tree (OneEntry k)) (s : List ℕ) → text (LastTree e s) ≡ text e ++ s
unfolding onto
text_last e s = onto-text e (s ++ []) ∙ ap (λ t. text e ++ t) (append-nil s)

pub text_more : {k : Row} (e : Tree (OneEntry k)) (s : List ℕ) (m : Tree (Rest k)) → text (MoreTree e s m) ≡ text e ++ (s ++ text m)
unfolding onto
text_more e s m = onto-text e (s ++ text m)

-- entries, each with the separator behind it
pub text_entries : {k : Row} (ps : List (Tree (OneEntry k) × List ℕ)) (m : Tree (Rest k)) → text (entries_onto ps m) ≡ entries_text ps ++ text m
text_entries [] m = refl
text_entries (p ∷ ps) m = text_more p.0 p.1 (entries_onto ps m) ∙ rw (text_entries ps m) (simp append_assoc)

pub text_nothing : (s : List ℕ) → text (NothingTree s) ≡ s
unfolding onto
text_nothing s = append-nil s

pub text_sequence : (s : List ℕ) (m : Tree (Rest Elements)) → text (SequenceTree s m) ≡ s ++ text m
unfolding onto
text_sequence s m = refl

pub text_standalone : (s : List ℕ) (w : Tree OneItem) (t : List ℕ) → text (StandaloneTree s w t) ≡ s ++ (text w ++ t)
unfolding onto
text_standalone s w t = ap (λ u. s ++ u) (onto-text w (t ++ []) ∙ ap (λ u. text w ++ u) (append-nil t))
