-- A tree is made again of its items and its spaces, so two trees with the same of both are the same.
use Rattle.std.proofs.Common.{ℕ, List, [], ◌∷◌, ◌≡◌, Option, Some, None, refl, ap, sym, ◌∙◌}
use Rattle.cbor_edn_parts.specs.declared.base.indicator.Indicator.{Indicator}
use Rattle.cbor_edn_model.specs.declared.text.opener.OpenerKind.TheVariants as opener
use Rattle.cbor_edn_model.specs.tree.Items.{Row, Elements, Strings, Bracketed, entries_of, Sort, Node, Number, Float, Listed, Tagged, Named, Simple, String, Stream, Literal, Ellipsis, Embedded, LastPiece, Plus, Element, Pair, Chunk, End, Then}
use Rattle.cbor_edn_model.specs.tree.Trees.{Rule, OneItem, OnePiece, OneString, OneEntry, Inside, Rest, Seq, Standalone, NoIndicator, WithIndicator, Tree, NumberTree, FloatTree, NamedTree, EnclosedTree, ListTree, StringTree, StreamTree, LiteralTree, EllipsisTree, EmbeddedTree, LastPieceTree, PlusTree, ElementTree, PairTree, ChunkTree, EmptyTree, FullTree, LastTree, MoreTree, NothingTree, SequenceTree, StandaloneTree, spaces_onto, spaces, Of, items}
use Rattle.cbor_edn_model.specs.internal.Regular.{Regular}
use Rattle.cbor_edn_model.specs.text.TextLaws.{ItemsAndSpaces}
use Rattle.cbor_edn_model.proofs.lemmas.cbor.MeaningSteps.{some_is}

abbrev Spaces : Type 0
Spaces = List (List ℕ)

abbrev first : Spaces → List ℕ
first [] = []
first (s ∷ ss) = s

abbrev others : Spaces → Spaces
others [] = []
others (s ∷ ss) = ss

-- a tree that took its spaces from the front, and those that are left
abbrev Filled : Type 0 → Type 0
Filled T = T × Spaces

abbrev changed : {T U : Type 0} → (T → U) → Filled T → Filled U
changed f p = (f p.0, p.1)

abbrev standalone : (Spaces → Filled (Tree OneItem)) → Spaces → Filled (Tree Standalone)
standalone f ss = (StandaloneTree (first ss) (f (others ss)).0 (first (f (others ss)).1), others (f (others ss)).1)

abbrev sequence : Filled (Option (Tree (Rest Elements))) → List ℕ → Filled (Tree Seq)
sequence (None, ss) s = (NothingTree s, ss)
sequence (Some m, ss) s = (SequenceTree s m, ss)

-- a row behind an indicator, the space of which comes first where the row has entries
abbrev without_indicator : {k : Bracketed} → Filled (Option (Tree (Rest (entries_of k)))) → List ℕ → Filled (Tree (Inside k))
without_indicator (None, ss) s = (EmptyTree None s, ss)
without_indicator (Some m, ss) s = (FullTree NoIndicator s m, ss)

abbrev with_indicator : {k : Bracketed} → Indicator → Option (Tree (Rest (entries_of k))) → Spaces → Spaces → Filled (Tree (Inside k))
with_indicator i None left ss = (EmptyTree (Some i) (first ss), others ss)
with_indicator i (Some m) left ss = (FullTree (WithIndicator i (first ss)) (first (others ss)) m, left)

abbrev inside : {k : Bracketed} → Option Indicator → (Spaces → Filled (Option (Tree (Rest (entries_of k))))) → Spaces → Filled (Tree (Inside k))
inside None f ss = without_indicator (f (others ss)) (first ss)
inside (Some i) f ss = with_indicator i (f (others (others ss))).0 (f (others (others ss))).1 ss

-- of a stream without strings, which no tree has, no tree is told
abbrev stream : List ℕ → Option (Tree (Rest Strings)) → Tree OneItem
stream s None = StringTree (LastPieceTree (EllipsisTree []))
stream s (Some m) = StreamTree s m

abbrev row : {k : Row} → Tree (OneEntry k) → List ℕ → Option (Tree (Rest k)) → Tree (Rest k)
row e s None = LastTree e s
row e s (Some m) = MoreTree e s m

-- The tree of items and spaces.
fill : {s : Sort} → Node s → Spaces → Filled (Regular s)
fill (Number x i) ss = (NumberTree x i, ss)
fill (Float f i) ss = (FloatTree f i, ss)
fill (Listed k i m) ss = changed (ListTree k) (inside i (fill m) ss)
fill (Tagged n i w) ss = changed (EnclosedTree (opener.Tag i n)) (standalone (fill w) ss)
fill (Named b) ss = (NamedTree b, ss)
fill (Simple w) ss = changed (EnclosedTree opener.Simple) (standalone (fill w) ss)
fill (String w) ss = changed StringTree (fill w ss)
fill (Stream m) ss = changed (stream (first ss)) (fill m (others ss))
fill (Literal x i) ss = (LiteralTree x i, ss)
fill (Ellipsis x) ss = (EllipsisTree x, ss)
fill (Embedded m i) ss = changed (λ w. EmbeddedTree w i) (sequence (fill m (others ss)) (first ss))
fill (LastPiece p) ss = changed LastPieceTree (fill p ss)
fill (Plus p w) ss =
    let x = fill p ss in changed (PlusTree x.0 (first x.1) (first (others x.1))) (fill w (others (others x.1)))
fill (Element w) ss = changed ElementTree (fill w ss)
fill (Pair v w) ss =
    let x = fill v ss in changed (PairTree x.0 (first x.1) (first (others x.1))) (fill w (others (others x.1)))
fill (Chunk w) ss = changed ChunkTree (fill w ss)
fill End ss = (None, ss)
fill (Then e m) ss = let x = fill e ss in changed (λ o. Some (row x.0 (first x.1) o)) (fill m (others x.1))

-- Of these items, with these spaces in front, the tree is made, and the spaces behind are left.
IsFilled : (s : Rule) → Of s → Spaces → Tree s → Spaces → Type 0
IsFilled OneItem x ss w r = fill x ss ≡ (w, r)
IsFilled OnePiece x ss w r = fill x ss ≡ (w, r)
IsFilled OneString x ss w r = fill x ss ≡ (w, r)
IsFilled (OneEntry k) x ss w r = fill x ss ≡ (w, r)
IsFilled (Inside k) x ss w r = inside x.0 (fill x.1) ss ≡ (w, r)
IsFilled (Rest k) x ss w r = fill x ss ≡ (Some w, r)
IsFilled Seq x ss w r = sequence (fill x (others ss)) (first ss) ≡ (w, r)
IsFilled Standalone x ss w r = standalone (fill x) ss ≡ (w, r)

-- Each tree is that of its items and its spaces, whatever spaces follow.
filled : {s : Rule} (w : Tree s) (r : Spaces) → IsFilled s (items w) (spaces_onto w r) w r
unfolding items spaces_onto fill IsFilled
filled (NumberTree x i) r = refl
filled (FloatTree f i) r = refl
filled (NamedTree b) r = refl
filled (EnclosedTree (opener.Tag i n) w) r = ap (changed (EnclosedTree (opener.Tag i n))) (filled w r)
filled (EnclosedTree opener.Simple w) r = ap (changed (EnclosedTree opener.Simple)) (filled w r)
filled (ListTree k w) r = ap (changed (ListTree k)) (filled w r)
filled (StringTree w) r = ap (changed StringTree) (filled w r)
filled (StreamTree ms m) r = ap (changed (stream ms)) (filled m r)
filled (LiteralTree x i) r = refl
filled (EllipsisTree x) r = refl
filled (EmbeddedTree w i) r = ap (changed (λ (v : Tree Seq). EmbeddedTree v i)) (filled w r)
filled (LastPieceTree p) r = ap (changed LastPieceTree) (filled p r)
filled (PlusTree p s t w) r = rw (filled p (s ∷ t ∷ spaces_onto w r), filled w r)
filled (ElementTree w) r = ap (changed ElementTree) (filled w r)
filled (PairTree v s t w) r = rw (filled v (s ∷ t ∷ spaces_onto w r), filled w r)
filled (ChunkTree w) r = ap (changed ChunkTree) (filled w r)
filled (EmptyTree None s) r = refl
filled (EmptyTree (Some i) s) r = refl
filled (FullTree NoIndicator s m) r = rw (filled m r)
filled (FullTree (WithIndicator i ms) s m) r = rw (filled m r)
filled (LastTree e s) r = rw (filled e (s ∷ r))
filled (MoreTree e s m) r = rw (filled e (s ∷ spaces_onto m r), filled m r)
filled (NothingTree s) r = refl
filled (SequenceTree s m) r = rw (filled m r)
filled (StandaloneTree s w t) r = rw (filled w (t ∷ r))

same_first : {T : Type 0} {w v : T} {r q : Spaces} → ◌≡◌ {A = T × Spaces} (w, r) (v, q) → w ≡ v
same_first e = ap (λ p. p.0) e

same_row : {T : Type 0} {w v : T} {r q : Spaces} → ◌≡◌ {A = Option T × Spaces} (Some w, r) (Some v, q) → w ≡ v
same_row {w} {v} e = some_is w v (ap (λ p. p.0) e)

one_filled : (s : Rule) (x : Of s) (ss r q : Spaces) (w v : Tree s) → IsFilled s x ss w r → IsFilled s x ss v q → w ≡ v
unfolding IsFilled
one_filled OneItem x ss r q w v a b = same_first (sym a ∙ b)
one_filled OnePiece x ss r q w v a b = same_first (sym a ∙ b)
one_filled OneString x ss r q w v a b = same_first (sym a ∙ b)
one_filled (OneEntry k) x ss r q w v a b = same_first (sym a ∙ b)
one_filled (Inside k) x ss r q w v a b = same_first (sym a ∙ b)
one_filled (Rest k) x ss r q w v a b = same_row (sym a ∙ b)
one_filled Seq x ss r q w v a b = same_first (sym a ∙ b)
one_filled Standalone x ss r q w v a b = same_first (sym a ∙ b)

pub items_and_spaces : ItemsAndSpaces
items_and_spaces s a b = (
  λ e. (ap items e, ap spaces e),
  λ e. one_filled s (items a) (spaces a) [] [] a b (filled a []) (rw (e.0, e.1) (filled b [])),
)
