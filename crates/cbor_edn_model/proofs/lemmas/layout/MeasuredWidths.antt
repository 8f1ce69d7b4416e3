-- Widths measured part by part are those of the texts.
use Rattle.std.proofs.Common.{ℕ, ◌+◌, ◌-◌, ◌^◌, ◌≡◌, List, [], ◌∷◌, ◌++◌, length, refl, sym, ap, ◌∙◌, length-append, arith}
use Rattle.std.specs.Prelude.{min, nat_lt}
use Rattle.cbor_edn_parts.specs.base.Indicator.{indicator_text}
use Rattle.cbor_edn_parts.specs.space.Spacing.{SpaceKind, Optional, Mandatory, Separating, AtEnd}
use Rattle.cbor_edn_parts.specs.declared.space.policy.Spacing.{Spacing}
use Rattle.cbor_edn_parts.specs.declared.space.policy.Spacing.TheVariants.{Least, Comments, OneLine, NewLine, OneSpace}
use Rattle.cbor_edn_model.specs.declared.layout.width.Spaces.{Spaces}
use Rattle.cbor_edn_model.specs.declared.layout.width.Spaces.TheVariants.{Kept, By}
use Rattle.cbor_edn_model.specs.tree.Items.{Row}
use Rattle.cbor_edn_model.specs.text.Spelling.{close_byte}
use Rattle.cbor_edn_model.specs.tree.Trees.{Rule, OneItem, OnePiece, OneString, OneEntry, Rest, ListHead, NoIndicator, WithIndicator, Tree, NumberTree, FloatTree, NamedTree, EnclosedTree, ListTree, StringTree, StreamTree, LiteralTree, EllipsisTree, EmbeddedTree, LastPieceTree, PlusTree, ElementTree, PairTree, ChunkTree, EmptyTree, FullTree, LastTree, MoreTree, NothingTree, SequenceTree, StandaloneTree, list_head_text, onto, text}
use Rattle.cbor_edn_model.specs.tree.Rows.{entries_onto, pieces_onto}
use Rattle.cbor_edn_model.specs.layout.Layout.{Inline, First, Between, Last, BeforePlus, AfterPlus, AfterColon, Elsewhere, respaced, in_chunk, saturating_add, laid_list_head, laid}
use Rattle.cbor_edn_model.specs.internal.Widths.{space_width, wide, in_stream, head_width, width, measured, entries_width, pieces_width}

-- A space text of a single column, at any slot but round a plus sign and behind a colon.
at_slot : (kind : SpaceKind) (c : Spacing) (x : List ℕ) → (length (respaced kind First (Inline c) x) ≡ space_width kind (By c) x) × (length (respaced kind Between (Inline c) x) ≡ space_width kind (By c) x) × (length (respaced kind Last (Inline c) x) ≡ space_width kind (By c) x) × (length (respaced kind Elsewhere (Inline c) x) ≡ space_width kind (By c) x)
at_slot kind Least x = (refl, refl, refl, refl)
at_slot kind Comments x = (refl, refl, refl, refl)
at_slot kind OneLine x = (refl, refl, refl, refl)
at_slot kind (NewLine n) x = (refl, refl, refl, refl)
at_slot kind OneSpace x = (refl, refl, refl, refl)

-- and there
at_wide : (c : Spacing) (x : List ℕ) → (length (respaced Optional BeforePlus (Inline c) x) ≡ space_width Optional (wide (By c)) x) × (length (respaced Optional AfterPlus (Inline c) x) ≡ space_width Optional (wide (By c)) x) × (length (respaced Optional AfterColon (Inline c) x) ≡ space_width Optional (wide (By c)) x)
at_wide Least x = (refl, refl, refl)
at_wide Comments x = (refl, refl, refl)
at_wide OneLine x = (refl, refl, refl)
at_wide (NewLine n) x = (refl, refl, refl)
at_wide OneSpace x = (refl, refl, refl)

-- Spaces that are kept: the width is that of the text.
flat_onto : {s : Rule} (w : Tree s) (r : List ℕ) → length (onto w r) ≡ width Kept w + length r
unfolding onto width
flat_onto (NumberTree x i) r = simp length-append (omega arith)
flat_onto (FloatTree f i) r = simp length-append (omega arith)
flat_onto (NamedTree b) r = simp length-append (omega arith)
flat_onto (EnclosedTree l w) r = let h = flat_onto w (41 ∷ r) in simp length-append (omega (arith, h))
flat_onto (ListTree k w) r = let h = flat_onto w (close_byte k ∷ r) in omega (arith, h)
flat_onto (StringTree w) r = flat_onto w r
flat_onto (StreamTree ms m) r = let h = flat_onto m (41 ∷ r) in simp length-append (omega (arith, h))
flat_onto (LiteralTree x i) r = simp length-append (omega arith)
flat_onto (EllipsisTree x) r = simp length-append (omega arith)
flat_onto (EmbeddedTree w i) r =
    let h : length (onto w (62 ∷ 62 ∷ (indicator_text i ++ r))) ≡ width Kept w + (length (indicator_text i) + length r + 2) = flat_onto w (62 ∷ 62 ∷ (indicator_text i ++ r)) ∙ simp length-append (omega arith) in
    omega (arith, h)
flat_onto (LastPieceTree p) r = flat_onto p r
flat_onto (PlusTree p s t w) r = let ih = flat_onto w r in flat_onto p (s ++ (43 ∷ (t ++ onto w r))) ∙ simp length-append (omega (arith, ih))
flat_onto (ElementTree w) r = flat_onto w r
flat_onto (PairTree v s t w) r = let ih = flat_onto w r in flat_onto v (s ++ (58 ∷ (t ++ onto w r))) ∙ simp length-append (omega (arith, ih))
flat_onto (ChunkTree w) r = flat_onto w r
flat_onto (EmptyTree i s) r = simp length-append (omega arith)
flat_onto (FullTree h s m) r = let ih = flat_onto m r in let head = head_is h in simp length-append (omega (arith, ih, head)) where
  head_is : (h : ListHead) → length (list_head_text h) ≡ head_width Kept h
  head_is NoIndicator = refl
  head_is (WithIndicator i ms) = simp length-append refl
flat_onto (LastTree e s) r = flat_onto e (s ++ r) ∙ simp length-append (omega arith)
flat_onto (MoreTree e s m) r = let ih = flat_onto m r in flat_onto e (s ++ onto m r) ∙ simp length-append (omega (arith, ih))
flat_onto (NothingTree s) r = simp length-append (omega arith)
flat_onto (SequenceTree s m) r = let ih = flat_onto m r in simp length-append (omega (arith, ih))
flat_onto (StandaloneTree s w t) r = let ih = flat_onto w (t ++ r) in simp length-append (rw ih (simp length-append (omega arith)))

-- a piece has no space, and what it embeds is kept
piece_width : (c : Spacing) (p : Tree OnePiece) (r : List ℕ) → length (onto p r) ≡ width (By c) p + length r
unfolding width
piece_width c (LiteralTree x i) r = flat_onto (LiteralTree x i) r
piece_width c (EllipsisTree x) r = flat_onto (EllipsisTree x) r
piece_width c (EmbeddedTree w i) r = flat_onto (EmbeddedTree w i) r

head_is : (c : Spacing) (h : ListHead) → length (list_head_text (laid_list_head (Inline c) h)) ≡ head_width (By c) h
head_is c NoIndicator = refl
head_is c (WithIndicator i ms) = let s = (at_slot Mandatory c ms).3 in simp length-append (omega (arith, s))

-- the column in the strings of a stream
abbrev chunk_column : Spacing → Spacing
chunk_column OneLine = Comments
chunk_column c = c

chunk_is : (c : Spacing) → (in_chunk (Inline c) ≡ Inline (chunk_column c)) × (in_stream (By c) ≡ By (chunk_column c))
chunk_is Least = (refl, refl)
chunk_is Comments = (refl, refl)
chunk_is OneLine = (refl, refl)
chunk_is (NewLine n) = (refl, refl)
chunk_is OneSpace = (refl, refl)

width_onto : {s : Rule} (c : Spacing) (w : Tree s) (r : List ℕ) → length (onto (laid (Inline c) w) r) ≡ width (By c) w + length r
unfolding onto laid width
width_onto c (NumberTree x i) r = simp length-append (omega arith)
width_onto c (FloatTree f i) r = simp length-append (omega arith)
width_onto c (NamedTree b) r = simp length-append (omega arith)
width_onto c (EnclosedTree l w) r = let h = width_onto c w (41 ∷ r) in simp length-append (omega (arith, h))
width_onto c (ListTree k w) r = let h = width_onto c w (close_byte k ∷ r) in omega (arith, h)
width_onto c (StringTree w) r = width_onto c w r
width_onto c (StreamTree ms m) r = let h = width_onto c m (41 ∷ r) in let a = (at_slot Mandatory c ms).0 in simp length-append (omega (arith, h, a))
width_onto c (LiteralTree x i) r = piece_width c (LiteralTree x i) r
width_onto c (EllipsisTree x) r = piece_width c (EllipsisTree x) r
width_onto c (EmbeddedTree w i) r = piece_width c (EmbeddedTree w i) r
width_onto c (LastPieceTree p) r = piece_width c p r
width_onto c (PlusTree p s t w) r =
    let ih = width_onto c w r in
    let a = (at_wide c s).0 in
    let b = (at_wide c t).1 in
    piece_width c p (respaced Optional BeforePlus (Inline c) s ++ (43 ∷ (respaced Optional AfterPlus (Inline c) t ++ onto (laid (Inline c) w) r))) ∙ simp length-append (omega (arith, ih, a, b))
width_onto c (ElementTree w) r = width_onto c w r
width_onto c (PairTree v s t w) r =
    let ih = width_onto c w r in
    let a = (at_slot Optional c s).3 in
    let b = (at_wide c t).2 in
    width_onto c v (respaced Optional Elsewhere (Inline c) s ++ (58 ∷ (respaced Optional AfterColon (Inline c) t ++ onto (laid (Inline c) w) r))) ∙ simp length-append (omega (arith, ih, a, b))
width_onto c (ChunkTree w) r =
    ap (λ l. length (onto (laid l w) r)) (chunk_is c).0
    ∙ width_onto (chunk_column c) w r
    ∙ ap (λ k. width k w + length r) (sym (chunk_is c).1)
width_onto c (EmptyTree i s) r = let a = (at_slot Optional c s).3 in simp length-append (omega (arith, a))
width_onto c (FullTree h s m) r = let ih = width_onto c m r in let a = (at_slot Optional c s).0 in let head = head_is c h in simp length-append (omega (arith, ih, a, head))
width_onto c (LastTree e s) r = let a = (at_slot AtEnd c s).2 in width_onto c e (respaced AtEnd Last (Inline c) s ++ r) ∙ simp length-append (omega (arith, a))
width_onto c (MoreTree e s m) r =
    let ih = width_onto c m r in
    let a = (at_slot Separating c s).1 in
    width_onto c e (respaced Separating Between (Inline c) s ++ onto (laid (Inline c) m) r) ∙ simp length-append (omega (arith, ih, a))
width_onto c (NothingTree s) r = let a = (at_slot Optional c s).3 in simp length-append (omega (arith, a))
width_onto c (SequenceTree s m) r = let ih = width_onto c m r in let a = (at_slot Optional c s).3 in simp length-append (omega (arith, ih, a))
width_onto c (StandaloneTree s w t) r =
    let ih = width_onto c w (respaced Optional Elsewhere (Inline c) t ++ r) in
    let a = (at_slot Optional c s).3 in
    let b = (at_slot Optional c t).3 in
    simp length-append (rw ih (simp length-append (omega (arith, a, b))))

pub width_is : {s : Rule} (c : Spacing) (w : Tree s) → width (By c) w ≡ length (text (laid (Inline c) w))
width_is c w = let h = width_onto c w [] in omega (arith, h)

-- The test of an item by its measured width is that by its text: sums end at the greatest `usize` in both.
pub test_is : (w : Tree OneItem) (base limit : ℕ) → nat_lt (saturating_add (measured w) base) limit ≡ nat_lt (saturating_add (length (text (laid (Inline OneLine) w))) base) limit
test_is w base limit = ap (λ n. nat_lt n limit) (ends_once (width (By OneLine) w) base) ∙ ap (λ n. nat_lt (saturating_add n base) limit) (width_is OneLine w) where
  ends_once : (n base : ℕ) → saturating_add (min n (2 ^ 64 - 1)) base ≡ saturating_add n base
  ends_once n base = omega arith

-- ---- rows

pub width_entries : {k : Row} (c : Spaces) (ps : List (Tree (OneEntry k) × List ℕ)) (m : Tree (Rest k)) → width c (entries_onto ps m) ≡ entries_width c ps + width c m
unfolding width
width_entries c [] m = omega arith
width_entries c (p ∷ ps) m = let h = width_entries c ps m in omega (arith, h)

pub width_pieces : (c : Spaces) (ps : List (Tree OnePiece × List ℕ × List ℕ)) (w : Tree OneString) → width c (pieces_onto ps w) ≡ pieces_width c ps + width c w
unfolding width
width_pieces c [] w = omega arith
width_pieces c (p ∷ ps) w = let h = width_pieces c ps w in omega (arith, h)
