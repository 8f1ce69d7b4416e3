-- The text of a tree round the item where a path leads.
use Rattle.std.proofs.Common.{◌≡◌, ℕ, suc, List, [], ◌∷◌, ◌++◌, Option, Some, None, refl, sym, ap, ◌∙◌, subst, append_assoc, append-nil, arith, Bool, true, false, length, ◌+◌, ◌-◌, ◌≤◌}
use Rattle.std.specs.Prelude.{slice_get, option_and_then, option_map, unwrap_or, ltb, if◌then◌else◌}
use Rattle.std.proofs.lemmas.Bool.{ltb-true, ltb-false}
use Rattle.cbor_edn_model.proofs.lemmas.access.CountedItems.{get_left, get_right}
use Prim.Native.Nat.{zero}
use Rattle.cbor_edn_parts.specs.base.Indicator.{indicator_text}
use Rattle.cbor_edn_model.specs.declared.text.opener.OpenerKind.TheVariants as opener
use Rattle.cbor_edn_model.specs.text.Spelling.{open_byte, close_byte}
use Rattle.cbor_edn_model.specs.tree.Trees.{Rule, Tree, OneItem, Seq, OnePiece, OneString, Rest, OneEntry, NumberTree, FloatTree, NamedTree, EnclosedTree, ListTree, StringTree, StreamTree, LiteralTree, EllipsisTree, EmbeddedTree, LastPieceTree, PlusTree, ElementTree, PairTree, ChunkTree, EmptyTree, FullTree, LastTree, MoreTree, NothingTree, SequenceTree, StandaloneTree, onto, text, opener_text, list_head_text}
use Rattle.cbor_edn_model.specs.access.Paths.{items_in, at, at_sequence, with_item, with_at, with_at_sequence}
use Rattle.cbor_edn_model.proofs.lemmas.text.Spelled.{onto-text}
use Rattle.cbor_edn_model.proofs.lemmas.access.ReplacedItems.{put_back}
use Rattle.cbor_edn_places.specs.Between.{IsBetween}

-- a tree for each item, whose text is that of the item between the same two
abbrev Around : {s : Rule} → (Tree OneItem → Tree s) → Type 0
Around put = (before behind : List ℕ) × ((y : Tree OneItem) (r : List ℕ) → onto (put y) r ≡ before ++ onto y (behind ++ r))

itself : Around (λ y. y)
itself = ([], [], λ y r. refl)

regroup : (p b q a : List ℕ) (y : Tree OneItem) (r : List ℕ) → p ++ (b ++ onto y (a ++ (q ++ r))) ≡ (p ++ b) ++ onto y ((a ++ q) ++ r)
regroup p b q a y r = sym (append_assoc p b (onto y (a ++ (q ++ r)))) ∙ ap (λ t. (p ++ b) ++ onto y t) (sym (append_assoc a q r))

-- with texts round it, which may be texts of other parts
outside : {s t : Rule} (inner : Tree OneItem → Tree s) (outer : Tree OneItem → Tree t) (p q : List ℕ) → ((y : Tree OneItem) (r : List ℕ) → onto (outer y) r ≡ p ++ onto (inner y) (q ++ r)) → Around inner → Around outer
outside inner outer p q is h = (p ++ h.0, h.1 ++ q, λ y r. is y r ∙ (ap (λ t. p ++ t) (h.2 y (q ++ r)) ∙ regroup p h.0 q h.1 y r))

-- one inside the other
inside : {s : Rule} (inner : Tree OneItem → Tree OneItem) (outer : Tree OneItem → Tree s) → Around outer → Around inner → Around (λ y. outer (inner y))
inside inner outer g h = (g.0 ++ h.0, h.1 ++ g.1, λ y r. g.2 (inner y) r ∙ (ap (λ t. g.0 ++ t) (h.2 y (g.1 ++ r)) ∙ regroup g.0 h.0 g.1 h.1 y r))

-- what stands in two parts stands in the first or in the second
either : {s : Rule} (xs ys : List (Tree OneItem)) (i : ℕ) (c : Tree OneItem) (left right : Tree OneItem → Tree s) → slice_get (xs ++ ys) i ≡ Some c → (slice_get xs i ≡ Some c → Around left)
    → (slice_get ys (i - length xs) ≡ Some c → Around right) → (b : Bool) → ltb i (length xs) ≡ b → Around (λ y. if b then left y else right y)
either xs ys i c left right is first second true e = first (sym (get_left xs ys i (ltb-true i (length xs) e)) ∙ is)
either xs ys i c left right is first second false e =
    let le : length xs ≤ i = ltb-false i (length xs) e in
    let behind : length xs + (i - length xs) ≡ i = omega (arith, le) in
    second (sym (get_right xs ys (i - length xs)) ∙ ap (slice_get (xs ++ ys)) behind ∙ is)

-- texts of other parts beside an item
joined_behind : {k : Rule} (s t : List ℕ) (n : ℕ) (w : Tree k) (r : List ℕ) → s ++ (n ∷ (t ++ onto w r)) ≡ (s ++ (n ∷ (t ++ text w))) ++ r
joined_behind s t n w r = rw (onto-text w r) (simp append_assoc)

joined_before : {k : Rule} (p : Tree k) (s t : List ℕ) (n : ℕ) (r : List ℕ) → onto p (s ++ (n ∷ (t ++ r))) ≡ (text p ++ (s ++ (n ∷ t))) ++ r
joined_before p s t n r = rw (onto-text p (s ++ (n ∷ (t ++ r)))) (simp append_assoc)

spaced_behind : {k : Rule} (s : List ℕ) (m : Tree k) (r : List ℕ) → s ++ onto m r ≡ (s ++ text m) ++ r
spaced_behind s m r = rw (onto-text m r) (simp append_assoc)

spaced_before : {k : Rule} (e : Tree k) (s r : List ℕ) → onto e (s ++ r) ≡ (text e ++ s) ++ r
spaced_before e s r = rw (onto-text e (s ++ r)) (simp append_assoc)

around_item : {s : Rule} (i : ℕ) (c : Tree OneItem) (t : Tree s) → slice_get (items_in t) i ≡ Some c → Around (λ y. with_item i y t)
unfolding onto
around_item i c (NumberTree x p) e = let bad : ⊥ = cc in absurd bad
around_item i c (FloatTree f p) e = let bad : ⊥ = cc in absurd bad
around_item i c (NamedTree b) e = let bad : ⊥ = cc in absurd bad
around_item i c (EnclosedTree (opener.Tag p n) w) e =
    outside (λ y. with_item i y w) (λ y. EnclosedTree (opener.Tag p n) (with_item i y w)) (opener_text (opener.Tag p n) ++ (40 ∷ [])) (41 ∷ [])
    (λ y r. sym (append_assoc (opener_text (opener.Tag p n)) (40 ∷ []) (onto (with_item i y w) (41 ∷ r)))) (around_item i c w e)
around_item i c (EnclosedTree opener.Simple w) e = let bad : ⊥ = cc in absurd bad
around_item i c (ListTree k w) e = outside (λ y. with_item i y w) (λ y. ListTree k (with_item i y w)) (open_byte k ∷ []) (close_byte k ∷ []) (λ y r. refl) (around_item i c w e)
around_item i c (StringTree w) e = outside (λ y. with_item i y w) (λ y. StringTree (with_item i y w)) [] [] (λ y r. refl) (around_item i c w e)
around_item i c (StreamTree ms m) e = outside (λ y. with_item i y m) (λ y. StreamTree ms (with_item i y m)) (40 ∷ 95 ∷ ms) (41 ∷ []) (λ y r. refl) (around_item i c m e)
around_item i c (LiteralTree x p) e = let bad : ⊥ = cc in absurd bad
around_item i c (EllipsisTree x) e = let bad : ⊥ = cc in absurd bad
around_item i c (EmbeddedTree w p) e = outside (λ y. with_item i y w) (λ y. EmbeddedTree (with_item i y w) p) (60 ∷ 60 ∷ []) (62 ∷ 62 ∷ indicator_text p) (λ y r. refl) (around_item i c w e)
around_item i c (LastPieceTree p) e = outside (λ y. with_item i y p) (λ y. LastPieceTree (with_item i y p)) [] [] (λ y r. refl) (around_item i c p e)
around_item i c (PlusTree p s t w) e =
    either (items_in p) (items_in w) i c (λ y. PlusTree (with_item i y p) s t w) (λ y. PlusTree p s t (with_item (i - length (items_in p)) y w)) e
    (λ h. outside (λ y. with_item i y p) (λ y. PlusTree (with_item i y p) s t w) [] (s ++ (43 ∷ (t ++ text w))) (λ y r. ap (λ q. onto (with_item i y p) q) (joined_behind s t 43 w r)) (around_item i c p h))
    (λ h. outside (λ y. with_item (i - length (items_in p)) y w) (λ y. PlusTree p s t (with_item (i - length (items_in p)) y w)) (text p ++ (s ++ (43 ∷ t))) []
    (λ y r. joined_before p s t 43 (onto (with_item (i - length (items_in p)) y w) r)) (around_item (i - length (items_in p)) c w h))
    (ltb i (length (items_in p))) refl
around_item zero c (ElementTree w) e = outside (λ y. y) (λ y. ElementTree y) [] [] (λ y r. refl) itself
around_item (suc i) c (ElementTree w) e = let bad : ⊥ = cc in absurd bad
around_item zero c (PairTree v s t w) e = outside (λ y. y) (λ y. PairTree y s t w) [] (s ++ (58 ∷ (t ++ text w))) (λ y r. ap (λ q. onto y q) (joined_behind s t 58 w r)) itself
around_item (suc zero) c (PairTree v s t w) e = outside (λ y. y) (λ y. PairTree v s t y) (text v ++ (s ++ (58 ∷ t))) [] (λ y r. joined_before v s t 58 (onto y r)) itself
around_item (suc (suc i)) c (PairTree v s t w) e = let bad : ⊥ = cc in absurd bad
around_item i c (ChunkTree w) e = outside (λ y. with_item i y w) (λ y. ChunkTree (with_item i y w)) [] [] (λ y r. refl) (around_item i c w e)
around_item i c (EmptyTree p s) e = let bad : ⊥ = cc in absurd bad
around_item i c (FullTree h s m) e =
    outside (λ y. with_item i y m) (λ y. FullTree h s (with_item i y m)) (list_head_text h ++ s) [] (λ y r. sym (append_assoc (list_head_text h) s (onto (with_item i y m) r))) (around_item i c m e)
around_item i c (LastTree w s) e = outside (λ y. with_item i y w) (λ y. LastTree (with_item i y w) s) [] s (λ y r. refl) (around_item i c w e)
around_item i c (MoreTree w s m) e =
    either (items_in w) (items_in m) i c (λ y. MoreTree (with_item i y w) s m) (λ y. MoreTree w s (with_item (i - length (items_in w)) y m)) e
    (λ h. outside (λ y. with_item i y w) (λ y. MoreTree (with_item i y w) s m) [] (s ++ text m) (λ y r. ap (λ q. onto (with_item i y w) q) (spaced_behind s m r)) (around_item i c w h))
    (λ h. outside (λ y. with_item (i - length (items_in w)) y m) (λ y. MoreTree w s (with_item (i - length (items_in w)) y m)) (text w ++ s) []
    (λ y r. spaced_before w s (onto (with_item (i - length (items_in w)) y m) r)) (around_item (i - length (items_in w)) c m h))
    (ltb i (length (items_in w))) refl
around_item i c (NothingTree s) e = let bad : ⊥ = cc in absurd bad
around_item i c (SequenceTree s m) e = outside (λ y. with_item i y m) (λ y. SequenceTree s (with_item i y m)) s [] (λ y r. refl) (around_item i c m e)
around_item zero c (StandaloneTree s w t) e = outside (λ y. y) (λ y. StandaloneTree s y t) s t (λ y r. refl) itself
around_item (suc i) c (StandaloneTree s w t) e = let bad : ⊥ = cc in absurd bad

around_by : {s : Rule} (i : ℕ) (path : List ℕ) (t : Tree s) (x : Tree OneItem) → ((c : Tree OneItem) → at path c ≡ Some x → Around (λ y. with_at path y c))
    → (o : Option (Tree OneItem)) → slice_get (items_in t) i ≡ o → option_and_then (at path) o ≡ Some x → Around (λ y. unwrap_or (option_map (λ c. with_item i (with_at path y c) t) o) t)
around_by i path t x below None is e = let bad : ⊥ = cc in absurd bad
around_by i path t x below (Some c) is e = inside (λ y. with_at path y c) (λ z. with_item i z t) (around_item i c t is) (below c e)

around_path : (path : List ℕ) (x c : Tree OneItem) → at path c ≡ Some x → Around (λ y. with_at path y c)
around_path [] x c e = itself
around_path (i ∷ path) x c e = around_by i path c x (λ d h. around_path path x d h) (slice_get (items_in c) i) refl e

around_in_sequence : (path : List ℕ) (x : Tree OneItem) (w : Tree Seq) → at_sequence path w ≡ Some x → Around (λ y. with_at_sequence path y w)
around_in_sequence [] x w e = let bad : ⊥ = cc in absurd bad
around_in_sequence (i ∷ path) x w e = around_by i path w x (λ d h. around_path path x d h) (slice_get (items_in w) i) refl e

-- ---- where a path leads to x, the tree with x there is the tree

unchanged_by : {s : Rule} (w : Tree s) (i : ℕ) (path : List ℕ) (x : Tree OneItem) → ((c : Tree OneItem) → unwrap_or (at path c) x ≡ x → with_at path x c ≡ c)
    → (o : Option (Tree OneItem)) → slice_get (items_in w) i ≡ o → unwrap_or (option_and_then (at path) o) x ≡ x → unwrap_or (option_map (λ c. with_item i (with_at path x c) w) o) w ≡ w
unchanged_by w i path x below None is e = refl
unchanged_by w i path x below (Some c) is e = ap (λ u. with_item i u w) (below c e) ∙ put_back i c w is

unchanged : (path : List ℕ) (x w : Tree OneItem) → unwrap_or (at path w) x ≡ x → with_at path x w ≡ w
unchanged [] x w e = sym e
unchanged (i ∷ path) x w e = unchanged_by w i path x (λ c. unchanged path x c) (slice_get (items_in w) i) refl e

sequence_unchanged : (path : List ℕ) (x : Tree OneItem) (w : Tree Seq) → unwrap_or (at_sequence path w) x ≡ x → with_at_sequence path x w ≡ w
sequence_unchanged [] x w e = refl
sequence_unchanged (i ∷ path) x w e = unchanged_by w i path x (λ c. unchanged path x c) (slice_get (items_in w) i) refl e

pub put_again : (path : List ℕ) (x : Tree OneItem) (w : Tree Seq) → Some x ≡ at_sequence path w → with_at_sequence path x w ≡ w
put_again path x w e = sequence_unchanged path x w (subst (λ o. unwrap_or o x ≡ x) e refl)

pub put_nowhere : (path : List ℕ) (x : Tree OneItem) (w : Tree Seq) → None ≡ at_sequence path w → w ≡ with_at_sequence path x w
put_nowhere path x w e = sym (sequence_unchanged path x w (subst (λ o. unwrap_or o x ≡ x) e refl))

-- ---- the law

plain : (put : Tree OneItem → Tree Seq) (h : Around put) (y : Tree OneItem) → text (put y) ≡ h.0 ++ (text y ++ h.1)
plain put h y = h.2 y [] ∙ ap (λ t. h.0 ++ t) (onto-text y (h.1 ++ []) ∙ ap (λ t. text y ++ t) (append-nil h.1))

pub between : (w : Tree Seq) (path : List ℕ) (x : Tree OneItem) → at_sequence path w ≡ Some x → (before behind : List ℕ) × IsBetween w path before behind
between w path x e =
    let h : Around (λ y. with_at_sequence path y w) = around_in_sequence path x w e in (
      h.0,
      h.1,
      record {
        there = (x, e, ap text (sym (put_again path x w (sym e))) ∙ plain (λ y. with_at_sequence path y w) h x);
        with_other = plain (λ y. with_at_sequence path y w) h;
      },
    )
