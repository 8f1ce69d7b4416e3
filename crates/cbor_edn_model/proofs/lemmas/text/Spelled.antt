-- What is spelled is the text of a valid tree, merged, with these items, and a valid tree's text spells its items.
use Rattle.std.proofs.Common.{ℕ, suc, List, [], ◌∷◌, ◌++◌, ◌≡◌, refl, ap, sym, arith, ◌∙◌, append_assoc, subst}
use Rattle.std.proofs.lemmas.List.{append-nil}
use Rattle.std.specs.Prelude.{true, Option, Some, None, ◌≢◌}
use Rattle.cbor_edn_parts.specs.declared.base.indicator.Indicator.{Indicator}
use Rattle.std.specs.Fmt.{decimal}
use Rattle.cbor_edn_parts.specs.base.Indicator.{indicator_text}
use Rattle.cbor_edn_parts.specs.space.Space.{IsSpace, empty, blank, comment, IsMandatorySpace, IsSeparator, IsListEnd}
use Rattle.cbor_edn_parts.specs.internal.SpaceTokens.{is_space}
use Rattle.cbor_edn_model.specs.tree.Items.{Row, Elements, Strings, Bracketed, entries_of, Sort, Item, Piece, Pieces, Entry, Entries, Node, Number, Float, Listed, Tagged, Named, Simple, String, Stream, Literal, Ellipsis, Embedded, LastPiece, Plus, Element, Pair, Chunk, End, Then, Items, nesting}
use Rattle.cbor_edn_model.specs.text.Spelling.{open_byte, close_byte, IsSpecms, Spells, SpellsSequence, SpellsOne}
use Rattle.cbor_edn_model.specs.text.Openers.{IsOpener}
use Rattle.cbor_edn_model.specs.tree.Trees.{Rule, OneItem, OnePiece, OneString, OneEntry, Inside, Rest, Seq, Standalone, ListHead, NoIndicator, WithIndicator, head_indicator, list_head_text, opener_text, labelled, Tree, NumberTree, FloatTree, NamedTree, EnclosedTree, ListTree, StringTree, StreamTree, LiteralTree, EllipsisTree, EmbeddedTree, LastPieceTree, PlusTree, ElementTree, PairTree, ChunkTree, EmptyTree, FullTree, LastTree, MoreTree, NothingTree, SequenceTree, StandaloneTree, onto, text, Of, items, tree_nesting, IsMerged, Merged}
use Rattle.cbor_edn_model.proofs.lemmas.text.Tested.{IsTestedListHead, Tested}
use Rattle.cbor_edn_model.specs.declared.text.opener.OpenerKind.{OpenerKind}
use Rattle.cbor_edn_model.specs.declared.text.opener.OpenerKind.TheVariants as opener
use Rattle.cbor_edn_model.specs.text.Keywords.{named_text}
use Rattle.cbor_edn_parts.proofs.lemmas.space.SpaceTexts.{optional_texts, at_end_texts, mandatory_texts, separating_texts}
use Rattle.cbor_edn_parts.proofs.lemmas.number.NumberTexts.{number_texts}
use Rattle.cbor_edn_model.proofs.lemmas.text.Found.{no_space}
use Rattle.cbor_edn_parts.proofs.lemmas.string.LiteralTexts.{literal_test}
use Rattle.cbor_edn_parts.proofs.lemmas.string.EllipsisTexts.{ellipsis_test}

-- How deep the items of a use of a rule nest.
abbrev pub nesting_of : (s : Rule) → Of s → ℕ
nesting_of OneItem x = nesting x
nesting_of OnePiece x = nesting x
nesting_of OneString x = nesting x
nesting_of (OneEntry k) x = nesting x
nesting_of (Inside k) x = nesting x.1
nesting_of (Rest k) x = nesting x
nesting_of Seq x = nesting x
nesting_of Standalone x = nesting x

pub nested : {s : Rule} (w : Tree s) → tree_nesting w ≡ nesting_of s (items w)
unfolding items
nested (NumberTree x i) = refl
nested (FloatTree f i) = refl
nested (NamedTree b) = refl
nested (EnclosedTree (opener.Tag i n) w) = ap suc (nested w)
nested (EnclosedTree opener.Simple w) = ap suc (nested w)
nested (ListTree k w) = ap suc (nested w)
nested (StringTree w) = nested w
nested (StreamTree ms m) = nested m
nested (LiteralTree x i) = refl
nested (EllipsisTree x) = refl
nested (EmbeddedTree w i) = ap suc (nested w)
nested (LastPieceTree p) = nested p
nested (PlusTree p s t w) = rw (nested p, nested w)
nested (ElementTree w) = nested w
nested (PairTree v s t w) = rw (nested v, nested w)
nested (ChunkTree w) = nested w
nested (EmptyTree i s) = refl
nested (FullTree h s m) = nested m
nested (LastTree e s) = let h = nested e in omega arith
nested (MoreTree e s m) = rw (nested e, nested m)
nested (NothingTree s) = refl
nested (SequenceTree s m) = nested m
nested (StandaloneTree s w t) = nested w

-- a colon or a plus sign between two
between-append : {o q : Rule} (v : Tree o) (c : ℕ) (w : Tree q) (s t x r : List ℕ) → onto w (x ++ r) ≡ onto w x ++ r → ((y : List ℕ) → onto v (y ++ r) ≡ onto v y ++ r) → onto v (s ++ (c ∷ (t ++ onto w (x ++ r)))) ≡ onto v (s ++ (c ∷ (t ++ onto w x))) ++ r
between-append v c w s t x r hw hv = rw (hw, ← hv (s ++ (c ∷ (t ++ onto w x)))) (simp append_assoc)

full-append : (h s m r : List ℕ) → h ++ (s ++ (m ++ r)) ≡ (h ++ (s ++ m)) ++ r
full-append h s m r = simp append_assoc

-- A tree's text stands in front of what follows it.
pub onto-append : {s : Rule} (w : Tree s) (q r : List ℕ) → onto w (q ++ r) ≡ onto w q ++ r
unfolding onto
onto-append (NumberTree x i) q r = simp append_assoc
onto-append (FloatTree f i) q r = simp append_assoc
onto-append (NamedTree b) q r = simp append_assoc
onto-append (EnclosedTree l w) q r = ap (λ (x : List ℕ). opener_text l ++ (40 ∷ x)) (onto-append w (41 ∷ q) r) ∙ sym (append_assoc (opener_text l) (40 ∷ onto w (41 ∷ q)) r)
onto-append (ListTree k w) q r = ap (open_byte k ∷◌) (onto-append w (close_byte k ∷ q) r)
onto-append (StringTree w) q r = onto-append w q r
onto-append (StreamTree ms m) q r = ap (λ (x : List ℕ). 40 ∷ 95 ∷ x) (ap (ms ++◌) (onto-append m (41 ∷ q) r) ∙ sym (append_assoc ms (onto m (41 ∷ q)) r))
onto-append (LiteralTree x i) q r = simp append_assoc
onto-append (EllipsisTree x) q r = simp append_assoc
onto-append (EmbeddedTree w i) q r = ap (λ (x : List ℕ). 60 ∷ 60 ∷ x) (ap (λ (x : List ℕ). onto w (62 ∷ 62 ∷ x)) (sym (append_assoc (indicator_text i) q r)) ∙ onto-append w (62 ∷ 62 ∷ (indicator_text i ++ q)) r)
onto-append (LastPieceTree p) q r = onto-append p q r
onto-append (PlusTree p s t w) q r = between-append p 43 w s t q r (onto-append w q r) (λ x. onto-append p x r)
onto-append (ElementTree w) q r = onto-append w q r
onto-append (PairTree v s t w) q r = between-append v 58 w s t q r (onto-append w q r) (λ x. onto-append v x r)
onto-append (ChunkTree w) q r = onto-append w q r
onto-append (EmptyTree i s) q r = simp append_assoc
onto-append (FullTree h s m) q r = ap (λ (x : List ℕ). list_head_text h ++ (s ++ x)) (onto-append m q r) ∙ full-append (list_head_text h) s (onto m q) r
onto-append (LastTree e s) q r = ap (onto e) (sym (append_assoc s q r)) ∙ onto-append e (s ++ q) r
onto-append (MoreTree e s m) q r = ap (λ (x : List ℕ). onto e (s ++ x)) (onto-append m q r) ∙ ap (onto e) (sym (append_assoc s (onto m q) r)) ∙ onto-append e (s ++ onto m q) r
onto-append (NothingTree s) q r = simp append_assoc
onto-append (SequenceTree s m) q r = ap (s ++◌) (onto-append m q r) ∙ sym (append_assoc s (onto m q) r)
onto-append (StandaloneTree s w t) q r = ap (λ (x : List ℕ). s ++ onto w x) (sym (append_assoc t q r)) ∙ ap (s ++◌) (onto-append w (t ++ q) r) ∙ sym (append_assoc s (onto w (t ++ q)) r)

pub onto-text : {s : Rule} (w : Tree s) (r : List ℕ) → onto w r ≡ text w ++ r
onto-text w r = onto-append w [] r

-- A valid tree, merged, with these items and this text.
pub record HasTree (s : Rule) (x : Of s) (t : List ℕ) : Type 0 where
  pub tree : Tree s
  pub valid : Tested tree
  pub merged : Merged tree
  pub same : items tree ≡ x
  pub text_is : (r : List ℕ) → onto tree r ≡ t ++ r

-- The same of an entry, other entries, and the text behind the first.
pub record Continues {k : Row} (e : Tree (OneEntry k)) (x : Node (Entries k)) (t : List ℕ) : Type 0 where
  pub tree : Tree (Rest k)
  pub valid : Tested tree
  pub merged : Merged tree
  pub same : items tree ≡ Then (items e) x
  pub text_is : (r : List ℕ) → onto tree r ≡ onto e (t ++ r)

abbrev pub Given : (s : Sort) → Node s → List ℕ → Type 0
Given Item x t = HasTree OneItem x t
Given Piece x t = HasTree OnePiece x t
Given Pieces x t = HasTree OneString x t
Given (Entry k) x t = HasTree (OneEntry k) x t
Given (Entries k) x t = (e : Tree (OneEntry k)) → Tested e → Merged e → Continues e x t

end_given : {k : Row} (t : List ℕ) (e : Tree (OneEntry k)) → Tested e → Merged e → Spells (End {k = k}) t → Continues e End t
unfolding Spells onto Tested Merged items
end_given t e v j h = record { tree = LastTree e t; valid = (v, (at_end_texts t).0 h); merged = j; same = refl; text_is = λ r. refl }

s-append : {x y : List ℕ} → IsSpace x → IsSpace y → IsSpace (x ++ y)
s-append empty k = k
s-append (blank b h) k = blank b (s-append h k)
s-append {y = y} (comment {b = b} {x = x} c h) k = subst IsSpace (sym (append_assoc b x y)) (comment c (s-append h k))

not_empty-append : (x y : List ℕ) → x ≢ [] → (x ++ y) ≢ []
not_empty-append [] y n e = n refl
not_empty-append (c ∷ x) y n e = cc

mandatory_append : {x y : List ℕ} → IsMandatorySpace x → IsSpace y → IsMandatorySpace (x ++ y)
mandatory_append {x = x} {y = y} h k = (s-append h.0 k, not_empty-append x y h.1)

-- An indicator with its space, and the space behind it: the mandatory space takes all of both.
pub record HasListHead (i : Option Indicator) (h s : List ℕ) : Type 0 where
  pub head : ListHead
  pub space : List ℕ
  pub same : head_indicator head ≡ i
  pub head_valid : IsTestedListHead head
  pub space_valid : is_space space ≡ true
  pub merged : IsMerged head space
  pub text_is : (r : List ℕ) → list_head_text head ++ (space ++ r) ≡ h ++ (s ++ r)

head_given : (i : Option Indicator) (h s : List ℕ) → IsSpecms i h → IsSpace s → HasListHead i h s
head_given None h s vh vs = record { head = NoIndicator; space = s; same = refl; head_valid = tt; space_valid = (optional_texts s).0 vs; merged = tt; text_is = λ r. ap (λ (x : List ℕ). x ++ (s ++ r)) (sym vh) }
head_given (Some i) h s vh vs = record {
  head = WithIndicator i (vh.0 ++ s);
  space = [];
  same = refl;
  head_valid = (mandatory_texts (vh.0 ++ s)).0 (mandatory_append vh.1 vs);
  space_valid = no_space;
  merged = refl;
  text_is = λ r. rw vh.2 (simp append_assoc);
}

full_given : (k : Bracketed) (i : Option Indicator) (e : Node (Entry (entries_of k))) (m : Node (Entries (entries_of k))) (h s a b : List ℕ) → HasListHead i h s → (v : HasTree (OneEntry (entries_of k)) e a) → Continues v.tree m b → HasTree OneItem (Listed k i (Then e m)) (open_byte k ∷ (h ++ (s ++ (a ++ (b ++ (close_byte k ∷ []))))))
unfolding onto Tested Merged items
full_given k i e m h s a b u v w = record {
  tree = ListTree k (FullTree u.head u.space w.tree);
  valid = (u.head_valid, u.space_valid, w.valid);
  merged = (u.merged, w.merged);
  same = rw (u.same, w.same, v.same);
  text_is = λ r. rw (w.text_is (close_byte k ∷ r), v.text_is (b ++ (close_byte k ∷ r)), u.text_is (a ++ (b ++ (close_byte k ∷ r)))) (simp append_assoc);
}

more_given : {k : Row} (e : Node (Entry k)) (m : Node (Entries k)) (c a b : List ℕ) (u : Tree (OneEntry k)) → Tested u → Merged u → IsSeparator c → (v : HasTree (OneEntry k) e a) → Continues v.tree m b → Continues u (Then e m) (c ++ (a ++ b))
unfolding onto Tested Merged items
more_given {k} e m c a b u vu ju h v w = record {
  tree = MoreTree u c w.tree;
  valid = (vu, (separating_texts c).0 h, w.valid);
  merged = (ju, w.merged);
  same = ap (Then (items u)) (w.same ∙ ap (λ (x : Node (Entry k)). Then x m) v.same);
  text_is = λ r. rw (w.text_is r, v.text_is (b ++ r)) (ap (onto u) (simp append_assoc));
}

stream_given : (e : Node (Entry Strings)) (m : Node (Entries Strings)) (ms a b : List ℕ) → IsMandatorySpace ms → (v : HasTree (OneEntry Strings) e a) → Continues v.tree m b → HasTree OneItem (Stream (Then e m)) (40 ∷ 95 ∷ (ms ++ (a ++ (b ++ (41 ∷ [])))))
unfolding onto Tested Merged items
stream_given e m ms a b h v w = record {
  tree = StreamTree ms w.tree;
  valid = ((mandatory_texts ms).0 h, w.valid);
  merged = w.merged;
  same = rw (w.same, v.same);
  text_is = λ r. rw (w.text_is (41 ∷ r), v.text_is (b ++ (41 ∷ r))) (simp append_assoc);
}

-- A sequence without items, and one with a first item and others.
nothing_given : (t : List ℕ) → IsSpace t → HasTree Seq End t
unfolding onto Tested Merged items
nothing_given t h = record { tree = NothingTree t; valid = (optional_texts t).0 h; merged = tt; same = refl; text_is = λ r. refl }

sequence_given : (e : Node (Entry Elements)) (m : Items) (s a b : List ℕ) → IsSpace s → (v : HasTree (OneEntry Elements) e a) → Continues v.tree m b → HasTree Seq (Then e m) (s ++ (a ++ b))
unfolding onto Tested Merged items
sequence_given e m s a b h v w = record {
  tree = SequenceTree s w.tree;
  valid = ((optional_texts s).0 h, w.valid);
  merged = w.merged;
  same = rw (w.same, v.same);
  text_is = λ r. rw (w.text_is r, v.text_is (b ++ r)) (simp append_assoc);
}

embedded_given : (m : Items) (i : Option Indicator) (a : List ℕ) → HasTree Seq m a → HasTree OnePiece (Embedded m i) (60 ∷ 60 ∷ (a ++ (62 ∷ 62 ∷ indicator_text i)))
unfolding onto Tested Merged items
embedded_given m i a v = record {
  tree = EmbeddedTree v.tree i;
  valid = v.valid;
  merged = v.merged;
  same = ap (λ (x : Items). Embedded x i) v.same;
  text_is = λ r. rw (v.text_is (62 ∷ 62 ∷ (indicator_text i ++ r))) (simp append_assoc);
}

enclosed_given : (l : OpenerKind) (x : Node Item) (s a u : List ℕ) → IsOpener l → IsSpace s → HasTree OneItem x a → IsSpace u → HasTree OneItem (labelled l x) (opener_text l ++ (40 ∷ (s ++ (a ++ (u ++ (41 ∷ []))))))
unfolding onto Tested Merged items
enclosed_given l x s a u vl vs v vu = record {
  tree = EnclosedTree l (StandaloneTree s v.tree u);
  valid = (vl, ((optional_texts s).0 vs, v.valid, (optional_texts u).0 vu));
  merged = v.merged;
  same = ap (labelled l) v.same;
  text_is = λ r. rw (v.text_is (u ++ (41 ∷ r))) (simp append_assoc);
}

pub spelled : {s : Sort} (x : Node s) (t : List ℕ) → Spells x t → Given s x t
unfolding Spells SpellsSequence onto Tested Merged items
spelled (Number x i) t h = record { tree = NumberTree x i; valid = (number_texts x).0 h.0; merged = tt; same = refl; text_is = λ r. rw h.1 (simp append_assoc) }
spelled (Float f i) t h = record { tree = FloatTree f i; valid = tt; merged = tt; same = refl; text_is = λ r. rw h (simp append_assoc) }
spelled (Tagged n i w) t h = rw (h.7 ∙ sym (append_assoc (decimal n) (indicator_text i) _)) (enclosed_given (opener.Tag i n) w h.0 h.1 h.2 h.3 h.4 (spelled w h.1 h.5) h.6)
spelled (Named b) t h = record { tree = NamedTree b; valid = tt; merged = tt; same = refl; text_is = λ r. rw h refl }
spelled (Simple w) t h = rw h.6 (enclosed_given opener.Simple w h.0 h.1 h.2 tt h.3 (spelled w h.1 h.4) h.5)
spelled (Listed k i End) t h = record { tree = ListTree k (EmptyTree i h.0); valid = (optional_texts h.0).0 h.1; merged = tt; same = refl; text_is = λ r. rw h.2 (simp append_assoc) }
spelled (Listed k i (Then e m)) t h = let v = spelled e h.2 h.6 in rw h.8 (full_given k i e m h.0 h.1 h.2 h.3 (head_given i h.0 h.1 h.4 h.5) v (spelled m h.3 h.7 v.tree v.valid v.merged))
spelled (String w) t h = let v = spelled w t h in record { tree = StringTree v.tree; valid = v.valid; merged = v.merged; same = ap String v.same; text_is = v.text_is }
spelled (Stream End) t h = absurd h
spelled (Stream (Then e m)) t h = let v = spelled e h.1 h.4 in rw h.6 (stream_given e m h.0 h.1 h.2 h.3 v (spelled m h.2 h.5 v.tree v.valid v.merged))
spelled (Literal x i) t h = record { tree = LiteralTree x i; valid = (literal_test x).0 h.0; merged = tt; same = refl; text_is = λ r. rw h.1 (simp append_assoc) }
spelled (Ellipsis x) t h = record { tree = EllipsisTree x; valid = (ellipsis_test x).0 h.0; merged = tt; same = refl; text_is = λ r. rw h.1 refl }
spelled (Embedded End i) t h = rw h.2 (embedded_given End i h.0 (nothing_given h.0 h.1))
spelled (Embedded (Then e m) i) t h = let q = h.1 in let v = spelled e q.1 q.4 in rw h.2 (embedded_given (Then e m) i h.0 (rw q.6 (sequence_given e m q.0 q.1 q.2 q.3 v (spelled m q.2 q.5 v.tree v.valid v.merged))))
spelled (LastPiece p) t h = let v = spelled p t h in record { tree = LastPieceTree v.tree; valid = v.valid; merged = v.merged; same = ap LastPiece v.same; text_is = v.text_is }
spelled (Plus p w) t h = let a = spelled p h.0 h.4 in let b = spelled w h.3 h.7 in record { tree = PlusTree a.tree h.1 h.2 b.tree; valid = (a.valid, (optional_texts h.1).0 h.5, (optional_texts h.2).0 h.6, b.valid); merged = (a.merged, b.merged); same = rw (a.same, b.same); text_is = λ r. rw h.8 (simp (a.text_is, b.text_is, append_assoc)) }
spelled (Element w) t h = let v = spelled w t h in record { tree = ElementTree v.tree; valid = v.valid; merged = v.merged; same = ap Element v.same; text_is = v.text_is }
spelled (Pair v w) t h = let a = spelled v h.0 h.4 in let b = spelled w h.3 h.7 in record { tree = PairTree a.tree h.1 h.2 b.tree; valid = (a.valid, (optional_texts h.1).0 h.5, (optional_texts h.2).0 h.6, b.valid); merged = (a.merged, b.merged); same = rw (a.same, b.same); text_is = λ r. rw h.8 (simp (a.text_is, b.text_is, append_assoc)) }
spelled (Chunk w) t h = let v = spelled w t h in record { tree = ChunkTree v.tree; valid = v.valid; merged = v.merged; same = ap Chunk v.same; text_is = v.text_is }
spelled End t h = λ e v j. end_given t e v j h
spelled (Then e m) t h = λ u vu ju. let v = spelled e h.1 h.4 in rw h.6 (more_given e m h.0 h.1 h.2 u vu ju h.3 v (spelled m h.2 h.5 v.tree v.valid v.merged))

pub spelled_sequence : (x : Items) (t : List ℕ) → SpellsSequence x t → HasTree Seq x t
unfolding SpellsSequence
spelled_sequence End t h = nothing_given t h
spelled_sequence (Then e m) t h = let v = spelled e h.1 h.4 in rw h.6 (sequence_given e m h.0 h.1 h.2 h.3 v (spelled m h.2 h.5 v.tree v.valid v.merged))

pub spelled_one : (x : Node Item) (t : List ℕ) → SpellsOne x t → HasTree Standalone x t
unfolding SpellsOne onto Tested Merged items
spelled_one x t h = let a = spelled x h.1 h.4 in record {
  tree = StandaloneTree h.0 a.tree h.2;
  valid = ((optional_texts h.0).0 h.3, a.valid, (optional_texts h.2).0 h.5);
  merged = a.merged;
  same = a.same;
  text_is = λ r. rw h.6 (simp (a.text_is, append_assoc));
}

-- The first entry of a row and the others, with the texts that spell them.
pub record Told {k : Row} (m : Tree (Rest k)) : Type 0 where
  pub first : Node (Entry k)
  pub others : Node (Entries k)
  pub front : List ℕ
  pub back : List ℕ
  pub same : items m ≡ Then first others
  pub first_spelled : Spells first front
  pub others_spelled : Spells others back
  pub text_is : (r : List ℕ) → onto m r ≡ front ++ (back ++ r)

-- Spelling by a tree's text.
abbrev pub Tells : (s : Rule) → Tree s → Type 0
Tells OneItem w = Spells (items w) (text w)
Tells OnePiece w = Spells (items w) (text w)
Tells OneString w = Spells (items w) (text w)
Tells (OneEntry k) w = Spells (items w) (text w)
Tells (Inside k) w = Spells (Listed k (items w).0 (items w).1) (open_byte k ∷ onto w (close_byte k ∷ []))
Tells (Rest k) w = Told w
Tells Seq w = SpellsSequence (items w) (text w)
Tells Standalone w = SpellsOne (items w) (text w)

head_told : (h : ListHead) → IsTestedListHead h → IsSpecms (head_indicator h) (list_head_text h)
head_told NoIndicator v = refl
head_told (WithIndicator i ms) v = (ms, (mandatory_texts ms).1 v, refl)

tells_full : (k : Bracketed) (h : ListHead) (s : List ℕ) (m : Tree (Rest (entries_of k))) → IsTestedListHead h → IsSpace s → Told m → Spells (Listed k (head_indicator h) (items m)) (open_byte k ∷ (list_head_text h ++ (s ++ onto m (close_byte k ∷ []))))
unfolding Spells
tells_full k h s m vh v t = rw t.same (list_head_text h, s, t.front, t.back, head_told h vh, v, t.first_spelled, t.others_spelled, rw (t.text_is (close_byte k ∷ [])) refl)

tells_stream : (ms : List ℕ) (m : Tree (Rest Strings)) → IsMandatorySpace ms → Told m → Spells (Stream (items m)) (40 ∷ 95 ∷ (ms ++ onto m (41 ∷ [])))
unfolding Spells
tells_stream ms m v t = rw t.same (ms, t.front, t.back, v, t.first_spelled, t.others_spelled, rw (t.text_is (41 ∷ [])) refl)

tells_enclosed : (l : OpenerKind) (w : Tree Standalone) → IsOpener l → SpellsOne (items w) (text w) → Spells (labelled l (items w)) (opener_text l ++ (40 ∷ onto w (41 ∷ [])))
unfolding Spells SpellsOne
tells_enclosed (opener.Tag i n) w v h = (h.0, h.1, h.2, v, h.3, h.4, h.5, rw (onto-text w (41 ∷ []), h.6) (simp append_assoc))
tells_enclosed opener.Simple w v h = (h.0, h.1, h.2, h.3, h.4, h.5, rw (onto-text w (41 ∷ []), h.6) (simp append_assoc))

tells_embedded : (w : Tree Seq) (i : Option Indicator) → SpellsSequence (items w) (text w) → Spells (Embedded (items w) i) (60 ∷ 60 ∷ onto w (62 ∷ 62 ∷ (indicator_text i ++ [])))
unfolding Spells
tells_embedded w i h = (text w, h, ap (λ (x : List ℕ). 60 ∷ 60 ∷ x) (ap (λ (x : List ℕ). onto w (62 ∷ 62 ∷ x)) (append-nil (indicator_text i)) ∙ onto-text w (62 ∷ 62 ∷ indicator_text i)))

tells_last : (k : Row) (e : Tree (OneEntry k)) (s : List ℕ) → IsListEnd s → Spells (items e) (text e) → Told (LastTree e s)
unfolding Spells onto items
tells_last k e s v h = record { first = items e; others = End; front = text e; back = s; same = refl; first_spelled = h; others_spelled = v; text_is = λ r. onto-text e (s ++ r) }

others_told : {k : Row} (c : List ℕ) (e : Node (Entry k)) (m : Node (Entries k)) (a b : List ℕ) → IsSeparator c → Spells e a → Spells m b → Spells (Then e m) (c ++ (a ++ b))
unfolding Spells
others_told c e m a b v h t = (c, a, b, v, h, t, refl)

tells_more : (k : Row) (e : Tree (OneEntry k)) (s : List ℕ) (m : Tree (Rest k)) → IsSeparator s → Spells (items e) (text e) → Told m → Told (MoreTree e s m)
unfolding onto items
tells_more k e s m v h t = record {
  first = items e;
  others = items m;
  front = text e;
  back = s ++ (t.front ++ t.back);
  same = refl;
  first_spelled = h;
  others_spelled = rw t.same (others_told s t.first t.others t.front t.back v t.first_spelled t.others_spelled);
  text_is = λ r. rw (t.text_is r, onto-text e (s ++ (t.front ++ (t.back ++ r)))) (simp append_assoc);
}

tells_sequence : (s : List ℕ) (m : Tree (Rest Elements)) → IsSpace s → Told m → SpellsSequence (items m) (s ++ text m)
unfolding SpellsSequence
tells_sequence s m v h = rw h.same (s, h.front, h.back, v, h.first_spelled, h.others_spelled, rw (h.text_is []) (simp append-nil))

pub tells : {s : Rule} (w : Tree s) → Tested w → Tells s w
unfolding Tested onto items Spells SpellsSequence SpellsOne
tells (NumberTree x i) v = ((number_texts x).1 v, simp append-nil)
tells (FloatTree f i) v = simp append-nil
tells (NamedTree b) v = append-nil (named_text b)
tells (EnclosedTree l w) v = tells_enclosed l w v.0 (tells w v.1)
tells (ListTree k w) v = tells w v
tells (StringTree w) v = tells w v
tells (StreamTree ms m) v = tells_stream ms m ((mandatory_texts ms).1 v.0) (tells m v.1)
tells (LiteralTree x i) v = ((literal_test x).1 v, simp append-nil)
tells (EllipsisTree x) v = ((ellipsis_test x).1 v, simp append-nil)
tells (EmbeddedTree w i) v = tells_embedded w i (tells w v)
tells (LastPieceTree p) v = tells p v
tells (PlusTree p s t w) v = (text p, s, t, text w, tells p v.0, (optional_texts s).1 v.1, (optional_texts t).1 v.2, tells w v.3, onto-text p _)
tells (ElementTree w) v = tells w v
tells (PairTree a s t b) v = (text a, s, t, text b, tells a v.0, (optional_texts s).1 v.1, (optional_texts t).1 v.2, tells b v.3, onto-text a _)
tells (ChunkTree w) v = tells w v
tells (EmptyTree i s) v = (s, (optional_texts s).1 v, refl)
tells (FullTree {k = k} h s m) v = tells_full k h s m v.0 ((optional_texts s).1 v.1) (tells m v.2)
tells (LastTree {k = k} e s) v = tells_last k e s ((at_end_texts s).1 v.1) (tells e v.0)
tells (MoreTree {k = k} e s m) v = tells_more k e s m ((separating_texts s).1 v.1) (tells e v.0) (tells m v.2)
tells (NothingTree s) v = rw append-nil ((optional_texts s).1 v)
tells (SequenceTree s m) v = tells_sequence s m ((optional_texts s).1 v.0) (tells m v.1)
tells (StandaloneTree s w t) v = (s, text w, t, (optional_texts s).1 v.0, tells w v.1, (optional_texts t).1 v.2, ap (s ++◌) (onto-text w _ ∙ ap (text w ++◌) (append-nil t)))
