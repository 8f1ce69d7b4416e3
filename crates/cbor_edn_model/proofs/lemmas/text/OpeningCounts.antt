-- The openings of a text are at least those of what it ends with.
use Rattle.std.proofs.Common.{ℕ, suc, List, [], ◌∷◌, ◌++◌, ◌≤◌, ◌+◌, arith}
use Rattle.std.specs.Prelude.{cond, eqb}
use Rattle.std.proofs.lemmas.Bool.{cond_both}
use Rattle.cbor_edn_parts.specs.base.Indicator.{indicator_text}
use Rattle.cbor_edn_model.specs.text.Spelling.{open_byte, close_byte}
use Rattle.cbor_edn_model.specs.tree.Trees.{Rule, list_head_text, opener_text, Tree, NumberTree, FloatTree, NamedTree, EnclosedTree, ListTree, StringTree, StreamTree, LiteralTree, EllipsisTree, EmbeddedTree, LastPieceTree, PlusTree, ElementTree, PairTree, ChunkTree, EmptyTree, FullTree, LastTree, MoreTree, NothingTree, SequenceTree, StandaloneTree, onto}
use Rattle.cbor_edn_model.specs.text.Keywords.{named_text, non_finite_text}
use Rattle.cbor_edn_model.specs.text.Openings.{is_opening, openings, openings_behind}

-- Behind a `<` a text has as many openings, or one more.
lone : (xs : List ℕ) → (openings xs ≤ openings_behind xs) × (openings_behind xs ≤ suc (openings xs))
lone [] = (omega arith, omega arith)
lone (c ∷ cs) = let h = lone cs in (
  cond_both (eqb c 60) (openings_behind cs) (cond (is_opening c) 1 0 + openings cs) (λ n. n ≤ openings_behind (c ∷ cs)) (λ e. rw e (omega arith)) (λ e. rw e (omega arith)),
  cond_both (eqb c 60) (suc (openings cs)) (cond (is_opening c) 1 0 + openings cs) (λ n. n ≤ suc (openings (c ∷ cs))) (λ e. rw e (omega arith)) (λ e. rw e (omega arith)),
)

pub openings_next : (c : ℕ) (xs : List ℕ) → openings xs ≤ openings (c ∷ xs)
openings_next c xs = let h = lone xs in cond_both (eqb c 60) (openings_behind xs) (cond (is_opening c) 1 0 + openings xs) (λ n. openings xs ≤ n) (λ e. omega arith) (λ e. omega arith)

pub openings_end : (x r : List ℕ) → openings r ≤ openings (x ++ r)
openings_end [] r = omega arith
openings_end (c ∷ x) r = let h = openings_end x r in let k = openings_next c (x ++ r) in omega arith

openings_text : (x y r : List ℕ) → openings r ≤ openings (x ++ (y ++ r))
openings_text x y r = omega (arith, openings_end y r, openings_end x (y ++ r))

-- behind a plus sign or a colon between spaces
pub openings_between : (s : List ℕ) (c : ℕ) (t r : List ℕ) → openings r ≤ openings (s ++ (c ∷ (t ++ r)))
openings_between s c t r = omega (arith, openings_end t r, openings_next c (t ++ r), openings_end s (c ∷ (t ++ r)))

pub openings_onto : {s : Rule} (w : Tree s) (r : List ℕ) → openings r ≤ openings (onto w r)
unfolding onto
openings_onto (NumberTree x i) r = openings_text x (indicator_text i) r
openings_onto (FloatTree f i) r = openings_text (non_finite_text f) (indicator_text i) r
openings_onto (NamedTree b) r = openings_end (named_text b) r
openings_onto (EnclosedTree l w) r = omega (arith, openings_next 41 r, openings_onto w (41 ∷ r), openings_next 40 (onto w (41 ∷ r)), openings_end (opener_text l) (40 ∷ onto w (41 ∷ r)))
openings_onto (ListTree k w) r = omega (arith, openings_next (close_byte k) r, openings_onto w (close_byte k ∷ r), openings_next (open_byte k) (onto w (close_byte k ∷ r)))
openings_onto (StringTree w) r = openings_onto w r
openings_onto (StreamTree ms m) r = omega (arith, openings_next 41 r, openings_onto m (41 ∷ r), openings_end ms (onto m (41 ∷ r)), openings_next 95 (ms ++ onto m (41 ∷ r)), openings_next 40 (95 ∷ (ms ++ onto m (41 ∷ r))))
openings_onto (LiteralTree x i) r = openings_text x (indicator_text i) r
openings_onto (EllipsisTree x) r = openings_end x r
openings_onto (EmbeddedTree w i) r = omega (arith, openings_text (62 ∷ 62 ∷ []) (indicator_text i) r, openings_onto w (62 ∷ 62 ∷ (indicator_text i ++ r)), openings_end (60 ∷ 60 ∷ []) (onto w (62 ∷ 62 ∷ (indicator_text i ++ r))))
openings_onto (LastPieceTree p) r = openings_onto p r
openings_onto (PlusTree p s t w) r = omega (arith, openings_onto w r, openings_between s 43 t (onto w r), openings_onto p (s ++ (43 ∷ (t ++ onto w r))))
openings_onto (ElementTree w) r = openings_onto w r
openings_onto (PairTree v s t w) r = omega (arith, openings_onto w r, openings_between s 58 t (onto w r), openings_onto v (s ++ (58 ∷ (t ++ onto w r))))
openings_onto (ChunkTree w) r = openings_onto w r
openings_onto (EmptyTree i s) r = omega (arith, openings_end s r, openings_end (indicator_text i) (s ++ r))
openings_onto (FullTree h s m) r = omega (arith, openings_onto m r, openings_end s (onto m r), openings_end (list_head_text h) (s ++ onto m r))
openings_onto (LastTree e s) r = omega (arith, openings_end s r, openings_onto e (s ++ r))
openings_onto (MoreTree e s m) r = omega (arith, openings_onto m r, openings_end s (onto m r), openings_onto e (s ++ onto m r))
openings_onto (NothingTree s) r = openings_end s r
openings_onto (SequenceTree s m) r = omega (arith, openings_onto m r, openings_end s (onto m r))
openings_onto (StandaloneTree s w t) r = omega (arith, openings_end t r, openings_onto w (t ++ r), openings_end s (onto w (t ++ r)))
