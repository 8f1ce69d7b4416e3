-- Where items mean a value, those of which some indicators are gone mean one that is the same but for its heads. Where all are gone, these
-- are the shortest.
use Rattle.std.proofs.Common.{◌≡◌, ◌⊎◌, inl, inr, ℕ, ◌+◌, ◌^◌, ◌<◌, List, [], ◌∷◌, ◌++◌, length, true, ◌&&◌, cond, Option, Some, None, refl, sym, ap, ◌∙◌, subst}
use Rattle.std.specs.Prelude.{is_none}
use mathlib.Core.Logic.{⊎_elim}
use Rattle.cbor_edn_parts.specs.internal.NumberReading.{integer_of}
use Rattle.cbor_edn_parts.specs.declared.base.indicator.Indicator.{Indicator}
use Rattle.cbor_edn_parts.specs.declared.string.StringKind.{StringKind}
use Rattle.cbor_edn_model.specs.declared.cbor.heads.Width.{Width}
use Rattle.cbor_edn_model.specs.tree.Items as kind
use Rattle.cbor_edn_model.specs.tree.Items.{Row, Elements, Pairs, Strings, Bracketed, Array, Map, entries_of, Sort, Item, Piece, Pieces, Entry, Entries, Node}
use Rattle.cbor_edn_model.specs.cbor.Value as values
use Rattle.cbor_edn_model.specs.cbor.Value.{Value, chunks, array, cbor_map, tag, values_len, pairs_len}
use Rattle.cbor_edn_model.specs.cbor.Meaning as meaning
use Rattle.cbor_edn_model.specs.cbor.Meaning.{◌>>=◌, shortest, width_of, length_of, means_integer, means_float, named_number, means_simple, piece_indicator, have_no_indicators, pieces_indicator, chunk_of, string_of, same_kind, chunks_of, stream_of, MeaningOf, EntryOf, RowOf, row_len, listed, no_entries, one_more, means}
use Rattle.cbor_edn_model.specs.layout.Fewer as fewer
use Rattle.cbor_edn_model.specs.layout.Fewer.{IndicatorsBecome, number, float, named, simple, string, stream, literal, ellipsis, embedded, last_piece, plus, element, pair, chunk, end, then, StaysOrGoes, FewerMean}
use Rattle.cbor_edn_model.specs.layout.Plain.{concatenated, plain, plain_values, plain_pairs, ChunksAreShort, IsShort, AreShort, PairsAreShort}
use Rattle.cbor_edn_model.specs.layout.Plain as plains
use Rattle.cbor_edn_model.specs.layout.BareLaws.{BareMeans}
use Rattle.cbor_edn_model.proofs.lemmas.cbor.MeaningSteps.{bind, both_steps, some_if, some_is, if_both}
use Rattle.cbor_edn_model.proofs.lemmas.cbor.Meanings.{if_content, stream_value}
use Rattle.cbor_edn_model.proofs.lemmas.layout.BareParts.{width_below, width_none, length_none, BareValue, BareChunk, integer_bare, float_bare, simple_value_bare, chunk_bare, string_bare}
use Rattle.cbor_edn_model.proofs.lemmas.layout.Countings.{Counted, MeaningCounted, RowCounted, listed_counted, more_counted, counted, all_counted}
use Rattle.cbor_edn_model.proofs.lemmas.layout.FewestIndicators.{Goes, bare_goes}

abbrev pair_of : Value → Value → Value × Value
pair_of x y = (x, y)

two_steps : {A B C : Type 0} (o : Option A) (p : Option B) (f : A → B → C) (x : A) (y : B) → o ≡ Some x → p ≡ Some y → bind o (λ a. bind p (λ b. Some (f a b))) ≡ Some (f x y)
two_steps o p f x y e g = ap (λ o. bind o (λ a. bind p (λ b. Some (f a b)))) e ∙ ap (λ p. bind p (λ b. Some (f x b))) g

-- R says what may become of an indicator, and P that none may stay.
module _ (R : Option Indicator → Option Indicator → Type 0) (P : Type 0) (left : (i j : Option Indicator) → R i j → (j ≡ None) ⊎ ((j ≡ i) × (P → ⊥))) where
  -- it goes, or it stays
  abbrev Left : Option Indicator → Option Indicator → Type 0
  Left i j = (j ≡ None) ⊎ ((j ≡ i) × (P → ⊥))

  -- ---- what is kept of a meaning

  abbrev Same : Value → Value → Type 0
  Same w v = (plain w ≡ plain v) × (P → IsShort w)

  abbrev SameChunk : StringKind × values.Chunk → StringKind × values.Chunk → Type 0
  SameChunk p q = (p.0 ≡ q.0) × (p.1.1 ≡ q.1.1) × (P → p.1.0 ≡ shortest (length p.1.1))

  abbrev SameChunks : List (StringKind × values.Chunk) → List (StringKind × values.Chunk) → Type 0
  SameChunks [] [] = Unit {0}
  SameChunks (p ∷ ps) (q ∷ qs) = SameChunk p q × SameChunks ps qs
  SameChunks _ _ = ⊥

  abbrev SameEntry : (k : Row) → EntryOf k → EntryOf k → Type 0
  SameEntry Elements w v = Same w v
  SameEntry Pairs p q = Same p.0 q.0 × Same p.1 q.1
  SameEntry Strings p q = SameChunk p q

  abbrev SameRow : (k : Row) → RowOf k → RowOf k → Type 0
  SameRow Elements ws vs = (plain_values ws ≡ plain_values vs) × (P → AreShort ws) × (values_len ws ≡ values_len vs)
  SameRow Pairs ps qs = (plain_pairs ps ≡ plain_pairs qs) × (P → PairsAreShort ps) × (pairs_len ps ≡ pairs_len qs)
  SameRow Strings ps qs = SameChunks ps qs

  abbrev Kept : (s : Sort) → MeaningOf s → MeaningOf s → Type 0
  Kept Item w v = Same w v
  Kept Piece c d = c ≡ d
  Kept Pieces c d = c ≡ d
  Kept (Entry k) x y = SameEntry k x y
  Kept (Entries k) r t = SameRow k r t

  -- what is meant now
  abbrev Still : (s : Sort) → Option (MeaningOf s) → MeaningOf s → Type 0
  Still s o v = (w : MeaningOf s) × (o ≡ Some w) × Kept s w v

  abbrev StillValue : Option Value → Value → Type 0
  StillValue o v = (w : Value) × (o ≡ Some w) × Same w v

  abbrev StillChunk : Option (StringKind × values.Chunk) → StringKind × values.Chunk → Type 0
  StillChunk o p = (q : StringKind × values.Chunk) × (o ≡ Some q) × SameChunk q p

  -- ---- numbers and strings

  leaf : (f : Option Indicator → Option Value) (i j : Option Indicator) (v : Value) → Left i j → f i ≡ Some v → BareValue (f None) v → StillValue (f j) v
  leaf f i j v l e b =
      ⊎_elim (λ none. (b.0, ap f none ∙ b.1, (b.2, λ p. b.3))) (λ (same, not). (v, ap f same ∙ e, (refl, λ p. absurd (not p)))) l

  leaf_chunk : (f : Option Indicator → Option (StringKind × values.Chunk)) (i j : Option Indicator) (q : StringKind × values.Chunk) → Left i j → f i ≡ Some q → BareChunk (f None) q → StillChunk (f j) q
  leaf_chunk f i j q l e b =
      ⊎_elim (λ none. (b.0, ap f none ∙ b.1, (b.2, b.3, λ p. b.4))) (λ (same, not). (q, ap f same ∙ e, (refl, refl, λ p. absurd (not p)))) l

  width_left : (i j : Option Indicator) (n : ℕ) (w : Width) → Left i j → width_of i n ≡ Some w → (u : Width) × (width_of j n ≡ Some u) × (P → u ≡ shortest n)
  width_left i j n w l e =
      ⊎_elim
      (λ none. (shortest n, ap (λ j. width_of j n) none ∙ width_none n (width_below i w n e), λ p. refl))
      (λ (same, not). (w, ap (λ j. width_of j n) same ∙ e, λ p. absurd (not p)))
      l

  length_left : (i j : Option Indicator) (n : ℕ) (o : Option Width) → Left i j → n < 2 ^ 64 → length_of i n ≡ Some o → (q : Option Width) × (length_of j n ≡ Some q) × (P → q ≡ Some (shortest n))
  length_left i j n o l lt e =
      ⊎_elim
      (λ none. (Some (shortest n), ap (λ j. length_of j n) none ∙ length_none n lt, λ p. refl))
      (λ (same, not). (o, ap (λ j. length_of j n) same ∙ e, λ p. absurd (not p)))
      l

  left_none : (i j : Option Indicator) → Left i j → is_none i ≡ true → is_none j ≡ true
  left_none i j l e = ⊎_elim (λ none. ap is_none none) (λ (same, not). ap is_none same ∙ e) l

  piece_left : {p q : Node Piece} → IndicatorsBecome R Piece p q → Left (piece_indicator p) (piece_indicator q)
  piece_left (literal {i = i} {j = j} r) = left i j r
  piece_left ellipsis = inl refl
  piece_left (embedded {i = i} {j = j} r) = left i j r

  no_indicators_left : {w v : Node Pieces} → IndicatorsBecome R Pieces w v → have_no_indicators w ≡ true → have_no_indicators v ≡ true
  no_indicators_left (last_piece {p = p} {q = q} r) e = left_none (piece_indicator p) (piece_indicator q) (piece_left r) e
  no_indicators_left (plus {p = p} {q = q} {w = w} {v = v} r s) e =
      let b = if_both (is_none (piece_indicator p)) (have_no_indicators w) e in
      ap (◌&& have_no_indicators v) (left_none (piece_indicator p) (piece_indicator q) (piece_left r) b.0) ∙ no_indicators_left s b.1

  indicator_left : {w v : Node Pieces} (i : Option Indicator) → IndicatorsBecome R Pieces w v → pieces_indicator w ≡ Some i → (j : Option Indicator) × (pieces_indicator v ≡ Some j) × Left i j
  indicator_left i (last_piece {p = p} {q = q} r) e = (piece_indicator q, refl, subst (λ i. Left i (piece_indicator q)) (some_is (piece_indicator p) i e) (piece_left r))
  indicator_left i (plus {p = p} {q = q} {w = w} {v = v} r s) e =
      let b = some_if (have_no_indicators (kind.Plus p w)) None i e in
      let h : have_no_indicators (kind.Plus q v) ≡ true = no_indicators_left (plus r s) b.0 in
      (None, ap (λ b. cond b (Some None) None) h, inl refl)

  -- ---- streams

  abbrev StillChunks : Option (List values.Chunk) → List values.Chunk → Type 0
  StillChunks o cs = (ds : List values.Chunk) × (o ≡ Some ds) × (concatenated ds ≡ concatenated cs) × (P → ChunksAreShort ds)

  chunks_left : (k : StringKind) (ps qs : List (StringKind × values.Chunk)) (cs : List values.Chunk) → SameChunks ps qs → chunks_of k qs ≡ Some cs → StillChunks (chunks_of k ps) cs
  chunks_left k [] [] cs s e = ([], refl, ap concatenated (some_is [] cs e), λ p. tt)
  chunks_left k [] (q ∷ qs) cs s e = absurd s
  chunks_left k (p ∷ ps) [] cs s e = absurd s
  chunks_left k (p ∷ ps) (q ∷ qs) cs s e =
      let a = if_content (same_kind k q.0) (chunks_of k qs >>= λ cs. Some (q.1 ∷ cs)) cs e in
      let b = both_steps (chunks_of k qs) (λ cs. Some (q.1 ∷ cs)) cs a.1 in
      let ih : StillChunks (chunks_of k ps) b.0 = chunks_left k ps qs b.0 s.1 b.1 in (
        p.1 ∷ ih.0,
        ap (λ b. cond b (bind (chunks_of k ps) (λ cs. Some (p.1 ∷ cs))) None) (ap (same_kind k) s.0.0 ∙ a.0) ∙ ap (λ o. bind o (λ cs. Some (p.1 ∷ cs))) ih.1,
        ap (λ x. x ++ concatenated ih.0) s.0.1 ∙ (ap (λ y. q.1.1 ++ y) ih.2 ∙ ap concatenated (some_is (q.1 ∷ b.0) cs b.2)),
        λ p. (s.0.2 p, ih.3 p),
      )

  stream_left : (ps qs : List (StringKind × values.Chunk)) (v : Value) → SameChunks ps qs → stream_of qs ≡ Some v → StillValue (stream_of ps) v
  stream_left [] [] v s e = absurd cc
  stream_left [] (q ∷ qs) v s e = absurd s
  stream_left (p ∷ ps) [] v s e = absurd s
  stream_left (p ∷ ps) (q ∷ qs) v s e =
      let a = both_steps (chunks_of q.0 (q ∷ qs)) (stream_value q.0) v e in
      let c : StillChunks (chunks_of q.0 (p ∷ ps)) a.0 = chunks_left q.0 (p ∷ ps) (q ∷ qs) a.0 s a.1 in (
        chunks q.0 c.0,
        ap (λ k. bind (chunks_of k (p ∷ ps)) (stream_value k)) s.0.0 ∙ ap (λ o. bind o (stream_value q.0)) c.1,
        (ap (plains.string q.0) c.2 ∙ ap plain (some_is (chunks q.0 a.0) v a.2), c.3),
      )

  -- ---- lists

  listed_left : (k : Bracketed) (i j : Option Indicator) (r t : RowOf (entries_of k)) (v : Value) → Left i j → SameRow (entries_of k) r t → row_len (entries_of k) t < 2 ^ 64 → listed k i t ≡ Some v → StillValue (listed k j r) v
  listed_left Array i j ws vs v l s lt e =
      let b = both_steps (length_of i (values_len vs)) (λ w. Some (array w vs)) v e in
      let q = length_left i j (values_len ws) b.0 l (subst (λ n. n < 2 ^ 64) (sym s.2) lt) (ap (length_of i) s.2 ∙ b.1) in (
        array q.0 ws,
        ap (λ o. bind o (λ w. Some (array w ws))) q.1,
        (ap plains.array s.0 ∙ ap plain (some_is (array b.0 vs) v b.2), λ p. (q.2 p, s.1 p)),
      )
  listed_left Map i j ps qs v l s lt e =
      let b = both_steps (length_of i (pairs_len qs)) (λ w. Some (cbor_map w qs)) v e in
      let q = length_left i j (pairs_len ps) b.0 l (subst (λ n. n < 2 ^ 64) (sym s.2) lt) (ap (length_of i) s.2 ∙ b.1) in (
        cbor_map q.0 ps,
        ap (λ o. bind o (λ w. Some (cbor_map w ps))) q.1,
        (ap plains.cbor_map s.0 ∙ ap plain (some_is (cbor_map b.0 qs) v b.2), λ p. (q.2 p, s.1 p)),
      )

  none_same : (k : Row) → SameRow k (no_entries k) (no_entries k)
  none_same Elements = (refl, λ p. tt, refl)
  none_same Pairs = (refl, λ p. tt, refl)
  none_same Strings = tt

  more_same : (k : Row) (x y : EntryOf k) (r t : RowOf k) → SameEntry k x y → SameRow k r t → SameRow k (one_more k x r) (one_more k y t)
  more_same Elements w v ws vs e s = (ap (λ p. plains.one_plain p (plain_values ws)) e.0 ∙ ap (plains.one_plain (plain v)) s.0, λ p. (e.1 p, s.1 p), ap (λ n. n + 1) s.2)
  more_same Pairs p q ps qs e s = (
    ap (λ k. plains.plain_pair k (plain p.1) (plain_pairs ps)) e.0.0 ∙ (ap (λ v. plains.plain_pair (plain q.0) v (plain_pairs ps)) e.1.0 ∙ ap (plains.plain_pair (plain q.0) (plain q.1)) s.0),
    λ p. (e.0.1 p, e.1.1 p, s.1 p),
    ap (λ n. n + 1) s.2,
  )
  more_same Strings p q ps qs e s = (e, s)

  -- ---- items

  still_means : {s : Sort} {x y : Node s} → IndicatorsBecome R s x y → (v : MeaningOf s) → MeaningCounted s v → means x ≡ Some v → Still s (means y) v
  unfolding means
  still_means (number {x = x} {i = i} {j = j} r) v c e =
      let b = both_steps (integer_of x) (means_integer i) v e in
      let t : StillValue (means_integer j b.0) v = leaf (λ i. means_integer i b.0) i j v (left i j r) b.2 (integer_bare i b.0 v b.2) in
      (t.0, ap (λ o. bind o (means_integer j)) b.1 ∙ t.1, t.2)
  still_means (float {f = f} {i = i} {j = j} r) v c e = leaf (λ i. means_float i f) i j v (left i j r) e (float_bare i f v e)
  still_means (fewer.tagged {n = n} {i = i} {j = j} {w = w} {v = u} r s) v c e =
      let a = both_steps (width_of i n) (λ d. means w >>= λ x. Some (tag d n x)) v e in
      let b = both_steps (means w) (λ x. Some (tag a.0 n x)) v a.2 in
      let is : tag a.0 n b.0 ≡ v = some_is (tag a.0 n b.0) v b.2 in
      let ih : Still Item (means u) b.0 = still_means s b.0 (subst Counted (sym is) c) b.1 in
      let d = width_left i j n a.0 (left i j r) a.1 in
      (tag d.0 n ih.0, two_steps (width_of j n) (means u) (λ d x. tag d n x) d.0 ih.0 d.1 ih.1, (ap (plains.tag n) ih.2.0 ∙ ap plain is, λ p. (d.2 p, ih.2.1 p)))
  still_means (named {b = b}) v c e = (v, e, (refl, λ p. subst IsShort (some_is (values.simple (named_number b)) v e) tt))
  still_means (simple {w = kind.Number x i} (number {j = j} r)) v c e = leaf (λ i. means_simple (kind.Number x i)) i j v (left i j r) e (simple_value_bare x i v e)
  still_means (simple (float r)) v c e = absurd cc
  still_means (simple (fewer.listed r s)) v c e = absurd cc
  still_means (simple (fewer.tagged r s)) v c e = absurd cc
  still_means (simple named) v c e = absurd cc
  still_means (simple (simple r)) v c e = absurd cc
  still_means (simple (string r)) v c e = absurd cc
  still_means (simple (stream r)) v c e = absurd cc
  still_means (fewer.listed {k = k} {i = i} {j = j} {m = m} {n = n} r s) v c e =
      let b = both_steps (means m) (listed k i) v e in
      let l = listed_counted k i b.0 v b.2 c in
      let ih : Still (Entries (entries_of k)) (means n) b.0 = still_means s b.0 l.1 b.1 in
      let t : StillValue (listed k j ih.0) v = listed_left k i j ih.0 b.0 v (left i j r) ih.2 l.0 b.2 in
      (t.0, ap (λ o. bind o (listed k j)) ih.1 ∙ t.1, t.2)
  still_means (string {w = w} {v = u} s) v c e =
      let a = both_steps (means w) (λ c. pieces_indicator w >>= string_of c) v e in
      let b = both_steps (pieces_indicator w) (string_of a.0) v a.2 in
      let ih : Still Pieces (means u) a.0 = still_means s a.0 tt a.1 in
      let m = indicator_left b.0 s b.1 in
      let t : StillValue (string_of a.0 m.0) v = leaf (string_of a.0) b.0 m.0 v m.2 b.2 (string_bare a.0 b.0 v b.2) in
      (t.0, ap (λ o. bind o (λ c. bind (pieces_indicator u) (string_of c))) (ih.1 ∙ ap Some ih.2) ∙ (ap (λ o. bind o (string_of a.0)) m.1 ∙ t.1), t.2)
  still_means (stream {m = m} {n = n} s) v c e =
      let b = both_steps (means m) stream_of v e in
      let ih : Still (Entries Strings) (means n) b.0 = still_means s b.0 tt b.1 in
      let t : StillValue (stream_of ih.0) v = stream_left ih.0 b.0 v ih.2 b.2 in
      (t.0, ap (λ o. bind o stream_of) ih.1 ∙ t.1, t.2)
  still_means (literal r) v c e = (v, e, refl)
  still_means ellipsis v c e = absurd cc
  still_means (embedded r) v c e = (v, e, refl)
  still_means (last_piece s) v c e = still_means s v tt e
  still_means (plus {p = p} {q = q} {w = w} {v = u} r s) v c e =
      let a = both_steps (means p) (λ c. means w >>= λ d. Some (meaning.joined c d)) v e in
      let b = both_steps (means w) (λ d. Some (meaning.joined a.0 d)) v a.2 in
      let first : Still Piece (means q) a.0 = still_means r a.0 tt a.1 in
      let others : Still Pieces (means u) b.0 = still_means s b.0 tt b.1 in
      (v, two_steps (means q) (means u) meaning.joined a.0 b.0 (first.1 ∙ ap Some first.2) (others.1 ∙ ap Some others.2) ∙ b.2, refl)
  still_means (element s) v c e = still_means s v c e
  still_means (pair {a = x} {b = y} {w = w} {v = u} r s) v c e =
      let a = both_steps (means x) (λ p. means w >>= λ q. Some (p, q)) v e in
      let b = both_steps (means w) (λ q. Some (a.0, q)) v a.2 in
      let is : (a.0, b.0) ≡ v = some_is (a.0, b.0) v b.2 in
      let counted : Counted a.0 × Counted b.0 = subst (λ (p : Value × Value). Counted p.0 × Counted p.1) (sym is) c in
      let first : Still Item (means y) a.0 = still_means r a.0 counted.0 a.1 in
      let second : Still Item (means u) b.0 = still_means s b.0 counted.1 b.1 in (
        (first.0, second.0),
        two_steps (means y) (means u) pair_of first.0 second.0 first.1 second.1,
        subst (λ (p : Value × Value). SameEntry Pairs (first.0, second.0) p) is (first.2, second.2),
      )
  still_means (chunk {w = w} {v = u} s) v c e =
      let a = both_steps (means w) (λ c. pieces_indicator w >>= chunk_of c) v e in
      let b = both_steps (pieces_indicator w) (chunk_of a.0) v a.2 in
      let ih : Still Pieces (means u) a.0 = still_means s a.0 tt a.1 in
      let m = indicator_left b.0 s b.1 in
      let t : StillChunk (chunk_of a.0 m.0) v = leaf_chunk (chunk_of a.0) b.0 m.0 v m.2 b.2 (chunk_bare a.0.0 a.0.1 b.0 v b.2) in
      (t.0, ap (λ o. bind o (λ c. bind (pieces_indicator u) (chunk_of c))) (ih.1 ∙ ap Some ih.2) ∙ (ap (λ o. bind o (chunk_of a.0)) m.1 ∙ t.1), t.2)
  still_means (end {k = k}) v c e = (no_entries k, refl, subst (SameRow k (no_entries k)) (some_is (no_entries k) v e) (none_same k))
  still_means (then {k = k} {e = f} {f = g} {m = m} {n = n} r s) v c e =
      let a = both_steps (means f) (λ x. means m >>= λ xs. Some (one_more k x xs)) v e in
      let b = both_steps (means m) (λ xs. Some (one_more k a.0 xs)) v a.2 in
      let is : one_more k a.0 b.0 ≡ v = some_is (one_more k a.0 b.0) v b.2 in
      let counted = more_counted k a.0 b.0 (subst (RowCounted k) (sym is) c) in
      let first : Still (Entry k) (means g) a.0 = still_means r a.0 counted.0 a.1 in
      let others : Still (Entries k) (means n) b.0 = still_means s b.0 counted.1 b.1 in (
        one_more k first.0 others.0,
        two_steps (means g) (means n) (one_more k) first.0 others.0 first.1 others.1,
        subst (SameRow k (one_more k first.0 others.0)) is (more_same k first.0 a.0 others.0 b.0 first.2 others.2),
      )

all_gone : (i j : Option Indicator) → Goes i j → (j ≡ None) ⊎ ((j ≡ i) × (Unit {0} → ⊥))
all_gone i j e = inl e

some_gone : (i j : Option Indicator) → StaysOrGoes i j → (j ≡ None) ⊎ ((j ≡ i) × (⊥ → ⊥))
some_gone i j r = ⊎_elim (λ e. inr (e, λ p. p)) (λ e. inl e) r

pub bare_items_mean : BareMeans
bare_items_mean = (
  λ x v lt e. let r = still_means Goes (Unit {0}) all_gone (bare_goes x) v (counted v lt) e in (r.0, r.1, r.2.0, r.2.1 tt),
  λ x vs lt e. let r = still_means Goes (Unit {0}) all_gone (bare_goes x) vs (all_counted vs lt) e in (r.0, r.1, r.2.0, r.2.1 tt),
)

pub fewer_mean : FewerMean
fewer_mean = (
  λ x y v lt f e. let r = still_means StaysOrGoes ⊥ some_gone f v (counted v lt) e in (r.0, r.1, r.2.0),
  λ x y vs lt f e. let r = still_means StaysOrGoes ⊥ some_gone f vs (all_counted vs lt) e in (r.0, r.1, r.2.0),
)
