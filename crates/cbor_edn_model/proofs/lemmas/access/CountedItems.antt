-- Where items stand that are counted over parts: over the entries of a row, or over the items of each.
use Rattle.std.proofs.Common.{◌≡◌, ℕ, zero, suc, ◌+◌, ◌-◌, ◌*◌, ◌<◌, ◌≤◌, List, [], ◌∷◌, ◌++◌, length, map, Some, None, refl, sym, ap, ◌∙◌, subst, arith, append_assoc, mul-suc, mul-zero}
use Rattle.std.specs.Prelude.{slice_get, option_map, get_or}
use Rattle.std.specs.List.{flat_map}
use Rattle.std.proofs.lemmas.Bool.{lt-ltb, le-ltb}
use Rattle.std.proofs.lemmas.List.{length-append, length-map}
use Rattle.std.proofs.lemmas.Option.{slice_get-map, slice_get_read}
use Rattle.cbor_edn_model.specs.access.Accessed.{entries, element, key_and_value}
use Rattle.cbor_edn_model.specs.tree.Items.{Row, Elements, Pairs}
use Rattle.cbor_edn_model.specs.access.Paths.{items_in, with_item}
use Rattle.cbor_edn_model.specs.tree.Rows.{entries_onto, pieces_onto}
use Rattle.cbor_edn_model.specs.tree.Trees.{Tree, OneItem, OnePiece, OneString, OneEntry, Rest, LastTree, MoreTree, PlusTree, ElementTree, PairTree}
use Rattle.cbor_edn_model.specs.internal.Counted.{past_of, first, IsCounted}
use Rattle.std.proofs.Common.{Bool, true, false}
use Rattle.std.specs.Prelude.{ltb, set, if◌then◌else◌}
use Rattle.std.proofs.lemmas.Bool.{ltb-true, ltb-false}

pub get_left : {A : Type 0} (xs ys : List A) (k : ℕ) → k < length xs → slice_get (xs ++ ys) k ≡ slice_get xs k
get_left [] ys k lt = absurd (omega (arith, lt))
get_left (x ∷ xs) ys zero lt = refl
get_left (x ∷ xs) ys (suc k) lt = get_left xs ys k (omega (arith, lt))

pub get_right : {A : Type 0} (xs ys : List A) (k : ℕ) → slice_get (xs ++ ys) (length xs + k) ≡ slice_get ys k
get_right [] ys k = ap (slice_get ys) (omega arith)
get_right (x ∷ xs) ys k =
    let longer : suc (length xs) + k ≡ suc (length xs + k) = omega arith in
    ap (slice_get (x ∷ (xs ++ ys))) longer ∙ get_right xs ys k

-- what stands in a list whose last element stands apart
module _ {X Y : Type 0} (f : X → Y) where
  pub got_within : (xs : List X) (y : Y) (i : ℕ) (d : X) → i < length xs → d ≡ get_or xs i d → Some (f d) ≡ slice_get (map f xs ++ (y ∷ [])) i
  got_within [] y i d lt e = absurd (omega (arith, lt))
  got_within (x ∷ xs) y zero d lt e = ap (λ z. Some (f z)) e
  got_within (x ∷ xs) y (suc i) d lt e = got_within xs y i d (omega (arith, lt)) e

  pub got_last : (xs : List X) (y : Y) (i : ℕ) → i ≡ length xs → Some y ≡ slice_get (map f xs ++ (y ∷ [])) i
  got_last [] y zero e = refl
  got_last [] y (suc i) e = absurd (omega (arith, e))
  got_last (x ∷ xs) y zero e = absurd (omega (arith, e))
  got_last (x ∷ xs) y (suc i) e = got_last xs y i (omega (arith, e))

  pub got_past : (xs : List X) (y : Y) (i : ℕ) → length xs < i → None ≡ slice_get (map f xs ++ (y ∷ [])) i
  got_past [] y zero lt = absurd (omega (arith, lt))
  got_past [] y (suc i) lt = refl
  got_past (x ∷ xs) y zero lt = absurd (omega (arith, lt))
  got_past (x ∷ xs) y (suc i) lt = got_past xs y i (omega (arith, lt))

  pub one_more : (xs : List X) (y : Y) → length (map f xs ++ (y ∷ [])) ≡ suc (length xs)
  one_more [] y = refl
  one_more (x ∷ xs) y = ap suc (one_more xs y)

-- the number behind n parts
pub past_within : (n i : ℕ) → i < n → None ≡ past_of n i
past_within n i lt = rw (lt-ltb i n lt) refl

pub past_behind : (n i : ℕ) → n ≤ i → Some (i - n) ≡ past_of n i
past_behind n i le = rw (le-ltb i n le) refl

past_shift_by : (k n left : ℕ) (b : Bool) → ltb left n ≡ b → past_of n left ≡ past_of (k + n) (k + left)
past_shift_by k n left true e = let less = ltb-true left n e in sym (past_within n left less) ∙ past_within (k + n) (k + left) (omega (arith, less))
past_shift_by k n left false e =
    let le = ltb-false left n e in
    let same : left - n ≡ (k + left) - (k + n) = omega (arith, le) in
    sym (past_behind n left le) ∙ ap Some same ∙ past_behind (k + n) (k + left) (omega (arith, le))

past_shift : (k n left : ℕ) → past_of n left ≡ past_of (k + n) (k + left)
past_shift k n left = past_shift_by k n left _ refl

-- ---- entries of one item or two

pub element_items : (m : Tree (Rest Elements)) → items_in m ≡ map element (entries m)
element_items (LastTree (ElementTree w) s) = refl
element_items (MoreTree (ElementTree w) s m) = ap (λ r. w ∷ r) (element_items m)

twice : (k : ℕ) → 2 * suc k ≡ suc (suc (2 * k))
twice k = omega arith

pub key_items : (m : Tree (Rest Pairs)) (k : ℕ) → slice_get (items_in m) (2 * k) ≡ option_map (λ e. (key_and_value e).0) (slice_get (entries m) k)
key_items (LastTree (PairTree v s t w) e) zero = refl
key_items (LastTree (PairTree v s t w) e) (suc k) = ap (slice_get (v ∷ w ∷ [])) (twice k)
key_items (MoreTree (PairTree v s t w) e m) zero = refl
key_items (MoreTree (PairTree v s t w) e m) (suc k) = ap (slice_get (v ∷ w ∷ items_in m)) (twice k) ∙ key_items m k

pub value_items : (m : Tree (Rest Pairs)) (k : ℕ) → slice_get (items_in m) (suc (2 * k)) ≡ option_map (λ e. (key_and_value e).1) (slice_get (entries m) k)
value_items (LastTree (PairTree v s t w) e) zero = refl
value_items (LastTree (PairTree v s t w) e) (suc k) = ap (λ n. slice_get (v ∷ w ∷ []) (suc n)) (twice k)
value_items (MoreTree (PairTree v s t w) e m) zero = refl
value_items (MoreTree (PairTree v s t w) e m) (suc k) = ap (λ n. slice_get (v ∷ w ∷ items_in m) (suc n)) (twice k) ∙ value_items m k

-- ---- parts of any number of items

module _ {X : Type 0} {k : Row} (f : X → Tree (OneEntry k) × List ℕ) where
  pub row_items : (ps : List X) (m : Tree (Rest k)) → items_in (entries_onto (map f ps) m) ≡ flat_map (λ p. items_in (f p).0) ps ++ items_in m
  row_items [] m = refl
  row_items (p ∷ ps) m = ap (λ r. items_in (f p).0 ++ r) (row_items ps m) ∙ sym (append_assoc (items_in (f p).0) (flat_map (λ p. items_in (f p).0) ps) (items_in m))

module _ {X : Type 0} (f : X → Tree OnePiece × List ℕ × List ℕ) where
  pub pieces_items : (ps : List X) (w : Tree OneString) → items_in (pieces_onto (map f ps) w) ≡ flat_map (λ p. items_in (f p).0) ps ++ items_in w
  pieces_items [] w = refl
  pieces_items (p ∷ ps) w = ap (λ r. items_in (f p).0 ++ r) (pieces_items ps w) ∙ sym (append_assoc (items_in (f p).0) (flat_map (λ p. items_in (f p).0) ps) (items_in w))

module _ {X A : Type 0} (f : X → List A) where
  abbrev counts : List X → List ℕ
  counts ps = map (λ p. length (f p)) ps

  -- behind a part that is passed
  later : (q : X) (ps : List X) (i place left : ℕ) → IsCounted (counts (q ∷ ps)) i (suc place, left) → IsCounted (counts ps) (i - length (f q)) (place, left)
  later q ps i place left c = record {
    within = omega (arith, c.within);
    number = omega (arith, c.number);
    inside = λ lt n e. c.inside (omega (arith, lt)) n e;
  }

  from : (q : X) (ps : List X) (i place left : ℕ) → IsCounted (counts (q ∷ ps)) i (suc place, left) → i ≡ length (f q) + (i - length (f q))
  from q ps i place left c = omega (arith, c.number)

  pub in_part : (ps : List X) (r : List A) (i place left : ℕ) (p : X) → IsCounted (counts ps) i (place, left) → slice_get ps place ≡ Some p → slice_get (flat_map f ps ++ r) i ≡ slice_get (f p) left
  in_part [] r i place left p c e = let bad : ⊥ = cc in absurd bad
  in_part (q ∷ ps) r i zero left p c e =
      let is : i ≡ left = omega (arith, c.number) in
      let same : q ≡ p = cc in
      let inside : left < length (f q) = c.inside (omega arith) (length (f q)) refl in
      ap (slice_get ((f q ++ flat_map f ps) ++ r)) is
      ∙ ap (λ l. slice_get l left) (append_assoc (f q) (flat_map f ps) r)
      ∙ get_left (f q) (flat_map f ps ++ r) left inside
      ∙ ap (λ x. slice_get (f x) left) same
  in_part (q ∷ ps) r i (suc place) left p c e =
      ap (slice_get ((f q ++ flat_map f ps) ++ r)) (from q ps i place left c)
      ∙ ap (λ l. slice_get l (length (f q) + (i - length (f q)))) (append_assoc (f q) (flat_map f ps) r)
      ∙ get_right (f q) (flat_map f ps ++ r) (i - length (f q))
      ∙ in_part ps r (i - length (f q)) place left p (later q ps i place left c) e

  pub in_part_less : (ps : List X) (r : List A) (i place left : ℕ) → IsCounted (counts ps) i (place, left) → place < length ps → i < length (flat_map f ps ++ r)
  in_part_less [] r i place left c lt = absurd (omega (arith, lt))
  in_part_less (q ∷ ps) r i zero left c lt =
      let inside : left < length (f q) = c.inside (omega arith) (length (f q)) refl in
      omega (arith, c.number, inside, length-append (f q ++ flat_map f ps) r, length-append (f q) (flat_map f ps))
  in_part_less (q ∷ ps) r i (suc place) left c lt =
      let less : i - length (f q) < length (flat_map f ps ++ r) = in_part_less ps r (i - length (f q)) place left (later q ps i place left c) (omega (arith, lt)) in
      omega (arith, from q ps i place left c, less, length-append (f q ++ flat_map f ps) r, length-append (f q) (flat_map f ps), length-append (flat_map f ps) r)

  -- behind all these parts
  at_rest : (ps : List X) (i place left : ℕ) → IsCounted (counts ps) i (place, left) → length ps ≤ place → i ≡ length (flat_map f ps) + left
  at_rest [] i zero left c le = omega (arith, c.number)
  at_rest [] i (suc place) left c le = absurd (omega (arith, c.within))
  at_rest (q ∷ ps) i zero left c le = absurd (omega (arith, le))
  at_rest (q ∷ ps) i (suc place) left c le =
      let rest : i - length (f q) ≡ length (flat_map f ps) + left = at_rest ps (i - length (f q)) place left (later q ps i place left c) (omega (arith, le)) in
      omega (arith, from q ps i place left c, rest, length-append (f q) (flat_map f ps))

  pub in_rest : (ps : List X) (r : List A) (i place left : ℕ) → IsCounted (counts ps) i (place, left) → length ps ≤ place → slice_get (flat_map f ps ++ r) i ≡ slice_get r left
  in_rest ps r i place left c le = ap (slice_get (flat_map f ps ++ r)) (at_rest ps i place left c le) ∙ get_right (flat_map f ps) r left

  pub past_rest : (ps : List X) (r : List A) (i place left : ℕ) → IsCounted (counts ps) i (place, left) → length ps ≤ place → past_of (length r) left ≡ past_of (length (flat_map f ps ++ r)) i
  past_rest ps r i place left c le =
      past_shift (length (flat_map f ps)) (length r) left
      ∙ (λ d. past_of (sym (length-append (flat_map f ps) r) d) (sym (at_rest ps i place left c le) d))

-- ---- the part of an item is looked for from the front

module _ (n left : ℕ) where
  left_of : (b : Bool) → ltb left n ≡ b → (rest : ℕ) → Some rest ≡ past_of n left → left ≡ n + rest
  left_of true e rest is = let none : Some rest ≡ None = rw e at is in let bad : ⊥ = cc in absurd bad
  left_of false e rest is =
      let le : n ≤ left = ltb-false left n e in
      let same : Some rest ≡ Some (left - n) = rw e at is in
      let equal : rest ≡ left - n = cc in
      omega (arith, le, equal)

  within_of : (b : Bool) → ltb left n ≡ b → None ≡ past_of n left → left < n
  within_of true e is = ltb-true left n e
  within_of false e is = let none : None ≡ Some (left - n) = rw e at is in let bad : ⊥ = cc in absurd bad

one_further : (counts : List ℕ) (place n : ℕ) → slice_get counts place ≡ Some n → first (suc place) counts ≡ first place counts + n
one_further [] place n e = let bad : ⊥ = cc in absurd bad
one_further (m ∷ counts) zero n e =
    let same : m ≡ n = cc in
    omega (arith, same)
one_further (m ∷ counts) (suc place) n e = ap (λ k. m + k) (one_further counts place n e) ∙ omega arith

module _ {X : Type 0} (count : X → ℕ) (xs : List X) (i place left : ℕ) (x : X) (lt : place < length xs) (is : x ≡ get_or xs place x) (number : i ≡ first place (map count xs) + left) where
  there : slice_get (map count xs) place ≡ Some (count x)
  there = slice_get-map count xs place ∙ ap (option_map count) (slice_get_read xs (length xs) place x refl lt is)

  pub further : (rest : ℕ) → Some rest ≡ past_of (count x) left → (place + 1 ≤ length xs) × (i ≡ first (place + 1) (map count xs) + rest)
  further rest passed =
      let far : left ≡ count x + rest = left_of (count x) left _ refl rest passed in
      let more : first (suc place) (map count xs) ≡ first place (map count xs) + count x = one_further (map count xs) place (count x) there in
      let after : place + 1 ≡ suc place = omega arith in
      let same : first (place + 1) (map count xs) ≡ first (suc place) (map count xs) = ap (λ k. first k (map count xs)) after in
      (omega (arith, lt), omega (arith, number, far, more, same))

  pub found_here : None ≡ past_of (count x) left → IsCounted (map count xs) i (place, left)
  found_here none = record {
    within = omega (arith, lt, length-map xs count);
    number = number;
    inside = λ _ m e. (let same : count x ≡ m = (let both : Some (count x) ≡ Some m = sym there ∙ e in cc) in subst (λ k. left < k) same (within_of (count x) left _ refl none));
  }

pub found_behind : {X : Type 0} (count : X → ℕ) (xs : List X) (i place left : ℕ) → place ≤ length xs → length xs ≤ place → i ≡ first place (map count xs) + left → IsCounted (map count xs) i (place, left)
found_behind count xs i place left le ge number = record {
  within = omega (arith, le, length-map xs count);
  number = number;
  inside = λ lt n e. absurd (omega (arith, lt, ge, length-map xs count));
}

-- ---- one item in place of another

module _ {X : Type 0} {k : Row} (f : X → Tree (OneEntry k) × List ℕ) (w : Tree OneItem) where
  abbrev number_in : X → ℕ
  number_in p = length (items_in (f p).0)

  -- passes an entry
  passes : (q : X) (m n : Tree (Rest k)) (i : ℕ) → with_item (i - number_in q) w m ≡ n → number_in q ≤ i → with_item i w (MoreTree (f q).0 (f q).1 m) ≡ MoreTree (f q).0 (f q).1 n
  passes q m n i e le =
      ap (λ b. if b then MoreTree (with_item i w (f q).0) (f q).1 m else MoreTree (f q).0 (f q).1 (with_item (i - number_in q) w m)) (le-ltb i (number_in q) le)
      ∙ ap (MoreTree (f q).0 (f q).1) e

  pub with_in_part : (ps : List X) (m : Tree (Rest k)) (i place left : ℕ) (p q : X) → IsCounted (map number_in ps) i (place, left) → place < length ps → p ≡ get_or ps place p
      → f q ≡ (with_item left w (f p).0, (f p).1) → entries_onto (map f (set ps place q)) m ≡ with_item i w (entries_onto (map f ps) m)
  with_in_part [] m i place left p q c lt is made = absurd (omega (arith, lt))
  with_in_part (r ∷ ps) m i zero left p q c lt is made =
      let at : i ≡ left = omega (arith, c.number) in
      let inside : left < number_in r = c.inside (omega arith) (number_in r) refl in
      ap (λ e. MoreTree e.0 e.1 (entries_onto (map f ps) m)) (made ∙ ap (λ z. (with_item left w (f z).0, (f z).1)) is)
      ∙ sym (ap (λ b. if b then MoreTree (with_item left w (f r).0) (f r).1 (entries_onto (map f ps) m) else MoreTree (f r).0 (f r).1 (with_item (left - number_in r) w (entries_onto (map f ps) m))) (lt-ltb left (number_in r) inside))
      ∙ ap (λ n. with_item n w (entries_onto (map f (r ∷ ps)) m)) (sym at)
  with_in_part (r ∷ ps) m i (suc place) left p q c lt is made =
      let rest = with_in_part ps m (i - number_in r) place left p q (later (λ z. items_in (f z).0) r ps i place left c) (omega (arith, lt)) is made in
      sym (passes r (entries_onto (map f ps) m) (entries_onto (map f (set ps place q)) m) i (sym rest) (omega (arith, from (λ z. items_in (f z).0) r ps i place left c)))

  pub with_in_rest : (ps : List X) (m n : Tree (Rest k)) (i place left : ℕ) → IsCounted (map number_in ps) i (place, left) → length ps ≤ place → n ≡ with_item left w m
      → entries_onto (map f ps) n ≡ with_item i w (entries_onto (map f ps) m)
  with_in_rest [] m n i zero left c le e = e ∙ ap (λ j. with_item j w m) (let same : left ≡ i = omega (arith, c.number) in same)
  with_in_rest [] m n i (suc place) left c le e = absurd (omega (arith, c.within))
  with_in_rest (r ∷ ps) m n i zero left c le e = absurd (omega (arith, le))
  with_in_rest (r ∷ ps) m n i (suc place) left c le e =
      let rest = with_in_rest ps m n (i - number_in r) place left (later (λ z. items_in (f z).0) r ps i place left c) (omega (arith, le)) e in
      sym (passes r (entries_onto (map f ps) m) (entries_onto (map f ps) n) i (sym rest) (omega (arith, from (λ z. items_in (f z).0) r ps i place left c)))

module _ {X : Type 0} (f : X → Tree OnePiece × List ℕ × List ℕ) (w : Tree OneItem) where
  abbrev number_in_piece : X → ℕ
  number_in_piece p = length (items_in (f p).0)

  -- passes a piece
  passes_piece : (q : X) (m n : Tree OneString) (i : ℕ) → with_item (i - number_in_piece q) w m ≡ n → number_in_piece q ≤ i → with_item i w (PlusTree (f q).0 (f q).1 (f q).2 m) ≡ PlusTree (f q).0 (f q).1 (f q).2 n
  passes_piece q m n i e le =
      ap (λ b. if b then PlusTree (with_item i w (f q).0) (f q).1 (f q).2 m else PlusTree (f q).0 (f q).1 (f q).2 (with_item (i - number_in_piece q) w m)) (le-ltb i (number_in_piece q) le)
      ∙ ap (PlusTree (f q).0 (f q).1 (f q).2) e

  pub with_in_piece : (ps : List X) (m : Tree OneString) (i place left : ℕ) (p q : X) → IsCounted (map number_in_piece ps) i (place, left) → place < length ps → p ≡ get_or ps place p
      → f q ≡ (with_item left w (f p).0, (f p).1, (f p).2) → pieces_onto (map f (set ps place q)) m ≡ with_item i w (pieces_onto (map f ps) m)
  with_in_piece [] m i place left p q c lt is made = absurd (omega (arith, lt))
  with_in_piece (r ∷ ps) m i zero left p q c lt is made =
      let at : i ≡ left = omega (arith, c.number) in
      let inside : left < number_in_piece r = c.inside (omega arith) (number_in_piece r) refl in
      ap (λ e. PlusTree e.0 e.1 e.2 (pieces_onto (map f ps) m)) (made ∙ ap (λ z. (with_item left w (f z).0, (f z).1, (f z).2)) is)
      ∙ sym (ap (λ b. if b then PlusTree (with_item left w (f r).0) (f r).1 (f r).2 (pieces_onto (map f ps) m) else PlusTree (f r).0 (f r).1 (f r).2 (with_item (left - number_in_piece r) w (pieces_onto (map f ps) m))) (lt-ltb left (number_in_piece r) inside))
      ∙ ap (λ n. with_item n w (pieces_onto (map f (r ∷ ps)) m)) (sym at)
  with_in_piece (r ∷ ps) m i (suc place) left p q c lt is made =
      let rest = with_in_piece ps m (i - number_in_piece r) place left p q (later (λ z. items_in (f z).0) r ps i place left c) (omega (arith, lt)) is made in
      sym (passes_piece r (pieces_onto (map f ps) m) (pieces_onto (map f (set ps place q)) m) i (sym rest) (omega (arith, from (λ z. items_in (f z).0) r ps i place left c)))

  pub with_in_last : (ps : List X) (m n : Tree OneString) (i place left : ℕ) → IsCounted (map number_in_piece ps) i (place, left) → length ps ≤ place → n ≡ with_item left w m
      → pieces_onto (map f ps) n ≡ with_item i w (pieces_onto (map f ps) m)
  with_in_last [] m n i zero left c le e = e ∙ ap (λ j. with_item j w m) (let same : left ≡ i = omega (arith, c.number) in same)
  with_in_last [] m n i (suc place) left c le e = absurd (omega (arith, c.within))
  with_in_last (r ∷ ps) m n i zero left c le e = absurd (omega (arith, le))
  with_in_last (r ∷ ps) m n i (suc place) left c le e =
      let rest = with_in_last ps m n (i - number_in_piece r) place left (later (λ z. items_in (f z).0) r ps i place left c) (omega (arith, le)) e in
      sym (passes_piece r (pieces_onto (map f ps) m) (pieces_onto (map f ps) n) i (sym rest) (omega (arith, from (λ z. items_in (f z).0) r ps i place left c)))

-- ---- parts of one number of items each

module _ {X : Type 0} (count : X → ℕ) (n : ℕ) (same : (p : X) → count p ≡ n) where
  first_alike : (ps : List X) (place : ℕ) → place ≤ length ps → first place (map count ps) ≡ n * place
  first_alike ps zero le = sym (mul-zero n)
  first_alike [] (suc place) le = absurd (omega (arith, le))
  first_alike (p ∷ ps) (suc place) le = omega (arith, same p, first_alike ps place (omega (arith, le)), mul-suc n place)

  alike_at : (ps : List X) (place m : ℕ) → slice_get (map count ps) place ≡ Some m → m ≡ n
  alike_at [] place m e = let bad : ⊥ = cc in absurd bad
  alike_at (p ∷ ps) zero m e = (let is : count p ≡ m = cc in sym is ∙ same p)
  alike_at (p ∷ ps) (suc place) m e = alike_at ps place m e

  pub alike : (ps : List X) (i place left : ℕ) → i ≡ n * place + left → place ≤ length ps → left < n → IsCounted (map count ps) i (place, left)
  alike ps i place left e le lt = record {
    within = omega (arith, le, length-map ps count);
    number = omega (arith, e, first_alike ps place le);
    inside = λ _ m is. subst (λ k. left < k) (sym (alike_at ps place m is)) lt;
  }
