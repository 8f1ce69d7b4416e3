-- One item of a tree in place of another: the item from before put back, and paths number by number.
use Rattle.std.proofs.Common.{◌≡◌, ℕ, zero, suc, ◌+◌, ◌<◌, ◌≤◌, ◌-◌, Bool, true, false, List, [], ◌∷◌, ◌++◌, length, drop, Option, Some, None, refl, sym, ap, ◌∙◌, subst, arith}
use Rattle.std.proofs.lemmas.Bool.{false≢true, ltb-true, ltb-false}
use Rattle.std.specs.List.{slice_index}
use Rattle.std.specs.Option.{IsSome}
use Rattle.std.specs.Prelude.{if◌then◌else◌, ltb, slice_get, option_map, option_and_then, unwrap_or}
use Rattle.cbor_edn_model.specs.declared.text.opener.OpenerKind.TheVariants as opener
use Rattle.cbor_edn_model.specs.access.Paths.{items_in, at, at_sequence, with_item, with_at, with_at_sequence}
use Rattle.cbor_edn_model.specs.tree.Trees.{Rule, Tree, OneItem, Seq, NumberTree, FloatTree, NamedTree, EnclosedTree, ListTree, StringTree, StreamTree, LiteralTree, EllipsisTree, EmbeddedTree, LastPieceTree, PlusTree, ElementTree, PairTree, ChunkTree, EmptyTree, FullTree, LastTree, MoreTree, NothingTree, SequenceTree, Standalone, StandaloneTree}
use Rattle.cbor_edn_model.specs.internal.Counted.{is_simple_item}
use Rattle.cbor_edn_model.specs.declared.text.opener.OpenerKind.{OpenerKind}
use Rattle.cbor_edn_model.proofs.lemmas.access.CountedItems.{get_left, get_right}

-- what stands in two parts stands in the first or in the second
module _ {B : Type 0} (xs ys : List (Tree OneItem)) (i : ℕ) (c : Tree OneItem) (left right whole : B) (is : slice_get (xs ++ ys) i ≡ Some c) (first : slice_get xs i ≡ Some c → left ≡ whole)
    (second : slice_get ys (i - length xs) ≡ Some c → right ≡ whole) where
  in_two_by : (b : Bool) → ltb i (length xs) ≡ b → (if b then left else right) ≡ whole
  in_two_by true e = first (sym (get_left xs ys i (ltb-true i (length xs) e)) ∙ is)
  in_two_by false e =
      let le : length xs ≤ i = ltb-false i (length xs) e in
      let behind : length xs + (i - length xs) ≡ i = omega (arith, le) in
      second (sym (get_right xs ys (i - length xs)) ∙ ap (slice_get (xs ++ ys)) behind ∙ is)

  in_two : (if ltb i (length xs) then left else right) ≡ whole
  in_two = in_two_by (ltb i (length xs)) refl

-- the item that stands there changes nothing
pub put_back : {s : Rule} (i : ℕ) (c : Tree OneItem) (t : Tree s) → slice_get (items_in t) i ≡ Some c → with_item i c t ≡ t
put_back i c (NumberTree x p) e = refl
put_back i c (FloatTree f p) e = refl
put_back i c (NamedTree b) e = refl
put_back i c (EnclosedTree (opener.Tag p n) w) e = ap (EnclosedTree (opener.Tag p n)) (put_back i c w e)
put_back i c (EnclosedTree opener.Simple w) e = refl
put_back i c (ListTree k w) e = ap (ListTree k) (put_back i c w e)
put_back i c (StringTree w) e = ap StringTree (put_back i c w e)
put_back i c (StreamTree ms m) e = ap (StreamTree ms) (put_back i c m e)
put_back i c (LiteralTree x p) e = refl
put_back i c (EllipsisTree x) e = refl
put_back i c (EmbeddedTree w p) e = ap (λ z. EmbeddedTree z p) (put_back i c w e)
put_back i c (LastPieceTree p) e = ap LastPieceTree (put_back i c p e)
put_back i c (PlusTree p s t w) e =
    in_two (items_in p) (items_in w) i c _ _ _ e (λ h. ap (λ z. PlusTree z s t w) (put_back i c p h)) (λ h. ap (λ z. PlusTree p s t z) (put_back (i - length (items_in p)) c w h))
put_back zero c (ElementTree w) e = (let same : w ≡ c = cc in ap ElementTree (sym same))
put_back (suc i) c (ElementTree w) e = let bad : ⊥ = cc in absurd bad
put_back zero c (PairTree v s t w) e = (let same : v ≡ c = cc in ap (λ z. PairTree z s t w) (sym same))
put_back (suc zero) c (PairTree v s t w) e = (let same : w ≡ c = cc in ap (λ z. PairTree v s t z) (sym same))
put_back (suc (suc i)) c (PairTree v s t w) e = let bad : ⊥ = cc in absurd bad
put_back i c (ChunkTree w) e = ap ChunkTree (put_back i c w e)
put_back i c (EmptyTree p s) e = refl
put_back i c (FullTree h s m) e = ap (FullTree h s) (put_back i c m e)
put_back i c (LastTree w s) e = ap (λ z. LastTree z s) (put_back i c w e)
put_back i c (MoreTree w s m) e =
    in_two (items_in w) (items_in m) i c _ _ _ e (λ h. ap (λ z. MoreTree z s m) (put_back i c w h)) (λ h. ap (λ z. MoreTree w s z) (put_back (i - length (items_in w)) c m h))
put_back i c (NothingTree s) e = refl
put_back i c (SequenceTree s m) e = ap (SequenceTree s) (put_back i c m e)
put_back zero c (StandaloneTree s w t) e = (let same : w ≡ c = cc in ap (λ z. StandaloneTree s z t) (sym same))
put_back (suc i) c (StandaloneTree s w t) e = let bad : ⊥ = cc in absurd bad

-- ---- below parentheses

pub nothing_below : (t : Tree OneItem) (i : ℕ) → is_simple_item t ≡ true → None ≡ slice_get (items_in t) i
nothing_below (NumberTree x p) i e = refl
nothing_below (FloatTree f p) i e = refl
nothing_below (NamedTree b) i e = refl
nothing_below (EnclosedTree (opener.Tag p n) w) i e = absurd (false≢true e)
nothing_below (EnclosedTree opener.Simple w) i e = refl
nothing_below (ListTree k w) i e = absurd (false≢true e)
nothing_below (StringTree w) i e = absurd (false≢true e)
nothing_below (StreamTree ms m) i e = absurd (false≢true e)

pub tag_items : (k : OpenerKind) (w : Tree Standalone) → (is_simple_item (EnclosedTree k w) ≡ true → ⊥) → items_in (EnclosedTree k w) ≡ items_in w
tag_items (opener.Tag p n) w differs = refl
tag_items opener.Simple w differs = absurd (differs refl)

pub tag_with : (k : OpenerKind) (w : Tree Standalone) → (is_simple_item (EnclosedTree k w) ≡ true → ⊥) → (i : ℕ) (x : Tree OneItem) → with_item i x (EnclosedTree k w) ≡ EnclosedTree k (with_item i x w)
tag_with (opener.Tag p n) w differs i x = refl
tag_with opener.Simple w differs i x = absurd (differs refl)

-- ---- paths

step_of : (path : List ℕ) (k : ℕ) → k < length path → drop k path ≡ slice_index path k ∷ drop (suc k) path
step_of [] k lt = absurd (omega (arith, lt))
step_of (i ∷ path) zero lt = refl
step_of (i ∷ path) (suc k) lt = step_of path k (omega (arith, lt))

ended : (path : List ℕ) (k : ℕ) → suc k ≡ length path → drop (suc k) path ≡ []
ended [] k e = absurd (omega (arith, e))
ended (i ∷ []) zero e = refl
ended (i ∷ j ∷ path) zero e = absurd (omega (arith, e))
ended (i ∷ path) (suc k) e = ended path k (omega (arith, e))

next_drop : (path : List ℕ) (k : ℕ) → drop (k + 1) path ≡ drop (suc k) path
next_drop path k = let same : k + 1 ≡ suc k = omega arith in ap (λ n. drop n path) same

some_first : {A B : Type 0} (f : A → Option B) (o : Option A) → IsSome (option_and_then f o) → IsSome o
some_first f None h = h
some_first f (Some a) h = refl

pub some_mapped : {A B : Type 0} (f : A → B) (o : Option A) → IsSome (option_map f o) → IsSome o
some_mapped f None h = h
some_mapped f (Some a) h = refl

module _ (path : List ℕ) (k : ℕ) (lt : k < length path) (t : Tree OneItem) where
  abbrev i : ℕ
  i = slice_index path k

  abbrev rest : List ℕ
  rest = drop (suc k) path

  path_is : drop k path ≡ i ∷ rest
  path_is = step_of path k lt

  pub child_there : {A : Type 0} (f : A → Tree OneItem) (d : Option A) → IsSome (at (drop k path) t) → option_map f d ≡ slice_get (items_in t) i → IsSome d
  child_there f d there is = some_mapped f d (subst IsSome (sym is) (some_first (at rest) (slice_get (items_in t) i) (subst (λ p. IsSome (at p t)) path_is there)))

  module _ (c : Tree OneItem) (is : Some c ≡ slice_get (items_in t) i) where
    at_on : at (drop k path) t ≡ at rest c
    at_on = ap (λ p. at p t) path_is ∙ ap (option_and_then (at rest)) (sym is)

    with_on : (x : Tree OneItem) → with_item i (with_at rest x c) t ≡ with_at (drop k path) x t
    with_on x = sym (ap (λ p. with_at p x t) path_is ∙ ap (λ o. unwrap_or (option_map (λ c. with_item i (with_at rest x c) t) o) t) (sym is))

    -- where the path ends there
    pub last_value : suc k ≡ length path → Some c ≡ at (drop k path) t
    last_value e = sym (at_on ∙ ap (λ p. at p c) (ended path k e))

    pub last_with : suc k ≡ length path → (x n : Tree OneItem) → n ≡ with_item i x t → n ≡ with_at (drop k path) x t
    last_with e x n is_with = is_with ∙ ap (λ p. with_item i (with_at p x c) t) (sym (ended path k e)) ∙ with_on x

    -- where it goes on
    pub more_there : IsSome (at (drop k path) t) → IsSome (at (drop (k + 1) path) c)
    more_there there = subst (λ p. IsSome (at p c)) (sym (next_drop path k)) (subst IsSome at_on there)

    pub more_value : at (drop (k + 1) path) c ≡ at (drop k path) t
    more_value = ap (λ p. at p c) (next_drop path k) ∙ sym at_on

    pub more_with : (x m n : Tree OneItem) → m ≡ with_at (drop (k + 1) path) x c → n ≡ with_item i m t → n ≡ with_at (drop k path) x t
    more_with x m n inner outer = outer ∙ ap (λ w. with_item i w t) (inner ∙ ap (λ p. with_at p x c) (next_drop path k)) ∙ with_on x

-- ---- the item itself

pub itself_value : (path : List ℕ) → length path ≡ 0 → (t : Tree OneItem) → Some t ≡ at path t
itself_value [] e t = refl
itself_value (i ∷ path) e t = absurd (omega (arith, e))

pub itself_with : (path : List ℕ) → length path ≡ 0 → (x t : Tree OneItem) → x ≡ with_at path x t
itself_with [] e x t = refl
itself_with (i ∷ path) e x t = absurd (omega (arith, e))

-- ---- paths from a sequence

module _ (w : Tree Seq) (c : Tree OneItem) where
  pub sequence_last_value : (path : List ℕ) → suc 0 ≡ length path → Some c ≡ slice_get (items_in w) (slice_index path 0) → Some c ≡ at_sequence path w
  sequence_last_value [] e is = absurd (omega (arith, e))
  sequence_last_value (i ∷ []) e is = ap (option_and_then (at [])) is
  sequence_last_value (i ∷ j ∷ path) e is = absurd (omega (arith, e))

  pub sequence_last_with : (path : List ℕ) → suc 0 ≡ length path → Some c ≡ slice_get (items_in w) (slice_index path 0) → (x : Tree OneItem) (n : Tree Seq) → n ≡ with_item (slice_index path 0) x w → n ≡ with_at_sequence path x w
  sequence_last_with [] e is x n outer = absurd (omega (arith, e))
  sequence_last_with (i ∷ []) e is x n outer = outer ∙ ap (λ o. unwrap_or (option_map (λ c. with_item i (with_at [] x c) w) o) w) is
  sequence_last_with (i ∷ j ∷ path) e is x n outer = absurd (omega (arith, e))

  pub sequence_more_value : (path : List ℕ) → 0 < length path → Some c ≡ slice_get (items_in w) (slice_index path 0) → at (drop 1 path) c ≡ at_sequence path w
  sequence_more_value [] lt is = absurd (omega (arith, lt))
  sequence_more_value (i ∷ path) lt is = ap (option_and_then (at path)) is

  pub sequence_more_with : (path : List ℕ) → 0 < length path → Some c ≡ slice_get (items_in w) (slice_index path 0) → (x m : Tree OneItem) (n : Tree Seq) → m ≡ with_at (drop 1 path) x c → n ≡ with_item (slice_index path 0) m w → n ≡ with_at_sequence path x w
  sequence_more_with [] lt is x m n inner outer = absurd (omega (arith, lt))
  sequence_more_with (i ∷ path) lt is x m n inner outer = outer ∙ ap (λ z. with_item i z w) inner ∙ ap (λ o. unwrap_or (option_map (λ c. with_item i (with_at path x c) w) o) w) is
