-- What an item in it lacks, an item lacks.
use Prim.Native.Nat.{zero}
use Rattle.std.proofs.Common.{◌≡◌, ℕ, suc, ◌+◌, ◌-◌, ◌<◌, ◌≤◌, Bool, true, false, List, ◌++◌, length, Option, Some, None, sym, ap, ◌∙◌, subst, arith, refl}
use Rattle.std.specs.Prelude.{slice_get, ltb}
use Rattle.std.proofs.lemmas.Bool.{ltb-true, ltb-false}
use Rattle.cbor_edn_model.specs.declared.text.opener.OpenerKind.TheVariants as opener
use Rattle.cbor_edn_model.specs.access.Paths.{items_in}
use Rattle.cbor_edn_model.specs.cbor.Meaning.{means, ◌>>=◌}
use Rattle.cbor_edn_model.specs.tree.Trees.{Rule, OneItem, OnePiece, OneString, OneEntry, Inside, Rest, Seq, Standalone, Tree, NumberTree, FloatTree, NamedTree, EnclosedTree, ListTree, StringTree, StreamTree, LiteralTree, EllipsisTree, EmbeddedTree, LastPieceTree, PlusTree, ElementTree, PairTree, ChunkTree, EmptyTree, FullTree, LastTree, MoreTree, NothingTree, SequenceTree, StandaloneTree, Of, items}
use Rattle.cbor_edn_model.proofs.lemmas.access.CountedItems.{get_left, get_right}
use Rattle.cbor_edn_places.proofs.FirstPlaces.{not_both}

first_none : {A B : Type 0} (o : Option A) (f : A → Option B) → o ≡ None → (o >>= f) ≡ None
first_none o f e = ap (λ o. o >>= f) e

second_none : {A B C : Type 0} (o : Option A) (p : Option B) (f : A → B → Option C) → p ≡ None → (o >>= λ x. p >>= f x) ≡ None
second_none None p f e = refl
second_none (Some x) p f e = first_none p (f x) e

abbrev IsNone : (s : Rule) → Of s → Type 0
IsNone OneItem x = means x ≡ None
IsNone OnePiece x = means x ≡ None
IsNone OneString x = means x ≡ None
IsNone (OneEntry k) x = means x ≡ None
IsNone (Inside k) x = means x.1 ≡ None
IsNone (Rest k) x = means x ≡ None
IsNone Seq x = means x ≡ None
IsNone Standalone x = means x ≡ None

in_either : {P : Type 0} (xs ys : List (Tree OneItem)) (i : ℕ) (c : Tree OneItem) → slice_get (xs ++ ys) i ≡ Some c → (slice_get xs i ≡ Some c → P) → (slice_get ys (i - length xs) ≡ Some c → P) → P
in_either {P} xs ys i c is first second = by (ltb i (length xs)) refl
  where
    by : (b : Bool) → ltb i (length xs) ≡ b → P
    by true e = first (sym (get_left xs ys i (ltb-true i (length xs) e)) ∙ is)
    by false e =
        let le : length xs ≤ i = ltb-false i (length xs) e in
        let behind : length xs + (i - length xs) ≡ i = omega (arith, le) in
        second (sym (get_right xs ys (i - length xs)) ∙ ap (slice_get (xs ++ ys)) behind ∙ is)

pub none_in : {s : Rule} (t : Tree s) (i : ℕ) (c : Tree OneItem) → slice_get (items_in t) i ≡ Some c → means (items c) ≡ None → IsNone s (items t)
unfolding means items
none_in (NumberTree x p) i c is none = absurd (not_both (sym is))
none_in (FloatTree f p) i c is none = absurd (not_both (sym is))
none_in (NamedTree b) i c is none = absurd (not_both (sym is))
none_in (EnclosedTree (opener.Tag p n) w) i c is none = second_none _ (means (items w)) _ (none_in w i c is none)
none_in (EnclosedTree opener.Simple w) i c is none = absurd (not_both (sym is))
none_in (ListTree k w) i c is none = first_none (means (items w).1) _ (none_in w i c is none)
none_in (StringTree w) i c is none = first_none (means (items w)) _ (none_in w i c is none)
none_in (StreamTree ms m) i c is none = first_none (means (items m)) _ (none_in m i c is none)
none_in (LiteralTree x p) i c is none = absurd (not_both (sym is))
none_in (EllipsisTree x) i c is none = absurd (not_both (sym is))
none_in (EmbeddedTree w p) i c is none = first_none (means (items w)) _ (none_in w i c is none)
none_in (LastPieceTree p) i c is none = none_in p i c is none
none_in (PlusTree p s t w) i c is none =
    in_either (items_in p) (items_in w) i c is (λ h. first_none (means (items p)) _ (none_in p i c h none)) (λ h. second_none (means (items p)) (means (items w)) _ (none_in w (i - length (items_in p)) c h none))
none_in (ElementTree w) zero c is none = (let same : w ≡ c = cc in subst (λ (w : Tree OneItem). means (items w) ≡ None) (sym same) none)
none_in (ElementTree w) (suc i) c is none = absurd (not_both (sym is))
none_in (PairTree v s t w) zero c is none = (let same : v ≡ c = cc in first_none (means (items v)) _ (subst (λ (w : Tree OneItem). means (items w) ≡ None) (sym same) none))
none_in (PairTree v s t w) (suc zero) c is none = (let same : w ≡ c = cc in second_none (means (items v)) (means (items w)) _ (subst (λ (w : Tree OneItem). means (items w) ≡ None) (sym same) none))
none_in (PairTree v s t w) (suc (suc i)) c is none = absurd (not_both (sym is))
none_in (ChunkTree w) i c is none = first_none (means (items w)) _ (none_in w i c is none)
none_in (EmptyTree p s) i c is none = absurd (not_both (sym is))
none_in (FullTree h s m) i c is none = none_in m i c is none
none_in (LastTree e s) i c is none = first_none (means (items e)) _ (none_in e i c is none)
none_in (MoreTree e s m) i c is none =
    in_either (items_in e) (items_in m) i c is (λ h. first_none (means (items e)) _ (none_in e i c h none)) (λ h. second_none (means (items e)) (means (items m)) _ (none_in m (i - length (items_in e)) c h none))
none_in (NothingTree s) i c is none = absurd (not_both (sym is))
none_in (SequenceTree s m) i c is none = none_in m i c is none
none_in (StandaloneTree s w t) zero c is none = (let same : w ≡ c = cc in subst (λ (w : Tree OneItem). means (items w) ≡ None) (sym same) none)
none_in (StandaloneTree s w t) (suc i) c is none = absurd (not_both (sym is))
