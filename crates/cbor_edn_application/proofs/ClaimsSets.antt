-- Sequences whose items are changed one by one, from the first on, and what is left where one of them is refused memory.
use Rattle.std.proofs.Common.{◌≡◌, ℕ, zero, suc, ◌-◌, [], ◌∷◌, Bool, true, false, Option, None, Some, refl, sym, ap, ◌∙◌, subst, arith}
use Rattle.std.proofs.lemmas.Bool.{ltb-true}
use Rattle.std.proofs.lemmas.Result.{on_ok_weaker}
use Rattle.std.specs.Prelude.{if◌then◌else◌, ltb, slice_get, option_map, option_and_then, unwrap_or, Result, Ok, Err, IfErr, OnOk}
use Rattle.std.specs.declared.alloc.AllocError.{AllocError}
use Rattle.cbor_edn_parts.specs.declared.base.error.Fault.{Fault}
use Rattle.cbor_edn_parts.specs.declared.base.error.Fault.TheVariants.{Memory, Told}
use Rattle.cbor_edn_parts.specs.base.Refusals.{IfTold}
use Rattle.cbor_edn_core.specs.declared.access.TypeMismatch.{TypeMismatch}
use Rattle.cbor_edn_core.specs.declared.access.TypeMismatch.TheVariants.{Map}
use Rattle.cbor_edn_core.specs.visit.Callbacks.{IfVisited}
use Rattle.cbor_edn_model.specs.access.Accessed.{map_items}
use Rattle.cbor_edn_model.specs.tree.Items.{Elements}
use Rattle.cbor_edn_model.specs.access.Paths.{items_in, at, at_sequence, with_item, with_at, with_at_sequence}
use Rattle.cbor_edn_model.specs.tree.Trees.{Tree, OneItem, Rest, Seq, ElementTree, LastTree, MoreTree, NothingTree, SequenceTree}
use Rattle.cbor_edn_model.specs.visit.Visits.{Ending, cut}
use Rattle.cbor_edn_conversions.specs.Claims.{claim_key, with_claims}
use Rattle.cbor_edn_application.specs.Sequences.{each_item, with_each, with_claims_sets, first_items, with_first_items, with_first_claims_sets, AreClaimsBegun, within, IsAnnotatedAt, IsBegunAt}
use Rattle.cbor_edn_application.proofs.MapVisits.{no_map}

-- the test whether a place is among some that come first
module _ {A : Type 0} (x y : A) where
  behind_first : (n : ℕ) → (if ltb (suc n) 1 then x else y) ≡ y
  behind_first n = by (ltb (suc n) 1) refl
    where
      by : (b : Bool) → ltb (suc n) 1 ≡ b → (if b then x else y) ≡ y
      by true e = let less = ltb-true (suc n) 1 e in let bad : ⊥ = omega (arith, less) in absurd bad
      by false e = refl

less_one : (n : ℕ) → suc n - 1 ≡ n
less_one n = omega arith

module _ (f : Tree OneItem → Tree OneItem) where
  abbrev first : ℕ → Tree Seq → Tree Seq
  first = with_first_items f

  pub none_first : (w : Tree Seq) → w ≡ first 0 w
  none_first (NothingTree s) = refl
  none_first (SequenceTree s m) = refl

  -- one item more
  next_item : (n : ℕ) (c : Tree OneItem) (m : Tree (Rest Elements)) → slice_get (items_in (first_items f n m)) n ≡ Some c → with_item n (f c) (first_items f n m) ≡ first_items f (suc n) m
  next_item zero c (LastTree (ElementTree w) s) e = let same : w ≡ c = cc in ap (λ x. LastTree (ElementTree (f x)) s) (sym same)
  next_item zero c (MoreTree (ElementTree w) s m) e = let same : w ≡ c = cc in ap (λ x. MoreTree (ElementTree (f x)) s m) (sym same)
  next_item (suc n) c (LastTree (ElementTree w) s) e = let bad : ⊥ = cc in absurd bad
  next_item (suc n) c (MoreTree (ElementTree w) s m) e =
      behind_first _ _ n ∙ ap (λ i. MoreTree (ElementTree (f w)) s (with_item i (f c) (first_items f n m))) (less_one n) ∙ ap (MoreTree (ElementTree (f w)) s) (next_item n c m e)

  -- no item more
  last_item : (n : ℕ) (m : Tree (Rest Elements)) → slice_get (items_in (first_items f n m)) n ≡ None → first_items f n m ≡ each_item f m
  last_item zero (LastTree (ElementTree w) s) e = let bad : ⊥ = cc in absurd bad
  last_item zero (MoreTree (ElementTree w) s m) e = let bad : ⊥ = cc in absurd bad
  last_item (suc n) (LastTree (ElementTree w) s) e = refl
  last_item (suc n) (MoreTree (ElementTree w) s m) e = ap (MoreTree (ElementTree (f w)) s) (last_item n m e)

  next_by : (n : ℕ) (c : Tree OneItem) (w : Tree Seq) (o : Option (Tree OneItem)) → slice_get (items_in (first n w)) n ≡ o → option_and_then (at []) o ≡ Some c
      → unwrap_or (option_map (λ x. with_item n (with_at [] (f c) x) (first n w)) o) (first n w) ≡ first (suc n) w
  next_by n c (NothingTree s) o is e = let bad : ⊥ = cc in absurd bad
  next_by n c (SequenceTree s m) None is e = let bad : ⊥ = cc in absurd bad
  next_by n c (SequenceTree s m) (Some x) is e = let same : x ≡ c = cc in ap (SequenceTree s) (next_item n c m (is ∙ ap (λ y. Some y) same))

  pub next_first : (n : ℕ) (c : Tree OneItem) (w : Tree Seq) → at_sequence (n ∷ []) (first n w) ≡ Some c → with_at_sequence (n ∷ []) (f c) (first n w) ≡ first (suc n) w
  next_first n c w e = next_by n c w (slice_get (items_in (first n w)) n) refl e

  last_by : (n : ℕ) (w : Tree Seq) (o : Option (Tree OneItem)) → slice_get (items_in (first n w)) n ≡ o → option_and_then (at []) o ≡ None → first n w ≡ with_each f w
  last_by n (NothingTree s) o is e = refl
  last_by n (SequenceTree s m) None is e = ap (SequenceTree s) (last_item n m is)
  last_by n (SequenceTree s m) (Some x) is e = let bad : ⊥ = cc in absurd bad

  pub last_first : (n : ℕ) (w : Tree Seq) → at_sequence (n ∷ []) (first n w) ≡ None → first n w ≡ with_each f w
  last_first n w e = last_by n w (slice_get (items_in (first n w)) n) refl e

abbrev claims_of : Tree OneItem → Tree OneItem
claims_of w = (with_claims w).1

pub claims_first : (w : Tree Seq) → w ≡ with_first_claims_sets 0 w
claims_first = none_first claims_of

-- from the sequence as it was, w, to that with one claims set more
pub claims_next : (n : ℕ) (w u v : Tree Seq) → u ≡ with_first_claims_sets n w → IsAnnotatedAt n true u v → v ≡ with_first_claims_sets (suc n) w
claims_next n w u v so_far (c, there, is) =
    is ∙ ap (with_at_sequence (n ∷ []) (claims_of c)) so_far ∙ next_first claims_of n c w (subst (λ t. at_sequence (n ∷ []) t ≡ Some c) so_far there)

pub claims_last : (n : ℕ) (w u v : Tree Seq) → u ≡ with_first_claims_sets n w → IsAnnotatedAt n false u v → v ≡ with_claims_sets w
claims_last n w u v so_far (none, is) = is ∙ so_far ∙ last_first claims_of n w (subst (λ t. at_sequence (n ∷ []) t ≡ None) so_far none)

pub claims_begun : (n : ℕ) (w u v : Tree Seq) → u ≡ with_first_claims_sets n w → IsBegunAt n u v → AreClaimsBegun w v
claims_begun n w u v so_far begun = within n (subst (λ t. IsBegunAt n t v) so_far begun)

-- what is no map stays
pub stays : (w : Tree OneItem) → map_items w ≡ None → (with_claims w).1 ≡ w
unfolding with_claims
stays w e = ap (λ p. p.1) (no_map claim_key w e)

-- and so does one where a visit of maps told that it is none
pub told_stays : (r : Result (Unit {0}) AllocError) (f : Fault TypeMismatch) (w v : Tree OneItem) → OnOk r ((e : TypeMismatch) × (f ≡ Told e))
    → IfTold {X = Unit {0}} (Err f) (λ e. (e ≡ Map) × (map_items w ≡ None) × (v ≡ w)) → OnOk r (v ≡ (with_claims w).1)
told_stays r f w v told none = on_ok_weaker r (λ p. by (subst (λ g. IfTold {X = Unit {0}} (Err g) (λ e. (e ≡ Map) × (map_items w ≡ None) × (v ≡ w))) p.1 none)) told
  where
    by : {e : TypeMismatch} → (e ≡ Map) × (map_items w ≡ None) × (v ≡ w) → v ≡ (with_claims w).1
    by h = h.2 ∙ sym (stays w h.1)

-- a visit that was refused memory was cut short
pub memory_cuts : (P : Ending → Type 0) (r : Result (Unit {0}) AllocError) (f : Fault TypeMismatch) → IfErr r (λ e. f ≡ Memory e) → IfVisited {X = Unit {0}} (Err f) P → IfErr r (λ _. P cut)
memory_cuts P (Ok x) f is visited = tt
memory_cuts P (Err e) f is visited = subst (λ g. IfVisited {X = Unit {0}} (Err g) P) is visited

pub err_holds : {X E P : Type 0} (r : Result X E) → P → IfErr r (λ _. P)
err_holds (Ok x) h = tt
err_holds (Err e) h = h
