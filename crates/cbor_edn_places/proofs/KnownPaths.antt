-- Whether a path that is known leads to the first item that means nothing.
use Rattle.std.proofs.Common.{◌≡◌, ◌≢◌, ℕ, Bool, true, false, List, [], ◌∷◌, ◌++◌, Option, Some, None, refl, sym, ap, ◌∙◌, subst}
use Rattle.std.specs.Prelude.{slice_get, slice_index_or, take, drop, length, ◌-◌, Result, Ok, Err, IfOk, IfSome, Vec}
use Rattle.std.specs.declared.alloc.AllocError.{AllocError}
use Rattle.std.specs.Option.{is_some}
use Rattle.std.proofs.lemmas.List.{take_rest}
use Rattle.std.specs.Bool.{OnTrue}
use Rattle.cbor_edn_parts.specs.declared.base.error.InconsistentEdn.{InconsistentEdn}
use Rattle.cbor_edn_model.specs.access.Paths.{items_in, at_sequence}
use Rattle.cbor_edn_model.specs.cbor.Meaning.{means}
use Rattle.cbor_edn_model.specs.tree.Trees.{Tree, OneItem, Seq, items}
use Rattle.cbor_edn_places.specs.Places.{places_in, IsFirstAt, IsFirstPath, IsFound}
use Rattle.cbor_edn_places.specs.internal.Levels.{IsValueless, NoneBefore, is_open_at, places_behind, alone, IsLeft, AreFrontValued, IsPart, IsEntered, IsOwn, IsReasonAt, IsReasonIn, IsReasonOf}
use Rattle.cbor_edn_places.proofs.FirstPlaces.{not_both, behind, all_places}
use Rattle.cbor_edn_places.proofs.Lacking.{none_in}

-- what a call finds, in other words
pub in_other_words : {A B : Type 0} (r : Result (Option InconsistentEdn) AllocError) → (A → B) → IfOk r (λ o. IfSome o (λ e. A)) → IfOk r (λ o. IfSome o (λ e. B))
in_other_words (Err e) f h = tt
in_other_words (Ok None) f h = tt
in_other_words (Ok (Some e)) f h = f h

pub where_true : {P : Type 0} (b : Bool) → b ≡ true → OnTrue b P → P
where_true true e h = h
where_true false e h = let bad : ⊥ = cc in absurd bad

part_by : (o : Option (Tree OneItem)) → true ≡ is_some o → (x : Tree OneItem) × (o ≡ Some x)
part_by None e = let bad : ⊥ = cc in absurd bad
part_by (Some x) e = (x, refl)

-- what is left where a path leads to an item
pub left_alone : (path longer : List ℕ) (k : ℕ) (w u v : Tree Seq) → AreFrontValued path k w → longer ≡ path ++ (k ∷ []) → u ≡ w → true ≡ is_some (at_sequence longer u) → IsLeft longer u v → IsEntered path k w v
left_alone path longer k w u v front is same there left =
    let h = part_by (at_sequence longer u) there in
    (front, (h.0, ap (λ q. at_sequence q w) (sym is) ∙ ap (λ u. at_sequence longer u) (sym same) ∙ h.1, left h.0 h.1))

-- the item that is entered is the first that means nothing, where it means nothing
first_entered : (path : List ℕ) (k : ℕ) (w v : Tree Seq) (h : IsEntered path k w v) → means (items h.1.0) ≡ None → IsFirstAt (places_behind path w) k h.1.0
first_entered path k w v h none = subst (λ xs. IsFirstAt xs k h.1.0) (all_places path w h.0.0)
    record {
      there = sym (behind path k w) ∙ h.1.1;
      valueless = none;
      before = λ j y less got bad. h.0.1 j less y (behind path j w ∙ got) bad;
    }

own_alone : (x : Tree OneItem) → IsOwn (0 ∷ []) (alone x) → IsReasonAt [] x
own_alone x h = (subst (λ o. IfSome o (λ y. means (items y) ≡ None)) (sym h.0.1) h.0.2, h.1)

pub own_in : (place : List ℕ) (w : Tree Seq) → place ≡ 0 ∷ [] → IsOwn place w → IsReasonIn [] w
own_in place w is h = λ x e. own_alone x (subst (λ w. IsOwn (0 ∷ []) w) e (subst (λ q. IsOwn q w) is h))

deeper_alone : (k : ℕ) (path : List ℕ) (x : Tree OneItem) (v : Tree Seq) → IsEntered (0 ∷ []) k (alone x) v → IsReasonIn path v → IsReasonAt (k ∷ path) x
deeper_alone k path x v h reason =
    let below : IsReasonAt path h.1.0 = reason h.1.0 h.1.2 in
    (none_in x k h.1.0 (sym (behind (0 ∷ []) k (alone x)) ∙ h.1.1) below.0, (h.1.0, first_entered (0 ∷ []) k (alone x) v h below.0, below.1))

pub deeper : (place : List ℕ) (k : ℕ) (path : List ℕ) (w v : Tree Seq) → place ≡ 0 ∷ [] → IsEntered place k w v → IsReasonIn path v → IsReasonIn (k ∷ path) w
deeper place k path w v is h reason = λ x e. deeper_alone k path x v (subst (λ w. IsEntered (0 ∷ []) k w v) e (subst (λ q. IsEntered q k w v) is h)) reason

pub from_top : (place : List ℕ) (k : ℕ) (path : List ℕ) (w v : Tree Seq) → place ≡ [] → IsEntered place k w v → IsReasonIn path v → IsReasonOf (k ∷ path) w
from_top place k path w v is h reason =
    let entered : IsEntered [] k w v = subst (λ q. IsEntered q k w v) is h in
    let below : IsReasonAt path entered.1.0 = reason entered.1.0 entered.1.2 in
    ((λ e. let bad : ⊥ = cc in bad), (entered.1.0, first_entered [] k w v entered below.0, below.1))

-- of a path with a number, by its first number and the rest
pub first_and_rest : (path : List ℕ) → path ≢ [] → path ≡ slice_index_or path 0 0 ∷ take (length path - 1) (drop 1 path)
first_and_rest [] some = absurd (some refl)
first_and_rest (k ∷ path) some = ap (λ q. k ∷ q) (sym (take_rest (k ∷ path) 1))

pub deeper_by : (r : Result (Option InconsistentEdn) AllocError) (path place : List ℕ) (k : ℕ) (rest : List ℕ) (w v : Tree Seq) → path ≡ k ∷ rest → place ≡ 0 ∷ [] → IsEntered place k w v → IfOk r (λ o. IfSome o (λ e. IsReasonIn rest v)) → IfOk r (λ o. IfSome o (λ e. IsReasonIn path w))
deeper_by r path place k rest w v parts is h found = in_other_words r (λ reason. subst (λ q. IsReasonIn q w) (sym parts) (deeper place k rest w v is h reason)) found

-- in a copy
pub from_top_by : (r : Result (Option InconsistentEdn) AllocError) (path place : List ℕ) (k : ℕ) (rest : List ℕ) (w copy u v : Tree Seq) → path ≡ k ∷ rest → place ≡ [] → copy ≡ w → v ≡ u → IsEntered place k copy u → IfOk r (λ o. IfSome o (λ e. IsReasonIn rest v)) → IfOk r (λ o. IfSome o (λ e. IsReasonOf path w))
from_top_by r path place k rest w copy u v parts is copied lent h found =
    in_other_words r (λ reason. subst (λ q. IsReasonOf q w) (sym parts) (from_top place k rest w u is (subst (λ w. IsEntered place k w u) copied h) (subst (λ v. IsReasonIn rest v) lent reason))) found
