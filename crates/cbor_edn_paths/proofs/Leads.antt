-- What a path selects stands where its numbers lead.
use Rattle.std.proofs.Common.{arith, ◌≡◌, ℕ, zero, suc, ◌+◌, Bool, true, false, List, [], ◌∷◌, Option, Some, None, refl, ap, subst, ◌∙◌}
use Rattle.std.specs.Prelude.{slice_get, option_and_then, option_map, if◌then◌else◌, ◌==◌}
use Rattle.cbor_edn_model.specs.tree.Items as kind
use Rattle.cbor_edn_model.specs.tree.Items.{Item, Items, Entries, Array, Map, Node, Listed, Tagged, String, Stream, Element, Pair, End, Then}
use Rattle.cbor_edn_paths.specs.Steps as spec
use Rattle.cbor_edn_paths.specs.Steps.{Step}
use Rattle.cbor_edn_paths.specs.Found.{below, pairs_in, is_key, values_at, Place, value_of, place_or, is_tag, Stepped, To, Missing, stepped, found, onward, behind, begun, Found, At, Missed}
use Rattle.cbor_edn_paths.specs.PathLaws.{at_items, IsAt, NumbersLeadThere}
use Rattle.cbor_edn_paths.specs.declared.step.Miss.{Miss}
use Rattle.cbor_edn_paths.specs.declared.step.Miss.TheVariants as miss

abbrev IsIn : List (Node Item) → Stepped → Type 0
IsIn xs (To q) = slice_get xs q.0 ≡ Some q.1
IsIn xs (Missing e) = Unit {0}

abbrev AllIn : List (Node Item) → List Place → Type 0
AllIn xs [] = Unit {0}
AllIn xs (q ∷ qs) = (slice_get xs q.0 ≡ Some q.1) × AllIn xs qs

nth_in : (xs : List (Node Item)) (ps : List Place) (n : ℕ) → AllIn xs ps → IsIn xs (place_or miss.NoKey (slice_get ps n))
nth_in xs [] n h = tt
nth_in xs (p ∷ ps) zero h = h.0
nth_in xs (p ∷ ps) (suc n) h = nth_in xs ps n h.1

value_in : (xs : List (Node Item)) (ps : List Place) (o : Option ℕ) → AllIn xs ps → IsIn xs (value_of ps o)
value_in xs ps (Some n) h = nth_in xs ps n h
value_in xs [] None h = tt
value_in xs (p ∷ []) None h = h.0
value_in xs (p ∷ q ∷ ps) None h = tt

item_in : (e : Miss) (n : ℕ) (xs : List (Node Item)) (o : Option (Node Item)) → slice_get xs n ≡ o → IsIn xs (place_or e (option_map (λ x. (n, x)) o))
item_in e n xs None h = tt
item_in e n xs (Some x) h = h

-- keys and values as they stand in a map
abbrev flat : List (Node Item × Node Item) → List (Node Item)
flat [] = []
flat (p ∷ ps) = p.0 ∷ p.1 ∷ flat ps

flat_below : (m : Node (Entries kind.Pairs)) → flat (pairs_in m) ≡ below m
flat_below End = refl
flat_below (Then (Pair v w) m) = ap (λ xs. v ∷ w ∷ xs) (flat_below m)

-- behind the first of these, the items stand from j on
abbrev StandAt : ℕ → List (Node Item) → List (Node Item × Node Item) → Type 0
StandAt j xs ps = (i : ℕ) (y : Node Item) → slice_get (flat ps) (suc i) ≡ Some y → slice_get xs (j + i) ≡ Some y

pick : (b : Bool) (xs : List (Node Item)) (q : Place) (qs : List Place) → slice_get xs q.0 ≡ Some q.1 → AllIn xs qs → AllIn xs (if b then (q ∷ qs) else qs)
pick true xs q qs e h = (e, h)
pick false xs q qs e h = h

first_stands : (j : ℕ) (xs : List (Node Item)) (y : Node Item) → slice_get xs (j + 0) ≡ Some y → slice_get xs j ≡ Some y
first_stands j xs y h = let e : j + 0 ≡ j = omega arith in subst (λ n. slice_get xs n ≡ Some y) e h

later : (j i : ℕ) (xs : List (Node Item)) (y : Node Item) → slice_get xs (j + suc (suc i)) ≡ Some y → slice_get xs ((j + 2) + i) ≡ Some y
later j i xs y h = let e : j + suc (suc i) ≡ (j + 2) + i = omega arith in subst (λ n. slice_get xs n ≡ Some y) e h

values_in : (bs : List ℕ) (j : ℕ) (xs : List (Node Item)) (ps : List (Node Item × Node Item)) → StandAt j xs ps → AllIn xs (values_at bs j ps)
values_in bs j xs [] h = tt
values_in bs j xs (p ∷ ps) h = pick (is_key bs p.0) xs (j, p.1) (values_at bs (j + 2) ps) (first_stands j xs p.1 (h 0 p.1 refl)) (values_in bs (j + 2) xs ps (λ i y e. later j i xs y (h (suc (suc i)) y e)))

from_one : (xs : List (Node Item)) (i : ℕ) (y : Node Item) → slice_get xs (suc i) ≡ Some y → slice_get xs (1 + i) ≡ Some y
from_one xs i y h = let e : suc i ≡ 1 + i = omega arith in subst (λ n. slice_get xs n ≡ Some y) e h

key_in : (bs : List ℕ) (o : Option ℕ) (m : Node (Entries kind.Pairs)) → IsIn (below m) (value_of (values_at bs 1 (pairs_in m)) o)
key_in bs o m = value_in (below m) (values_at bs 1 (pairs_in m)) o (values_in bs 1 (below m) (pairs_in m) (λ i y e. from_one (below m) i y (subst (λ xs. slice_get xs (suc i) ≡ Some y) (flat_below m) e)))

numbered_in : (b : Bool) (w : Node Item) → IsIn (w ∷ []) (if b then To (0, w) else Missing miss.OtherTag)
numbered_in true w = refl
numbered_in false w = tt

tag_in : (o : Option ℕ) (m : ℕ) (w : Node Item) → IsIn (w ∷ []) (is_tag o m w)
tag_in None m w = refl
tag_in (Some n) m w = numbered_in (m == n) w

step_in : (s : Step (List ℕ)) (x : Node Item) → IsIn (below x) (stepped s x)
step_in (spec.Value bs o) (Listed Map p m) = key_in bs o m
step_in (spec.Value bs o) x = tt
step_in (spec.Element i) (Listed Array p m) = item_in miss.NoElement i (below m) (slice_get (below m) i) refl
step_in (spec.Element i) x = tt
step_in spec.PastLast (Listed Array p m) = tt
step_in spec.PastLast x = tt
step_in (spec.Content o) (Tagged m p w) = tag_in o m w
step_in (spec.Content o) x = tt
step_in (spec.Embedded i) (String w) = item_in miss.NoEmbedded i (below w) (slice_get (below w) i) refl
step_in (spec.Embedded i) (Stream m) = item_in miss.NoEmbedded i (below m) (slice_get (below m) i) refl
step_in (spec.Embedded i) x = tt

abbrev IsBelow : Node Item → Found → Type 0
IsBelow x (At path y) = at_items path x ≡ Some y
IsBelow x (Missed n e) = Unit {0}

behind_at : (i : ℕ) (c x : Node Item) (f : Found) → IsBelow c f → slice_get (below x) i ≡ Some c → IsBelow x (behind i f)
behind_at i c x (At path y) h e = ap (λ o. option_and_then (at_items path) o) e ∙ h
behind_at i c x (Missed n m) h e = tt

onward_at : (steps : List (Step (List ℕ))) (x : Node Item) → ((c : Node Item) → IsBelow c (found steps c)) → (t : Stepped) → IsIn (below x) t → IsBelow x (onward (found steps) t)
onward_at steps x h (Missing e) i = tt
onward_at steps x h (To q) i = behind_at q.0 q.1 x (found steps q.1) (h q.1) i

found_below : (steps : List (Step (List ℕ))) (x : Node Item) → IsBelow x (found steps x)
found_below [] x = refl
found_below (s ∷ steps) x = onward_at steps x (λ c. found_below steps c) (stepped s x) (step_in s x)

begun_in : (start : Option ℕ) (xs : Items) → IsIn (below xs) (begun start xs)
begun_in None (Then (Element x) End) = refl
begun_in None xs = tt
begun_in (Some n) xs = item_in miss.NoItem n (below xs) (slice_get (below xs) n) refl

first_at : (i : ℕ) (c : Node Item) (xs : Items) (f : Found) → IsBelow c f → slice_get (below xs) i ≡ Some c → IsAt xs (behind i f)
first_at i c xs (At path y) h e = ap (λ o. option_and_then (at_items path) o) e ∙ h
first_at i c xs (Missed n m) h e = tt

begun_at : (steps : List (Step (List ℕ))) (xs : Items) (t : Stepped) → IsIn (below xs) t → IsAt xs (onward (found steps) t)
begun_at steps xs (Missing e) i = tt
begun_at steps xs (To q) i = first_at q.0 q.1 xs (found steps q.1) (found_below steps q.1) i

pub numbers_lead_there : NumbersLeadThere
numbers_lead_there start steps xs = begun_at steps xs (begun start xs) (begun_in start xs)
