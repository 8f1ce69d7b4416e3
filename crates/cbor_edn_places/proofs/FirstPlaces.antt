-- Where paths lead, item by item.
use Rattle.std.proofs.Common.{◌≡◌, ℕ, suc, ◌+◌, ◌<◌, ◌≤◌, List, [], ◌∷◌, ◌++◌, Option, Some, None, refl, sym, ap, ◌∙◌, subst, arith, inl, inr, Bool, true, false, length, ◌≢◌}
use Rattle.std.specs.Prelude.{slice_get, option_and_then, option_map, IfSome, ◌⊎◌, nat_le, ◌||◌, if◌then◌else◌, not, unwrap_or}
use Rattle.cbor_edn_model.specs.tree.Trees.{Rule, Tree, OneItem, Seq, items}
use Rattle.cbor_edn_model.specs.cbor.Value.{Value}
use Rattle.cbor_edn_model.specs.cbor.Meaning.{means}
use Rattle.cbor_edn_model.specs.access.Paths.{items_in, at, at_sequence}
use Rattle.cbor_edn_places.specs.internal.Levels.{IsValueless, IsFree, IsFoundOf, IsFoundAt, NoneBehind, NoneBefore, IsFirstBeside, IsFirstOf, is_open_at, is_open_there, places_behind, places_there, alone, IsLeft}
use Rattle.cbor_edn_places.specs.Places.{is_open, places_in, AllMean, IsFirstAt, IsFirstPath, IsFound, is_structure}
use Rattle.std.specs.Prelude.{Vec}
use Rattle.cbor_edn_parts.specs.declared.base.error.InconsistentEdn.{InconsistentEdn}
use Prim.Native.Nat.{zero}
use Rattle.std.proofs.lemmas.Bool.{lt-leb, le-leb}
use Rattle.std.specs.Prelude.{Result, Ok, Err, IfOk}
use Rattle.std.specs.declared.alloc.AllocError.{AllocError}
use Rattle.std.specs.Option.{OnSome, is_some}
use Rattle.cbor_edn_places.specs.declared.path.Found.{Found}
use Rattle.cbor_edn_places.specs.declared.path.Found.TheVariants as found

abbrev IsThere : {A : Type 0} → Option A → Type 0
IsThere (Some x) = Unit {0}
IsThere None = ⊥

pub not_both : {A : Type 0} {x : A} → Some x ≡ None → ⊥
not_both e = subst IsThere e tt

-- what is found of the item where a path leads is found there
pub found_there : (path : List ℕ) (w : Tree Seq) (x : Tree OneItem) (f : Found) → Some x ≡ at_sequence path w → IsFoundOf (means (items x)) f → IsFoundAt path w f
found_there path w x found.Nowhere is h = absurd h
found_there path w x found.Valued is h = λ y there none. subst (λ o. IfSome o (λ y. means (items y) ≡ None → ⊥)) (is ∙ there) h none
found_there path w x (found.Valueless e) is h = (x, sym is, h)

beyond_end : (xs : List (Tree OneItem)) (n j : ℕ) → n ≤ j → option_and_then (at []) (slice_get xs n) ≡ None → option_and_then (at []) (slice_get xs j) ≡ None
beyond_end [] n j le h = refl
beyond_end (x ∷ xs) zero j le h = absurd (not_both h)
beyond_end (x ∷ xs) (suc n) zero le h = absurd (omega (arith, le))
beyond_end (x ∷ xs) (suc n) (suc j) le h = beyond_end xs n j (omega (arith, le)) h

after_first : (f g : Tree OneItem → Option (Tree OneItem)) → ((c : Tree OneItem) → f c ≡ None → g c ≡ None) → (o : Option (Tree OneItem)) → option_and_then f o ≡ None → option_and_then g o ≡ None
after_first f g each None h = refl
after_first f g each (Some c) h = each c h

beyond : (path : List ℕ) (n j : ℕ) (x : Tree OneItem) → n ≤ j → at (path ++ (n ∷ [])) x ≡ None → at (path ++ (j ∷ [])) x ≡ None
beyond [] n j x le h = beyond_end (items_in x) n j le h
beyond (i ∷ path) n j x le h = after_first (at (path ++ (n ∷ []))) (at (path ++ (j ∷ []))) (λ c. beyond path n j c le) (slice_get (items_in x) i) h

-- behind a number that leads nowhere no number leads to an item
pub beyond_sequence : (path : List ℕ) (n j : ℕ) (w : Tree Seq) → n ≤ j → at_sequence (path ++ (n ∷ [])) w ≡ None → at_sequence (path ++ (j ∷ [])) w ≡ None
beyond_sequence [] n j w le h = beyond_end (items_in w) n j le h
beyond_sequence (i ∷ path) n j w le h = after_first (at (path ++ (n ∷ []))) (at (path ++ (j ∷ []))) (λ c. beyond path n j c le) (slice_get (items_in w) i) h

below_or_not : (n j : ℕ) → (j < n) ⊎ (n ≤ j)
below_or_not zero j = inr (omega arith)
below_or_not (suc n) zero = inl (omega arith)
below_or_not (suc n) (suc j) = elim (below_or_not n j) [ inl h ↦ inl (omega (arith, h)) | inr h ↦ inr (omega (arith, h)) ]

pub none_behind : (path : List ℕ) (n : ℕ) (w : Tree Seq) → NoneBefore w path n → at_sequence (path ++ (n ∷ [])) w ≡ None → NoneBehind w path
none_behind path n w before end = λ j. elim (below_or_not n j) [
  | inl less ↦ before j less
  | inr le ↦ λ x there _. not_both (sym there ∙ beyond_sequence path n j w le end)
]

at_last : (n j : ℕ) → j < suc n → (j < n) ⊎ (j ≡ n)
at_last zero zero h = inr refl
at_last zero (suc j) h = absurd (omega (arith, h))
at_last (suc n) zero h = inl (omega arith)
at_last (suc n) (suc j) h = elim (at_last n j (omega (arith, h))) [ inl k ↦ inl (omega (arith, k)) | inr e ↦ inr (ap (λ n. suc n) e) ]

pub one_more : (path : List ℕ) (n : ℕ) (w : Tree Seq) → NoneBefore w path n → IsFree w (path ++ (n ∷ [])) → NoneBefore w path (n + 1)
one_more path n w before free = λ j less. elim (at_last n j (omega (arith, less))) [
  | inl k ↦ before j k
  | inr e ↦ subst (λ j. IsFree w (path ++ (j ∷ []))) (sym e) free
]

-- what holds where something was lent
pub where_lent : {A P : Type 0} {o : Option A} {x : A} → o ≡ Some x → OnSome o P → P
where_lent {A} {P} h k = subst (λ r. OnSome r P) h k

-- ---- what the loops find

pub end_found : (p q : List ℕ) (v w : Tree Seq) (f : Found) → IsFoundAt p v f → f ≡ found.Nowhere → p ≡ q → v ≡ w → at_sequence q w ≡ None
end_found p q v w f h is same_path same = subst (λ w. at_sequence q w ≡ None) same (subst (λ p. at_sequence p v ≡ None) same_path (subst (λ f. IsFoundAt p v f) is h))

-- ---- items behind a path

abbrev items_there : Option (Tree OneItem) → List (Tree OneItem)
items_there None = []
items_there (Some x) = items_in x

abbrev items_behind : List ℕ → Tree Seq → List (Tree OneItem)
items_behind [] w = items_in w
items_behind (i ∷ path) w = items_there (at_sequence (i ∷ path) w)

kept : (o : Option (Tree OneItem)) → option_and_then (at []) o ≡ o
kept None = refl
kept (Some x) = refl

got_by : (k : ℕ) (o : Option (Tree OneItem)) → option_and_then (λ y. slice_get (items_in y) k) o ≡ slice_get (items_there o) k
got_by k None = refl
got_by k (Some x) = refl

more_by : (f g h : Tree OneItem → Option (Tree OneItem)) → ((c : Tree OneItem) → f c ≡ option_and_then h (g c)) → (o : Option (Tree OneItem)) → option_and_then f o ≡ option_and_then h (option_and_then g o)
more_by f g h each None = refl
more_by f g h each (Some c) = each c

at_more : (path : List ℕ) (k : ℕ) (x : Tree OneItem) → at (path ++ (k ∷ [])) x ≡ option_and_then (λ y. slice_get (items_in y) k) (at path x)
at_more [] k x = kept (slice_get (items_in x) k)
at_more (i ∷ path) k x = more_by (at (path ++ (k ∷ []))) (at path) (λ y. slice_get (items_in y) k) (λ c. at_more path k c) (slice_get (items_in x) i)

-- where one number more leads
pub behind : (path : List ℕ) (k : ℕ) (w : Tree Seq) → at_sequence (path ++ (k ∷ [])) w ≡ slice_get (items_behind path w) k
behind [] k w = kept (slice_get (items_in w) k)
behind (i ∷ path) k w = more_by (at (path ++ (k ∷ []))) (at path) (λ y. slice_get (items_in y) k) (λ c. at_more path k c) (slice_get (items_in w) i) ∙ got_by k (option_and_then (at path) (slice_get (items_in w) i))

first_among : (path : List ℕ) (w : Tree Seq) (r : Option (ℕ × InconsistentEdn)) → IsFirstBeside path w r → IsFirstOf (items_behind path w) r
first_among path w None h = λ j y got none. h j y (behind path j w ∙ got) none
first_among path w (Some p) h = (
  h.0.0,
  record {
    there = sym (behind path p.0 w) ∙ h.0.1;
    valueless = h.0.2;
    before = λ j y less got none. h.1 j less y (behind path j w ∙ got) none;
  },
)

-- ---- places

places_by : (o : Option (Tree OneItem)) → is_open_there o ≡ true → items_there o ≡ places_there o
places_by None e = refl
places_by (Some x) e = ap (λ b. if b then items_in x else []) (sym e)

none_by : (o : Option (Tree OneItem)) → is_open_there o ≡ false → places_there o ≡ []
none_by None e = refl
none_by (Some x) e = ap (λ b. if b then items_in x else []) e

pub all_places : (path : List ℕ) (w : Tree Seq) → is_open_at path w ≡ true → items_behind path w ≡ places_behind path w
all_places [] w e = refl
all_places (i ∷ path) w e = places_by (at_sequence (i ∷ path) w) e

no_places : (path : List ℕ) (w : Tree Seq) → is_open_at path w ≡ false → places_behind path w ≡ []
no_places [] w e = let bad : ⊥ = cc in absurd bad
no_places (i ∷ path) w e = none_by (at_sequence (i ∷ path) w) e

pub first_place : (path : List ℕ) (v w : Tree Seq) (r : Option (ℕ × InconsistentEdn)) → v ≡ w → true ≡ is_open_at path w → IsFirstBeside path v r → IsFirstOf (places_behind path w) r
first_place path v w r same all h =
    subst (λ xs. IsFirstOf xs r) (all_places path w (sym all)) (first_among path w r (subst (λ v. IsFirstBeside path v r) same h))

pub first_places : (p path : List ℕ) (v w : Tree Seq) (r : Result (Option (ℕ × InconsistentEdn)) AllocError) → p ≡ path → v ≡ w → true ≡ is_open_at path w → IfOk r (IsFirstBeside p v) → IfOk r (IsFirstOf (places_behind path w))
first_places p path v w (Ok r) path_is same all h = first_place path v w r same all (subst (λ q. IsFirstBeside q v r) path_is h)
first_places p path v w (Err e) path_is same all h = tt

none_among : (xs : List (Tree OneItem)) → xs ≡ [] → AllMean xs
none_among xs e = subst AllMean (sym e) (λ j y got. absurd (not_both (sym got)))

pub no_place : (path : List ℕ) (w : Tree Seq) → false ≡ is_open_at path w → AllMean (places_behind path w)
no_place path w closed = none_among (places_behind path w) (no_places path w (sym closed))

chosen : (b : Bool) (xs : List (Tree OneItem)) (k : ℕ) (x : Tree OneItem) → slice_get (if b then xs else []) k ≡ Some x → slice_get xs k ≡ Some x
chosen true xs k x h = h
chosen false xs k x h = absurd (not_both (sym h))

is_item_by : (o : Option (Tree OneItem)) (k : ℕ) (x : Tree OneItem) → slice_get (places_there o) k ≡ Some x → slice_get (items_there o) k ≡ Some x
is_item_by None k x h = h
is_item_by (Some y) k x h = chosen (is_open y) (items_in y) k x h

-- a place is an item
is_item : (path : List ℕ) (w : Tree Seq) (k : ℕ) (x : Tree OneItem) → slice_get (places_behind path w) k ≡ Some x → slice_get (items_behind path w) k ≡ Some x
is_item [] w k x h = h
is_item (i ∷ path) w k x h = is_item_by (at_sequence (i ∷ path) w) k x h

-- ---- whether items are places

structure_by : (o : Option (Tree OneItem)) → unwrap_or (option_map is_structure o) false ≡ true → is_open_there o ≡ true
structure_by None e = let bad : ⊥ = cc in absurd bad
structure_by (Some x) e = ap (λ b. b || nat_le (length (items_in x)) 64) e

pub open_structure : (path : List ℕ) (w : Tree Seq) → unwrap_or (option_map is_structure (at_sequence path w)) false ≡ true → true ≡ is_open_at path w
open_structure [] w e = refl
open_structure (i ∷ path) w e = sym (structure_by (at_sequence (i ∷ path) w) e)

there_or_not : (xs : List (Tree OneItem)) (n : ℕ) → ((n < length xs) × (is_some (slice_get xs n) ≡ true)) ⊎ ((length xs ≤ n) × (is_some (slice_get xs n) ≡ false))
there_or_not [] n = inr (omega arith, refl)
there_or_not (x ∷ xs) zero = inl (omega arith, refl)
there_or_not (x ∷ xs) (suc n) = elim (there_or_not xs n) [
  | inl h ↦ (let less = h.0 in inl (omega (arith, less), h.1))
  | inr h ↦ (let le = h.0 in inr (omega (arith, le), h.1))
]

no_more : (xs : List (Tree OneItem)) (n : ℕ) → not (is_some (slice_get xs n)) ≡ nat_le (length xs) n
no_more xs n = elim (there_or_not xs n) [
  | inl h ↦ ap not h.1 ∙ sym (lt-leb (length xs) n h.0)
  | inr h ↦ ap not h.1 ∙ sym (le-leb (length xs) n h.0)
]

mapped : (o : Option (Tree OneItem)) → is_some (option_map is_structure o) ≡ is_some o
mapped None = refl
mapped (Some x) = refl

pub is_there : (o : Option (Tree OneItem)) (b : Bool) (r : Option Bool) → b ≡ is_some r → r ≡ option_map is_structure o → b ≡ is_some o
is_there o b r e is = e ∙ (ap is_some is ∙ mapped o)

counted_by : (o : Option (Tree OneItem)) → unwrap_or (option_map is_structure o) false ≡ false → not (is_some (slice_get (items_there o) 64)) ≡ is_open_there o
counted_by None e = refl
counted_by (Some x) e = no_more (items_in x) 64 ∙ ap (λ b. b || nat_le (length (items_in x)) 64) (sym e)

pub open_string : (path : List ℕ) (w v : Tree Seq) (longer : List ℕ) (more : Bool) → (path ≢ []) → unwrap_or (option_map is_structure (at_sequence path w)) false ≡ false
    → more ≡ is_some (at_sequence longer v) → longer ≡ path ++ (64 ∷ []) → v ≡ w → not more ≡ is_open_at path w
open_string [] w v longer more some e is longer_is same = absurd (some refl)
open_string (i ∷ path) w v longer more some e is longer_is same =
    ap not (is ∙ ap (λ v. is_some (at_sequence longer v)) same ∙ ap (λ p. is_some (at_sequence p w)) longer_is ∙ ap is_some (behind (i ∷ path) 64 w)) ∙ counted_by (at_sequence (i ∷ path) w) e

-- ---- from level to level

-- a path by firsts, and the places behind it
abbrev pub Leads : List (Tree OneItem) → List ℕ → List (Tree OneItem) → Type 0
Leads xs [] ys = ys ≡ xs
Leads xs (i ∷ path) ys = (x : Tree OneItem) × IsFirstAt xs i x × Leads (places_in x) path ys

leads_on : (xs : List (Tree OneItem)) (path : List ℕ) (ys : List (Tree OneItem)) (k : ℕ) (x : Tree OneItem) → Leads xs path ys → IsFirstAt ys k x → Leads xs (path ++ (k ∷ [])) (places_in x)
leads_on xs [] ys k x h first = (x, subst (λ zs. IsFirstAt zs k x) h first, refl)
leads_on xs (i ∷ path) ys k x h first = (h.0, h.1, leads_on (places_in h.0) path ys k x h.2 first)

leads_end : (xs : List (Tree OneItem)) (path : List ℕ) (ys : List (Tree OneItem)) → Leads xs path ys → AllMean ys → IsFirstPath xs path
leads_end xs [] ys h all = subst AllMean h all
leads_end xs (i ∷ path) ys h all = (h.0, h.1, leads_end (places_in h.0) path ys h.2 all)

pub next_level : (xs : List (Tree OneItem)) (path longer place placed : List ℕ) (u v w : Tree Seq) (r : Option (ℕ × InconsistentEdn)) (p : ℕ × InconsistentEdn) → Leads xs path (places_behind place w) → IsFirstOf (places_behind place w) r → r ≡ Some p
    → v ≡ w → placed ≡ place ++ (p.0 ∷ []) → IsLeft placed v u → longer ≡ path ++ (p.0 ∷ []) → Leads xs longer (places_behind (0 ∷ []) u)
next_level xs path longer place placed u v w r p way found is same placed_is left longer_is =
    let h : IsFirstOf (places_behind place w) (Some p) = subst (λ r. IsFirstOf (places_behind place w) r) is found in
    let there : at_sequence (place ++ (p.0 ∷ [])) w ≡ Some h.0 = behind place p.0 w ∙ is_item place w p.0 h.0 h.1.there in
    let here : at_sequence placed v ≡ Some h.0 = ap (λ q. at_sequence q v) placed_is ∙ ap (λ v. at_sequence (place ++ (p.0 ∷ [])) v) same ∙ there in
    let on : Leads xs (path ++ (p.0 ∷ [])) (places_behind (0 ∷ []) (alone h.0)) = leads_on xs path (places_behind place w) p.0 h.0 way h.1 in
    subst (λ q. Leads xs q (places_behind (0 ∷ []) u)) (sym longer_is) (subst (λ u. Leads xs (path ++ (p.0 ∷ [])) (places_behind (0 ∷ []) u)) (sym (left h.0 here)) on)

pub not_empty : (path : List ℕ) (n : ℕ) → path ++ (n ∷ []) ≡ [] → ⊥
not_empty [] n e = let bad : ⊥ = cc in bad
not_empty (i ∷ path) n e = let bad : ⊥ = cc in bad

-- where a reason is known, the path has a number
abbrev pub IsTold : List ℕ → Option InconsistentEdn → Type 0
IsTold path None = path ≡ []
IsTold path (Some e) = path ≢ []

finished_by : {A : Type 0} (w : Tree Seq) (kept : Vec ℕ A) (reason : Option InconsistentEdn) → IsTold kept.items reason → IsFirstPath (items_in w) kept.items → IsFound w (option_map (λ e. (kept, e)) reason)
finished_by w kept None told way = subst (λ path. IsFirstPath (items_in w) path) told way
finished_by w kept (Some e) told way = (told, way)

pub finished : {A : Type 0} (w v : Tree Seq) (place : List ℕ) (kept : Vec ℕ A) (reason : Option InconsistentEdn) (r : Option (ℕ × InconsistentEdn)) (result : Option (Vec ℕ A × InconsistentEdn))
    → Leads (items_in w) kept.items (places_behind place v) → IsTold kept.items reason → IsFirstOf (places_behind place v) r → r ≡ None → result ≡ option_map (λ e. (kept, e)) reason → IsFound w result
finished w v place kept reason r result way told found none is =
    subst (λ r. IsFound w r) (sym is) (finished_by w kept reason told (leads_end (items_in w) kept.items (places_behind place v) way (subst (λ r. IsFirstOf (places_behind place v) r) none found)))
