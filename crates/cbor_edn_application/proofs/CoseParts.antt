-- What functions make of the parts of COSE structures.
use Rattle.std.proofs.Common.{ℕ, zero, suc, ◌-◌, ◌≡◌, ◌≢◌, List, [], ◌∷◌, drop, Bool, true, false, cond, Option, None, Some, refl, sym, ap, subst, ◌∙◌, arith}
use Rattle.std.specs.Prelude.{slice_get, option_map, option_and_then, unwrap_or}
use Rattle.cbor_edn_model.specs.access.Accessed.{array_items}
use Rattle.cbor_edn_model.specs.access.Paths.{items_in, at, at_standalone, with_item, with_at, with_at_standalone}
use Rattle.cbor_edn_model.specs.tree.Trees.{Tree, OneItem, Standalone, StandaloneTree, items}
use Rattle.cbor_edn_model.specs.visit.Visits.{Answer}
use Rattle.cbor_edn_conversions.specs.Cose.{with_other, in_item, in_string, with_elements, in_part, part_reply, with_parts}
use Rattle.cbor_edn_conversions.specs.CoseTables.{parts}
use Rattle.cbor_edn_conversions.specs.EmbeddedItems.{is_structure}
use Rattle.cbor_edn_conversions.specs.declared.tables.Part.{Part}
use Rattle.cbor_edn_conversions.specs.declared.tables.Structure.{Structure}
use Rattle.cbor_edn_conversions.proofs.conversions.CoseKept.{same_items, part_left, parts_left}
use Rattle.cbor_edn_model.proofs.lemmas.access.ReplacedItems.{put_back}
use Rattle.cbor_edn_application.specs.Comments.{inside}
use Rattle.cbor_edn_application.specs.Handlers.{ValueAnswers}
use Rattle.cbor_edn_application.proofs.ElementVisits.{no_elements}

-- ---- lists of parts, from one on

pub drop_next : {A : Type 0} (i : ℕ) (xs : List A) → drop 1 (drop i xs) ≡ drop (suc i) xs
drop_next zero [] = refl
drop_next zero (x ∷ xs) = refl
drop_next (suc i) [] = refl
drop_next (suc i) (x ∷ xs) = drop_next i xs

pub drop_first : {A : Type 0} (i : ℕ) (xs : List A) → slice_get (drop i xs) 0 ≡ slice_get xs i
drop_first zero [] = refl
drop_first zero (x ∷ xs) = refl
drop_first (suc i) [] = refl
drop_first (suc i) (x ∷ xs) = drop_first i xs

-- ---- structures

-- the levels in it are one fewer
pub parts_inside : (n : ℕ) (x : Structure) (w : Tree OneItem) → n ≢ 0 → with_elements (λ i. part_reply (in_part (with_parts (n - 1))) (slice_get (parts x) i)) w ≡ with_parts n x w
unfolding with_parts
parts_inside zero x w some = absurd (some refl)
parts_inside (suc n) x w some = let less : suc n - 1 ≡ n = omega arith in ap (λ m. with_elements (λ i. part_reply (in_part (with_parts m)) (slice_get (parts x) i)) w) less

pub no_levels : (n : ℕ) (x : Structure) (w : Tree OneItem) → n ≡ 0 → w ≡ with_parts n x w
unfolding with_parts
no_levels n x w none = subst (λ m. w ≡ with_parts m x w) (sym none) refl

pub parts_of_other : (n : ℕ) (x : Structure) (w : Tree OneItem) → n ≢ 0 → array_items w ≡ None → w ≡ with_parts n x w
parts_of_other n x w some none = sym (no_elements _ w none) ∙ parts_inside n x w some

pub replies_left : (n : ℕ) (o : Option Part) (w : Tree OneItem) → items (part_reply (in_part (with_parts n)) o w).1 ≡ items w
replies_left n None w = refl
replies_left n (Some p) w = part_left (with_parts n) (parts_left n) p w

pub structures_left : (n : ℕ) (x : Structure) (w : Tree OneItem) → items (with_parts n x w) ≡ items w
structures_left n x w = parts_left n x w

-- ---- the map that is embedded first

string_is : (b : Bool) (f : Tree OneItem → Tree OneItem) (w : Tree OneItem) → b ≡ false → cond b w (in_item 0 f w) ≡ in_item 0 f w
string_is true f w is = absurd cc
string_is false f w is = refl

structure_is : (b : Bool) (f : Tree OneItem → Tree OneItem) (w : Tree OneItem) → b ≡ true → w ≡ cond b w (in_item 0 f w)
structure_is true f w is = refl
structure_is false f w is = absurd cc

-- an array, a map or a tag stays
pub in_structure : (f : Tree OneItem → Tree OneItem) (w : Tree OneItem) → is_structure w ≡ true → w ≡ in_string f w
in_structure f w is = structure_is (is_structure w) f w is

-- a string with something done to the item that is embedded first
pub in_text : (f : Tree OneItem → Tree OneItem) (w v : Tree OneItem) → is_structure w ≡ false → v ≡ in_item 0 f w → v ≡ in_string f w
in_text f w v is done = done ∙ sym (string_is (is_structure w) f w is)

-- ---- an item that is done something to, once its loan is over

module _ (i : ℕ) (w : Tree OneItem) where
  found_at : (c : Tree OneItem) (o : Option (Tree OneItem)) → Some c ≡ option_and_then (at []) o → o ≡ Some c
  found_at c None e = absurd cc
  found_at c (Some d) e = sym e

  none_at : (o : Option (Tree OneItem)) → None ≡ option_and_then (at []) o → o ≡ None
  none_at None e = refl
  none_at (Some d) e = absurd cc

  replaced_by : (f : Tree OneItem → Tree OneItem) (x c : Tree OneItem) (o : Option (Tree OneItem)) → o ≡ Some c → x ≡ f c
      → unwrap_or (option_map (λ d. with_item i (with_at [] x d) w) o) w ≡ with_other i f w o
  replaced_by f x c None is e = absurd cc
  replaced_by f x c (Some d) is e = let same : d ≡ c = cc in ap (λ y. with_item i y w) (e ∙ ap f (sym same))

  put_by : (x c : Tree OneItem) (o : Option (Tree OneItem)) → o ≡ Some c → unwrap_or (option_map (λ d. with_item i (with_at [] x d) w) o) w ≡ with_item i x w
  put_by x c None is = absurd cc
  put_by x c (Some d) is = refl

  pub item_done : (f : Tree OneItem → Tree OneItem) (c x v : Tree OneItem) → Some c ≡ at (i ∷ []) w → v ≡ with_at (i ∷ []) x w → x ≡ f c → v ≡ in_item i f w
  item_done f c x v stood lent is = lent ∙ replaced_by f x c (slice_get (items_in w) i) (found_at c (slice_get (items_in w) i) stood) is

  pub item_kept : (c x v : Tree OneItem) → Some c ≡ at (i ∷ []) w → v ≡ with_at (i ∷ []) x w → items x ≡ items c → items v ≡ items w
  item_kept c x v stood lent same =
      let got = found_at c (slice_get (items_in w) i) stood in
      ap (λ z. items z) (lent ∙ put_by x c (slice_get (items_in w) i) got) ∙ (same_items i x c w same ∙ ap (λ (z : Tree OneItem). items z) (put_back i c w got))

  -- the same item again
  pub item_same : (c x v : Tree OneItem) → Some c ≡ at (i ∷ []) w → v ≡ with_at (i ∷ []) x w → x ≡ c → v ≡ w
  item_same c x v stood lent same =
      let got = found_at c (slice_get (items_in w) i) stood in
      lent ∙ (put_by x c (slice_get (items_in w) i) got ∙ (ap (λ z. with_item i z w) same ∙ put_back i c w got))

  pub no_item_done : (f : Tree OneItem → Tree OneItem) → None ≡ at (i ∷ []) w → w ≡ in_item i f w
  no_item_done f none = sym (ap (with_other i f w) (none_at (slice_get (items_in w) i) none))

-- ---- the parts of one structure, in turn

pub part_step : (x : Structure) (n i : ℕ) (rest next : List Part) (w v : Tree OneItem) (r : Answer) → rest ≡ drop i (parts x) → next ≡ drop 1 rest
    → ValueAnswers (part_reply (in_part (with_parts n)) (slice_get rest 0)) w r v
    → (next ≡ drop (suc i) (parts x)) × ValueAnswers (part_reply (in_part (with_parts n)) (slice_get (parts x) i)) w r v
part_step x n i rest next w v r here after h = (
  after ∙ (ap (drop 1) here ∙ drop_next i (parts x)),
  subst (λ o. ValueAnswers (part_reply (in_part (with_parts n)) o) w r v) (ap (λ ps. slice_get ps 0) here ∙ drop_first i (parts x)) h,
)

-- ---- an item that stood between the spaces of another meanwhile

-- what is done to the first item below it
pub first_done : (f : Tree OneItem → Tree OneItem) (s t : Tree Standalone) (c x : Tree OneItem) → Some c ≡ at_standalone (0 ∷ []) s → t ≡ with_at_standalone (0 ∷ []) x s → x ≡ f c → t ≡ inside (in_item 0 f) s
first_done f (StandaloneTree a z b) t c x stood lent is = lent ∙ ap (λ v. StandaloneTree a v b) (item_done 0 z f c x (with_at (0 ∷ []) x z) stood refl is)

pub first_kept : (s t : Tree Standalone) (c x : Tree OneItem) → Some c ≡ at_standalone (0 ∷ []) s → t ≡ with_at_standalone (0 ∷ []) x s → items x ≡ items c → items t ≡ items s
unfolding items
first_kept (StandaloneTree a z b) t c x stood lent same = ap (λ (u : Tree Standalone). items u) lent ∙ item_kept 0 z c x (with_at (0 ∷ []) x z) stood refl same

pub first_same : (s t : Tree Standalone) (c x : Tree OneItem) → Some c ≡ at_standalone (0 ∷ []) s → t ≡ with_at_standalone (0 ∷ []) x s → x ≡ c → t ≡ s
first_same (StandaloneTree a z b) t c x stood lent same = lent ∙ ap (λ v. StandaloneTree a v b) (item_same 0 z c x (with_at (0 ∷ []) x z) stood refl same)

pub no_first_done : (f : Tree OneItem → Tree OneItem) (s : Tree Standalone) → None ≡ at_standalone (0 ∷ []) s → s ≡ inside (in_item 0 f) s
no_first_done f (StandaloneTree a z b) none = ap (λ v. StandaloneTree a v b) (no_item_done 0 z f none)

some_is : (x y : Tree OneItem) → Some x ≡ Some y → x ≡ y
some_is x y e = cc

-- it was put between the spaces of s, and taken from there as it was then
pub exchanged : (f : Tree OneItem → Tree OneItem) (w v : Tree OneItem) (s t u : Tree Standalone) → t ≡ with_at_standalone [] w s → Some v ≡ at_standalone [] u → u ≡ inside f t → v ≡ f w
exchanged f w v (StandaloneTree a z b) t u put taken done = some_is v (f w) (taken ∙ ap (at_standalone []) (done ∙ ap (inside f) put))

pub exchanged_kept : (w v : Tree OneItem) (s t u : Tree Standalone) → t ≡ with_at_standalone [] w s → Some v ≡ at_standalone [] u → items u ≡ items t → items v ≡ items w
unfolding items
exchanged_kept w v (StandaloneTree a z b) t (StandaloneTree d y e) put taken same = ap (λ (x : Tree OneItem). items x) (some_is v y taken) ∙ (same ∙ ap (λ (x : Tree Standalone). items x) put)

pub exchanged_same : (w v : Tree OneItem) (s t u : Tree Standalone) → t ≡ with_at_standalone [] w s → Some v ≡ at_standalone [] u → u ≡ t → v ≡ w
exchanged_same w v (StandaloneTree a z b) t u put taken same = some_is v w (taken ∙ ap (at_standalone []) (same ∙ put))
