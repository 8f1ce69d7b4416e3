-- An array with another first element means the same bytes where that element does.
use Rattle.std.proofs.Common.{ℕ, ◌+◌, ◌≡◌, Bool, true, false, ◌&&◌, cond, nat_lt, List, [], ◌∷◌, ◌++◌, Option, Some, None, Ok, Err, refl, sym, ap, ◌∙◌, subst, append_assoc, eq-eqb}
use Rattle.std.specs.Prelude.{is_some, option_and_then, map}
use Rattle.std.specs.List.{list_all}
use Rattle.std.proofs.lemmas.Bool.{false≢true}
use Rattle.std.proofs.lemmas.List.{append_cancel_left, append_cancel_right}
use Rattle.std.proofs.lemmas.List.Folds.{list_all-append}
use Rattle.cbor_edn_parts.specs.declared.base.indicator.Indicator.{Indicator}
use Rattle.cbor_edn_parts.specs.internal.ContentReading.{same}
use Rattle.cbor_edn_parts.proofs.lemmas.string.LiteralPrefixes.{same-found, differ}
use Rattle.cbor_edn_model.specs.declared.cbor.heads.Width.{Width}
use Rattle.cbor_edn_model.specs.declared.cbor.heads.Width.TheVariants.{One}
use Rattle.cbor_edn_model.specs.access.Accessed.{array_items, entries_inside, element}
use Rattle.cbor_edn_model.specs.tree.Items.{Array, Map}
use Rattle.cbor_edn_model.specs.cbor.Meaning.{means, length_of, listed}
use Rattle.cbor_edn_model.specs.access.Paths.{with_item}
use Rattle.cbor_edn_model.specs.tree.Trees.{Tree, OneItem, Inside, head_indicator, NumberTree, FloatTree, NamedTree, EnclosedTree, ListTree, StringTree, StreamTree, ElementTree, EmptyTree, FullTree, LastTree, MoreTree, items}
use Rattle.cbor_edn_model.specs.cbor.Value.{Value, Values, no_values, value, values_len, array, tag, encoding, encodings, head, open_head, break}
use Rattle.cbor_edn_model.proofs.lemmas.cbor.MeaningSteps.{bind, some_is}
use Rattle.cbor_edn_times_and_addresses.specs.declared.address.IpVersion.{IpVersion}
use Rattle.cbor_edn_times_and_addresses.specs.declared.address.IpVersion.TheVariants.{V4, V6}
use Rattle.cbor_edn_conversions.specs.Conversions.{Conversion, are_same, changed_encoding, converted, encoded, item_encoding, mean_the_same, literal_tree, tag_tree, in_tag}
use Rattle.cbor_edn_conversions.specs.Addresses.{address_prefix, address_tag, address_item, if_same, as_literal, with_first, as_first}

-- ---- bytes between others

abbrev are_bytes : List ℕ → Bool
are_bytes bs = list_all (λ b. nat_lt b 256) bs

abbrev if_bytes : List ℕ → Option (List ℕ)
if_bytes bs = cond (are_bytes bs) (Some bs) None

no_other : (o : Option (List ℕ)) → are_same o None ≡ false
no_other None = refl
no_other (Some bs) = refl

never : (b : Bool) → (b && false) ≡ false
never true = refl
never false = refl

same_self : (bs : List ℕ) → same bs bs ≡ true
same_self [] = refl
same_self (b ∷ bs) = rw (eq-eqb b b refl, same_self bs) refl

same_between : (ps xs ys ss : List ℕ) → same (ps ++ (xs ++ ss)) (ps ++ (ys ++ ss)) ≡ same xs ys
same_between ps xs ys ss = by (same xs ys) refl
  where
    by : (b : Bool) → same xs ys ≡ b → same (ps ++ (xs ++ ss)) (ps ++ (ys ++ ss)) ≡ b
    by true e = subst (λ z. same (ps ++ (xs ++ ss)) (ps ++ (z ++ ss)) ≡ true) (same-found xs ys e) (same_self (ps ++ (xs ++ ss)))
    by false e = differ _ _ (λ f. let is = append_cancel_right xs ys ss (append_cancel_left ps (xs ++ ss) (ys ++ ss) f) in absurd (false≢true (sym e ∙ subst (λ z. same xs z ≡ true) is (same_self xs))))

same_behind : (ps xs ys : List ℕ) → same (ps ++ xs) (ps ++ ys) ≡ same xs ys
same_behind [] xs ys = refl
same_behind (p ∷ ps) xs ys = rw (eq-eqb p p refl) (same_behind ps xs ys)

-- the same by what is tested of each part
by_tests : (x y u v : List ℕ) (a b c d : Bool) → same x y ≡ same u v
    → are_same (cond (a && (b && c)) (Some x) None) (cond (a && (d && c)) (Some y) None)
    ≡ (is_some (cond (a && (b && c)) (Some x) None) && are_same (cond b (Some u) None) (cond d (Some v) None))
by_tests x y u v false b c d e = refl
by_tests x y u v true false c d e = refl
by_tests x y u v true true false d e = refl
by_tests x y u v true true true false e = refl
by_tests x y u v true true true true e = e

tested : (ps xs ss : List ℕ) → are_bytes (ps ++ (xs ++ ss)) ≡ (are_bytes ps && (are_bytes xs && are_bytes ss))
tested ps xs ss = list_all-append (λ b. nat_lt b 256) ps (xs ++ ss) ∙ ap (λ t. are_bytes ps && t) (list_all-append (λ b. nat_lt b 256) xs ss)

compared : (ps xs ys ss : List ℕ) → are_same (if_bytes (ps ++ (xs ++ ss))) (if_bytes (ps ++ (ys ++ ss))) ≡ (is_some (if_bytes (ps ++ (xs ++ ss))) && are_same (if_bytes xs) (if_bytes ys))
compared ps xs ys ss =
    rw (tested ps xs ss, tested ps ys ss)
    (by_tests (ps ++ (xs ++ ss)) (ps ++ (ys ++ ss)) xs ys (are_bytes ps) (are_bytes xs) (are_bytes ss) (are_bytes ys) (same_between ps xs ys ss))

-- ---- an array

-- the elements behind the first
abbrev row : Option Value → Option Values → Option Values
row o q = bind o (λ a. bind q (λ r. Some (value a r)))

abbrev array_of : Option (Option Width) → Value → Values → Option Value
array_of l x r = bind l (λ w. Some (array w (value x r)))

array_compared : (l : Option (Option Width)) (x y : Value) (r : Values)
    → are_same (option_and_then encoded (array_of l x r)) (option_and_then encoded (array_of l y r)) ≡ (is_some (option_and_then encoded (array_of l x r)) && are_same (encoded x) (encoded y))
array_compared None x y r = refl
array_compared (Some (Some w)) x y r = compared (head 4 w (values_len r + 1)) (encoding x) (encoding y) (encodings r)
array_compared (Some None) x y r =
    subst (λ z. are_same (if_bytes (open_head 4 ∷ z)) (if_bytes (open_head 4 ∷ ((encoding y ++ encodings r) ++ break ∷ []))) ≡ (is_some (if_bytes (open_head 4 ∷ z)) && are_same (encoded x) (encoded y))) (sym (append_assoc (encoding x) (encodings r) (break ∷ [])))
    (subst (λ z. are_same (if_bytes (open_head 4 ∷ (encoding x ++ (encodings r ++ break ∷ [])))) (if_bytes (open_head 4 ∷ z)) ≡ (is_some (if_bytes (open_head 4 ∷ (encoding x ++ (encodings r ++ break ∷ [])))) && are_same (encoded x) (encoded y))) (sym (append_assoc (encoding y) (encodings r) (break ∷ [])))
    (compared (open_head 4 ∷ []) (encoding x) (encoding y) (encodings r ++ break ∷ [])))

listed_compared : (i : Option Indicator) (q : Option Values) (o p : Option Value)
    → are_same (option_and_then encoded (bind (row o q) (listed Array i))) (option_and_then encoded (bind (row p q) (listed Array i)))
    ≡ (is_some (option_and_then encoded (bind (row o q) (listed Array i))) && are_same (option_and_then encoded o) (option_and_then encoded p))
listed_compared i q None p = refl
listed_compared i None (Some x) None = refl
listed_compared i None (Some x) (Some y) = refl
listed_compared i (Some r) (Some x) None =
    let left = no_other (option_and_then encoded (bind (row (Some x) (Some r)) (listed Array i))) in
    let right = no_other (encoded x) in
    left ∙ sym (ap (λ b. is_some (option_and_then encoded (bind (row (Some x) (Some r)) (listed Array i))) && b) right ∙ never _)
listed_compared i (Some r) (Some x) (Some y) = array_compared (length_of i (values_len r + 1)) x y r

-- with another first element
FirstCompares : Tree OneItem → Tree OneItem → Tree OneItem → Type 0
FirstCompares w e x = mean_the_same w (with_item 0 x w) ≡ (is_some (item_encoding w) && mean_the_same e x)

inside_compared : (w : Tree (Inside Array)) (e : Tree OneItem) (es : List (Tree OneItem)) (x : Tree OneItem) → map element (entries_inside w) ≡ e ∷ es → FirstCompares (ListTree Array w) e x
unfolding means items FirstCompares
inside_compared (EmptyTree i s) e es x are = absurd cc
inside_compared (FullTree h s (LastTree (ElementTree f) t)) e es x are =
    let is : f ≡ e = cc in
    subst (λ z. FirstCompares (ListTree Array (FullTree h s (LastTree (ElementTree f) t))) z x) is (listed_compared (head_indicator h) (Some no_values) (means (items f)) (means (items x)))
inside_compared (FullTree h s (MoreTree (ElementTree f) t m)) e es x are =
    let is : f ≡ e = cc in
    subst (λ z. FirstCompares (ListTree Array (FullTree h s (MoreTree (ElementTree f) t m))) z x) is (listed_compared (head_indicator h) (means (items m)) (means (items f)) (means (items x)))

first_compared : (w e : Tree OneItem) (es : List (Tree OneItem)) (x : Tree OneItem) → array_items w ≡ Some (e ∷ es) → FirstCompares w e x
first_compared (ListTree Array w) e es x are = inside_compared w e es x (some_is _ _ are)
first_compared (ListTree Map w) e es x are = absurd cc
first_compared (StringTree w) e es x are = absurd cc
first_compared (StreamTree s m) e es x are = absurd cc
first_compared (NumberTree z i) e es x are = absurd cc
first_compared (FloatTree f i) e es x are = absurd cc
first_compared (NamedTree b) e es x are = absurd cc
first_compared (EnclosedTree l w) e es x are = absurd cc

-- ---- a tag

tag_by_tests : (x y u v : List ℕ) (b d : Bool) → same x y ≡ same u v → are_same (cond b (Some x) None) (cond d (Some y) None) ≡ are_same (cond b (Some u) None) (cond d (Some v) None)
tag_by_tests x y u v false d e = refl
tag_by_tests x y u v true false e = refl
tag_by_tests x y u v true true e = e

-- the bytes of a head stand in front of both
module _ (n : ℕ) (all : are_bytes (head 6 One n) ≡ true) where
  content_compared : (o p : Option Value) → are_same (option_and_then encoded (bind o (λ v. Some (tag One n v)))) (option_and_then encoded (bind p (λ v. Some (tag One n v)))) ≡ are_same (option_and_then encoded o) (option_and_then encoded p)
  content_compared None p = refl
  content_compared (Some x) None = no_other (encoded (tag One n x)) ∙ sym (no_other (encoded x))
  content_compared (Some x) (Some y) =
      rw (behind (encoding x), behind (encoding y))
      (tag_by_tests (head 6 One n ++ encoding x) (head 6 One n ++ encoding y) (encoding x) (encoding y) (are_bytes (encoding x)) (are_bytes (encoding y)) (same_behind (head 6 One n) (encoding x) (encoding y)))
    where
      behind : (bs : List ℕ) → are_bytes (head 6 One n ++ bs) ≡ are_bytes bs
      behind bs = list_all-append (λ b. nat_lt b 256) (head 6 One n) bs ∙ ap (λ a. a && are_bytes bs) all

pub tag_compared : (version : IpVersion) (w v : Tree OneItem) → mean_the_same (tag_tree (address_tag version) w) (tag_tree (address_tag version) v) ≡ mean_the_same w v
unfolding means items head
tag_compared V4 w v = content_compared 52 refl (means (items w)) (means (items v))
tag_compared V6 w v = content_compared 54 refl (means (items w)) (means (items v))

-- ---- the literal of a first element

module _ (version : IpVersion) (wrap : Bool) (w e : Tree OneItem) (es : List (Tree OneItem)) (are : array_items w ≡ Some (e ∷ es)) where
  put_compared : (wrap : Bool) (x : Tree OneItem) → mean_the_same (in_tag wrap (address_tag version) w) (in_tag wrap (address_tag version) (with_item 0 x w)) ≡ (is_some (item_encoding w) && mean_the_same e x)
  unfolding FirstCompares
  put_compared false x = first_compared w e es x are
  put_compared true x = tag_compared version w (with_item 0 x w) ∙ first_compared w e es x are

  -- the literal of the element itself, where the array means something
  abbrev first_alone : List ℕ → Conversion
  first_alone t = as_literal version false e (Ok t)

  by_back : (t : List ℕ) (b : Bool) (r : Conversion) → is_some (item_encoding w) ≡ b
      → if_same version wrap w (with_first version wrap w (literal_tree (address_prefix false) t)) (converted r (λ x. Ok (with_first version wrap w x)))
      ≡ cond b (converted (if_same version false e (literal_tree (address_prefix false) t) r) (λ l. Ok (with_first version wrap w l))) (Err changed_encoding)
  by_back t true (Err x) is = refl
  by_back t false (Err x) is = refl
  by_back t b (Ok x) is = rw (put_compared wrap x, is) (by b (mean_the_same e x))
    where
      by : (b c : Bool) → cond (b && c) (Ok (with_first version wrap w (literal_tree (address_prefix false) t))) (Err changed_encoding)
          ≡ cond b (converted (cond c (Ok (literal_tree (address_prefix false) t)) (Err changed_encoding)) (λ l. Ok (with_first version wrap w l))) (Err changed_encoding)
      by true true = refl
      by true false = refl
      by false c = refl

  pub first_literal_is : (t : List ℕ) → as_first version wrap w (Ok t) ≡ cond (is_some (item_encoding w)) (converted (first_alone t) (λ l. Ok (with_first version wrap w l))) (Err changed_encoding)
  first_literal_is t = by_back t (is_some (item_encoding w)) (address_item false t) refl
