-- The literal of an address stands for what the item in its tag means.
use Rattle.std.proofs.Common.{ℕ, ℤ, pos, negsuc, ◌<◌, ◌≤◌, ◌*◌, ◌≡◌, ◌==◌, Bool, true, false, cond, nat_lt, List, [], ◌∷◌, length, map, All, Option, Some, None, Result, Ok, Err, refl, sym, ap, ◌∙◌, subst, arith}
use Rattle.std.proofs.lemmas.Bool.{ltb-false, eqb-true}
use Rattle.cbor_edn_parts.specs.declared.base.indicator.Indicator.{Indicator}
use Rattle.cbor_edn_model.specs.access.Accessed.{item_bytes, array_items, entries_inside, element}
use Rattle.cbor_edn_model.specs.tree.Items.{Elements, Array, Map, Tagged}
use Rattle.cbor_edn_model.specs.cbor.Meaning.{means, width_of, listed}
use Rattle.cbor_edn_model.specs.access.Paths.{with_item}
use Rattle.cbor_edn_model.specs.visit.Seeking.{CallArguments}
use Rattle.cbor_edn_model.specs.tree.Trees.{Tree, OneItem, Inside, Rest, head_indicator, NumberTree, FloatTree, NamedTree, EnclosedTree, ListTree, StringTree, StreamTree, ElementTree, EmptyTree, FullTree, LastTree, MoreTree, items}
use Rattle.cbor_edn_model.specs.cbor.Value.{Value, Values, no_values, value, tag, AreBytes, Fits}
use Rattle.cbor_edn_model.proofs.lemmas.cbor.MeaningSteps.{bind, both_steps, some_is}
use Rattle.cbor_edn_times_and_addresses.specs.declared.address.IpVersion.{IpVersion}
use Rattle.cbor_edn_times_and_addresses.specs.declared.address.IpVersion.TheVariants.{V4, V6}
use Rattle.cbor_edn_times_and_addresses.specs.Address.{size_of}
use Rattle.cbor_edn_times_and_addresses.proofs.PrintedBytes.{printed_text_bytes}
use Rattle.cbor_edn_conversions.specs.Resolving.{Resolver, means_by, ResolvesNoContent}
use Rattle.cbor_edn_conversions.proofs.resolving.Resolved.{more_means}
use Rattle.cbor_edn_conversions.specs.Conversions.{Message, Conversion, converted, called_tag, is_shortest, changed_encoding, without_tag, mean_the_same, literal_tree, tag_tree, in_tag}
use Rattle.cbor_edn_conversions.specs.Resolvers.{TurnsTo}
use Rattle.cbor_edn_conversions.specs.Integers.{item_integer}
use Rattle.cbor_edn_conversions.specs.Addresses.{address_prefix, address_tag, address_item, whole_text, length_text, prefix_text, if_same, as_literal, with_first, as_first, by_length, by_others, by_first, by_elements, by_bytes, address_literal, address_of_tag, pretty_address}
use Rattle.cbor_edn_conversions.proofs.conversions.SameValues.{MeanOne, mean_one}
use Rattle.cbor_edn_conversions.proofs.conversions.Calls.{reply_turns, called_tag_is, shortest_means, without_tag_is}
use Rattle.cbor_edn_conversions.proofs.conversions.Literals.{GivesAddresses, address_prefix_is, tree_means}
use Rattle.cbor_edn_conversions.proofs.conversions.ItemBytes.{bytes_fit, MeansFit, elements_fit}

abbrev ok : Tree OneItem → Conversion
ok x = Ok x

ok_is : (x y : Tree OneItem) → ok x ≡ ok y → x ≡ y
ok_is x y e = cc

abbrev told : List ℕ → Result (List ℕ) Message
told t = Ok t

told_same : (t u : List ℕ) → told t ≡ told u → t ≡ u
told_same t u e = cc

-- ---- the texts

abbrev IsByte : ℕ → Type 0
IsByte b = b < 256

if_ok : (b : Bool) (e : Message) (r : Result (List ℕ) Message) (t : List ℕ) → cond b (Err e) r ≡ Ok t → (b ≡ false) × (r ≡ Ok t)
if_ok true e r t h = absurd cc
if_ok false e r t h = (refl, h)

whole_bytes : (v : IpVersion) (bs t : List ℕ) → AreBytes bs → whole_text v bs ≡ Ok t → All IsByte t
whole_bytes v bs t all e =
    let (long, rest) = if_ok (nat_lt (size_of v) (length bs)) _ _ t e in
    let (short, is) = if_ok (nat_lt (length bs) (size_of v)) _ _ t rest in
    let most = ltb-false (size_of v) (length bs) long in
    let least = ltb-false (length bs) (size_of v) short in
    subst (All IsByte) (told_same _ t is) (printed_text_bytes v bs None (record { are_bytes = all; is_byte = tt; within = most; whole = λ e. omega arith }))

size_small : (v : IpVersion) (n : ℕ) → n ≤ 8 * size_of v → n < 256
size_small V4 n h = omega arith
size_small V6 n h = omega arith

not_none : (n : ℕ) (P : Type 0) → Some n ≡ None → P
not_none n P e = absurd cc

length_bytes : (v : IpVersion) (z : ℤ) (bs t : List ℕ) → AreBytes bs → length bs ≤ size_of v → length_text v bs z ≡ Ok t → All IsByte t
length_bytes v (pos n) bs t all most e =
    let (large, is) = if_ok (nat_lt (8 * size_of v) n) _ _ t e in
    let within = ltb-false (8 * size_of v) n large in
    subst (All IsByte) (told_same _ t is) (printed_text_bytes v bs (Some n) (record { are_bytes = all; is_byte = size_small v n within; within = most; whole = λ e. not_none n _ e }))
length_bytes v (negsuc n) bs t all most e = absurd cc

prefix_bytes : (v : IpVersion) (z : ℤ) (bs t : List ℕ) → AreBytes bs → prefix_text v z bs ≡ Ok t → All IsByte t
prefix_bytes v z bs t all e =
    let (long, rest) = if_ok (nat_lt (size_of v) (length bs)) _ _ t e in
    length_bytes v z bs t all (ltb-false (size_of v) (length bs) long) rest

-- ---- an array with another first element

-- two first elements that mean the same
module _ (R : Resolver) (x y : Tree OneItem) (e : means_by R (items x) ≡ means_by R (items y)) where
  rest_same : (m : Tree (Rest Elements)) → means_by R (items (with_item 0 x m)) ≡ means_by R (items (with_item 0 y m))
  unfolding means_by items
  rest_same (LastTree (ElementTree w) s) = ap (λ o. bind o (λ a. Some (value a no_values))) e
  rest_same (MoreTree (ElementTree w) s m) = ap (λ o. bind o (λ a. bind (means_by R (items m)) (λ r. Some (value a r)))) e

  inside_same : (w : Tree (Inside Array)) → means_by R (items (ListTree Array (with_item 0 x w))) ≡ means_by R (items (ListTree Array (with_item 0 y w)))
  unfolding means_by items
  inside_same (EmptyTree i s) = refl
  inside_same (FullTree h s m) = ap (λ o. bind o (listed Array (head_indicator h))) (rest_same m)

  first_same : (w : Tree OneItem) (es : List (Tree OneItem)) → array_items w ≡ Some es → means_by R (items (with_item 0 x w)) ≡ means_by R (items (with_item 0 y w))
  first_same (ListTree Array w) es is = inside_same w
  first_same (ListTree Map w) es is = absurd cc
  first_same (StringTree w) es is = absurd cc
  first_same (StreamTree s m) es is = absurd cc
  first_same (NumberTree z i) es is = absurd cc
  first_same (FloatTree f i) es is = absurd cc
  first_same (NamedTree b) es is = absurd cc
  first_same (EnclosedTree l w) es is = absurd cc

-- an array that means something has a first element that does
rest_means : (x : Tree OneItem) (m : Tree (Rest Elements)) (vs : Values) → means (items (with_item 0 x m)) ≡ Some vs → (v : Value) × (means (items x) ≡ Some v)
unfolding means items
rest_means x (LastTree (ElementTree w) s) vs e = let (v, is, rest) = both_steps (means (items x)) (λ a. Some (value a no_values)) vs e in (v, is)
rest_means x (MoreTree (ElementTree w) s m) vs e = let (v, is, rest) = both_steps (means (items x)) (λ a. bind (means (items m)) (λ r. Some (value a r))) vs e in (v, is)

inside_means : (x : Tree OneItem) (w : Tree (Inside Array)) (e : Tree OneItem) (es : List (Tree OneItem)) (u : Value) → map element (entries_inside w) ≡ e ∷ es → means (items (ListTree Array (with_item 0 x w))) ≡ Some u → (v : Value) × (means (items x) ≡ Some v)
unfolding means items
inside_means x (EmptyTree i s) e es u are is = absurd cc
inside_means x (FullTree h s m) e es u are is = let (vs, row, of) = both_steps (means (items (with_item 0 x m))) (listed Array (head_indicator h)) u is in rest_means x m vs row

first_means : (x w e : Tree OneItem) (es : List (Tree OneItem)) (u : Value) → array_items w ≡ Some (e ∷ es) → means (items (with_item 0 x w)) ≡ Some u → (v : Value) × (means (items x) ≡ Some v)
first_means x (ListTree Array w) e es u are is = inside_means x w e es u (some_is _ _ are) is
first_means x (ListTree Map w) e es u are is = absurd cc
first_means x (StringTree w) e es u are is = absurd cc
first_means x (StreamTree s m) e es u are is = absurd cc
first_means x (NumberTree z i) e es u are is = absurd cc
first_means x (FloatTree f i) e es u are is = absurd cc
first_means x (NamedTree b) e es u are is = absurd cc
first_means x (EnclosedTree l w) e es u are is = absurd cc

-- ---- what a conversion gives

-- the content of a tag that means something
content_fits : (wrap : Bool) (n : ℕ) (c : Tree OneItem) (x : Value) → means (items (in_tag wrap n c)) ≡ Some x → Fits x → MeansFit c
unfolding means items
content_fits false n c x e fits = record { value = x; is = e; fits = fits }
content_fits true n c x e fits =
    let (d, width, rest) = both_steps (width_of None n) (λ d. bind (means (items c)) (λ v. Some (tag d n v))) x e in
    let (m, content, is) = both_steps (means (items c)) (λ v. Some (tag d n v)) x rest in
    let fit : Fits (tag d n m) = subst Fits (sym (some_is (tag d n m) x is)) fits in
    record { value = m; is = content; fits = fit.1 }

content_means : (wrap : Bool) (n : ℕ) (c : Tree OneItem) (x : Value) → means (items (in_tag wrap n c)) ≡ Some x → (m : Value) × (means (items c) ≡ Some m)
unfolding means items
content_means false n c x e = (x, e)
content_means true n c x e =
    let (d, width, rest) = both_steps (width_of None n) (λ d. bind (means (items c)) (λ v. Some (tag d n v))) x e in
    let (m, content, is) = both_steps (means (items c)) (λ v. Some (tag d n v)) x rest in
    (m, content)

content_same : (R : Resolver) (wrap : Bool) (n : ℕ) (x y : Tree OneItem) → means_by R (items x) ≡ means_by R (items y) → means_by R (items (in_tag wrap n x)) ≡ means_by R (items (in_tag wrap n y))
unfolding means_by items
content_same R false n x y e = e
content_same R true n x y e = ap (λ o. bind (width_of None n) (λ d. bind o (λ v. Some (tag d n v)))) e

-- what is converted back
record ConvertedBack (version : IpVersion) (wrap : Bool) (c new : Tree OneItem) (r : Conversion) (v : Tree OneItem) : Type 0 where
  pub back : Tree OneItem
  pub back_is : r ≡ Ok back
  pub same : MeanOne (in_tag wrap (address_tag version) c) back
  pub new_is : new ≡ v

-- ---- calls, by a resolver

module _ (R : Resolver) (no_content : ResolvesNoContent R) (gives : GivesAddresses R) where
  -- the item, in the tag where one is wanted, means a value, and the new item does where literals stand for values
  pub record StandsFor (wrap : Bool) (n : ℕ) (c v : Tree OneItem) : Type 0 where
    pub value : Value
    pub before : means (items (in_tag wrap n c)) ≡ Some value
    pub after : means_by R (items v) ≡ Some value

  module _ (version : IpVersion) (wrap : Bool) (c : Tree OneItem) where
    abbrev n : ℕ
    n = address_tag version

    same_by : (new back v : Tree OneItem) (b : Bool) → mean_the_same (in_tag wrap n c) back ≡ b → cond b (ok new) (Err changed_encoding) ≡ ok v → ConvertedBack version wrap c new (Ok back) v
    same_by new back v true p e = record { back = back; back_is = refl; same = mean_one (in_tag wrap n c) back p; new_is = ok_is new v e }
    same_by new back v false p e = absurd cc

    back_is : (new v : Tree OneItem) (r : Conversion) → if_same version wrap c new r ≡ Ok v → ConvertedBack version wrap c new r v
    back_is new v (Err e) h = absurd cc
    back_is new v (Ok back) h = same_by new back v _ refl h

    -- a literal in place of the item
    literal_stands : (r : Result (List ℕ) Message) (v : Tree OneItem) → ((t : List ℕ) → r ≡ Ok t → MeansFit c → All IsByte t) → as_literal version wrap c r ≡ Ok v → StandsFor wrap n c v
    literal_stands (Err e) v bytes h = absurd cc
    literal_stands (Ok t) v bytes h =
        let b = back_is (literal_tree (address_prefix wrap) t) v (address_item wrap t) h in
        let content = content_fits wrap n c b.same.value b.same.left b.same.fits in
        record {
          value = b.same.value;
          before = b.same.left;
          after = ap (λ x. means_by R (items x)) (sym b.new_is) ∙ tree_means R address_prefix address_item address_prefix_is gives wrap t b.back b.same.value (bytes t refl content) b.back_is b.same.right;
        }

    -- one in place of the first element
    record FirstBack (t : List ℕ) (back : Tree OneItem) : Type 0 where
      pub first : Tree OneItem
      pub first_is : address_item false t ≡ Ok first
      pub is : with_first version wrap c first ≡ back

    first_back : (t : List ℕ) (back : Tree OneItem) (r : Conversion) → address_item false t ≡ r → converted r (λ x. Ok (with_first version wrap c x)) ≡ Ok back → FirstBack t back
    first_back t back (Err e) p h = absurd cc
    first_back t back (Ok x) p h = record { first = x; first_is = p; is = ok_is _ back h }

    first_stands : (e : Tree OneItem) (es : List (Tree OneItem)) → array_items c ≡ Some (e ∷ es) → (r : Result (List ℕ) Message) (v : Tree OneItem) → ((t : List ℕ) → r ≡ Ok t → MeansFit e → All IsByte t) → as_first version wrap c r ≡ Ok v → StandsFor wrap n c v
    first_stands e es are (Err w) v bytes h = absurd cc
    first_stands e es are (Ok t) v bytes h =
        let b = back_is (with_first version wrap c (literal_tree (address_prefix false) t)) v (converted (address_item false t) (λ x. Ok (with_first version wrap c x))) h in
        let f = first_back t b.back (address_item false t) refl b.back_is in
        let content = content_fits wrap n c b.same.value b.same.left b.same.fits in
        let fit = elements_fit c (e ∷ es) content.value are content.is content.fits in
        let right : means (items (in_tag wrap n (with_item 0 f.first c))) ≡ Some b.same.value = ap (λ x. means (items x)) f.is ∙ b.same.right in
        let inner = content_means wrap n (with_item 0 f.first c) b.same.value right in
        let first = first_means f.first c e es inner.0 are inner.1 in
        let literal : means_by R (items (literal_tree (address_prefix false) t)) ≡ means_by R (items f.first) = tree_means R address_prefix address_item address_prefix_is gives false t f.first first.0 (bytes t refl fit.0) f.first_is first.1 ∙ sym (more_means R no_content (items f.first) first.0 first.1) in
        record {
          value = b.same.value;
          before = b.same.left;
          after = ap (λ x. means_by R (items x)) (sym b.new_is)
              ∙ (content_same R wrap n (with_item 0 (literal_tree (address_prefix false) t) c) (with_item 0 f.first c) (first_same R (literal_tree (address_prefix false) t) f.first literal c (e ∷ es) are)
              ∙ more_means R no_content (items (in_tag wrap n (with_item 0 f.first c))) b.same.value right);
        }

    length_stands : (b : Tree OneItem) → (MeansFit c → MeansFit b) → (z : Option ℤ) (o : Option (List ℕ)) → item_bytes b ≡ o → (v : Tree OneItem) → by_length version wrap c z o ≡ Ok v → StandsFor wrap n c v
    length_stands b fit None o is v h = absurd cc
    length_stands b fit (Some z) None is v h = absurd cc
    length_stands b fit (Some z) (Some bs) is v h = literal_stands (prefix_text version z bs) v (λ t e m. let x = fit m in prefix_bytes version z bs t (bytes_fit b bs x.value is x.is x.fits) e) h

    others_stand : (e : Tree OneItem) (es : List (Tree OneItem)) → array_items c ≡ Some (e ∷ es) → (v : Tree OneItem) → by_others version wrap c e es ≡ Ok v → StandsFor wrap n c v
    others_stand e [] are v h = absurd cc
    others_stand e (b ∷ d ∷ es) are v h = absurd cc
    others_stand e (b ∷ []) are v h = length_stands b (λ m. (elements_fit c (e ∷ b ∷ []) m.value are m.is m.fits).1.0) (item_integer e) (item_bytes b) refl v h

    elements_stand : (e : Tree OneItem) (es : List (Tree OneItem)) → array_items c ≡ Some (e ∷ es) → (o : Option (List ℕ)) → item_bytes e ≡ o → (v : Tree OneItem) → by_first version wrap c o e es ≡ Ok v → StandsFor wrap n c v
    elements_stand e es are (Some bs) is v h = first_stands e es are (whole_text version bs) v (λ t g m. whole_bytes version bs t (bytes_fit e bs m.value is m.is m.fits) g) h
    elements_stand e es are None is v h = others_stand e es are v h

    array_stands : (o : Option (List (Tree OneItem))) → array_items c ≡ o → (v : Tree OneItem) → by_elements version wrap c o ≡ Ok v → StandsFor wrap n c v
    array_stands None are v h = absurd cc
    array_stands (Some []) are v h = absurd cc
    array_stands (Some (e ∷ es)) are v h = elements_stand e es are (item_bytes e) refl v h

    item_stands : (o : Option (List ℕ)) → item_bytes c ≡ o → (v : Tree OneItem) → by_bytes version wrap c o ≡ Ok v → StandsFor wrap n c v
    item_stands (Some bs) is v h = literal_stands (whole_text version bs) v (λ t g m. whole_bytes version bs t (bytes_fit c bs m.value is m.is m.fits) g) h
    item_stands None is v h = array_stands (array_items c) refl v h

    pub address_stands : (v : Tree OneItem) → address_literal c version wrap ≡ Ok v → StandsFor wrap n c v
    unfolding address_literal
    address_stands v h = item_stands (item_bytes c) refl v h

  -- ---- an item

  pub address_item_turns : (version : IpVersion) (wrap : Bool) (c v : Tree OneItem) → address_literal c version wrap ≡ Ok v → TurnsTo R R (in_tag wrap (address_tag version) c) v
  address_item_turns version wrap c v e u is =
      let h = address_stands version wrap c v e in
      let value : h.value ≡ u = some_is h.value u (sym (more_means R no_content (items (in_tag wrap (address_tag version) c)) h.value h.before) ∙ is) in
      h.after ∙ ap (λ (x : Value). Some x) value

  -- ---- the call

  -- the tag of a version, where its indicator is the shortest
  stands_turns : (version : IpVersion) (i : Option Indicator) (c v : Tree OneItem) → is_shortest i (address_tag version) ≡ true → StandsFor true (address_tag version) c v → (u : Value) → means_by R (Tagged (address_tag version) i (items c)) ≡ Some u → means_by R (items v) ≡ Some u
  unfolding items
  stands_turns version i c v narrow h u e =
      let value : h.value ≡ u = some_is h.value u (sym (more_means R no_content (items (tag_tree (address_tag version) c)) h.value h.before) ∙ (sym (shortest_means R (address_tag version) i (items c) narrow) ∙ e)) in
      h.after ∙ ap (λ (x : Value). Some x) value

  version_turns : (version : IpVersion) (n : ℕ) (i : Option Indicator) (c v : Tree OneItem) → n ≡ address_tag version → without_tag i n (address_literal c version true) ≡ Ok v → (u : Value) → means_by R (Tagged n i (items c)) ≡ Some u → means_by R (items v) ≡ Some u
  version_turns version n i c v same e u is =
      let h = without_tag_is i n (address_literal c version true) v e in
      stands_turns version i c v (subst (λ n. is_shortest i n ≡ true) same h.narrow) (address_stands version true c v h.is_ok) u (ap (λ n. means_by R (Tagged n i (items c))) (sym same) ∙ is)

  tag_by : (n : ℕ) (i : Option Indicator) (c v : Tree OneItem) (a b : Bool) → (n == 52) ≡ a → (n == 54) ≡ b
      → cond a (Some (without_tag i n (address_literal c V4 true))) (cond b (Some (without_tag i n (address_literal c V6 true))) None) ≡ Some (Ok v)
      → (u : Value) → means_by R (Tagged n i (items c)) ≡ Some u → means_by R (items v) ≡ Some u
  tag_by n i c v true b p q e u is = version_turns V4 n i c v (eqb-true n 52 p) (some_is _ _ e) u is
  tag_by n i c v false true p q e u is = version_turns V6 n i c v (eqb-true n 54 q) (some_is _ _ e) u is
  tag_by n i c v false false p q e u is = absurd cc

  by_tag : (w : Tree OneItem) (o : Option (ℕ × Option Indicator × Tree OneItem)) → ((n : ℕ) (i : Option Indicator) (c : Tree OneItem) → o ≡ Some (n, i, c) → items w ≡ Tagged n i (items c)) → (v : Tree OneItem) → address_of_tag o ≡ Some (Ok v) → TurnsTo R R w v
  by_tag w None is v e u h = absurd cc
  by_tag w (Some (n, i, c)) is v e u h = tag_by n i c v _ _ refl refl e u (sym (ap (λ x. means_by R x) (is n i c refl)) ∙ h)

  pub address_turns : (a : CallArguments) (w : Tree OneItem) → TurnsTo R R w (pretty_address a w).1
  unfolding pretty_address
  address_turns a w = reply_turns R R w (address_of_tag (called_tag a w)) (λ x e. e) (λ v e. by_tag w (called_tag a w) (called_tag_is a w) v e)
