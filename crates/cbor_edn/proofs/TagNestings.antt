-- No function of tags leaves an item that nests deeper than the item before.
use Rattle.std.proofs.Common.{ℕ, ℤ, suc, ◌≡◌, ◌≤◌, Bool, true, false, cond, List, Option, Some, None, refl, sym, ap, arith}
use Rattle.cbor_edn_parts.specs.declared.base.indicator.Indicator.{Indicator}
use Rattle.cbor_edn_model.specs.declared.text.opener.OpenerKind.TheVariants as opener
use Rattle.cbor_edn_model.specs.access.Accessed.{array_items}
use Rattle.cbor_edn_model.specs.tree.Items.{Elements, Array, Map, nesting}
use Rattle.cbor_edn_model.specs.access.Paths.{with_item}
use Rattle.cbor_edn_model.specs.visit.Seeking.{CallArguments}
use Rattle.cbor_edn_model.specs.tree.Trees.{Tree, OneItem, Inside, Rest, NumberTree, FloatTree, NamedTree, EnclosedTree, ListTree, StringTree, StreamTree, ElementTree, EmptyTree, FullTree, LastTree, MoreTree, StandaloneTree, items}
use Rattle.cbor_edn_model.proofs.lemmas.cbor.MeaningSteps.{some_is}
use Rattle.cbor_edn_conversions.specs.Conversions.{Reply, called_tag, tells, literal_tree, integer_tree, in_tag}
use Rattle.cbor_edn_conversions.specs.Times.{pretty_time}
use Rattle.cbor_edn_conversions.specs.Addresses.{address_prefix, address_tag, pretty_address}
use Rattle.cbor_edn_conversions.specs.Bignums.{pretty_bignum}
use Rattle.cbor_edn_conversions.specs.Annotations.{comment_lang}
use Rattle.cbor_edn_conversions.proofs.nesting.DirectAnswers.{language_keeps_items}
use Rattle.cbor_edn_conversions.proofs.nesting.GivenItems.{address_left, bignum_left, time_left}

-- how deep an item nests
abbrev pub deep : Tree OneItem → ℕ
deep w = nesting (items w)

-- what is left of an item nests no deeper
abbrev pub NoDeeper : (Tree OneItem → Reply) → Type 0
NoDeeper f = (w : Tree OneItem) → deep (f w).1 ≤ deep w

-- what is made of a number or of a literal's text nests in nothing
literal_deep : (p t : List ℕ) → deep (literal_tree p t) ≡ 0
unfolding items
literal_deep p t = refl

pub literal_flat : (d : ℕ) (p t : List ℕ) → deep (literal_tree p t) ≤ d
literal_flat d p t = omega (arith, literal_deep p t)

integer_flat : (d : ℕ) (z : ℤ) → deep (integer_tree z) ≤ d
unfolding items
integer_flat d z = omega arith

-- ---- addresses

-- an array with a literal for its first element
module _ (x : Tree OneItem) (flat : deep x ≡ 0) where
  rest_no_deeper : (m : Tree (Rest Elements)) → nesting (items (with_item 0 x m)) ≤ nesting (items m)
  unfolding items
  rest_no_deeper (LastTree (ElementTree w) s) = omega (arith, flat)
  rest_no_deeper (MoreTree (ElementTree w) s m) = omega (arith, flat)

  inside_no_deeper : (w : Tree (Inside Array)) → nesting (items (with_item 0 x w)).1 ≤ nesting (items w).1
  unfolding items
  inside_no_deeper (EmptyTree i s) = omega arith
  inside_no_deeper (FullTree h s m) = rest_no_deeper m

  first_no_deeper : (w : Tree OneItem) (es : List (Tree OneItem)) → array_items w ≡ Some es → deep (with_item 0 x w) ≤ deep w
  unfolding items
  first_no_deeper (ListTree Array w) es is = let h = inside_no_deeper w in omega (arith, h)
  first_no_deeper (ListTree Map w) es is = absurd cc
  first_no_deeper (StringTree w) es is = absurd cc
  first_no_deeper (StreamTree s m) es is = absurd cc
  first_no_deeper (NumberTree z i) es is = absurd cc
  first_no_deeper (FloatTree f i) es is = absurd cc
  first_no_deeper (NamedTree b) es is = absurd cc
  first_no_deeper (EnclosedTree l w) es is = absurd cc

tagged_no_deeper : (wrap : Bool) (n d : ℕ) (w : Tree OneItem) → deep w ≤ d → deep (in_tag wrap n w) ≤ suc d
unfolding items
tagged_no_deeper true n d w h = omega (arith, h)
tagged_no_deeper false n d w h = omega (arith, h)

-- the tag of a call nests one level deeper than its content
abbrev parts : ℕ → Option Indicator → Tree OneItem → ℕ × Option Indicator × Tree OneItem
parts n i w = (n, i, w)

called_by : (b : Bool) (n m : ℕ) (i j : Option Indicator) (u c : Tree OneItem) → cond b (Some (parts n i u)) None ≡ Some (parts m j c) → c ≡ u
called_by true n m i j u c e = sym (ap (λ (p : ℕ × Option Indicator × Tree OneItem). p.2) (some_is (parts n i u) (parts m j c) e))
called_by false n m i j u c e = absurd cc

called_depth : (a : CallArguments) (w : Tree OneItem) (n : ℕ) (i : Option Indicator) (c : Tree OneItem) → called_tag a w ≡ Some (n, i, c) → suc (deep c) ≡ deep w
unfolding items
called_depth a (EnclosedTree (opener.Tag i n) (StandaloneTree s u t)) m j c e = ap (λ w. suc (deep w)) (called_by (tells a n) n m i j u c e)
called_depth a (EnclosedTree opener.Simple w) m j c e = absurd cc
called_depth a (NumberTree x i) m j c e = absurd cc
called_depth a (FloatTree f i) m j c e = absurd cc
called_depth a (NamedTree b) m j c e = absurd cc
called_depth a (ListTree k w) m j c e = absurd cc
called_depth a (StringTree w) m j c e = absurd cc
called_depth a (StreamTree ms m) n j c e = absurd cc

-- ---- the functions

pub itself : (w : Tree OneItem) → deep w ≤ deep w
itself w = omega arith

pub times_no_deeper : (a : CallArguments) → NoDeeper (pretty_time a)
times_no_deeper a w = time_left (λ v. deep v ≤ deep w) (literal_flat (deep w)) a w (itself w)

pub addresses_no_deeper : (a : CallArguments) → NoDeeper (pretty_address a)
addresses_no_deeper a w =
    address_left (λ v. deep v ≤ deep w) (literal_flat (deep w)) a w
    (λ n i c e version t es are.
    let literal = literal_tree (address_prefix false) t in
    let called = called_depth a w n i c e in
    let tagged = tagged_no_deeper true (address_tag version) (deep c) (with_item 0 literal c) (first_no_deeper literal (literal_deep (address_prefix false) t) c es are) in
    omega (arith, called, tagged))
    (itself w)

pub bignums_no_deeper : (a : CallArguments) → NoDeeper (pretty_bignum a)
bignums_no_deeper a w = bignum_left (λ v. deep v ≤ deep w) (integer_flat (deep w)) a w (itself w)

pub languages_no_deeper : (a : CallArguments) → NoDeeper (comment_lang a)
languages_no_deeper a w = let same = ap nesting (language_keeps_items a w) in omega (arith, same)
