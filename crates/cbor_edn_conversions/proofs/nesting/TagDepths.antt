-- No function of tags leaves an item that nests deeper.
use Rattle.std.proofs.Common.{ℕ, ℤ, suc, max, ◌≡◌, ◌≤◌, Bool, true, false, cond, List, Option, Some, None, refl, sym, ap, arith}
use Rattle.cbor_edn_parts.specs.declared.base.indicator.Indicator.{Indicator}
use Rattle.cbor_edn_model.specs.declared.text.opener.OpenerKind.TheVariants as opener
use Rattle.cbor_edn_model.specs.access.Accessed.{array_items}
use Rattle.cbor_edn_model.specs.tree.Items.{Elements, Array, Map}
use Rattle.cbor_edn_model.specs.access.Paths.{with_item}
use Rattle.cbor_edn_model.specs.visit.Depth.{depth}
use Rattle.cbor_edn_model.specs.visit.Seeking.{CallArguments}
use Rattle.cbor_edn_model.specs.tree.Trees.{Tree, OneItem, Inside, Rest, NumberTree, FloatTree, NamedTree, EnclosedTree, ListTree, StringTree, StreamTree, ElementTree, EmptyTree, FullTree, LastTree, MoreTree, StandaloneTree}
use Rattle.cbor_edn_model.specs.visit.Visits.{fine}
use Rattle.cbor_edn_model.proofs.lemmas.cbor.MeaningSteps.{some_is}
use Rattle.cbor_edn_conversions.specs.Conversions.{Reply, and_then, called_tag, tells, literal_tree, integer_tree, in_tag}
use Rattle.cbor_edn_conversions.specs.Times.{pretty_time}
use Rattle.cbor_edn_conversions.specs.Addresses.{address_prefix, address_tag, pretty_address}
use Rattle.cbor_edn_conversions.specs.Bignums.{pretty_bignum}
use Rattle.cbor_edn_conversions.specs.All.{pretty_all}
use Rattle.cbor_edn_conversions.proofs.nesting.GivenItems.{address_left, bignum_left, then_gives, time_left}
use Rattle.cbor_edn_conversions.specs.Annotations.{commenting, direction_at, commented, turned, with_direction, at_content, is_called_tag, comment_lang}

-- what is left of an item nests no deeper
abbrev pub NoDeeper : (Tree OneItem → Reply) → Type 0
NoDeeper f = (w : Tree OneItem) → depth (f w).1 ≤ depth w

-- what is made of a number or of a literal's text nests in nothing
literal_depth : (p t : List ℕ) → depth (literal_tree p t) ≡ 0
unfolding depth
literal_depth p t = refl

pub literal_flat : (d : ℕ) (p t : List ℕ) → depth (literal_tree p t) ≤ d
literal_flat d p t = omega (arith, literal_depth p t)

integer_flat : (d : ℕ) (z : ℤ) → depth (integer_tree z) ≤ d
unfolding depth
integer_flat d z = omega arith

-- ---- addresses

-- an array with a literal for its first element
module _ (x : Tree OneItem) (flat : depth x ≡ 0) where
  rest_no_deeper : (m : Tree (Rest Elements)) → depth (with_item 0 x m) ≤ depth m
  unfolding depth
  rest_no_deeper (LastTree (ElementTree w) s) = omega (arith, flat)
  rest_no_deeper (MoreTree (ElementTree w) s m) = omega (arith, flat)

  inside_no_deeper : (w : Tree (Inside Array)) → depth (with_item 0 x w) ≤ depth w
  unfolding depth
  inside_no_deeper (EmptyTree i s) = omega arith
  inside_no_deeper (FullTree h s m) = rest_no_deeper m

  first_no_deeper : (w : Tree OneItem) (es : List (Tree OneItem)) → array_items w ≡ Some es → depth (with_item 0 x w) ≤ depth w
  unfolding depth
  first_no_deeper (ListTree Array w) es is = let h = inside_no_deeper w in omega (arith, h)
  first_no_deeper (ListTree Map w) es is = absurd cc
  first_no_deeper (StringTree w) es is = absurd cc
  first_no_deeper (StreamTree s m) es is = absurd cc
  first_no_deeper (NumberTree z i) es is = absurd cc
  first_no_deeper (FloatTree f i) es is = absurd cc
  first_no_deeper (NamedTree b) es is = absurd cc
  first_no_deeper (EnclosedTree l w) es is = absurd cc

tagged_no_deeper : (wrap : Bool) (n d : ℕ) (w : Tree OneItem) → depth w ≤ d → depth (in_tag wrap n w) ≤ suc d
unfolding depth
tagged_no_deeper true n d w h = omega (arith, h)
tagged_no_deeper false n d w h = omega (arith, h)

-- the tag of a call nests one level deeper than its content
abbrev parts : ℕ → Option Indicator → Tree OneItem → ℕ × Option Indicator × Tree OneItem
parts n i w = (n, i, w)

called_by : (b : Bool) (n m : ℕ) (i j : Option Indicator) (u c : Tree OneItem) → cond b (Some (parts n i u)) None ≡ Some (parts m j c) → c ≡ u
called_by true n m i j u c e = sym (ap (λ (p : ℕ × Option Indicator × Tree OneItem). p.2) (some_is (parts n i u) (parts m j c) e))
called_by false n m i j u c e = absurd cc

called_depth : (a : CallArguments) (w : Tree OneItem) (n : ℕ) (i : Option Indicator) (c : Tree OneItem) → called_tag a w ≡ Some (n, i, c) → suc (depth c) ≡ depth w
unfolding depth
called_depth a (EnclosedTree (opener.Tag i n) (StandaloneTree s u t)) m j c e = ap (λ w. suc (depth w)) (called_by (tells a n) n m i j u c e)
called_depth a (EnclosedTree opener.Simple w) m j c e = absurd cc
called_depth a (NumberTree x i) m j c e = absurd cc
called_depth a (FloatTree f i) m j c e = absurd cc
called_depth a (NamedTree b) m j c e = absurd cc
called_depth a (ListTree k w) m j c e = absurd cc
called_depth a (StringTree w) m j c e = absurd cc
called_depth a (StreamTree ms m) n j c e = absurd cc

-- ---- comments in a tag 38

commented_depth : (i : ℕ) (m : Tree (Rest Elements)) → depth (turned (commented direction_at) i m) ≡ depth m
unfolding depth
commented_depth i (LastTree e s) = refl
commented_depth i (MoreTree e s m) = ap (max (depth e)) (commented_depth _ m)

direction_depth : (w : Tree OneItem) → depth (with_direction w).1 ≡ depth w
unfolding depth
direction_depth (ListTree Array (FullTree h s m)) = ap suc (commented_depth 0 m)
direction_depth (ListTree Array (EmptyTree i s)) = refl
direction_depth (ListTree Map w) = refl
direction_depth (StringTree w) = refl
direction_depth (StreamTree s m) = refl
direction_depth (NumberTree z i) = refl
direction_depth (FloatTree f i) = refl
direction_depth (NamedTree b) = refl
direction_depth (EnclosedTree l w) = refl

content_depth : (w : Tree OneItem) → depth (at_content with_direction w).1 ≡ depth w
unfolding depth
content_depth (EnclosedTree (opener.Tag i n) (StandaloneTree s w t)) = ap suc (direction_depth w)
content_depth (EnclosedTree opener.Simple (StandaloneTree s w t)) = refl
content_depth (ListTree k w) = refl
content_depth (StringTree w) = refl
content_depth (StreamTree s m) = refl
content_depth (NumberTree z i) = refl
content_depth (FloatTree f i) = refl
content_depth (NamedTree b) = refl

called_content : (b : Bool) (w : Tree OneItem) → depth (cond b (at_content with_direction w) (fine, w)).1 ≤ depth w
called_content true w = let h = content_depth w in omega (arith, h)
called_content false w = omega arith

-- ---- the functions

itself : (w : Tree OneItem) → depth w ≤ depth w
itself w = omega arith

pub times_no_deeper : (a : CallArguments) → NoDeeper (pretty_time a)
times_no_deeper a w = time_left (λ v. depth v ≤ depth w) (literal_flat (depth w)) a w (itself w)

pub addresses_no_deeper : (a : CallArguments) → NoDeeper (pretty_address a)
addresses_no_deeper a w =
    address_left (λ v. depth v ≤ depth w) (literal_flat (depth w)) a w
    (λ n i c e version t es are.
    let literal = literal_tree (address_prefix false) t in
    let called = called_depth a w n i c e in
    let tagged = tagged_no_deeper true (address_tag version) (depth c) (with_item 0 literal c) (first_no_deeper literal (literal_depth (address_prefix false) t) c es are) in
    omega (arith, called, tagged))
    (itself w)

pub bignums_no_deeper : (a : CallArguments) → NoDeeper (pretty_bignum a)
bignums_no_deeper a w = bignum_left (λ v. depth v ≤ depth w) (integer_flat (depth w)) a w (itself w)

-- what leaves nothing deeper leaves it within a depth
within : (d : ℕ) (f : Tree OneItem → Reply) → NoDeeper f → (w : Tree OneItem) → depth w ≤ d → depth (f w).1 ≤ d
within d f less w h = let l = less w in omega (arith, l, h)

pub all_no_deeper : (a : CallArguments) → NoDeeper (pretty_all a)
all_no_deeper a w =
    let d = depth w in
    then_gives (λ v. depth v ≤ d) (and_then (pretty_time a w) (pretty_address a)) (pretty_bignum a) (within d (pretty_bignum a) (bignums_no_deeper a))
    (then_gives (λ v. depth v ≤ d) (pretty_time a w) (pretty_address a) (within d (pretty_address a) (addresses_no_deeper a)) (times_no_deeper a w))

pub languages_no_deeper : (a : CallArguments) → NoDeeper (comment_lang a)
unfolding comment_lang
languages_no_deeper a w = called_content (is_called_tag a 38 w) w

pub comments_no_deeper : (t : List ℕ) (a : CallArguments) → NoDeeper (commenting t a)
comments_no_deeper t a w = itself w
