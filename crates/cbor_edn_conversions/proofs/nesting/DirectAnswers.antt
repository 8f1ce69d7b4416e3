-- What conversions and comments make of direct items is direct.
use Rattle.std.proofs.Common.{ℕ, ℤ, ◌≡◌, Bool, true, false, cond, List, Option, Some, None, Result, Ok, Err, refl, sym, ap, subst}
use Rattle.std.specs.declared.net.ip_addr.IpAddr.{IpAddr}
use Rattle.cbor_edn_parts.specs.declared.base.indicator.Indicator.{Indicator}
use Rattle.cbor_edn_parts.specs.internal.ContentReading.{same}
use Rattle.cbor_edn_model.specs.declared.text.opener.OpenerKind.TheVariants as opener
use Rattle.cbor_edn_model.specs.access.Accessed.{array_items}
use Rattle.cbor_edn_model.specs.tree.Items.{Elements, Array, Map, Item, Node, Tagged, Listed, Simple, Then}
use Rattle.cbor_edn_model.specs.access.Paths.{with_item}
use Rattle.cbor_edn_model.specs.visit.Seeking.{CallArguments, number, prefix_and_text}
use Rattle.cbor_edn_model.specs.tree.Trees.{Tree, OneItem, Inside, Rest, head_indicator, NumberTree, FloatTree, NamedTree, EnclosedTree, ListTree, StringTree, StreamTree, ElementTree, EmptyTree, FullTree, LastTree, MoreTree, StandaloneTree, items}
use Rattle.cbor_edn_model.specs.visit.Visits.{fine}
use Rattle.cbor_edn_times_and_addresses.specs.declared.address.AddressError.{AddressError}
use Rattle.cbor_edn_times_and_addresses.specs.internal.AddressReading.{address_of}
use Rattle.cbor_edn_times_and_addresses.specs.internal.TimeComputing.{instant_of}
use Rattle.cbor_edn_conversions.specs.Conversions.{Conversion, Reply, reply, and_then, of_prefixes, of_literal, called_tag, literal_tree, integer_tree, in_tag}
use Rattle.cbor_edn_conversions.specs.Times.{time_prefix, instant_item, time_item, resolve_time, time_literal, pretty_time}
use Rattle.cbor_edn_conversions.specs.Addresses.{address_prefix, address_tag, bytes_behind, read_item, address_item, resolve_address, pretty_address}
use Rattle.cbor_edn_conversions.specs.Bignums.{pretty_bignum}
use Rattle.cbor_edn_conversions.specs.All.{resolve_all, pretty_all}
use Rattle.cbor_edn_conversions.specs.Annotations.{direction_at, commented, turned, with_direction, at_content, is_called_tag, comment_lang}
use Rattle.cbor_edn_conversions.specs.Tag999.{is_built_in, tag999_tree, tag999_of_literal, to_tag999}
use Rattle.cbor_edn_conversions.specs.Nesting.{IsDirect}
use Rattle.cbor_edn_conversions.specs.NestingLaws.{CallsKeepDirect, LanguageKeepsItems}
use Rattle.cbor_edn_conversions.proofs.conversions.Calls.{called_tag_is}
use Rattle.cbor_edn_conversions.proofs.nesting.GivenItems.{Gives, MayGive, address_left, bignum_left, may_give, reply_gives, then_gives, time_gives, time_left}

-- ---- conversions

abbrev pub IsDirectItem : Tree OneItem → Type 0
IsDirectItem v = IsDirect (items v)

-- what a callback leaves of a direct item is
abbrev pub Leaves : (Tree OneItem → Reply) → Type 0
Leaves f = (w : Tree OneItem) → IsDirect (items w) → IsDirect (items (f w).1)

pub reply_leaves : (w : Tree OneItem) (o : Option Conversion) → MayGive IsDirectItem o → IsDirect (items w) → IsDirect (items (reply w o).1)
reply_leaves = reply_gives IsDirectItem

-- an item in a tag is as direct as without
in_tag_direct : (wrap : Bool) (n : ℕ) (w : Tree OneItem) → IsDirect (items w) → IsDirect (items (in_tag wrap n w))
unfolding items
in_tag_direct true n w d = d
in_tag_direct false n w d = d

literal_direct : (p t : List ℕ) → IsDirect (items (literal_tree p t))
unfolding items
literal_direct p t = tt

-- the content of a direct tag is direct
called_direct : (a : CallArguments) (w : Tree OneItem) → IsDirect (items w) → (n : ℕ) (i : Option Indicator) (c : Tree OneItem) → called_tag a w ≡ Some (n, i, c) → IsDirect (items c)
called_direct a w d n i c e = subst (λ (x : Node Item). IsDirect x) (called_tag_is a w n i c e) d

-- ---- literals

prefixes_give : (prefix : Bool → List ℕ) (item : Bool → List ℕ → Conversion) → ((wrap : Bool) (t : List ℕ) → Gives IsDirectItem (item wrap t)) → (a : CallArguments) → MayGive IsDirectItem (of_literal (of_prefixes prefix item) a)
prefixes_give prefix item g (number n) = tt
prefixes_give prefix item g (prefix_and_text p t) = may_give IsDirectItem (same p (prefix false)) (Some (item false t)) _ (g false t) (may_give IsDirectItem (same p (prefix true)) (Some (item true t)) None (g true t) tt)

instant_gives : (wrap : Bool) (o : Option (ℤ × ℕ)) → Gives IsDirectItem (instant_item wrap o)
unfolding items
instant_gives wrap None = tt
instant_gives wrap (Some p) = in_tag_direct wrap 1 _ tt

behind_direct : (o : Option ℕ) (bs : List ℕ) → IsDirect (items (bytes_behind o bs))
unfolding items
behind_direct None bs = tt
behind_direct (Some n) bs = (tt, (tt, tt))

read_gives : (wrap : Bool) (r : Result (IpAddr × Option ℕ) AddressError) → Gives IsDirectItem (read_item wrap r)
read_gives wrap (Err e) = tt
read_gives wrap (Ok p) = in_tag_direct wrap _ (bytes_behind p.1 _) (behind_direct p.1 _)

pub resolved_times : (a : CallArguments) → Leaves (resolve_time a)
unfolding resolve_time
resolved_times a w d = reply_leaves w _ (prefixes_give time_prefix time_item (λ wrap t. instant_gives wrap (instant_of t)) a) d

pub resolved_addresses : (a : CallArguments) → Leaves (resolve_address a)
unfolding resolve_address
resolved_addresses a w d = reply_leaves w _ (prefixes_give address_prefix address_item (λ wrap t. read_gives wrap (address_of t)) a) d

tag999_direct : (p t : List ℕ) → IsDirect (items (tag999_tree p t))
unfolding items
tag999_direct p t = (tt, (tt, tt))

tag999_gives : (a : CallArguments) → MayGive IsDirectItem (of_literal tag999_of_literal a)
tag999_gives (number n) = tt
tag999_gives (prefix_and_text p t) = may_give IsDirectItem (is_built_in p) None (Some (Ok (tag999_tree p t))) tt (tag999_direct p t)

tags_999 : (a : CallArguments) → Leaves (to_tag999 a)
unfolding to_tag999
tags_999 a w d = reply_leaves w _ (tag999_gives a) d

-- ---- times

pub time_leaves : (w : Tree OneItem) (wrap : Bool) → Gives IsDirectItem (time_literal w wrap)
time_leaves = time_gives IsDirectItem literal_direct

pub pretty_times : (a : CallArguments) → Leaves (pretty_time a)
pretty_times = time_left IsDirectItem literal_direct

-- ---- addresses

-- an array with another first element
module _ (x : Tree OneItem) (new : IsDirect (items x)) where
  rest_direct : (m : Tree (Rest Elements)) → IsDirect (items m) → IsDirect (items (with_item 0 x m))
  unfolding items
  rest_direct (LastTree (ElementTree w) s) d = (new, tt)
  rest_direct (MoreTree (ElementTree w) s m) d = (new, d.1)

  inside_direct : (w : Tree (Inside Array)) → IsDirect (items w).1 → IsDirect (items (with_item 0 x w)).1
  unfolding items
  inside_direct (EmptyTree i s) d = d
  inside_direct (FullTree h s m) d = rest_direct m d

  first_direct : (w : Tree OneItem) (es : List (Tree OneItem)) → array_items w ≡ Some es → IsDirect (items w) → IsDirect (items (with_item 0 x w))
  unfolding items
  first_direct (ListTree Array w) es is d = inside_direct w d
  first_direct (ListTree Map w) es is d = absurd cc
  first_direct (StringTree w) es is d = absurd cc
  first_direct (StreamTree s m) es is d = absurd cc
  first_direct (NumberTree z i) es is d = absurd cc
  first_direct (FloatTree f i) es is d = absurd cc
  first_direct (NamedTree b) es is d = absurd cc
  first_direct (EnclosedTree l w) es is d = absurd cc

pub pretty_addresses : (a : CallArguments) → Leaves (pretty_address a)
pretty_addresses a w d =
    address_left IsDirectItem literal_direct a w
    (λ n i c e version t es are.
    in_tag_direct true (address_tag version) _ (first_direct (literal_tree (address_prefix false) t) (literal_direct (address_prefix false) t) c es are (called_direct a w d n i c e)))
    d

-- ---- bignums

integer_direct : (z : ℤ) → IsDirect (items (integer_tree z))
unfolding items
integer_direct z = tt

pub pretty_bignums : (a : CallArguments) → Leaves (pretty_bignum a)
pretty_bignums = bignum_left IsDirectItem integer_direct

-- ---- all of them

pretty_items : (a : CallArguments) → Leaves (pretty_all a)
pretty_items a w d = then_gives IsDirectItem (and_then (pretty_time a w) (pretty_address a)) (pretty_bignum a) (pretty_bignums a) (then_gives IsDirectItem (pretty_time a w) (pretty_address a) (pretty_addresses a) (pretty_times a w d))

resolved_items : (a : CallArguments) → Leaves (resolve_all a)
resolved_items a w d = then_gives IsDirectItem (resolve_time a w) (resolve_address a) (resolved_addresses a) (resolved_times a w d)

-- ---- comments in a tag 38

commented_items : (i : ℕ) (m : Tree (Rest Elements)) → items (turned (commented direction_at) i m) ≡ items m
unfolding items
commented_items i (LastTree e s) = refl
commented_items i (MoreTree e s m) = ap (Then (items e)) (commented_items _ m)

direction_items : (w : Tree OneItem) → items (with_direction w).1 ≡ items w
unfolding items
direction_items (ListTree Array (FullTree h s m)) = ap (Listed Array (head_indicator h)) (commented_items 0 m)
direction_items (ListTree Array (EmptyTree i s)) = refl
direction_items (ListTree Map w) = refl
direction_items (StringTree w) = refl
direction_items (StreamTree s m) = refl
direction_items (NumberTree z i) = refl
direction_items (FloatTree f i) = refl
direction_items (NamedTree b) = refl
direction_items (EnclosedTree l w) = refl

content_items : (w : Tree OneItem) → items (at_content with_direction w).1 ≡ items w
unfolding items
content_items (EnclosedTree (opener.Tag i n) (StandaloneTree s w t)) = ap (Tagged n i) (direction_items w)
content_items (EnclosedTree opener.Simple (StandaloneTree s w t)) = ap Simple (direction_items w)
content_items (ListTree k w) = refl
content_items (StringTree w) = refl
content_items (StreamTree s m) = refl
content_items (NumberTree z i) = refl
content_items (FloatTree f i) = refl
content_items (NamedTree b) = refl

called_items : (b : Bool) (w : Tree OneItem) → items (cond b (at_content with_direction w) (fine, w)).1 ≡ items w
called_items true w = content_items w
called_items false w = refl

pub language_keeps_items : LanguageKeepsItems
unfolding comment_lang
language_keeps_items a w = called_items (is_called_tag a 38 w) w

languages : (a : CallArguments) → Leaves (comment_lang a)
languages a w d = subst (λ (x : Node Item). IsDirect x) (sym (language_keeps_items a w)) d

-- ---- the calls

calls_keep : (f : CallArguments → Tree OneItem → Reply) → ((a : CallArguments) → Leaves (f a)) → CallsKeepDirect f
calls_keep f h c is d = subst (λ (v : Tree OneItem). IsDirect (items v)) (sym is.1) (h c.arguments c.before d)

pub pretty_times_keep : CallsKeepDirect pretty_time
pretty_times_keep = calls_keep pretty_time pretty_times

pub pretty_addresses_keep : CallsKeepDirect pretty_address
pretty_addresses_keep = calls_keep pretty_address pretty_addresses

pub pretty_bignums_keep : CallsKeepDirect pretty_bignum
pretty_bignums_keep = calls_keep pretty_bignum pretty_bignums

pub pretty_items_keep : CallsKeepDirect pretty_all
pretty_items_keep = calls_keep pretty_all pretty_items

pub resolved_times_keep : CallsKeepDirect resolve_time
resolved_times_keep = calls_keep resolve_time resolved_times

pub resolved_addresses_keep : CallsKeepDirect resolve_address
resolved_addresses_keep = calls_keep resolve_address resolved_addresses

pub resolved_items_keep : CallsKeepDirect resolve_all
resolved_items_keep = calls_keep resolve_all resolved_items

pub tags_999_keep : CallsKeepDirect to_tag999
tags_999_keep = calls_keep to_tag999 tags_999

pub languages_keep : CallsKeepDirect comment_lang
languages_keep = calls_keep comment_lang languages
