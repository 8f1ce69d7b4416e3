-- What conversions give has each property that literals and integers have, and arrays whose first element became a literal.
use Rattle.std.proofs.Common.{ℕ, ℤ, ◌≡◌, ◌==◌, Bool, true, false, cond, not, List, [], ◌∷◌, codes, Option, Some, None, Result, Ok, Err, refl}
use Rattle.cbor_edn_parts.specs.declared.base.indicator.Indicator.{Indicator}
use Rattle.cbor_edn_parts.specs.internal.NumberReading.{integer_of}
use Rattle.cbor_edn_model.specs.access.Accessed.{item_bytes, array_items}
use Rattle.cbor_edn_model.specs.visit.Seeking.{CallArguments}
use Rattle.cbor_edn_model.specs.tree.Trees.{Tree, OneItem, NumberTree}
use Rattle.cbor_edn_model.specs.visit.Visits.{fine, comment, no_memory}
use Rattle.cbor_edn_times_and_addresses.specs.declared.address.IpVersion.{IpVersion}
use Rattle.cbor_edn_times_and_addresses.specs.declared.address.IpVersion.TheVariants.{V4, V6}
use Rattle.cbor_edn_times_and_addresses.specs.internal.TimeComputing.{time_text}
use Rattle.cbor_edn_conversions.specs.Conversions.{Message, Conversion, Reply, reply, and_then, called_tag, is_shortest, changed_encoding, without_tag, mean_the_same, literal_tree, integer_tree, tag_tree, in_tag}
use Rattle.cbor_edn_conversions.specs.Integers.{item_integer}
use Rattle.cbor_edn_conversions.specs.Times.{time_prefix, is_plain, instant_by, is_time_stamp, instant_literal, time_literal, time_of_tag, pretty_time}
use Rattle.cbor_edn_conversions.specs.Addresses.{address_prefix, address_tag, address_item, whole_text, prefix_text, if_same, as_literal, with_first, as_first, by_length, by_others, by_first, by_elements, by_bytes, address_literal, address_of_tag, pretty_address}
use Rattle.cbor_edn_conversions.specs.Bignums.{quoted_item_bytes, magnitude, bignum_integer, if_same_integer, integer_of_tag, bignum_of_tag, pretty_bignum}

module _ (P : Tree OneItem → Type 0) where
  -- the item that a conversion gives, if it gives one, has it
  abbrev pub Gives : Conversion → Type 0
  Gives (Ok v) = P v
  Gives (Err e) = Unit {0}

  abbrev pub MayGive : Option Conversion → Type 0
  MayGive None = Unit {0}
  MayGive (Some c) = Gives c

  pub reply_gives : (w : Tree OneItem) (o : Option Conversion) → MayGive o → P w → P (reply w o).1
  reply_gives w None g h = h
  reply_gives w (Some (Err e)) g h = h
  reply_gives w (Some (Ok v)) g h = g

  pub then_gives : (a : Reply) (f : Tree OneItem → Reply) → ((w : Tree OneItem) → P w → P (f w).1) → P a.1 → P (and_then a f).1
  then_gives (fine, w) f leaves h = leaves w h
  then_gives (comment e, w) f leaves h = h
  then_gives (no_memory, w) f leaves h = h

  pub if_gives : (b : Bool) (c e : Conversion) → Gives c → Gives e → Gives (cond b c e)
  if_gives true c e g h = g
  if_gives false c e g h = h

  pub may_give : (b : Bool) (o p : Option Conversion) → MayGive o → MayGive p → MayGive (cond b o p)
  may_give true o p g h = g
  may_give false o p g h = h

  without_gives : (i : Option Indicator) (n : ℕ) (c : Conversion) → Gives c → Gives (without_tag i n c)
  without_gives i n (Err e) g = tt
  without_gives i n (Ok v) g = if_gives (is_shortest i n) (Ok v) (Err changed_encoding) g tt

  -- ---- times

  module _ (literal : (p t : List ℕ) → P (literal_tree p t)) where
    instant_gives : (wrap plain : Bool) (o : Option (ℤ × ℕ)) → Gives (instant_literal wrap plain o)
    instant_gives wrap plain None = tt
    instant_gives wrap plain (Some p) =
        let item = literal_tree (time_prefix wrap) (time_text p.0 p.1) in
        if_gives (not (is_time_stamp p.0)) (Err (codes "Value out of range for time stamps")) (cond (not plain) (Err changed_encoding) (Ok item)) tt
        (if_gives (not plain) (Err changed_encoding) (Ok item) tt (literal (time_prefix wrap) (time_text p.0 p.1)))

    pub time_gives : (w : Tree OneItem) (wrap : Bool) → Gives (time_literal w wrap)
    unfolding time_literal
    time_gives (NumberTree x i) wrap = instant_gives wrap (is_plain (integer_of x) i) (instant_by (integer_of x) i x)
    time_gives _ wrap = tt

    time_tag_gives : (o : Option (ℕ × Option Indicator × Tree OneItem)) → MayGive (time_of_tag o)
    time_tag_gives None = tt
    time_tag_gives (Some (n, i, w)) = may_give (n == 1) (Some (without_tag i n (time_literal w true))) None (without_gives i n (time_literal w true) (time_gives w true)) tt

    pub time_left : (a : CallArguments) (w : Tree OneItem) → P w → P (pretty_time a w).1
    unfolding pretty_time
    time_left a w h = reply_gives w (time_of_tag (called_tag a w)) (time_tag_gives (called_tag a w)) h

    -- ---- addresses

    -- an item of an address whose first element became a literal has it, where it is an array
    abbrev pub FirstGiven : IpVersion → Bool → Tree OneItem → Type 0
    FirstGiven version wrap w = (t : List ℕ) (es : List (Tree OneItem)) → array_items w ≡ Some es → P (with_first version wrap w (literal_tree (address_prefix false) t))

    module _ (version : IpVersion) (wrap : Bool) (w : Tree OneItem) (first : FirstGiven version wrap w) where
      same_gives : (new : Tree OneItem) (r : Conversion) → P new → Gives (if_same version wrap w new r)
      same_gives new (Err e) h = tt
      same_gives new (Ok back) h = if_gives (mean_the_same (in_tag wrap (address_tag version) w) back) (Ok new) (Err changed_encoding) h tt

      literal_gives : (r : Result (List ℕ) Message) → Gives (as_literal version wrap w r)
      literal_gives (Err e) = tt
      literal_gives (Ok t) = same_gives (literal_tree (address_prefix wrap) t) (address_item wrap t) (literal (address_prefix wrap) t)

      first_gives : (es : List (Tree OneItem)) → array_items w ≡ Some es → (r : Result (List ℕ) Message) → Gives (as_first version wrap w r)
      first_gives es are (Err e) = tt
      first_gives es are (Ok t) = same_gives (with_first version wrap w (literal_tree (address_prefix false) t)) _ (first t es are)

      length_gives : (z : Option ℤ) (o : Option (List ℕ)) → Gives (by_length version wrap w z o)
      length_gives None o = tt
      length_gives (Some z) None = tt
      length_gives (Some z) (Some bs) = literal_gives (prefix_text version z bs)

      others_give : (e : Tree OneItem) (es : List (Tree OneItem)) → Gives (by_others version wrap w e es)
      others_give e [] = tt
      others_give e (b ∷ []) = length_gives (item_integer e) (item_bytes b)
      others_give e (b ∷ c ∷ es) = tt

      elements_give : (e : Tree OneItem) (es : List (Tree OneItem)) → array_items w ≡ Some (e ∷ es) → (o : Option (List ℕ)) → Gives (by_first version wrap w o e es)
      elements_give e es are (Some bs) = first_gives (e ∷ es) are (whole_text version bs)
      elements_give e es are None = others_give e es

      array_gives : (o : Option (List (Tree OneItem))) → array_items w ≡ o → Gives (by_elements version wrap w o)
      array_gives None are = tt
      array_gives (Some []) are = tt
      array_gives (Some (e ∷ es)) are = elements_give e es are (item_bytes e)

      bytes_give : (o : Option (List ℕ)) → Gives (by_bytes version wrap w o)
      bytes_give (Some bs) = literal_gives (whole_text version bs)
      bytes_give None = array_gives (array_items w) refl

      address_gives : Gives (address_literal w version wrap)
      unfolding address_literal
      address_gives = bytes_give (item_bytes w)

    address_tag_gives : (o : Option (ℕ × Option Indicator × Tree OneItem)) → ((n : ℕ) (i : Option Indicator) (c : Tree OneItem) → o ≡ Some (n, i, c) → (version : IpVersion) → FirstGiven version true c) → MayGive (address_of_tag o)
    address_tag_gives None first = tt
    address_tag_gives (Some (n, i, c)) first =
        let gives : (version : IpVersion) → Gives (address_literal c version true) = λ version. address_gives version true c (first n i c refl version) in
        may_give (n == 52) (Some (without_tag i n (address_literal c V4 true))) _ (without_gives i n _ (gives V4))
        (may_give (n == 54) (Some (without_tag i n (address_literal c V6 true))) None (without_gives i n _ (gives V6)) tt)

    pub address_left : (a : CallArguments) (w : Tree OneItem) → ((n : ℕ) (i : Option Indicator) (c : Tree OneItem) → called_tag a w ≡ Some (n, i, c) → (version : IpVersion) → FirstGiven version true c) → P w → P (pretty_address a w).1
    unfolding pretty_address
    address_left a w first h = reply_gives w (address_of_tag (called_tag a w)) (address_tag_gives (called_tag a w) first) h

  -- ---- bignums

  module _ (integer : (z : ℤ) → P (integer_tree z)) where
    same_integer_gives : (w : Tree OneItem) (o : Option ℤ) → MayGive (if_same_integer w o)
    same_integer_gives w None = tt
    same_integer_gives w (Some z) = may_give (mean_the_same w (integer_tree z)) (Some (Ok (integer_tree z))) None (integer z) tt

    integer_gives : (n : ℕ) (c : Tree OneItem) (o : Option (List ℕ)) → MayGive (integer_of_tag n c o)
    integer_gives n c None = tt
    integer_gives n c (Some bs) = same_integer_gives (tag_tree n c) (bignum_integer n (magnitude bs))

    bignum_gives : (o : Option (ℕ × Option Indicator × Tree OneItem)) → MayGive (bignum_of_tag o)
    bignum_gives None = tt
    bignum_gives (Some (n, Some i, c)) = tt
    bignum_gives (Some (n, None, c)) = integer_gives n c (quoted_item_bytes c)

    pub bignum_left : (a : CallArguments) (w : Tree OneItem) → P w → P (pretty_bignum a w).1
    unfolding pretty_bignum
    bignum_left a w h = reply_gives w (bignum_of_tag (called_tag a w)) (bignum_gives (called_tag a w)) h
