-- At which tags the calls of a run act.
use Rattle.std.proofs.Common.{◌≡◌, ℕ, Bool, true, false, cond, eqb, List, [], ◌∷◌, Option, Some, None, refl, sym, ap}
use Rattle.std.specs.Prelude.{◌&&◌, if◌then◌else◌}
use Rattle.std.proofs.lemmas.Bool.{or_parts, ne_eqb, eqb-false}
use Rattle.cbor_edn_parts.specs.declared.base.indicator.Indicator.{Indicator}
use Rattle.cbor_edn_model.specs.declared.text.opener.OpenerKind.TheVariants as opener
use Rattle.cbor_edn_model.specs.access.Accessed.{inner_item}
use Rattle.cbor_edn_model.specs.tree.Trees.{Tree, OneItem, EnclosedTree}
use Rattle.cbor_edn_model.specs.visit.Visits.{fine}
use Rattle.cbor_edn_conversions.specs.Addresses.{pretty_address, address_of_tag}
use Rattle.cbor_edn_conversions.specs.Annotations.{comment_lang, at_content, with_direction}
use Rattle.cbor_edn_conversions.specs.Bignums.{pretty_bignum, quoted_item_bytes, bignum_of_tag, bignum_integer, if_same_integer, integer_of_tag, magnitude}
use Rattle.cbor_edn_conversions.specs.Conversions.{Conversion, reply, tag_tree}
use Rattle.cbor_edn_conversions.specs.Times.{pretty_time, time_of_tag}
use Rattle.cbor_edn_stream.specs.Tags.{among}
use Rattle.cbor_edn.specs.ChangedTags.{tags_changed}
use Rattle.cbor_edn.proofs.KeptTags.{ActsOn}

-- no number of a list, and so none of those in it
other_than : (m n : ℕ) → eqb m n ≡ false → eqb n m ≡ false
other_than m n e = ne_eqb n m (λ is. eqb-false m n e (sym is))

-- a tag of the call, or none
called : (b : Bool) (n : ℕ) (i : Option Indicator) (w : Tree OneItem) (by : Option (ℕ × Option Indicator × Tree OneItem) → Option Conversion) → by (Some (n, i, w)) ≡ None → by None ≡ None → by (cond b (Some (n, i, w)) None) ≡ None
called true n i w by some none = some
called false n i w by some none = none

no_reply : (w : Tree OneItem) (o : Option Conversion) → o ≡ None → reply w o ≡ (fine, w)
no_reply w o is = ap (reply w) is

no_address : (n : ℕ) (i : Option Indicator) (w : Tree OneItem) → eqb n 52 ≡ false → eqb n 54 ≡ false → address_of_tag (Some (n, i, w)) ≡ None
no_address n i w a b = rw (a, b) refl

no_time : (n : ℕ) (i : Option Indicator) (w : Tree OneItem) → eqb n 1 ≡ false → time_of_tag (Some (n, i, w)) ≡ None
no_time n i w a = rw a refl

no_integer : (n m : ℕ) → eqb n 2 ≡ false → eqb n 3 ≡ false → bignum_integer n m ≡ None
no_integer n m a b = rw (a, b) refl

no_bignum_of : (n : ℕ) (w : Tree OneItem) (o : Option (List ℕ)) → eqb n 2 ≡ false → eqb n 3 ≡ false → integer_of_tag n w o ≡ None
no_bignum_of n w None a b = refl
no_bignum_of n w (Some bs) a b = ap (if_same_integer (tag_tree n w)) (no_integer n (magnitude bs) a b)

no_bignum : (n : ℕ) (i : Option Indicator) (w : Tree OneItem) → eqb n 2 ≡ false → eqb n 3 ≡ false → bignum_of_tag (Some (n, i, w)) ≡ None
no_bignum n (Some i) w a b = refl
no_bignum n None w a b = no_bignum_of n w (quoted_item_bytes w) a b

no_language : (b c : Bool) → c ≡ false → (b && c) ≡ false
no_language true c is = is
no_language false c is = refl

-- the numbers, as they stand in the list
abbrev Numbers : ℕ → Bool → Bool → Type 0
Numbers n annotate bignum = among (tags_changed annotate bignum) n ≡ false

module _ (bignum : Bool) where
  first : (n : ℕ) → Numbers n true bignum → (eqb n 1 ≡ false) × (eqb n 38 ≡ false) × (eqb n 52 ≡ false) × (eqb n 54 ≡ false)
  first n none =
      let a = or_parts (eqb 1 n) _ none in
      let b = or_parts (eqb 38 n) _ a.1 in
      let c = or_parts (eqb 52 n) _ b.1 in
      let d = or_parts (eqb 54 n) _ c.1 in
      (other_than 1 n a.0, other_than 38 n b.0, other_than 52 n c.0, other_than 54 n d.0)

  pub address_acts : ActsOn (tags_changed true bignum) pretty_address
  unfolding pretty_address
  address_acts n i w none = let o = first n none in no_reply _ _ (called (eqb n n) n i (inner_item w) address_of_tag (no_address n i (inner_item w) o.2 o.3) refl)

  pub time_acts : ActsOn (tags_changed true bignum) pretty_time
  unfolding pretty_time
  time_acts n i w none = let o = first n none in no_reply _ _ (called (eqb n n) n i (inner_item w) time_of_tag (no_time n i (inner_item w) o.0) refl)

  pub language_acts : ActsOn (tags_changed true bignum) comment_lang
  unfolding comment_lang
  language_acts n i w none =
      let o = first n none in
      let t = EnclosedTree (opener.Tag i n) w in
      ap (λ (b : Bool). if b then at_content with_direction t else (fine, t)) (no_language (eqb n n) (eqb n 38) o.1)

shown : (n : ℕ) → among (2 ∷ 3 ∷ []) n ≡ false → (eqb n 2 ≡ false) × (eqb n 3 ≡ false)
shown n none =
    let a = or_parts (eqb 2 n) _ none in
    let b = or_parts (eqb 3 n) _ a.1 in
    (other_than 2 n a.0, other_than 3 n b.0)

last : (annotate : Bool) (n : ℕ) → Numbers n annotate true → (eqb n 2 ≡ false) × (eqb n 3 ≡ false)
last true n none =
    let a = or_parts (eqb 1 n) _ none in
    let b = or_parts (eqb 38 n) _ a.1 in
    let c = or_parts (eqb 52 n) _ b.1 in
    let d = or_parts (eqb 54 n) _ c.1 in
    shown n d.1
last false n none = shown n none

pub bignum_acts : (annotate : Bool) → ActsOn (tags_changed annotate true) pretty_bignum
unfolding pretty_bignum
bignum_acts annotate n i w none = let o = last annotate n none in no_reply _ _ (called (eqb n n) n i (inner_item w) bignum_of_tag (no_bignum n i (inner_item w) o.0 o.1) refl)
