-- At most one conversion does something: at a tag by its number, at a literal by its prefix.
use Rattle.std.proofs.Common.{ℕ, ◌≡◌, ◌==◌, ◌||◌, Bool, true, false, cond, codes, List, Option, Some, None, refl, ap, ◌∙◌, subst}
use Rattle.std.proofs.lemmas.Bool.{eqb-true}
use Rattle.cbor_edn_parts.specs.declared.base.indicator.Indicator.{Indicator}
use Rattle.cbor_edn_parts.specs.internal.ContentReading.{same}
use Rattle.cbor_edn_parts.proofs.lemmas.string.LiteralPrefixes.{same-found}
use Rattle.cbor_edn_model.specs.declared.text.opener.OpenerKind.TheVariants as opener
use Rattle.cbor_edn_model.specs.visit.Seeking.{number, prefix_and_text}
use Rattle.cbor_edn_model.specs.tree.Trees.{Tree, OneItem, NumberTree, FloatTree, NamedTree, EnclosedTree, ListTree, StringTree, StreamTree}
use Rattle.cbor_edn_model.specs.visit.Visits.{fine, comment, no_memory}
use Rattle.cbor_edn_model.specs.access.Accessed.{inner_item}
use Rattle.cbor_edn_conversions.specs.Conversions.{Conversion, Reply, reply, and_then, called_tag}
use Rattle.cbor_edn_conversions.specs.Times.{time_of_tag, pretty_time, resolve_time}
use Rattle.cbor_edn_conversions.specs.Addresses.{address_of_tag, address_of_literal, pretty_address, resolve_address}
use Rattle.cbor_edn_conversions.specs.Bignums.{quoted_item_bytes, integer_of_tag, bignum_of_tag, pretty_bignum}
use Rattle.cbor_edn_conversions.specs.All.{pretty_all, resolve_all}
use Rattle.cbor_edn_conversions.specs.ConversionLaws.{PrettyByNumber, ResolvedByPrefix}

-- ---- one behind the other

abbrev Idle : (Tree OneItem → Reply) → Type 0
Idle f = (w : Tree OneItem) → f w ≡ (fine, w)

then_idle : (r : Reply) (f : Tree OneItem → Reply) → Idle f → and_then r f ≡ r
then_idle (fine, w) f idle = idle w
then_idle (comment c, w) f idle = refl
then_idle (no_memory, w) f idle = refl

idle_then : (w : Tree OneItem) (r : Reply) (f : Tree OneItem → Reply) → r ≡ (fine, w) → and_then r f ≡ f w
idle_then w r f is = ap (λ r. and_then r f) is

none_idle : (w : Tree OneItem) (o : Option Conversion) → o ≡ None → reply w o ≡ (fine, w)
none_idle w o is = ap (reply w) is

-- ---- tags

abbrev OfTag : Type 0
OfTag = Option (ℕ × Option Indicator × Tree OneItem) → Option Conversion

-- nothing at the tag of this number, whatever the item
module _ (f : OfTag) (nothing : f None ≡ None) (n : ℕ) (at : (i : Option Indicator) (c : Tree OneItem) → f (Some (n, i, c)) ≡ None) where
  by_number : (i : Option Indicator) (m : ℕ) (c : Tree OneItem) (b : Bool) → (n == m) ≡ b → f (cond b (Some (m, i, c)) None) ≡ None
  by_number i m c true e = subst (λ m. f (Some (m, i, c)) ≡ None) (eqb-true n m e) (at i c)
  by_number i m c false e = nothing

  tag_idle : (w : Tree OneItem) → f (called_tag (number n) w) ≡ None
  tag_idle (EnclosedTree (opener.Tag i m) w) = by_number i m (inner_item w) (n == m) refl
  tag_idle (EnclosedTree opener.Simple w) = nothing
  tag_idle (NumberTree x i) = nothing
  tag_idle (FloatTree g i) = nothing
  tag_idle (NamedTree b) = nothing
  tag_idle (ListTree k w) = nothing
  tag_idle (StringTree w) = nothing
  tag_idle (StreamTree s m) = nothing

time_idle : (n : ℕ) → (n == 1) ≡ false → (w : Tree OneItem) → pretty_time (number n) w ≡ (fine, w)
unfolding pretty_time
time_idle n a w = none_idle w _ (tag_idle time_of_tag refl n (λ i c. rw a refl) w)

address_idle : (n : ℕ) → (n == 52) ≡ false → (n == 54) ≡ false → (w : Tree OneItem) → pretty_address (number n) w ≡ (fine, w)
unfolding pretty_address
address_idle n a b w = none_idle w _ (tag_idle address_of_tag refl n (λ i c. rw (a, b) refl) w)

bytes_idle : (n : ℕ) → (n == 2) ≡ false → (n == 3) ≡ false → (c : Tree OneItem) (o : Option (List ℕ)) → integer_of_tag n c o ≡ None
bytes_idle n a b c None = refl
bytes_idle n a b c (Some bs) = rw (a, b) refl

bignum_at : (n : ℕ) → (n == 2) ≡ false → (n == 3) ≡ false → (i : Option Indicator) (c : Tree OneItem) → bignum_of_tag (Some (n, i, c)) ≡ None
bignum_at n a b None c = bytes_idle n a b c (quoted_item_bytes c)
bignum_at n a b (Some i) c = refl

bignum_idle : (n : ℕ) → (n == 2) ≡ false → (n == 3) ≡ false → (w : Tree OneItem) → pretty_bignum (number n) w ≡ (fine, w)
unfolding pretty_bignum
bignum_idle n a b w = none_idle w _ (tag_idle bignum_of_tag refl n (bignum_at n a b) w)

-- the tags of each are none of the others
time_alone : (n : ℕ) (w : Tree OneItem) → (n == 1) ≡ true → pretty_all (number n) w ≡ pretty_time (number n) w
time_alone n w e =
    let one = eqb-true n 1 e in
    then_idle _ (pretty_bignum (number n)) (bignum_idle n (ap (λ n. n == 2) one) (ap (λ n. n == 3) one))
    ∙ then_idle _ (pretty_address (number n)) (address_idle n (ap (λ n. n == 52) one) (ap (λ n. n == 54) one))

address_by : (n m : ℕ) (w : Tree OneItem) → (n == m) ≡ true → (m == 1) ≡ false → (m == 2) ≡ false → (m == 3) ≡ false → pretty_all (number n) w ≡ pretty_address (number n) w
address_by n m w e a b c =
    let same = eqb-true n m e in
    then_idle _ (pretty_bignum (number n)) (bignum_idle n (ap (λ n. n == 2) same ∙ b) (ap (λ n. n == 3) same ∙ c))
    ∙ idle_then w _ (pretty_address (number n)) (time_idle n (ap (λ n. n == 1) same ∙ a) w)

bignum_alone : (n : ℕ) (w : Tree OneItem) → (n == 1) ≡ false → (n == 52) ≡ false → (n == 54) ≡ false → pretty_all (number n) w ≡ pretty_bignum (number n) w
bignum_alone n w a b c = ap (λ r. and_then r (pretty_bignum (number n))) (idle_then w _ (pretty_address (number n)) (time_idle n a w) ∙ address_idle n b c w)

by_tests : (n : ℕ) (w : Tree OneItem) (a b c : Bool) → (n == 1) ≡ a → (n == 52) ≡ b → (n == 54) ≡ c
    → pretty_all (number n) w ≡ cond a (pretty_time (number n) w) (cond (b || c) (pretty_address (number n) w) (pretty_bignum (number n) w))
by_tests n w true b c p q r = time_alone n w p
by_tests n w false true c p q r = address_by n 52 w q refl refl refl
by_tests n w false false true p q r = address_by n 54 w r refl refl refl
by_tests n w false false false p q r = bignum_alone n w p q r

pub pretty_by_number : PrettyByNumber
pretty_by_number n w = by_tests n w _ _ _ refl refl refl

-- ---- literals

no_address : (p t : List ℕ) (w : Tree OneItem) → address_of_literal p t ≡ None → resolve_all (prefix_and_text p t) w ≡ resolve_time (prefix_and_text p t) w
unfolding resolve_address
no_address p t w none = then_idle _ (resolve_address (prefix_and_text p t)) (λ v. none_idle v _ none)

by_prefixes : (p t : List ℕ) (w : Tree OneItem) (a b : Bool) → same p (codes "dt") ≡ a → same p (codes "DT") ≡ b
    → resolve_all (prefix_and_text p t) w ≡ cond (a || b) (resolve_time (prefix_and_text p t) w) (resolve_address (prefix_and_text p t) w)
unfolding resolve_time
by_prefixes p t w true b e f = no_address p t w (ap (λ p. address_of_literal p t) (same-found p (codes "dt") e))
by_prefixes p t w false true e f = no_address p t w (ap (λ p. address_of_literal p t) (same-found p (codes "DT") f))
by_prefixes p t w false false e f = idle_then w _ (resolve_address (prefix_and_text p t)) (none_idle w _ (rw (e, f) refl))

pub resolved_by_prefix : ResolvedByPrefix
resolved_by_prefix p t w = by_prefixes p t w _ _ refl refl
