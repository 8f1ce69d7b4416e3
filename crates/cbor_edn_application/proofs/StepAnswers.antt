-- What the steps of a time's conversion answer.
use Rattle.std.proofs.Common.{ℕ, ℤ, pos, negsuc, ◌≡◌, ◌≢◌, inl, inr, Bool, true, false, not, List, Option, Some, None, Ok, Err, is_some, codes, if◌then◌else◌, FitsSigned, refl, sym, ap, ◌∙◌, arith}
use Rattle.std.specs.Int.{w128}
use Rattle.std.proofs.lemmas.Int.{ints}
use Rattle.cbor_edn_parts.specs.declared.base.indicator.Indicator.{Indicator}
use Rattle.cbor_edn_parts.specs.number.Number.{signed, number_of, radix}
use Rattle.cbor_edn_parts.specs.internal.NumberReading.{integer_of}
use Rattle.cbor_edn_parts.proofs.lemmas.number.NumberParts.{integer_reads, integer_read}
use Rattle.cbor_edn_model.specs.access.Accessed.{number_and_indicator, number_text, IsIntegerItem, IsIntegerLiteral}
use Rattle.cbor_edn_model.specs.tree.Trees.{Tree, OneItem, NumberTree, FloatTree, NamedTree, EnclosedTree, ListTree, StringTree, StreamTree}
use Rattle.cbor_edn_model.proofs.lemmas.cbor.MeaningSteps.{some_is}
use Rattle.cbor_edn_core.specs.access.Mismatch.{IsIntegerMismatch}
use Rattle.cbor_edn_core.specs.declared.access.TypeMismatch.{TypeMismatch}
use Rattle.cbor_edn_core.specs.declared.access.TypeMismatch.TheVariants.{Integer, IntegerInRange}
use Rattle.cbor_edn_times_and_addresses.specs.Time.{IsTimeStamp}
use Rattle.cbor_edn_times_and_addresses.specs.TimeDecimal.{HasDecimal, IsOutOfRange}
use Rattle.cbor_edn_times_and_addresses.specs.internal.TimeComputing.{time_text}
use Rattle.cbor_edn_times_and_addresses.specs.declared.time.number.NotTime.{NotTime}
use Rattle.cbor_edn_times_and_addresses.specs.declared.time.number.NotTime.TheVariants.{Unreadable, OutOfRange}
use Rattle.cbor_edn_times_and_addresses.proofs.TimeComputedNumbers.{decimal_computed, decimal_answered}
use Rattle.cbor_edn_conversions.specs.Conversions.{Conversion, Message, changed_encoding, literal_tree}
use Rattle.cbor_edn_conversions.specs.Times.{time_prefix, is_plain, is_time_stamp, instant_by, instant_literal, time_literal}
use Rattle.cbor_edn_conversions.proofs.conversions.TimesKept.{stamps_tested}
use Rattle.cbor_edn_application.specs.TimeSteps.{Converted, BecomesTime, StaysFor, integer_literal, decimal_literal, not_time_message}

-- ---- the literal of an instant

abbrev judged : Bool → Bool → Bool → ℤ → ℕ → Conversion
judged wrap stamp plain z n =
    if not stamp then Err (codes "Value out of range for time stamps")
    else if not plain then Err changed_encoding
    else Ok (literal_tree (time_prefix wrap) (time_text z n))

stamp_false : (z : ℤ) → ¬ IsTimeStamp z → is_time_stamp z ≡ false
stamp_false z outside = by (is_time_stamp z) refl
  where
    by : (b : Bool) → is_time_stamp z ≡ b → b ≡ false
    by true e = absurd (outside ((stamps_tested z).0 e))
    by false e = refl

printed : (wrap plain : Bool) (z : ℤ) (n : ℕ) → IsTimeStamp z → plain ≡ true → instant_literal wrap plain (Some (z, n)) ≡ Ok (literal_tree (time_prefix wrap) (time_text z n))
printed wrap plain z n stamp e = ap (λ b. judged wrap b plain z n) ((stamps_tested z).1 stamp) ∙ ap (λ b. judged wrap true b z n) e

outside : (wrap plain : Bool) (z : ℤ) (n : ℕ) → ¬ IsTimeStamp z → instant_literal wrap plain (Some (z, n)) ≡ Err (codes "Value out of range for time stamps")
outside wrap plain z n late = ap (λ b. judged wrap b plain z n) (stamp_false z late)

-- ---- the steps

pub becomes_as : (f g : Converted) (s : ℤ) (n : ℕ) → ((wrap : Bool) → f wrap ≡ g wrap) → BecomesTime g s n → BecomesTime f s n
becomes_as f g s n same is = record { stamp = is.stamp; literal = λ wrap. same wrap ∙ is.literal wrap }

pub stays_as : (f g : Converted) (e : Message) → ((wrap : Bool) → f wrap ≡ g wrap) → StaysFor g e → StaysFor f e
stays_as f g e same is = λ wrap. same wrap ∙ is wrap

-- ---- a decimal

pub decimal_becomes : (x : List ℕ) (s : ℤ) (n : ℕ) (i : Option Indicator) → is_some i ≡ false → HasDecimal x s n → IsTimeStamp s → BecomesTime (decimal_literal x i) s n
decimal_becomes x s n None none is stamp = record { stamp = stamp; literal = λ wrap. ap (instant_literal wrap true) ((decimal_computed x s n).0 is) ∙ printed wrap true s n stamp refl }
decimal_becomes x s n (Some i) none is stamp = absurd cc

pub decimal_stays : (x : List ℕ) (i : Option Indicator) (e : NotTime) → is_some i ≡ false → (e ≡ Unreadable → (s : ℤ) (n : ℕ) → ¬ HasDecimal x s n) → (e ≡ OutOfRange → IsOutOfRange x) → StaysFor (decimal_literal x i) (not_time_message e)
decimal_stays x None Unreadable none unread late = λ wrap. ap (instant_literal wrap true) (decimal_answered x None tt (λ h. unread refl))
decimal_stays x None OutOfRange none unread late = λ wrap. let h = late refl in ap (instant_literal wrap true) ((decimal_computed x h.seconds h.nanoseconds).0 h.decimal_is) ∙ outside wrap true h.seconds h.nanoseconds h.outside
decimal_stays x (Some i) e none unread late = absurd cc

-- ---- an item

number_tree : (w : Tree OneItem) (x : List ℕ) (i : Option Indicator) → number_and_indicator w ≡ Some (x, i) → w ≡ NumberTree x i
number_tree (NumberTree y j) x i e = ap (λ (p : List ℕ × Option Indicator). NumberTree p.0 p.1) (some_is (y, j) (x, i) e)
number_tree (FloatTree f j) x i e = absurd cc
number_tree (NamedTree b) x i e = absurd cc
number_tree (EnclosedTree l w) x i e = absurd cc
number_tree (ListTree k w) x i e = absurd cc
number_tree (StringTree w) x i e = absurd cc
number_tree (StreamTree s m) x i e = absurd cc

pub no_number : (w : Tree OneItem) → number_and_indicator w ≡ None → StaysFor (time_literal w) (codes "Numeric value expected for dt'' literal")
unfolding time_literal
no_number (NumberTree x i) e = absurd cc
no_number (FloatTree f j) e = λ wrap. refl
no_number (NamedTree b) e = λ wrap. refl
no_number (EnclosedTree l w) e = λ wrap. refl
no_number (ListTree k w) e = λ wrap. refl
no_number (StringTree w) e = λ wrap. refl
no_number (StreamTree s m) e = λ wrap. refl

module _ (w : Tree OneItem) (x : List ℕ) (i : Option Indicator) (number : number_and_indicator w ≡ Some (x, i)) where
  number_literal : (o : Option ℤ) (wrap : Bool) → integer_of x ≡ o → time_literal w wrap ≡ instant_literal wrap (is_plain o i) (instant_by o i x)
  unfolding time_literal
  number_literal o wrap e = ap (λ w. time_literal w wrap) (number_tree w x i number) ∙ ap (λ o. instant_literal wrap (is_plain o i) (instant_by o i x)) e

  text_is : number_text w ≡ Some x
  text_is = ap number_text (number_tree w x i number)

  item_integer : (z : ℤ) → IsIntegerItem w z → integer_of x ≡ Some z
  item_integer z (y, text, is) = ap integer_of (some_is x y (sym text_is ∙ text)) ∙ integer_reads y z is

  integer_item : (z : ℤ) → integer_of x ≡ Some z → IsIntegerItem w z
  integer_item z e = (x, text_is, integer_read x z e)

  pub integer_steps : (z : ℤ) → IsIntegerItem w z → (wrap : Bool) → time_literal w wrap ≡ integer_literal z i wrap
  integer_steps z is = λ wrap. number_literal (Some z) wrap (item_integer z is)

  pub decimal_steps : (IsIntegerLiteral w → ⊥) → (wrap : Bool) → time_literal w wrap ≡ decimal_literal x i wrap
  decimal_steps none = λ wrap. number_literal None wrap (by (integer_of x) refl)
    where
      by : (o : Option ℤ) → integer_of x ≡ o → integer_of x ≡ None
      by None e = e
      by (Some z) e = absurd (none (x, text_is, (integer_read x z e).literal))

  -- an integer too large to be read
  pub large_stays : IsIntegerLiteral w → ((z : ℤ) → FitsSigned w128 z → IsIntegerItem w z → ⊥) → StaysFor (time_literal w) (codes "Value out of range for time stamps")
  large_stays (y, text, is) none = λ wrap. integer_steps z item wrap ∙ outside wrap _ z 0 (λ stamp. none z (fits z stamp) item)
    where
      z : ℤ
      z = signed is.sign (number_of (radix is.base) is.digits)

      item : IsIntegerItem w z
      item = (y, text, record { literal = is; integer_is = refl })

      fits : (z : ℤ) → IsTimeStamp z → FitsSigned w128 z
      fits (pos n) h = record { sfits = omega (arith, ints, h) }
      fits (negsuc n) h = record { sfits = omega (arith, ints, h) }

-- ---- why an item is no integer

pub in_range : (Literal : Type 0) (e : TypeMismatch) → IsIntegerMismatch Literal e → e ≡ IntegerInRange → Literal
in_range Literal e (inl h) is = h.1
in_range Literal e (inr h) is = let other : Integer ≡ IntegerInRange = sym h.0 ∙ is in absurd cc

pub no_integer : (Literal : Type 0) (e : TypeMismatch) → IsIntegerMismatch Literal e → e ≢ IntegerInRange → Literal → ⊥
no_integer Literal e (inl h) other = absurd (other h.0)
no_integer Literal e (inr h) other = h.1
