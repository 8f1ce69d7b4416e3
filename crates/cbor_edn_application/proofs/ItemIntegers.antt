-- The integers of items.
use Rattle.std.proofs.Common.{inl, inr, ℕ, ℤ, pos, negsuc, ◌<◌, nat_lt, Bool, true, false, List, Option, Some, None, option_and_then, ◌≡◌, refl, sym, ap, ◌∙◌, FitsSigned, arith, if◌then◌else◌}
use Rattle.std.proofs.lemmas.Bool.Decides.{nat_tests}
use Rattle.std.specs.Int.{w128}
use Rattle.cbor_edn_parts.specs.number.Number.{signed, number_of, radix}
use Rattle.cbor_edn_parts.specs.internal.NumberReading.{integer_of}
use Rattle.cbor_edn_parts.proofs.lemmas.number.NumberParts.{integer_reads, integer_read}
use Rattle.cbor_edn_model.specs.access.Accessed.{number_text, IsIntegerItem, IsIntegerLiteral}
use Rattle.cbor_edn_core.specs.access.Mismatch.{IsIntegerMismatch}
use Rattle.cbor_edn_core.specs.declared.access.TypeMismatch.{TypeMismatch}
use Rattle.cbor_edn_core.specs.declared.access.TypeMismatch.TheVariants.{Integer, IntegerInRange}
use Rattle.cbor_edn_model.specs.visit.Visits.{comment}
use Rattle.cbor_edn_model.specs.tree.Trees.{Tree, OneItem}
use Rattle.cbor_edn_conversions.specs.Claims.{parameter_key, fitting_parameter, numbered_parameter}
use Rattle.cbor_edn_conversions.specs.Integers.{within_128, literal_integer, item_integer}
use Rattle.cbor_edn_application.specs.Handlers.{integer_message}

below : (n m : ℕ) → n < m → nat_lt n m ≡ true
below n m h = grind (arith, nat_tests)

above_if : (n m : ℕ) (z y : ℤ) (b : Bool) → nat_lt n m ≡ b → (if b then Some z else None) ≡ Some y → n < m
above_if n m z y true is e = grind (arith, nat_tests)
above_if n m z y false is e = absurd cc

above : (n m : ℕ) (z y : ℤ) → (if nat_lt n m then Some z else None) ≡ Some y → n < m
above n m z y e = above_if n m z y (nat_lt n m) refl e

pub fits : (z : ℤ) → FitsSigned w128 z → within_128 z ≡ Some z
fits (pos n) f = rw (below n _ f.sfits)
fits (negsuc n) f = rw (below n _ f.sfits)

pub unfit : (z y : ℤ) → within_128 z ≡ Some y → FitsSigned w128 z
unfit (pos n) y f = record { sfits = above n _ (pos n) y f }
unfit (negsuc n) y f = record { sfits = above n _ (negsuc n) y f }

pub integer_item : (w : Tree OneItem) (z : ℤ) → IsIntegerItem w z → literal_integer w ≡ Some z
integer_item w z (x, text, has) = ap (option_and_then integer_of) text ∙ integer_reads x z has

pub integer_is_of : (w : Tree OneItem) (z : ℤ) → literal_integer w ≡ Some z → IsIntegerItem w z
integer_is_of w z is = of_text (number_text w) refl is
  where
    of_text : (o : Option (List ℕ)) → number_text w ≡ o → option_and_then integer_of o ≡ Some z → IsIntegerItem w z
    of_text (Some x) text reads = (x, text, integer_read x z reads)
    of_text None text reads = absurd cc

pub integer_found : (w : Tree OneItem) (z : ℤ) → FitsSigned w128 z → IsIntegerItem w z → item_integer w ≡ Some z
integer_found w z f is = ap (option_and_then within_128) (integer_item w z is) ∙ fits z f

pub integer_missed : (w : Tree OneItem) → ((z : ℤ) → FitsSigned w128 z → IsIntegerItem w z → ⊥) → item_integer w ≡ None
integer_missed w none = of_integer (literal_integer w) refl
  where
    of_range : (z : ℤ) (o : Option ℤ) → literal_integer w ≡ Some z → within_128 z ≡ o → o ≡ None
    of_range z None is fit = refl
    of_range z (Some y) is fit = absurd (none z (unfit z y fit) (integer_is_of w z is))

    of_integer : (o : Option ℤ) → literal_integer w ≡ o → option_and_then within_128 o ≡ None
    of_integer None is = refl
    of_integer (Some z) is = of_range z (within_128 z) is refl

-- ---- keys of OSCORE parameters

pub parameter_found : (w : Tree OneItem) (z : ℤ) → FitsSigned w128 z → IsIntegerItem w z → parameter_key w ≡ fitting_parameter (Some z)
parameter_found w z f is = ap numbered_parameter (integer_item w z is) ∙ ap fitting_parameter (fits z f)

literal_refused : (w : Tree OneItem) → ((z : ℤ) → FitsSigned w128 z → IsIntegerItem w z → ⊥) → IsIntegerLiteral w → parameter_key w ≡ (comment (integer_message IntegerInRange), None)
literal_refused w misses (x, text, is) = of_fit (within_128 z) refl
  where
    z : ℤ
    z = signed is.sign (number_of (radix is.base) is.digits)

    item : IsIntegerItem w z
    item = (x, text, record { literal = is; integer_is = refl })

    of_fit : (o : Option ℤ) → within_128 z ≡ o → parameter_key w ≡ (comment (integer_message IntegerInRange), None)
    of_fit None e = ap numbered_parameter (integer_item w z item) ∙ ap fitting_parameter e
    of_fit (Some y) e = absurd (misses z (unfit z y e) item)

other_refused : (w : Tree OneItem) → (IsIntegerLiteral w → ⊥) → parameter_key w ≡ (comment (integer_message Integer), None)
other_refused w misses = of_integer (literal_integer w) refl
  where
    of_integer : (o : Option ℤ) → literal_integer w ≡ o → parameter_key w ≡ (comment (integer_message Integer), None)
    of_integer None e = ap numbered_parameter e
    of_integer (Some z) e = let item = integer_is_of w z e in absurd (misses (item.0, item.1, item.2.literal))

pub parameter_refused : (w : Tree OneItem) (e : TypeMismatch) → ((z : ℤ) → FitsSigned w128 z → IsIntegerItem w z → ⊥) → IsIntegerMismatch (IsIntegerLiteral w) e → parameter_key w ≡ (comment (integer_message e), None)
parameter_refused w e misses (inl h) = literal_refused w misses h.1 ∙ ap (λ m. (comment (integer_message m), None)) (sym h.0)
parameter_refused w e misses (inr h) = other_refused w h.1 ∙ ap (λ m. (comment (integer_message m), None)) (sym h.0)
