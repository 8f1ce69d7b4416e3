-- Numbers, keywords, indicators and labels have neutral characters alone.
use Rattle.std.proofs.Common.{ℕ, ◌≡◌, ◌≤◌, ◌<◌, ◌⊎◌, true, Bool, List, [], ◌∷◌, Option, Some, None, refl, sym, subst, arith, ⊎_elim}
use Rattle.std.specs.Prelude.{◌==◌, ◌&&◌, not, nat_le, nat_lt, All}
use Rattle.std.specs.Char.{digit_value}
use Rattle.std.proofs.lemmas.Bool.{and_parts, leb-true, ltb-true, not-true, eqb-false}
use Rattle.std.proofs.lemmas.Bool.Decides.{nat_tests}
use Rattle.cbor_edn_parts.specs.base.Indicator.{indicator_text}
use Rattle.cbor_edn_parts.specs.declared.base.indicator.Indicator.{Indicator}
use Rattle.cbor_edn_parts.specs.declared.base.indicator.Indicator.TheVariants as indicator
use Rattle.cbor_edn_parts.specs.number.Number as numbers
use Rattle.cbor_edn_parts.specs.number.Number.{Sign, NoSign, PlusSign, MinusSign, sign_text, Base, Binary, Octal, Decimal, Hexadecimal, IsPrefixOf, IsDigitOf, AreDigits, IsMantissa, whole, pointed, fraction, IsExponent, IsDecimalExponent, small_e, large_e, IsBinaryExponent, small_p, large_p, IsNumber, integer, hex_float}
use Rattle.cbor_edn_parts.specs.string.Literal.{IsEllipsis}
use Rattle.cbor_edn_parts.proofs.lemmas.base.Each.{Each, end, next, each}
use Rattle.cbor_edn_model.specs.declared.text.keyword.NamedSimple.{NamedSimple}
use Rattle.cbor_edn_model.specs.declared.text.keyword.NamedSimple.TheVariants.{False, True, Null, Undefined}
use Rattle.cbor_edn_model.specs.declared.text.keyword.NonFinite.{NonFinite}
use Rattle.cbor_edn_model.specs.declared.text.keyword.NonFinite.TheVariants.{Infinity, NegativeInfinity, NaN}
use Rattle.cbor_edn_model.specs.declared.text.opener.OpenerKind.{OpenerKind}
use Rattle.cbor_edn_model.specs.declared.text.opener.OpenerKind.TheVariants as opener
use Rattle.cbor_edn_model.specs.text.Keywords.{named_text, simple_text, non_finite_text}
use Rattle.cbor_edn_model.specs.tree.Trees.{opener_text}
use Rattle.cbor_edn_harmless.proofs.Characters.{each_append, each_weaker, IsNeutral, decimal_neutral}

-- a test, for texts that are written out
is_neutral : ℕ → Bool
is_neutral c = nat_le 40 c && (nat_lt c 127 && not (c == 47))

all_neutral : List ℕ → Bool
all_neutral [] = true
all_neutral (c ∷ x) = is_neutral c && all_neutral x

neutral_text : (x : List ℕ) → all_neutral x ≡ true → Each IsNeutral x
unfolding is_neutral all_neutral
neutral_text [] h = end
neutral_text (c ∷ x) h =
    let parts = and_parts (is_neutral c) _ h in
    let low = and_parts (nat_le 40 c) _ parts.0 in
    let high = and_parts (nat_lt c 127) _ low.1 in
    next (leb-true 40 c low.0, ltb-true c 127 high.0, eqb-false c 47 (not-true (c == 47) high.1)) (neutral_text x parts.1)

pub indicator_neutral : (i : Option Indicator) → Each IsNeutral (indicator_text i)
unfolding is_neutral all_neutral
indicator_neutral None = neutral_text [] refl
indicator_neutral (Some indicator.Indefinite) = neutral_text (indicator_text (Some indicator.Indefinite)) refl
indicator_neutral (Some indicator.Immediate) = neutral_text (indicator_text (Some indicator.Immediate)) refl
indicator_neutral (Some indicator.One) = neutral_text (indicator_text (Some indicator.One)) refl
indicator_neutral (Some indicator.Two) = neutral_text (indicator_text (Some indicator.Two)) refl
indicator_neutral (Some indicator.Four) = neutral_text (indicator_text (Some indicator.Four)) refl
indicator_neutral (Some indicator.Eight) = neutral_text (indicator_text (Some indicator.Eight)) refl

pub named_neutral : (b : NamedSimple) → Each IsNeutral (named_text b)
unfolding is_neutral all_neutral
named_neutral False = neutral_text (named_text False) refl
named_neutral True = neutral_text (named_text True) refl
named_neutral Null = neutral_text (named_text Null) refl
named_neutral Undefined = neutral_text (named_text Undefined) refl

pub float_neutral : (f : NonFinite) → Each IsNeutral (non_finite_text f)
unfolding is_neutral all_neutral
float_neutral Infinity = neutral_text (non_finite_text Infinity) refl
float_neutral NegativeInfinity = neutral_text (non_finite_text NegativeInfinity) refl
float_neutral NaN = neutral_text (non_finite_text NaN) refl

pub opener_neutral : (l : OpenerKind) → Each IsNeutral (opener_text l)
unfolding is_neutral all_neutral
opener_neutral (opener.Tag i n) = each_append (decimal_neutral n) (indicator_neutral i)
opener_neutral opener.Simple = neutral_text simple_text refl

dot_neutral : (c : ℕ) → c ≡ 46 → IsNeutral c
dot_neutral c e = (omega arith, omega arith, λ f. omega arith)

pub ellipsis_neutral : {x : List ℕ} → IsEllipsis x → Each IsNeutral x
ellipsis_neutral h = each_weaker dot_neutral (each h.0)

-- ---- numbers

sixteen_neutral : (c : ℕ) → digit_value c < 16 → IsNeutral c
sixteen_neutral c h = (grind (arith, nat_tests), grind (arith, nat_tests), grind (arith, nat_tests))

digit_neutral : (b : Base) (c : ℕ) → IsDigitOf b c → IsNeutral c
digit_neutral Binary c h = sixteen_neutral c (omega arith)
digit_neutral Octal c h = sixteen_neutral c (omega arith)
digit_neutral Decimal c h = sixteen_neutral c (omega arith)
digit_neutral Hexadecimal c h = sixteen_neutral c h

digits_neutral : (b : Base) {ds : List ℕ} → All (IsDigitOf b) ds → Each IsNeutral ds
digits_neutral b h = each_weaker (digit_neutral b) (each h)

sign_neutral : (s : Sign) → Each IsNeutral (sign_text s)
unfolding is_neutral all_neutral
sign_neutral NoSign = end
sign_neutral PlusSign = neutral_text (43 ∷ []) refl
sign_neutral MinusSign = neutral_text (45 ∷ []) refl

either_text : (p a b : List ℕ) → Each IsNeutral a → Each IsNeutral b → (p ≡ a) ⊎ (p ≡ b) → Each IsNeutral p
either_text p a b na nb h = ⊎_elim (λ e. subst (λ l. Each IsNeutral l) (sym e) na) (λ e. subst (λ l. Each IsNeutral l) (sym e) nb) h

base_neutral : (b : Base) (p : List ℕ) → IsPrefixOf b p → Each IsNeutral p
unfolding is_neutral all_neutral
base_neutral Binary p h = either_text p (48 ∷ 98 ∷ []) (48 ∷ 66 ∷ []) (neutral_text (48 ∷ 98 ∷ []) refl) (neutral_text (48 ∷ 66 ∷ []) refl) h
base_neutral Octal p h = either_text p (48 ∷ 111 ∷ []) (48 ∷ 79 ∷ []) (neutral_text (48 ∷ 111 ∷ []) refl) (neutral_text (48 ∷ 79 ∷ []) refl) h
base_neutral Decimal p h = subst (λ l. Each IsNeutral l) (sym h) end
base_neutral Hexadecimal p h = either_text p (48 ∷ 120 ∷ []) (48 ∷ 88 ∷ []) (neutral_text (48 ∷ 120 ∷ []) refl) (neutral_text (48 ∷ 88 ∷ []) refl) h

point : IsNeutral 46
point = (omega arith, omega arith, λ e. absurd (omega arith))

mantissa_neutral : (b : Base) {x : List ℕ} → IsMantissa b x → Each IsNeutral x
mantissa_neutral b (whole d) = digits_neutral b d.0
mantissa_neutral b (pointed y d e) = each_append (digits_neutral b d.0) (next point (digits_neutral b e))
mantissa_neutral b (fraction d) = next point (digits_neutral b d.0)

exponent_neutral : (x : List ℕ) → IsExponent x → Each IsNeutral x
exponent_neutral x h = subst (λ l. Each IsNeutral l) (sym h.spelled) (each_append (sign_neutral h.sign) (digits_neutral Decimal h.digits_are.0))

letter : (c : ℕ) → 65 ≤ c → c < 127 → IsNeutral c
letter c low high = (omega arith, omega arith, λ e. omega arith)

decimal_exponent : {x : List ℕ} → IsDecimalExponent x → Each IsNeutral x
decimal_exponent numbers.none = end
decimal_exponent (small_e {x = x} h) = next (letter 101 (omega arith) (omega arith)) (exponent_neutral x h)
decimal_exponent (large_e {x = x} h) = next (letter 69 (omega arith) (omega arith)) (exponent_neutral x h)

binary_exponent : {x : List ℕ} → IsBinaryExponent x → Each IsNeutral x
binary_exponent (small_p {x = x} h) = next (letter 112 (omega arith) (omega arith)) (exponent_neutral x h)
binary_exponent (large_p {x = x} h) = next (letter 80 (omega arith) (omega arith)) (exponent_neutral x h)

pub number_neutral : {x : List ℕ} → IsNumber x → Each IsNeutral x
number_neutral (integer r) =
    subst (λ l. Each IsNeutral l) (sym r.spelled) (each_append (sign_neutral r.sign) (each_append (base_neutral r.base r.prefix r.prefix_is) (digits_neutral r.base r.digits_are.0)))
number_neutral (numbers.decimal r) =
    subst (λ l. Each IsNeutral l) (sym r.spelled) (each_append (sign_neutral r.sign) (each_append (mantissa_neutral Decimal r.mantissa_is) (decimal_exponent r.exponent_is)))
number_neutral (hex_float r) =
    subst (λ l. Each IsNeutral l) (sym r.spelled)
    (each_append (sign_neutral r.sign) (each_append (base_neutral Hexadecimal r.prefix r.prefix_is) (each_append (mantissa_neutral Hexadecimal r.mantissa_is) (binary_exponent r.exponent_is))))
