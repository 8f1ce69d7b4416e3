-- The numbers of instants are number texts of the grammar.
use Rattle.std.proofs.Common.{ℕ, ℤ, pos, negsuc, unsigned_abs, ◌<◌, ◌^◌, ◌≡◌, ◌≢◌, List, [], ◌∷◌, ◌++◌, append-nil, All, refl, sym, ap, ◌∙◌, arith}
use Rattle.std.specs.Str.Parse.{AllDigits}
use Rattle.std.proofs.lemmas.List.Elements.{All-nil}
use Rattle.cbor_edn_parts.specs.number.Number.{Decimal, IsDigitOf, AreDigits, IsMantissa, pointed, fraction, none, sign_text, HasInteger}
use Rattle.cbor_edn_parts.proofs.lemmas.number.Decimals.{IsDecimal, integer_of_decimal}
use Rattle.cbor_edn_parts.proofs.lemmas.number.NumberParts.{some_digits, integer_read}
use Rattle.cbor_edn_times_and_addresses.specs.TimeDecimal as decimals
use Rattle.cbor_edn_times_and_addresses.specs.TimeDecimal.{HasDecimal, IsNumberOf}
use Rattle.cbor_edn_times_and_addresses.specs.TimeLaws.{DecimalIsNumber}

are_digits : (c : ℕ) (ds : List ℕ) → AllDigits 10 (c ∷ ds) → AreDigits Decimal (c ∷ ds)
are_digits c ds h = some_digits Decimal (c ∷ ds) (omega arith, h)

each_digit : (ds : List ℕ) → AllDigits 10 ds → All (IsDigitOf Decimal) ds
each_digit [] h = All-nil (IsDigitOf Decimal)
each_digit (c ∷ ds) h = (are_digits c ds h).0

mantissa : (whole behind : List ℕ) → AllDigits 10 whole → AllDigits 10 behind → whole ++ behind ≢ [] → IsMantissa Decimal (whole ++ (46 ∷ behind))
mantissa [] [] h k some = absurd (some refl)
mantissa [] (c ∷ ds) h k some = fraction (are_digits c ds k)
mantissa (c ∷ ds) behind h k some = pointed behind (are_digits c ds h) (each_digit behind k)

pub decimal_is_number : (text : List ℕ) → DecimalIsNumber text
decimal_is_number text s n h = record {
  sign = h.sign;
  mantissa = h.whole ++ (46 ∷ h.fraction);
  exponent = [];
  mantissa_is = mantissa h.whole h.fraction h.whole_is h.fraction_is h.digit;
  exponent_is = none;
  spelled = h.spelled ∙ ap (λ x. sign_text h.sign ++ x) (sym (append-nil (h.whole ++ (46 ∷ h.fraction))));
}

fits : (z : ℤ) → unsigned_abs z < 2 ^ 64 → IsDecimal z
fits (pos n) h = omega (arith, h)
fits (negsuc n) h = omega (arith, h)

pub whole_number : (t : List ℕ) (s : ℤ) (n : ℕ) → IsNumberOf t s n → n ≡ 0 → unsigned_abs s < 2 ^ 64 → HasInteger t s
whole_number t s n (decimals.integer zero e) is h = integer_read t s (rw e (integer_of_decimal s (fits s h)))
whole_number t s n (decimals.pointed d some p w l) is h = absurd (some is)
