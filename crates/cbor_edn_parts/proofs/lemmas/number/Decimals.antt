-- Integers in decimal are integer literals of themselves.
use Rattle.std.proofs.Common.{ℕ, suc, ◌+◌, ◌<◌, ◌≤◌, ◌^◌, ◌≡◌, ◌≢◌, List, [], ◌∷◌, ◌++◌, length, Some, true, refl, sym, ap, ◌∙◌, arith}
use Rattle.std.specs.Prelude.{ℤ, pos, negsuc, unsigned_abs}
use Rattle.std.specs.Fmt.{decimal, signed_decimal}
use Rattle.std.specs.Str.Parse.{AllDigits}
use Rattle.std.proofs.lemmas.Fmt.{decimal_is_IsNumeral_wide}
use Rattle.cbor_edn_parts.specs.number.Number.{Sign, NoSign, MinusSign, sign_text, Decimal, IsDigitOf, AreDigits, IsInteger, integer, signed, number_of}
use Rattle.cbor_edn_parts.specs.internal.NumberReading.{integer_of}
use Rattle.cbor_edn_parts.specs.internal.NumberTokens.{is_number}
use Rattle.cbor_edn_parts.proofs.lemmas.base.Each.{Each, end, next, all}
use Rattle.cbor_edn_parts.proofs.lemmas.number.NumberTexts.{number_texts}
use Rattle.cbor_edn_parts.proofs.lemmas.number.NumberParts.{integer_is, number_is}

each_digit : (ds : List ℕ) → AllDigits 10 ds → Each (IsDigitOf Decimal) ds
each_digit [] h = end
each_digit (d ∷ ds) h = next h.0 (each_digit ds h.1)

pub some : (ds : List ℕ) → 0 < length ds → ds ≢ []
some [] lt = absurd (omega arith)
some (d ∷ ds) lt = λ e. cc

pub digits_are : (n : ℕ) → n < 10 ^ 64 → AreDigits Decimal (decimal n)
digits_are n lt = let h = (decimal_is_IsNumeral_wide n lt).0 in (all (each_digit (decimal n) h.1), some (decimal n) h.0)

pub value_is : (n : ℕ) → n < 10 ^ 64 → number_of 10 (decimal n) ≡ n
value_is n lt = sym (number_is 10 (decimal n)) ∙ (decimal_is_IsNumeral_wide n lt).1

abbrev pub literal : (s : Sign) (n : ℕ) (t : List ℕ) → n < 10 ^ 64 → t ≡ sign_text s ++ decimal n → IsInteger t
literal s n t lt e = record { sign = s; base = Decimal; prefix = []; digits = decimal n; prefix_is = refl; digits_are = digits_are n lt; spelled = e }

abbrev pub IsDecimal : ℤ → Type 0
IsDecimal (pos n) = n < 10 ^ 64
IsDecimal (negsuc n) = n + 1 < 10 ^ 64

abbrev pub signed_literal : (z : ℤ) → IsDecimal z → IsInteger (signed_decimal z)
signed_literal (pos n) lt = literal NoSign n (decimal n) lt refl
signed_literal (negsuc n) lt = literal MinusSign (suc n) (45 ∷ decimal (suc n)) (omega arith) refl

pub decimal_number : (z : ℤ) → IsDecimal z → is_number (signed_decimal z) ≡ true
decimal_number z lt = (number_texts (signed_decimal z)).0 (integer (signed_literal z lt))

pub integer_of_decimal : (z : ℤ) → IsDecimal z → integer_of (signed_decimal z) ≡ Some z
integer_of_decimal (pos n) lt = integer_is (decimal n) (signed_literal (pos n) lt) ∙ ap (λ k. Some (pos k)) (value_is n lt)
integer_of_decimal (negsuc n) lt = integer_is (45 ∷ decimal (suc n)) (signed_literal (negsuc n) lt) ∙ ap (λ k. Some (signed MinusSign k)) (value_is (suc n) (omega arith))

pub bounded_decimal : (z : ℤ) → unsigned_abs z ≤ 2 ^ 64 → IsDecimal z
bounded_decimal (pos n) h = omega (arith, h)
bounded_decimal (negsuc n) h = omega (arith, h)
