-- The texts of numbers that are made from integers are integer literals of these.
use Rattle.std.proofs.Common.{ℕ, ◌<◌, ◌≤◌, ◌^◌, ◌≡◌, List, [], ◌∷◌, Some, true, false, refl, sym, ap, ◌∙◌, inl, arith}
use Rattle.std.specs.Prelude.{ℤ, pos, negsuc, unsigned_abs}
use lib.Signed.{mag}
use Rattle.std.specs.Fmt.{digits}
use Rattle.std.proofs.lemmas.Fmt.{digits_is_IsNumeral}
use Rattle.cbor_edn_parts.specs.number.Number.{NoSign, Hexadecimal, IsInteger, HasInteger, integer}
use Rattle.cbor_edn_parts.specs.internal.NumberTokens.{is_number}
use Rattle.cbor_edn_parts.specs.Written.{hexadecimal_text}
use Rattle.cbor_edn_parts.proofs.lemmas.number.Decimals.{IsDecimal}
use Rattle.cbor_edn_parts.proofs.lemmas.number.NumberTexts.{number_texts}
use Rattle.cbor_edn_parts.proofs.lemmas.number.NumberParts.{number_is, some_digits, integer_reads}

pub signed_fits : (z : ℤ) → mag z < 2 ^ 127 → IsDecimal z
signed_fits (pos n) h = omega (arith, h)
signed_fits (negsuc n) h = omega (arith, h)

abbrev pub hexadecimal_literal : (n : ℕ) → n < 16 ^ 64 → IsInteger (hexadecimal_text n)
hexadecimal_literal n lt = record {
  sign = NoSign;
  base = Hexadecimal;
  prefix = 48 ∷ 120 ∷ [];
  digits = digits 16 false n;
  prefix_is = inl refl;
  digits_are = some_digits Hexadecimal (digits 16 false n) (digits_is_IsNumeral 16 false (omega arith) (omega arith) n lt).0;
  spelled = refl;
}

pub hexadecimal_number : (n : ℕ) → n < 2 ^ 64 → is_number (hexadecimal_text n) ≡ true
hexadecimal_number n lt = (number_texts (hexadecimal_text n)).0 (integer (hexadecimal_literal n (omega arith)))

pub hexadecimal_stands : (n : ℕ) → n < 2 ^ 64 → HasInteger (hexadecimal_text n) (pos n)
hexadecimal_stands n lt = record {
  literal = hexadecimal_literal n (omega arith);
  integer_is = ap pos (sym (sym (number_is 16 (digits 16 false n)) ∙ (digits_is_IsNumeral 16 false (omega arith) (omega arith) n (omega arith)).1));
}

-- ---- integers within i128

pub not_so_wide : (z : ℤ) → mag z < 2 ^ 127 → 2 ^ 128 ≤ unsigned_abs z → ⊥
not_so_wide (pos n) h k = omega (arith, h, k)
not_so_wide (negsuc n) h k = omega (arith, h, k)

-- a text has one integer at most
pub one_integer : (t : List ℕ) (y z : ℤ) → HasInteger t y → HasInteger t z → z ≡ y
one_integer t y z h k = let both : Some z ≡ Some y = sym (integer_reads t z k) ∙ integer_reads t y h in cc
