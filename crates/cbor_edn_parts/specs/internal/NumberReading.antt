-- The integer of a number text, read from its bytes: its sign, then its base, then its digits.
use Rattle.std.specs.Prelude.{ℕ, ℤ, Bool, false, Option, Some, None, nat_lt, ◌==◌, ◌||◌, ◌&&◌, if◌then◌else◌, List, [], ◌∷◌, length, drop, slice_index}
use Rattle.std.specs.Char.{digit_value}
use Rattle.std.specs.List.{list_all}
use Rattle.cbor_edn_parts.specs.number.Number.{Sign, NoSign, PlusSign, MinusSign, sign_text, Base, Binary, Octal, Decimal, Hexadecimal, radix, number_of, signed}

-- the sign that a text begins with, and the text behind it
abbrev pub sign_of : List ℕ → Sign
sign_of t = if slice_index t 0 == 45 then MinusSign else if slice_index t 0 == 43 then PlusSign else NoSign

abbrev pub without_sign : List ℕ → List ℕ
without_sign t = drop (length (sign_text (sign_of t))) t

-- whether `0` and this letter stand in front, the letter in either case
abbrev pub names : ℕ → ℕ → List ℕ → Bool
names small large t = (slice_index t 0 == 48) && (slice_index t 1 == small || slice_index t 1 == large)

-- the base that a text without its sign names
abbrev pub named_base : List ℕ → Base
named_base t = if names 120 88 t then Hexadecimal else if names 111 79 t then Octal else if names 98 66 t then Binary else Decimal

abbrev pub prefix_length : Base → ℕ
prefix_length Decimal = 0
prefix_length _ = 2

abbrev pub base_of : List ℕ → Base
base_of t = named_base (without_sign t)

abbrev pub digits_of : List ℕ → List ℕ
digits_of t = drop (prefix_length (base_of t)) (without_sign t)

-- whether digits of a base stand there, one or more, and nothing else
abbrev pub is_numeral : ℕ → List ℕ → Bool
is_numeral base [] = false
is_numeral base (d ∷ ds) = list_all (λ c. nat_lt (digit_value c) base) (d ∷ ds)

-- the number that the digits of a literal write
abbrev pub magnitude_of : List ℕ → ℕ
magnitude_of t = number_of (radix (base_of t)) (digits_of t)

-- the integer of an integer literal, else none: that of `-0x10` is -16
unfoldable pub integer_of : List ℕ → Option ℤ
integer_of t = if is_numeral (radix (base_of t)) (digits_of t) then Some (signed (sign_of t) (magnitude_of t)) else None
