-- The texts of numbers, and the integers of integer literals.
use Rattle.std.specs.Prelude.{ℕ, ℤ, pos, neg_ℤ, ◌+◌, ◌*◌, ◌^◌, ◌<◌, ◌≡◌, ◌≢◌, ◌⊎◌, List, [], ◌∷◌, ◌++◌, length, All}
use Rattle.std.specs.Char.{digit_value}

-- sign = "+" / "-", or none
pub data Sign : Type 0 where
  NoSign : Sign
  PlusSign : Sign
  MinusSign : Sign

abbrev pub sign_text : Sign → List ℕ
sign_text NoSign = []
sign_text PlusSign = 43 ∷ []
sign_text MinusSign = 45 ∷ []

pub data Base : Type 0 where
  Binary : Base
  Octal : Base
  Decimal : Base
  Hexadecimal : Base

abbrev pub radix : Base → ℕ
radix Binary = 2
radix Octal = 8
radix Decimal = 10
radix Hexadecimal = 16

-- "0b", "0o" or "0x", the letter in either case; none for decimal digits
abbrev pub IsPrefixOf : Base → List ℕ → Type 0
IsPrefixOf Binary p = (p ≡ 48 ∷ 98 ∷ []) ⊎ (p ≡ 48 ∷ 66 ∷ [])
IsPrefixOf Octal p = (p ≡ 48 ∷ 111 ∷ []) ⊎ (p ≡ 48 ∷ 79 ∷ [])
IsPrefixOf Decimal p = p ≡ []
IsPrefixOf Hexadecimal p = (p ≡ 48 ∷ 120 ∷ []) ⊎ (p ≡ 48 ∷ 88 ∷ [])

-- a digit, the letters in either case
abbrev pub IsDigitOf : Base → ℕ → Type 0
IsDigitOf b c = digit_value c < radix b

-- 1*DIGIT, of a base
abbrev pub AreDigits : Base → List ℕ → Type 0
AreDigits b ds = All (IsDigitOf b) ds × (ds ≢ [])

-- hexint, octint, binint, and decnumber without point and exponent: as `-0x1F`, `+07`, `0b101`
pub record IsInteger (text : List ℕ) : Type 0 where
  pub sign : Sign
  pub base : Base
  pub prefix : List ℕ
  pub digits : List ℕ
  pub prefix_is : IsPrefixOf base prefix
  pub digits_are : AreDigits base digits
  pub spelled : text ≡ sign_text sign ++ (prefix ++ digits)

-- 1*DIGIT ["." *DIGIT] / "." 1*DIGIT, of a base
pub data IsMantissa (b : Base) : List ℕ → Type 0 where
  whole : {x : List ℕ} → AreDigits b x → IsMantissa b x
  pointed : {x : List ℕ} (y : List ℕ) → AreDigits b x → All (IsDigitOf b) y → IsMantissa b (x ++ (46 ∷ y))
  fraction : {y : List ℕ} → AreDigits b y → IsMantissa b (46 ∷ y)

-- an exponent behind its letter: [sign] 1*DIGIT
pub record IsExponent (text : List ℕ) : Type 0 where
  pub sign : Sign
  pub digits : List ℕ
  pub digits_are : AreDigits Decimal digits
  pub spelled : text ≡ sign_text sign ++ digits

-- ["e" [sign] 1*DIGIT], the letter in either case
pub data IsDecimalExponent : List ℕ → Type 0 where
  none : IsDecimalExponent []
  small_e : {x : List ℕ} → IsExponent x → IsDecimalExponent (101 ∷ x)
  large_e : {x : List ℕ} → IsExponent x → IsDecimalExponent (69 ∷ x)

-- "p" [sign] 1*DIGIT, the letter in either case
pub data IsBinaryExponent : List ℕ → Type 0 where
  small_p : {x : List ℕ} → IsExponent x → IsBinaryExponent (112 ∷ x)
  large_p : {x : List ℕ} → IsExponent x → IsBinaryExponent (80 ∷ x)

-- decnumber, as `-1.5e3`, `.5`, `1.`
pub record IsDecimalNumber (text : List ℕ) : Type 0 where
  pub sign : Sign
  pub mantissa : List ℕ
  pub exponent : List ℕ
  pub mantissa_is : IsMantissa Decimal mantissa
  pub exponent_is : IsDecimalExponent exponent
  pub spelled : text ≡ sign_text sign ++ (mantissa ++ exponent)

-- hexfloat, as `0x.8p1`
pub record IsHexFloat (text : List ℕ) : Type 0 where
  pub sign : Sign
  pub prefix : List ℕ
  pub mantissa : List ℕ
  pub exponent : List ℕ
  pub prefix_is : IsPrefixOf Hexadecimal prefix
  pub mantissa_is : IsMantissa Hexadecimal mantissa
  pub exponent_is : IsBinaryExponent exponent
  pub spelled : text ≡ sign_text sign ++ (prefix ++ (mantissa ++ exponent))

-- number = hexfloat / hexint / octint / binint / decnumber
pub data IsNumber (text : List ℕ) : Type 0 where
  integer : IsInteger text → IsNumber text
  decimal : IsDecimalNumber text → IsNumber text
  hex_float : IsHexFloat text → IsNumber text

-- the sum of each digit times the power of the base at its place
abbrev pub number_of : ℕ → List ℕ → ℕ
number_of base [] = 0
number_of base (d ∷ ds) = digit_value d * base ^ length ds + number_of base ds

abbrev pub signed : Sign → ℕ → ℤ
signed NoSign n = pos n
signed PlusSign n = pos n
signed MinusSign n = neg_ℤ (pos n)

-- The text is an integer literal, and z is its integer, that of its digits in its base, by its sign: `-0x1F` has -31.
pub record HasInteger (text : List ℕ) (z : ℤ) : Type 0 where
  pub literal : IsInteger text
  pub integer_is : z ≡ signed literal.sign (number_of (radix literal.base) literal.digits)
