-- The texts of literals: quoted texts, with or without a prefix, and dots.
--   dquoted, [prefix] squoted, prefix = lower *(lower / DIGIT) / upper *(upper / DIGIT), 3*"."
use Rattle.std.specs.Prelude.{ℕ, ◌≡◌, ◌≢◌, ◌≤◌, ◌⊎◌, true, List, [], ◌∷◌, ◌++◌, length, encode_utf8, Option, Some, None, ◌==◌, if◌then◌else◌, All}
use Rattle.std.specs.Char.{IsScalar}
use Rattle.std.specs.Char.Utf16.{is_high_surrogate, is_low_surrogate, surrogate_pair_char}
use Rattle.cbor_edn_parts.specs.space.Space.{IsPrintable}
use Rattle.cbor_edn_parts.specs.number.Number.{Hexadecimal, AreDigits, number_of}

abbrev pub IsLower : ℕ → Type 0
IsLower c = (97 ≤ c) × (c ≤ 122)

abbrev pub IsUpper : ℕ → Type 0
IsUpper c = (65 ≤ c) × (c ≤ 90)

abbrev pub IsDigit : ℕ → Type 0
IsDigit c = (48 ≤ c) × (c ≤ 57)

-- prefix, as `b64` or `DT`
pub data IsPrefix : List ℕ → Type 0 where
  small : {c : ℕ} {x : List ℕ} → IsLower c → All (λ d. IsLower d ⊎ IsDigit d) x → IsPrefix (c ∷ x)
  large : {c : ℕ} {x : List ℕ} → IsUpper c → All (λ d. IsUpper d ⊎ IsDigit d) x → IsPrefix (c ∷ x)

-- the quotes, ' and "
abbrev pub single_quote : ℕ
single_quote = 39

abbrev pub double_quote : ℕ
double_quote = 34

abbrev pub backslash : ℕ
backslash = 92

-- the character of an escape by one letter: \b \f \n \r \t \/ \\
abbrev pub letter_escape : ℕ → Option ℕ
letter_escape c =
    if c == 98 then Some 8
    else if c == 102 then Some 12
    else if c == 110 then Some 10
    else if c == 114 then Some 13
    else if c == 116 then Some 9
    else if c == 47 then Some 47
    else if c == 92 then Some 92
    else None

-- the number of hexadecimal digits
abbrev pub hex_number : List ℕ → ℕ
hex_number ds = number_of 16 ds

-- four hexadecimal digits
abbrev pub IsUnit : List ℕ → Type 0
IsUnit ds = AreDigits Hexadecimal ds × (length ds ≡ 4)

-- One part of what stands between two quotes q, and the bytes that it stands for: those of one character, one byte of a
-- longer character, or none for a raw CR.
pub data IsPart (q : ℕ) : List ℕ → List ℕ → Type 0 where
  -- U+0020 upward, but the quote and the backslash
  raw : {c : ℕ} → IsPrintable c → c ≢ q → c ≢ backslash → IsPart q (c ∷ []) (c ∷ [])
  line_feed : IsPart q (10 ∷ []) (10 ∷ [])
  carriage_return : IsPart q (13 ∷ []) []
  -- \ and the quote
  quote : IsPart q (backslash ∷ q ∷ []) (q ∷ [])
  letter : {c d : ℕ} → letter_escape c ≡ Some d → IsPart q (backslash ∷ c ∷ []) (d ∷ [])
  -- \uXXXX, outside the surrogates
  unit : {ds : List ℕ} → IsUnit ds → IsScalar (hex_number ds) → IsPart q (backslash ∷ 117 ∷ ds) (encode_utf8 (hex_number ds))
  -- \uXXXX\uXXXX, a high surrogate and a low one
  pair : {hs ls : List ℕ} → IsUnit hs → is_high_surrogate (hex_number hs) ≡ true → IsUnit ls → is_low_surrogate (hex_number ls) ≡ true
      → IsPart q (backslash ∷ 117 ∷ (hs ++ (backslash ∷ 117 ∷ ls))) (encode_utf8 (surrogate_pair_char (hex_number hs) (hex_number ls)))
  -- \u{h}, one or more digits
  braced : {ds : List ℕ} → AreDigits Hexadecimal ds → IsScalar (hex_number ds) → IsPart q (backslash ∷ 117 ∷ 123 ∷ (ds ++ (125 ∷ []))) (encode_utf8 (hex_number ds))

-- What stands between two quotes q, and the bytes of the text that it stands for.
pub data Decoded (q : ℕ) : List ℕ → List ℕ → Type 0 where
  nothing : Decoded q [] []
  part : {x b y c : List ℕ} → IsPart q x b → Decoded q y c → Decoded q (x ++ y) (b ++ c)

-- how a literal is quoted
pub data Quoting : Type 0 where
  Double : Quoting
  Single : Quoting
  -- a prefix and single quotes
  Prefixed : List ℕ → Quoting

-- The literal t is quoted so, and stands for the text v: as `"\n"` for LF, and `h'00'` with the prefix `h` for `00`.
abbrev pub IsLiteral : Quoting → List ℕ → List ℕ → Type 0
IsLiteral Double v t = (x : List ℕ) × Decoded double_quote x v × (t ≡ double_quote ∷ (x ++ (double_quote ∷ [])))
IsLiteral Single v t = (x : List ℕ) × Decoded single_quote x v × (t ≡ single_quote ∷ (x ++ (single_quote ∷ [])))
IsLiteral (Prefixed p) v t = (x : List ℕ) × IsPrefix p × Decoded single_quote x v × (t ≡ p ++ (single_quote ∷ (x ++ (single_quote ∷ []))))

-- a quoted text, with or without a prefix
abbrev pub IsQuoted : List ℕ → Type 0
IsQuoted t = (q : Quoting) × (v : List ℕ) × IsLiteral q v t

-- three dots or more
abbrev pub IsEllipsis : List ℕ → Type 0
IsEllipsis t = All (λ c. c ≡ 46) t × (3 ≤ length t)
