-- What stands in front, as people see it: how many bytes words, numbers, marks and strings have, and what is wrong with an escape.
--
--   in front         the token
--   `hello, 1`       5 bytes: letters, digits, `_`, `-`, `.`, and most characters beyond ASCII
--   `<<1>>`          2 bytes, a mark
--   `"b", 1`         3 bytes, up to the next quote in the line
--   `h'00' x`        5 bytes
--   `"b`             1 byte
use Rattle.std.specs.Prelude.{ℕ, ◌+◌, nat_lt, nat_le, ◌==◌, ◌&&◌, ◌||◌, not, min, max, Bool, true, false, if◌then◌else◌, List, [], ◌∷◌, length, drop, slice_get, slice_range, position, Option, Some, None}
use Rattle.std.specs.Int.{is_in_range}
use Rattle.cbor_edn_explain.specs.declared.finding.Span.{Span}
use Rattle.cbor_edn_explain.specs.declared.finding.EscapeFault.{EscapeFault}
use Rattle.cbor_edn_explain.specs.declared.finding.EscapeFault.TheVariants.{Unknown, LineEnd, FourDigits, NoDigit, Braces, TooLarge, Surrogate, LowAlone}

abbrev pub byte_at : List ℕ → ℕ → Option ℕ
byte_at bytes at = slice_get bytes at

abbrev pub is_byte : Option ℕ → ℕ → Bool
is_byte None byte = false
is_byte (Some c) byte = c == byte

abbrev pub is_at : List ℕ → ℕ → ℕ → Bool
is_at bytes at byte = is_byte (byte_at bytes at) byte

abbrev pub between : List ℕ → ℕ → ℕ → List ℕ
between bytes from to = if nat_le from to && nat_le to (length bytes) then slice_range bytes from to else []

-- the length of what is in front of a place, or of all
abbrev pub up_to : Option ℕ → ℕ → ℕ
up_to None all = all
up_to (Some n) all = n

abbrev pub is_digit : ℕ → Bool
is_digit c = is_in_range 48 57 c

-- a letter, a digit, `_`, `-`, `.`, or a byte of a character beyond ASCII, but for U+0080 to U+00BF, U+2000 to U+2FFF and from U+F000 on
abbrev pub is_in_word : ℕ → Bool
is_in_word c =
    (is_in_range 97 122 c || (is_in_range 65 90 c || is_in_range 48 57 c)) ||
    ((c == 95 || (c == 45 || c == 46)) || (is_in_range 0x80 0xBF c || (is_in_range 0xC3 0xE1 c || is_in_range 0xE3 0xEE c)))

abbrev pub word_length : List ℕ → ℕ
word_length rest = up_to (position (λ c. not (is_in_word c)) rest) (length rest)

abbrev pub text_length_by : ℕ → List ℕ → Option ℕ → ℕ
text_length_by quote rest None = 0
text_length_by quote rest (Some n) = if is_at rest n quote then n + 1 else 0

-- behind an opening quote, with the closing one
abbrev pub text_length : ℕ → List ℕ → ℕ
text_length quote rest = text_length_by quote rest (position (λ c. c == quote || c == 10) rest)

-- << >> (_ // => --
abbrev pub is_mark : ℕ → ℕ → Bool
is_mark first second =
    if first == 60 then second == 60
    else if first == 62 then second == 62
    else if first == 40 then second == 95
    else if first == 47 then second == 47
    else if first == 61 then second == 62
    else if first == 45 then second == 45
    else false

-- with the string of which it is the prefix
abbrev pub run_length : List ℕ → ℕ
run_length rest =
    if is_at rest (word_length rest) 39 then word_length rest + 1 + text_length 39 (drop (word_length rest + 1) rest)
    else word_length rest

abbrev pub is_quote : ℕ → Bool
is_quote c = c == 34 || (c == 39 || c == 96)

abbrev pub plain_length : ℕ → List ℕ → ℕ
plain_length first others = if is_quote first then 1 + text_length first others else max (run_length (first ∷ others)) 1

-- a mark, a number with its plus sign, a string, a word or a number, or one byte
abbrev pub token_length : List ℕ → ℕ
token_length [] = 0
token_length (first ∷ []) = plain_length first []
token_length (first ∷ (second ∷ others)) =
    if is_mark first second then 2
    else if first == 43 && is_digit second then 1 + run_length (second ∷ others)
    else plain_length first (second ∷ others)

-- so many bytes from a place on, as far as the text goes
abbrev pub span_of : List ℕ → ℕ → ℕ → Span
span_of bytes from n = record { from = from; to = min (length bytes) (from + n) }

abbrev pub token_span : List ℕ → ℕ → Span
token_span bytes at = span_of bytes at (token_length (drop at bytes))

-- the word or number that goes on at a place, and began at another
abbrev pub run_span : List ℕ → ℕ → ℕ → Span
run_span bytes from at = record (span_of bytes at (word_length (drop at bytes))) { from = from }

-- ---- escapes

abbrev pub is_hexadecimal : ℕ → Bool
is_hexadecimal c = is_in_range 48 57 c || (is_in_range 97 102 c || is_in_range 65 70 c)

abbrev pub digits_length : List ℕ → ℕ
digits_length rest = up_to (position (λ c. not (is_hexadecimal c)) rest) (length rest)

abbrev pub zeros_length : List ℕ → ℕ
zeros_length rest = up_to (position (λ c. not (c == 48)) rest) (length rest)

abbrev pub is_low_second : Option ℕ → Bool
is_low_second None = false
is_low_second (Some c) = is_in_range 99 102 c || is_in_range 67 70 c

abbrev pub is_high_second : Option ℕ → Bool
is_high_second None = false
is_high_second (Some c) = (c == 56 || c == 57) || ((c == 97 || c == 98) || (c == 65 || c == 66))

-- digits that begin as those of U+DC00 to U+DFFF
abbrev pub is_low : List ℕ → Bool
is_low digits = (is_at digits 0 100 || is_at digits 0 68) && is_low_second (byte_at digits 1)

-- of U+D800 to U+DBFF
abbrev pub is_high : List ℕ → Bool
is_high digits = (is_at digits 0 100 || is_at digits 0 68) && is_high_second (byte_at digits 1)

abbrev pub is_surrogate : List ℕ → Bool
is_surrogate digits = is_low digits || is_high digits

-- an escape of four digits
abbrev pub is_of_four : List ℕ → Bool
is_of_four rest = is_at rest 0 92 && (is_at rest 1 117 && nat_le 4 (digits_length (drop 2 rest)))

-- the escape of a high surrogate, and none of a low one behind it
abbrev pub is_high_alone : List ℕ → Bool
is_high_alone rest = is_of_four rest && (is_high (drop 2 rest) && not (is_of_four (drop 6 rest) && is_low (drop 2 (drop 6 rest))))

-- digits without leading zeros of a number past U+10FFFF
abbrev pub is_past_last : List ℕ → Bool
is_past_last digits = nat_lt 6 (digits_length digits) || (digits_length digits == 6 && not (is_at digits 0 49 && is_at digits 1 48))

-- what is wrong, and how many bytes show it
abbrev pub Shown : Type 0
Shown = Option (EscapeFault × ℕ)

abbrev pub closed_fault : List ℕ → List ℕ → ℕ → Shown
closed_fault digits significant n =
    if n == 0 then Some (NoDigit, 4)
    else if digits_length significant == 4 && is_surrogate significant then Some (Surrogate, 4 + n)
    else None

abbrev pub end_fault : List ℕ → List ℕ → ℕ → Option ℕ → Shown
end_fault digits significant n None = None
end_fault digits significant n (Some c) = if c == 125 then closed_fault digits significant n else Some (Braces, 3 + n)

abbrev pub brace_length : Bool → ℕ
brace_length true = 1
brace_length false = 0

-- behind `\u{`
abbrev pub braces_fault : List ℕ → Shown
braces_fault digits =
    if is_past_last (drop (zeros_length digits) digits) then Some (TooLarge, 3 + digits_length digits + brace_length (is_at digits (digits_length digits) 125))
    else end_fault digits (drop (zeros_length digits) digits) (digits_length digits) (byte_at digits (digits_length digits))

abbrev pub is_there : Option ℕ → Bool
is_there None = false
is_there (Some c) = true

-- behind `\u` without a brace
abbrev pub four_fault : List ℕ → Shown
four_fault digits =
    if nat_le 2 (min (digits_length digits) 4) && is_low digits then Some (LowAlone, 2 + min (digits_length digits) 4)
    else if nat_lt (min (digits_length digits) 4) 4 && is_there (byte_at digits (min (digits_length digits) 4)) then Some (FourDigits, 2 + min (digits_length digits) 4)
    else None

-- b f n r t / and the backslash
abbrev pub is_letter_escape : ℕ → Bool
is_letter_escape c = (c == 98 || (c == 102 || (c == 110 || c == 114))) || (c == 116 || (c == 47 || c == 92))

abbrev pub second_fault : List ℕ → ℕ → Option ℕ → Shown
second_fault rest quote None = None
second_fault rest quote (Some c) =
    if c == 117 then (if is_at rest 2 123 then braces_fault (drop 3 rest) else four_fault (drop 2 rest))
    else if c == 10 || c == 13 then Some (LineEnd, 1)
    else if is_letter_escape c then None
    else if c == 120 && nat_le 2 (digits_length (drop 2 rest)) then Some (Unknown, 4)
    else if c == quote then None
    else Some (Unknown, 2)

-- of the escape in front, in a string between such quotes: none where it goes on behind the end of the text (RFC 8610, appendix G)
abbrev pub escape_fault : List ℕ → ℕ → Shown
escape_fault rest quote = if is_at rest 0 92 then second_fault rest quote (byte_at rest 1) else None
