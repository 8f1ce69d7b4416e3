-- Streams of hexadecimal digits.
use Rattle.std.specs.Prelude.{ℕ, zero, suc, not, Bool, ◌==◌, ◌||◌, if◌then◌else◌, List, [], ◌∷◌, filter, Result, Ok}
use Rattle.hex.specs.Hex.{encode_lower, decode_of}
use Rattle.hex.specs.declared.error.FromHexError.{FromHexError}

-- tab, line feed, carriage return and space, which stand between digits without meaning
abbrev pub is_blank : ℕ → Bool
is_blank b = b == 9 || b == 10 || b == 13 || b == 32

-- The bytes of a text of digits in either case, two for a byte, or why it is none.
abbrev pub hex_bytes : List ℕ → Result (List ℕ) FromHexError
hex_bytes input = decode_of (filter (λ b. not (is_blank b)) input)

-- the bytes of an input, which may be digits
abbrev pub input_bytes : Bool → List ℕ → Result (List ℕ) FromHexError
input_bytes hex input = if hex then hex_bytes input else Ok input

-- digits with a line feed behind each line, where so many more fit on this line and the next lines take 64
unfoldable pub lines_from : ℕ → List ℕ → List ℕ
lines_from room [] = 10 ∷ []
lines_from zero (d ∷ ds) = 10 ∷ d ∷ lines_from 63 ds
lines_from (suc room) (d ∷ ds) = d ∷ lines_from room ds

-- Digits in lines of 64, each ended by a line feed, the last and shorter one too. No digits make no line.
abbrev pub in_lines : List ℕ → List ℕ
in_lines [] = []
in_lines (d ∷ ds) = lines_from 64 (d ∷ ds)

-- the lower case digits of some bytes, in lines
abbrev pub hex_lines : List ℕ → List ℕ
hex_lines bytes = in_lines (encode_lower bytes)
