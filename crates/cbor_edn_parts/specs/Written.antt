-- The texts of numbers and literals that are made from values.
use Rattle.std.specs.Prelude.{ℕ, false, List, [], ◌∷◌, ◌++◌, ◌==◌, if◌then◌else◌}
use Rattle.std.specs.Fmt.{digits}
use Rattle.cbor_edn_parts.specs.string.Literal.{single_quote, double_quote, backslash}
use Rattle.cbor_edn_parts.specs.string.Contents.{escaped}

-- `0x` and digits in lower case, without leading zeros: `0x1f` for 31
abbrev pub hexadecimal_text : ℕ → List ℕ
hexadecimal_text n = 48 ∷ 120 ∷ digits 16 false n

-- A byte of a text between single quotes: as between double quotes, but for the two quotes.
abbrev pub single_escaped : ℕ → List ℕ
single_escaped c =
    if c == single_quote then backslash ∷ c ∷ []
    else if c == double_quote then backslash ∷ 117 ∷ 123 ∷ 50 ∷ 50 ∷ 125 ∷ []
    else escaped c

abbrev pub all_single_escaped : List ℕ → List ℕ
all_single_escaped [] = []
all_single_escaped (c ∷ t) = single_escaped c ++ all_single_escaped t

-- A prefix and a text between single quotes: `b64'a\'b'` for the prefix `b64` and the text a'b.
abbrev pub application_literal : List ℕ → List ℕ → List ℕ
application_literal p v = p ++ (single_quote ∷ (all_single_escaped v ++ (single_quote ∷ [])))
