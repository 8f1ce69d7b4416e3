-- The content of a literal, a kind and bytes, and the literals of decoded strings.
use Rattle.std.specs.Prelude.{ℕ, ◌≡◌, ◌⊎◌, ◌+◌, ◌*◌, ◌/◌, ◌%◌, ◌-◌, ◌^◌, ◌<◌, ◌==◌, ◌||◌, ◌&&◌, nat_le, nat_lt, Bool, false, List, [], ◌∷◌, ◌++◌, length, Option, Some, None, All, if◌then◌else◌, zero, suc}
use Rattle.std.specs.Char.{digit_value, digit_char}
use Rattle.hex.specs.Hex.{encode_lower}
use Rattle.cbor_edn_parts.specs.space.Space.{IsSpace, InHash}
use Rattle.cbor_edn_parts.specs.number.Number.{Hexadecimal, IsDigitOf}
use Rattle.cbor_edn_parts.specs.string.Literal.{single_quote, double_quote, backslash, Quoting, Double, Single, Prefixed, IsLiteral}
use Rattle.cbor_edn_parts.specs.declared.base.error.InconsistentEdn.{InconsistentEdn}
use Rattle.cbor_edn_parts.specs.declared.base.error.InconsistentEdn.TheVariants.{UnsupportedLiteral, UndecodableContent}
use Rattle.cbor_edn_parts.specs.declared.string.StringKind.{StringKind}
use Rattle.cbor_edn_parts.specs.declared.string.StringKind.TheVariants.{Bytes, Text}

-- ---- h: pairs of hexadecimal digits

-- what follows the first space: pairs of digits, each digit with the space behind it, at the end a comment with no end
pub data IsHexPairs : List ℕ → List ℕ → Type 0 where
  end : IsHexPairs [] []
  unended : {x : List ℕ} → All InHash x → IsHexPairs (35 ∷ x) []
  pair : (a b : ℕ) {s t x bs : List ℕ} → IsDigitOf Hexadecimal a → IsSpace s → IsDigitOf Hexadecimal b → IsSpace t → IsHexPairs x bs
      → IsHexPairs (a ∷ (s ++ (b ∷ (t ++ x)))) ((16 * digit_value a + digit_value b) ∷ bs)

-- The text v of a literal with the prefix `h` stands for these bytes: `01 /c/ 02 # rest` for 01 02.
abbrev pub IsHex : List ℕ → List ℕ → Type 0
IsHex v bs = (s x : List ℕ) × IsSpace s × IsHexPairs x bs × (v ≡ s ++ x)

-- ---- b64, b32, h32: symbols of 6 or 5 bits

-- the symbols of an alphabet by their bytes; `bits` is how many bits each has
pub record Alphabet : Type 0 where
  pub bits : ℕ
  pub symbol : ℕ → Option ℕ

-- A-Z a-z 0-9 + /, with - as + and _ as /
abbrev pub base64_symbol : ℕ → Option ℕ
base64_symbol c =
    if nat_le 65 c && nat_le c 90 then Some (c - 65)
    else if nat_le 97 c && nat_le c 122 then Some (c - 71)
    else if nat_le 48 c && nat_le c 57 then Some (c + 4)
    else if c == 43 || c == 45 then Some 62
    else if c == 47 || c == 95 then Some 63
    else None

-- A-Z 2-7, in either case
abbrev pub base32_symbol : ℕ → Option ℕ
base32_symbol c =
    if nat_le 65 c && nat_le c 90 then Some (c - 65)
    else if nat_le 97 c && nat_le c 122 then Some (c - 97)
    else if nat_le 50 c && nat_le c 55 then Some (c - 24)
    else None

-- 0-9 A-V, in either case
abbrev pub base32hex_symbol : ℕ → Option ℕ
base32hex_symbol c = if nat_lt (digit_value c) 32 then Some (digit_value c) else None

abbrev pub base64 : Alphabet
base64 = record { bits = 6; symbol = base64_symbol }

abbrev pub base32 : Alphabet
base32 = record { bits = 5; symbol = base32_symbol }

abbrev pub base32hex : Alphabet
base32hex = record { bits = 5; symbol = base32hex_symbol }

-- so many bits of a number, the highest first
abbrev pub bits_of : ℕ → ℕ → List Bool
bits_of zero n = []
bits_of (suc k) n = (n / 2 ^ k % 2 == 1) ∷ bits_of k n

-- the symbols of a text; `=` is no symbol, and ignored
pub data AreSymbols (a : Alphabet) : List ℕ → List ℕ → Type 0 where
  end : AreSymbols a [] []
  ignored : {t ss : List ℕ} → AreSymbols a t ss → AreSymbols a (61 ∷ t) ss
  symbol : {c s : ℕ} {t ss : List ℕ} → a.symbol c ≡ Some s → AreSymbols a t ss → AreSymbols a (c ∷ t) (s ∷ ss)

abbrev pub joined_bits : ℕ → List ℕ → List Bool
joined_bits k [] = []
joined_bits k (n ∷ ns) = bits_of k n ++ joined_bits k ns

-- The bits of the symbols, joined, are those of the bytes and then fewer than one symbol has, all of them zero.
abbrev pub IsBase : Alphabet → List ℕ → List ℕ → Type 0
IsBase a v bs = (ss : List ℕ) × (z : List Bool) × AreSymbols a v ss × All (λ b. b < 256) bs × (joined_bits a.bits ss ≡ joined_bits 8 bs ++ z) × (length z < a.bits) × All (λ b. b ≡ false) z

-- ---- the content of a literal

abbrev pub Content : Type 0
Content = StringKind × List ℕ

-- the prefixes whose literals have a content, as lists of bytes
abbrev pub h : List ℕ
h = 104 ∷ []

abbrev pub b64 : List ℕ
b64 = 98 ∷ 54 ∷ 52 ∷ []

abbrev pub b32 : List ℕ
b32 = 98 ∷ 51 ∷ 50 ∷ []

abbrev pub h32 : List ℕ
h32 = 104 ∷ 51 ∷ 50 ∷ []

-- The literal t is a string of this kind and of these bytes.
pub data HasContent (t : List ℕ) : StringKind → List ℕ → Type 0 where
  -- dquoted: `"b\n"` is the text of the bytes 62 0A
  double_quoted : {v : List ℕ} → IsLiteral Double v t → HasContent t Text v
  -- squoted: `'b\n'` is the bytes 62 0A
  single_quoted : {v : List ℕ} → IsLiteral Single v t → HasContent t Bytes v
  -- `h'62 0a'` is the bytes 62 0A
  behind_h : {v bs : List ℕ} → IsLiteral (Prefixed h) v t → IsHex v bs → HasContent t Bytes bs
  -- `b64'Yg=='` is the byte 62
  behind_b64 : {v bs : List ℕ} → IsLiteral (Prefixed b64) v t → IsBase base64 v bs → HasContent t Bytes bs
  -- `b32'MI'` is the byte 62
  behind_b32 : {v bs : List ℕ} → IsLiteral (Prefixed b32) v t → IsBase base32 v bs → HasContent t Bytes bs
  -- `h32'C8'` is the byte 62
  behind_h32 : {v bs : List ℕ} → IsLiteral (Prefixed h32) v t → IsBase base32hex v bs → HasContent t Bytes bs

abbrev pub NoContent : List ℕ → Type 0
NoContent t = (kind : StringKind) (bytes : List ℕ) → HasContent t kind bytes → ⊥

-- no prefix, or one of the four: only literals that are quoted so have contents
abbrev pub IsSupportedQuoting : Quoting → Type 0
IsSupportedQuoting Double = Unit {0}
IsSupportedQuoting Single = Unit {0}
IsSupportedQuoting (Prefixed p) = (p ≡ h) ⊎ ((p ≡ b64) ⊎ ((p ≡ b32) ⊎ (p ≡ h32)))

-- a literal that is quoted so
abbrev pub IsSupported : List ℕ → Type 0
IsSupported t = (q : Quoting) × (v : List ℕ) × IsLiteral q v t × IsSupportedQuoting q

-- What is told of a literal t that has no content.
pub data IsRefusal (t : List ℕ) : InconsistentEdn → Type 0 where
  -- `h'6'`
  undecodable : IsSupported t → IsRefusal t UndecodableContent
  -- `e'x'`
  unsupported : (IsSupported t → ⊥) → IsRefusal t UnsupportedLiteral

-- ---- the literals of decoded strings

-- h'..', in lower case
abbrev pub hex_literal : List ℕ → List ℕ
hex_literal bs = 104 ∷ single_quote ∷ (encode_lower bs ++ (single_quote ∷ []))

-- the digits of a number below 32, without leading zeros
abbrev pub short_hex : ℕ → List ℕ
short_hex n = if nat_lt n 16 then digit_char n ∷ [] else digit_char (n / 16) ∷ digit_char (n % 16) ∷ []

abbrev pub braced : ℕ → List ℕ
braced n = backslash ∷ 117 ∷ 123 ∷ (short_hex n ++ (125 ∷ []))

-- A byte of a text between double quotes: LF and U+0020 upward as they are, but for three characters.
abbrev pub escaped : ℕ → List ℕ
escaped c =
    if c == double_quote || c == backslash then backslash ∷ c ∷ []
    else if c == 13 then backslash ∷ 114 ∷ []
    else if c == 9 then backslash ∷ 116 ∷ []
    else if c == 8 then backslash ∷ 98 ∷ []
    else if c == 12 then backslash ∷ 102 ∷ []
    else if c == 10 then c ∷ []
    else if nat_lt c 32 then braced c
    else if c == single_quote then backslash ∷ 117 ∷ 123 ∷ 50 ∷ 55 ∷ 125 ∷ []
    else c ∷ []

abbrev pub all_escaped : List ℕ → List ℕ
all_escaped [] = []
all_escaped (c ∷ t) = escaped c ++ all_escaped t

-- ".."
abbrev pub text_literal : List ℕ → List ℕ
text_literal v = double_quote ∷ (all_escaped v ++ (double_quote ∷ []))

-- the literal of a string of this kind
abbrev pub kind_literal : StringKind → List ℕ → List ℕ
kind_literal Bytes bs = hex_literal bs
kind_literal Text bs = text_literal bs

-- the literal of an empty one whose indicator is `_`
abbrev pub empty_literal : StringKind → List ℕ
empty_literal Bytes = single_quote ∷ single_quote ∷ []
empty_literal Text = double_quote ∷ double_quote ∷ []
