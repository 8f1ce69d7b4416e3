-- The texts of literals and of dots as automata, and the text that a literal stands for.
use Rattle.std.specs.Prelude.{ℕ, ◌+◌, ◌*◌, ◌==◌, ◌||◌, ◌&&◌, not, nat_le, nat_lt, Bool, true, false, List, [], ◌∷◌, ◌++◌, Option, Some, None, option_map, encode_utf8, if◌then◌else◌}
use Rattle.std.specs.Char.{digit_value}
use Rattle.std.specs.Char.Utf16.{is_high_surrogate, is_low_surrogate, surrogate_pair_char}
use Rattle.cbor_edn_parts.specs.internal.Lex.{Automaton, is_token}
use Rattle.cbor_edn_parts.specs.string.Literal.{single_quote, double_quote, backslash, letter_escape}
use Rattle.cbor_edn_parts.specs.declared.string.Quote.{Quote}
use Rattle.cbor_edn_parts.specs.declared.string.Quote.TheVariants.{Single, Double}
use Rattle.cbor_edn_parts.specs.declared.string.QuotedState.{QuotedState}
use Rattle.cbor_edn_parts.specs.declared.string.QuotedState.TheVariants.{Between, Backslash, Unit, High, HighBackslash, LowUnit, Brace, Braced}
use Rattle.cbor_edn_parts.specs.declared.string.LiteralState.{LiteralState}
use Rattle.cbor_edn_parts.specs.declared.string.LiteralState.TheVariants.{Start, Lower, Upper, Inside, Closed}
use Rattle.cbor_edn_parts.specs.declared.string.EllipsisState.{EllipsisState}
use Rattle.cbor_edn_parts.specs.declared.string.EllipsisState.TheVariants.{None as NoDot, One, Two, Enough}

abbrev pub quote_byte : Quote → ℕ
quote_byte Single = single_quote
quote_byte Double = double_quote

abbrev pub is_lower : ℕ → Bool
is_lower c = nat_le 97 c && nat_le c 122

abbrev pub is_upper : ℕ → Bool
is_upper c = nat_le 65 c && nat_le c 90

abbrev pub is_digit : ℕ → Bool
is_digit c = nat_le 48 c && nat_le c 57

-- the next state, and the bytes of the character that ends there
abbrev pub Step : Type 0
Step = Option (QuotedState × List ℕ)

-- the number of a character: at most 10FFFF (hexadecimal), and no surrogate
abbrev pub is_scalar : ℕ → Bool
is_scalar c = nat_lt c 0xD800 || (nat_le 0xE000 c && nat_le c 0x10FFFF)

-- a character that ends a part
abbrev pub whole : ℕ → Step
whole c = if is_scalar c then Some (Between, encode_utf8 c) else None

-- a number with one hexadecimal digit more; what is greater than all characters is followed no further
abbrev pub with_digit : ℕ → ℕ → Option ℕ
with_digit n c = if nat_lt (digit_value c) 16 && nat_le n 0x10FFFF then Some (16 * n + digit_value c) else None

-- behind four digits
abbrev pub unit_end : ℕ → Step
unit_end n = if is_high_surrogate n then Some (High n, []) else whole n

abbrev pub pair_end : ℕ → ℕ → Step
pair_end h n = if is_high_surrogate h && is_low_surrogate n then whole (surrogate_pair_char h n) else None

-- a byte between two parts: the quote that ends the text is not among them
abbrev pub raw_step : ℕ → Step
raw_step c =
    if c == backslash then Some (Backslash, [])
    else if c == 13 then Some (Between, [])
    else if c == 10 || (nat_le 32 c && nat_lt c 256) then Some (Between, c ∷ [])
    else None

abbrev pub escape_step : ℕ → ℕ → Step
escape_step q c =
    if c == 117 then Some (Unit 0 0, [])
    else if c == q then Some (Between, q ∷ [])
    else option_map (λ d. (Between, d ∷ [])) (letter_escape c)

abbrev pub unit_digit : ℕ → Option ℕ → Step
unit_digit d None = None
unit_digit d (Some n) = if nat_lt d 3 then Some (Unit (d + 1) n, []) else unit_end n

abbrev pub low_digit : ℕ → ℕ → Option ℕ → Step
low_digit h d None = None
low_digit h d (Some n) = if nat_lt d 3 then Some (LowUnit h (d + 1) n, []) else pair_end h n

abbrev pub braced_digit : Option ℕ → Step
braced_digit None = None
braced_digit (Some n) = Some (Braced n, [])

-- One byte between two quotes q.
abbrev pub quoted_step : ℕ → ℕ → QuotedState → Step
quoted_step q c Between = raw_step c
quoted_step q c Backslash = escape_step q c
quoted_step q c (Unit d n) = if d == 0 && c == 123 then Some (Brace, []) else unit_digit d (with_digit n c)
quoted_step q c (High h) = if c == backslash then Some (HighBackslash h, []) else None
quoted_step q c (HighBackslash h) = if c == 117 then Some (LowUnit h 0 0, []) else None
quoted_step q c (LowUnit h d n) = low_digit h d (with_digit n c)
quoted_step q c Brace = braced_digit (with_digit 0 c)
quoted_step q c (Braced n) = if c == 125 then whole n else braced_digit (with_digit n c)

-- a byte from U+0020 on, but the quote and the backslash: between two parts it stands for itself
abbrev pub is_plain : Quote → ℕ → Bool
is_plain q c = nat_le 32 c && (nat_lt c 256 && (not (c == backslash) && not (c == quote_byte q)))

-- whether the byte is the quote that ends the text
abbrev pub ends : Quote → ℕ → QuotedState → Bool
ends q c Between = c == quote_byte q
ends q c _ = false

abbrev pub inside : Quote → Step → Option LiteralState
inside q None = None
inside q (Some x) = Some (Inside q x.0)

abbrev pub literal_step : ℕ → LiteralState → Option LiteralState
literal_step c Start =
    if c == double_quote then Some (Inside Double Between)
    else if c == single_quote then Some (Inside Single Between)
    else if is_lower c then Some Lower
    else if is_upper c then Some Upper
    else None
literal_step c Lower = if c == single_quote then Some (Inside Single Between) else if is_lower c || is_digit c then Some Lower else None
literal_step c Upper = if c == single_quote then Some (Inside Single Between) else if is_upper c || is_digit c then Some Upper else None
literal_step c (Inside q p) = if ends q c p then Some Closed else inside q (quoted_step (quote_byte q) c p)
literal_step c Closed = None

abbrev pub literal_final : LiteralState → Bool
literal_final Closed = true
literal_final _ = false

-- a quoted text, with or without a prefix
abbrev pub literal : Automaton LiteralState
literal = record { step = literal_step; final = literal_final; start = Start }

abbrev pub is_literal : List ℕ → Bool
is_literal t = is_token literal t

abbrev pub next_dot : EllipsisState → EllipsisState
next_dot NoDot = One
next_dot One = Two
next_dot Two = Enough
next_dot Enough = Enough

abbrev pub ellipsis_step : ℕ → EllipsisState → Option EllipsisState
ellipsis_step c m = if c == 46 then Some (next_dot m) else None

abbrev pub ellipsis_final : EllipsisState → Bool
ellipsis_final Enough = true
ellipsis_final _ = false

-- three dots or more
abbrev pub ellipsis : Automaton EllipsisState
ellipsis = record { step = ellipsis_step; final = ellipsis_final; start = NoDot }

abbrev pub is_ellipsis : List ℕ → Bool
is_ellipsis t = is_token ellipsis t

-- ---- what a literal stands for

-- the bytes of what ends, and then those of the rest
abbrev followed : Step → (QuotedState → List ℕ) → List ℕ
followed None rest = []
followed (Some x) rest = x.1 ++ rest x.0

-- The bytes that the text behind an opening quote stands for, up to the quote that ends it.
unfoldable pub decoded : Quote → QuotedState → List ℕ → List ℕ
decoded q m [] = []
decoded q m (c ∷ t) = if ends q c m then [] else followed (quoted_step (quote_byte q) c m) (λ n. decoded q n t)

abbrev pub is_quote : ℕ → Bool
is_quote c = c == single_quote || c == double_quote

-- the prefix of a literal: what stands before its first quote
unfoldable pub prefix_of : List ℕ → List ℕ
prefix_of [] = []
prefix_of (c ∷ t) = if is_quote c then [] else c ∷ prefix_of t

-- the first quote and what follows it
unfoldable pub quoted_of : List ℕ → List ℕ
quoted_of [] = []
quoted_of (c ∷ t) = if is_quote c then c ∷ t else quoted_of t
