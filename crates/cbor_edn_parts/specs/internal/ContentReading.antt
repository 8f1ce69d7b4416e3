-- The content of a literal, read from its bytes.
use Rattle.std.specs.Prelude.{ℕ, ◌+◌, ◌*◌, ◌/◌, ◌%◌, ◌-◌, ◌^◌, ◌==◌, ◌||◌, ◌&&◌, nat_lt, Bool, true, false, List, [], ◌∷◌, length, drop, Option, Some, None, option_map, if◌then◌else◌}
use Rattle.std.specs.Char.{digit_value}
use Rattle.cbor_edn_parts.specs.base.Bytes.{kind}
use Rattle.cbor_edn_parts.specs.internal.SpaceTokens.{space_step}
use Rattle.cbor_edn_parts.specs.string.Literal.{double_quote}
use Rattle.cbor_edn_parts.specs.internal.LiteralTokens.{decoded, prefix_of, quoted_of}
use Rattle.cbor_edn_parts.specs.string.Contents.{Alphabet, base64, base32, base32hex, Content, h, b64, b32, h32}
use Rattle.cbor_edn_parts.specs.declared.base.error.InconsistentEdn.{InconsistentEdn}
use Rattle.cbor_edn_parts.specs.declared.base.error.InconsistentEdn.TheVariants.{UnsupportedLiteral, UndecodableContent}
use Rattle.cbor_edn_parts.specs.declared.space.SpaceState.{SpaceState}
use Rattle.cbor_edn_parts.specs.declared.space.SpaceState.TheVariants.{Between, InSlashes}
use Rattle.cbor_edn_parts.specs.declared.string.Quote.{Quote}
use Rattle.cbor_edn_parts.specs.declared.string.Quote.TheVariants as quotes
use Rattle.cbor_edn_parts.specs.declared.string.QuotedState.TheVariants as part
use Rattle.cbor_edn_parts.specs.declared.string.StringKind.{StringKind}
use Rattle.cbor_edn_parts.specs.declared.string.StringKind.TheVariants.{Bytes, Text}

-- ---- pairs of hexadecimal digits

abbrev hex_end : SpaceState → Option ℕ → Option (List ℕ)
hex_end InSlashes h = None
hex_end m (Some d) = None
hex_end m None = Some []

abbrev pub if_scanned : Option SpaceState → (SpaceState → Option (List ℕ)) → Option (List ℕ)
if_scanned None rest = None
if_scanned (Some m) rest = rest m

-- the digit that stands at a byte, where a scan of space stands at m: none inside a comment
abbrev pub hex_digit_at : SpaceState → ℕ → Option ℕ
hex_digit_at Between c = if nat_lt (digit_value c) 16 then Some (digit_value c) else None
hex_digit_at m c = None

-- The bytes of the rest of a text of pairs, where a scan of space stands at m, and h is the digit that waits for its second.
unfoldable pub hex_bytes : SpaceState → Option ℕ → List ℕ → Option (List ℕ)
hex_bytes m h [] = hex_end m h
hex_bytes Between None (c ∷ t) = if nat_lt (digit_value c) 16 then hex_bytes Between (Some (digit_value c)) t else if_scanned (space_step (kind c) Between) (λ n. hex_bytes n None t)
hex_bytes Between (Some d) (c ∷ t) = if nat_lt (digit_value c) 16 then option_map (◌∷◌ (16 * d + digit_value c)) (hex_bytes Between None t) else if_scanned (space_step (kind c) Between) (λ n. hex_bytes n (Some d) t)
hex_bytes m h (c ∷ t) = if_scanned (space_step (kind c) m) (λ n. hex_bytes n h t)

-- ---- symbols of 6 or 5 bits

-- what waits and a symbol more: a byte where there are eight bits
abbrev with_symbol : Alphabet → ℕ → ℕ → Option ℕ → (ℕ → ℕ → Option (List ℕ)) → Option (List ℕ)
with_symbol a n r None rest = None
with_symbol a n r (Some s) rest =
    if nat_lt (n + a.bits) 8 then rest (n + a.bits) (r * 2 ^ a.bits + s)
    else option_map (◌∷◌ ((r * 2 ^ a.bits + s) / 2 ^ (n + a.bits - 8))) (rest (n + a.bits - 8) ((r * 2 ^ a.bits + s) % 2 ^ (n + a.bits - 8)))

-- The bytes of the rest of a text of symbols, where n bits, whose number is r, wait for more.
unfoldable pub base_bytes : Alphabet → ℕ → ℕ → List ℕ → Option (List ℕ)
base_bytes a n r [] = if nat_lt n a.bits && r == 0 then Some [] else None
base_bytes a n r (c ∷ t) = if c == 61 then base_bytes a n r t else with_symbol a n r (a.symbol c) (λ m q. base_bytes a m q t)

-- ---- literals

abbrev pub of_bytes : Option (List ℕ) → Option Content
of_bytes None = None
of_bytes (Some bs) = Some (Bytes, bs)

abbrev pub same : List ℕ → List ℕ → Bool
same [] [] = true
same (c ∷ x) (d ∷ y) = (c == d) && same x y
same _ _ = false

-- the bytes of the text v behind a prefix, or none
abbrev pub prefixed_bytes : List ℕ → List ℕ → Option (List ℕ)
prefixed_bytes p v =
    if same p h then hex_bytes Between None v
    else if same p b64 then base_bytes base64 0 0 v
    else if same p b32 then base_bytes base32 0 0 v
    else if same p h32 then base_bytes base32hex 0 0 v
    else None

abbrev pub content_behind : List ℕ → List ℕ → Option Content
content_behind p [] = None
content_behind [] (q ∷ t) = if q == double_quote then Some (Text, decoded quotes.Double part.Between t) else Some (Bytes, decoded quotes.Single part.Between t)
content_behind (c ∷ p) (q ∷ t) = of_bytes (prefixed_bytes (c ∷ p) (decoded quotes.Single part.Between t))

-- The content of a literal as it is written: that of `"a"` is the text 61, and `e'x'` has none.
abbrev pub literal_content : List ℕ → Option Content
literal_content t = content_behind (prefix_of t) (quoted_of t)

-- whether a prefix is one of the four
abbrev pub is_decoded : List ℕ → Bool
is_decoded p = same p h || same p b64 || same p b32 || same p h32

-- whether this is no prefix, or one of the four
abbrev pub is_supported_prefix : List ℕ → Bool
is_supported_prefix p = same p [] || is_decoded p

abbrev pub is_supported : List ℕ → Bool
is_supported t = is_supported_prefix (prefix_of t)

-- What is told of a literal that has no content, by whether it is supported.
abbrev pub refusal : Bool → InconsistentEdn
refusal supported = if supported then UndecodableContent else UnsupportedLiteral

-- the kind by the quote
abbrev pub literal_kind : List ℕ → StringKind
literal_kind [] = Bytes
literal_kind (c ∷ t) = if c == double_quote then Text else Bytes

-- what stands behind the first quote of a literal
abbrev pub behind_quote : List ℕ → List ℕ
behind_quote t = drop (length (prefix_of t) + 1) t

-- what a literal of this kind is quoted with
abbrev pub quote_of : StringKind → Quote
quote_of Bytes = quotes.Single
quote_of Text = quotes.Double
