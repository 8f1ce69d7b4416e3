-- What items mean: a CBOR value, its heads as the encoding indicators say, or nothing.
use Rattle.std.specs.Prelude.{◌≡◌, ℕ, ℤ, pos, negsuc, zero, suc, ◌+◌, ◌^◌, Bool, true, false, List, [], ◌∷◌, ◌++◌, ◌&&◌, is_none, length, Option, Some, None, ◌||◌, nat_le, nat_lt, if◌then◌else◌}
use Rattle.std.specs.Int.{w128, to_be_bytes}
use Rattle.cbor_edn_parts.specs.declared.base.error.InconsistentEdn.{InconsistentEdn}
use Rattle.cbor_edn_parts.specs.declared.base.indicator.Indicator.{Indicator}
use Rattle.cbor_edn_parts.specs.declared.base.indicator.Indicator.TheVariants as indicator
use Rattle.cbor_edn_parts.specs.internal.NumberReading.{integer_of}
use Rattle.cbor_edn_parts.specs.string.Contents.{Content}
use Rattle.cbor_edn_parts.specs.internal.ContentReading.{literal_content}
use Rattle.cbor_edn_parts.specs.declared.string.StringKind.{StringKind}
use Rattle.cbor_edn_parts.specs.declared.string.StringKind.TheVariants.{Bytes, Text}
use Rattle.cbor_edn_model.specs.declared.text.keyword.NamedSimple.{NamedSimple}
use Rattle.cbor_edn_model.specs.declared.text.keyword.NamedSimple.TheVariants.{False, True, Null, Undefined}
use Rattle.cbor_edn_model.specs.declared.text.keyword.NonFinite.{NonFinite}
use Rattle.cbor_edn_model.specs.declared.cbor.heads.Width.{Width}
use Rattle.cbor_edn_model.specs.declared.cbor.heads.Width.TheVariants.{Immediate, One, Two, Four, Eight}
use Rattle.cbor_edn_model.specs.tree.Items.{Row, Elements, Pairs, Strings, Bracketed, Array, Map, entries_of, Sort, Item, Piece, Pieces, Entry, Entries, Node, Number, Float, Listed, Tagged, Named, Simple, String, Stream, Literal, Ellipsis, Embedded, LastPiece, Plus, Element, Pair, Chunk, End, Then}
use Rattle.cbor_edn_model.specs.cbor.Value as values
use Rattle.cbor_edn_model.specs.cbor.Value.{Value, unsigned, negative, string, chunks, is_content, array, cbor_map, tag, simple, float, Values, no_values, value, values_len, no_pairs, pair, pairs_len, limit_of, encodings}
pub use Rattle.cbor_edn_parts.specs.base.Options.{◌>>=◌}

-- the shortest width that the argument fits, of those below 2^64
abbrev pub shortest : ℕ → Width
shortest n =
    if nat_lt n 24 then Immediate
    else if nat_lt n (2 ^ 8) then One
    else if nat_lt n (2 ^ 16) then Two
    else if nat_lt n (2 ^ 32) then Four
    else Eight

-- the width, where the argument fits it
abbrev pub fitting : Width → ℕ → Option Width
fitting w n = if nat_lt n (limit_of w) then Some w else None

-- The width of the head of an argument: as the indicator says where the argument fits, and without one the shortest. The indicator `_`
-- gives no width.
abbrev pub width_of : Option Indicator → ℕ → Option Width
width_of None n = fitting (shortest n) n
width_of (Some indicator.Indefinite) n = None
width_of (Some indicator.Immediate) n = fitting Immediate n
width_of (Some indicator.One) n = fitting One n
width_of (Some indicator.Two) n = fitting Two n
width_of (Some indicator.Four) n = fitting Four n
width_of (Some indicator.Eight) n = fitting Eight n

-- The same of a list of n entries: `_` says that its length is indefinite.
abbrev pub length_of : Option Indicator → ℕ → Option (Option Width)
length_of (Some indicator.Indefinite) n = Some None
length_of i n = width_of i n >>= λ w. Some (Some w)

-- bytes without the zeros that they begin with
abbrev pub without_zeros : List ℕ → List ℕ
without_zeros [] = []
without_zeros (zero ∷ bs) = without_zeros bs
without_zeros (suc b ∷ bs) = suc b ∷ bs

-- the bytes of a number below 2^128, the high byte first: those of 2^64 are 01 and eight times 00
unfoldable pub magnitude_bytes : ℕ → List ℕ
magnitude_bytes n = without_zeros (to_be_bytes w128 n)

-- a tag over a byte string, with the shortest heads
abbrev pub tagged_bytes : ℕ → List ℕ → Value
tagged_bytes number bs = tag Immediate number (string Bytes (shortest (length bs)) bs)

-- what takes no indicator
abbrev pub no_indicator : Option Indicator → Value → Option Value
no_indicator None v = Some v
no_indicator (Some i) v = None

-- A bignum (RFC 8949, section 3.4.3): the tag's number, the number of its bytes, and its magnitude, which is below 2^128.
abbrev pub bignum : ℕ → ℕ → ℕ → Option Indicator → Option Value
bignum number n magnitude i = if nat_lt magnitude (2 ^ 128) then (no_indicator i (tagged_bytes number (magnitude_bytes n))) else None

-- An integer: of major type 0 or 1 from -2^64 to 2^64 - 1, and else of tag 2 or 3. (`negsuc n` is -1 - n.)
abbrev pub means_integer : Option Indicator → ℤ → Option Value
means_integer i (pos n) = if nat_lt n (2 ^ 64) then (width_of i n >>= λ w. Some (unsigned w n)) else bignum 2 n n i
means_integer i (negsuc n) = if nat_lt n (2 ^ 64) then (width_of i n >>= λ w. Some (negative w n)) else bignum 3 n (n + 1) i

-- ---- floating-point and simple values

-- The width of a floating-point number: two bytes without an indicator.
abbrev pub float_width : Option Indicator → Option Width
float_width None = Some Two
float_width (Some indicator.Two) = Some Two
float_width (Some indicator.Four) = Some Four
float_width (Some indicator.Eight) = Some Eight
float_width _ = None

abbrev pub means_float : Option Indicator → NonFinite → Option Value
means_float i f = float_width i >>= λ w. Some (float w f)

abbrev pub named_number : NamedSimple → ℕ
named_number False = 20
named_number True = 21
named_number Null = 22
named_number Undefined = 23

abbrev pub is_simple : ℕ → Bool
is_simple n = nat_lt n 24 || (nat_le 32 n && nat_lt n 256)

-- no indicator, or the shortest one: `_i` up to 23 and `_0` above
abbrev pub is_shortest : Option Indicator → ℕ → Bool
is_shortest None n = true
is_shortest (Some indicator.Immediate) n = nat_lt n 24
is_shortest (Some indicator.One) n = nat_le 24 n
is_shortest _ n = false

abbrev pub simple_number : Option Indicator → ℤ → Option ℕ
simple_number i (pos n) = if is_simple n && is_shortest i n then Some n else None
simple_number i (negsuc n) = None

abbrev pub simple_of : List ℕ → Option Indicator → Option ℕ
simple_of x i = integer_of x >>= simple_number i

-- `simple(..)`: an integer literal alone stands in it
abbrev pub means_simple : Node Item → Option Value
means_simple (Number x i) = simple_of x i >>= λ n. Some (simple n)
means_simple _ = None

-- ---- strings

-- two contents, one behind the other: the kind is that of the first
abbrev pub joined : Content → Content → Content
joined c d = (c.0, c.1 ++ d.1)

-- The indicators of the pieces of a string, as one: none of several pieces may have one.
abbrev pub piece_indicator : Node Piece → Option Indicator
piece_indicator (Literal x i) = i
piece_indicator (Ellipsis x) = None
piece_indicator (Embedded m i) = i

abbrev pub have_no_indicators : Node Pieces → Bool
have_no_indicators (LastPiece p) = is_none (piece_indicator p)
have_no_indicators (Plus p w) = is_none (piece_indicator p) && have_no_indicators w

abbrev pub pieces_indicator : Node Pieces → Option (Option Indicator)
pieces_indicator (LastPiece p) = Some (piece_indicator p)
pieces_indicator (Plus p w) = if have_no_indicators (Plus p w) then Some None else None

-- a string of definite length, as one of the strings of a stream
abbrev pub chunk_of : Content → Option Indicator → Option (StringKind × values.Chunk)
chunk_of c i = if is_content c.0 c.1 then (width_of i (length c.1) >>= λ w. Some (c.0, (w, c.1))) else None

-- A string by itself: with `_` an empty one means the string of indefinite length without chunks.
abbrev pub string_of : Content → Option Indicator → Option Value
string_of (k, []) (Some indicator.Indefinite) = Some (chunks k [])
string_of c i = chunk_of c i >>= λ p. Some (string p.0 p.1.0 p.1.1)

abbrev pub same_kind : StringKind → StringKind → Bool
same_kind Bytes Bytes = true
same_kind Text Text = true
same_kind _ _ = false

-- the chunks, where all are of this kind
abbrev pub chunks_of : StringKind → List (StringKind × values.Chunk) → Option (List values.Chunk)
chunks_of k [] = Some []
chunks_of k (p ∷ ps) = if same_kind k p.0 then (chunks_of k ps >>= λ cs. Some (p.1 ∷ cs)) else None

-- A stream of strings, one or more, all of the kind of the first.
abbrev pub stream_of : List (StringKind × values.Chunk) → Option Value
stream_of [] = None
stream_of (p ∷ ps) = chunks_of p.0 (p ∷ ps) >>= λ cs. Some (chunks p.0 cs)

-- ---- items

-- what a row of entries means
abbrev pub RowOf : Row → Type 0
RowOf Elements = Values
RowOf Pairs = values.Pairs
RowOf Strings = List (StringKind × values.Chunk)

abbrev pub EntryOf : Row → Type 0
EntryOf Elements = Value
EntryOf Pairs = Value × Value
EntryOf Strings = StringKind × values.Chunk

abbrev pub MeaningOf : Sort → Type 0
MeaningOf Item = Value
MeaningOf Piece = Content
MeaningOf Pieces = Content
MeaningOf (Entry k) = EntryOf k
MeaningOf (Entries k) = RowOf k

abbrev pub row_len : (k : Row) → RowOf k → ℕ
row_len Elements vs = values_len vs
row_len Pairs ps = pairs_len ps
row_len Strings cs = length cs

-- an array or a map
abbrev pub list_value : (k : Bracketed) → Option Width → RowOf (entries_of k) → Value
list_value Array w vs = array w vs
list_value Map w ps = cbor_map w ps

-- a list of entries with an indicator
abbrev pub listed : (k : Bracketed) → Option Indicator → RowOf (entries_of k) → Option Value
listed k i r = length_of i (row_len (entries_of k) r) >>= λ w. Some (list_value k w r)

abbrev pub no_entries : (k : Row) → RowOf k
no_entries Elements = no_values
no_entries Pairs = no_pairs
no_entries Strings = []

abbrev pub one_more : (k : Row) → EntryOf k → RowOf k → RowOf k
one_more Elements v vs = value v vs
one_more Pairs p ps = pair p.0 p.1 ps
one_more Strings c cs = c ∷ cs

-- The value that an item means, the content of a string's pieces, the key and value of a pair, and those of a row, or none: a list means
-- nothing where one of its entries does. `[_0 1, -1]` means the array, of width One, of `unsigned Immediate 1` and
-- `negative Immediate 0`; `"a" + 'b'` means the text 61 62; `24_i` means nothing.
unfoldable pub means : {s : Sort} → Node s → Option (MeaningOf s)
means (Number x i) = integer_of x >>= means_integer i
means (Float f i) = means_float i f
means (Tagged n i w) = width_of i n >>= λ d. means w >>= λ v. Some (tag d n v)
means (Named b) = Some (simple (named_number b))
means (Simple w) = means_simple w
means (Listed k i m) = means m >>= listed k i
means (String w) = means w >>= λ c. pieces_indicator w >>= string_of c
means (Stream m) = means m >>= stream_of
means (Literal x i) = literal_content x
means (Ellipsis x) = None
means (Embedded m i) = means m >>= λ vs. Some (Bytes, encodings vs)
means (LastPiece p) = means p
means (Plus p w) = means p >>= λ c. means w >>= λ d. Some (joined c d)
means (Element w) = means w
means (Pair v w) = means v >>= λ x. means w >>= λ y. Some (x, y)
means (Chunk w) = means w >>= λ c. pieces_indicator w >>= chunk_of c
means (End {k}) = Some (no_entries k)
means (Then {k} e m) = means e >>= λ x. means m >>= λ r. Some (one_more k x r)

-- A refusal to encode says that there is no meaning.
abbrev pub NoEncoding : {X : Type 0} → Option X → InconsistentEdn → Type 0
NoEncoding meaning e = meaning ≡ None
