-- CBOR data items with the form of each head, and their encodings (RFC 8949, section 3).
use Rattle.std.specs.Prelude.{◌≡◌, ℕ, ◌+◌, ◌*◌, ◌^◌, ◌<◌, ◌≤◌, ◌⊎◌, nat_lt, if◌then◌else◌, List, [], ◌∷◌, ◌++◌, length, Option, Some, None, All, Bool, true}
use Rattle.std.specs.Int.{w8, w16, w32, w64, to_be_bytes}
use Rattle.std.specs.Str.{is_utf8}
use Rattle.cbor_edn_parts.specs.declared.string.StringKind.{StringKind}
use Rattle.cbor_edn_parts.specs.declared.string.StringKind.TheVariants.{Bytes, Text}
use Rattle.cbor_edn_model.specs.declared.cbor.heads.Width.{Width}
use Rattle.cbor_edn_model.specs.declared.text.keyword.NonFinite.{NonFinite}
use Rattle.cbor_edn_model.specs.declared.text.keyword.NonFinite.TheVariants.{Infinity, NegativeInfinity, NaN}
use Rattle.cbor_edn_model.specs.declared.cbor.heads.Width.TheVariants.{Immediate, One, Two, Four, Eight}

-- a string of definite length: the width of its length, and its bytes
abbrev pub Chunk : Type 0
Chunk = Width × List ℕ

-- Data items (section 3.1), with the width of each argument. The bytes of a text are UTF-8. An array or a map without
-- one has indefinite length (section 3.2).
mutual
  pub data Value : Type 0 where
    -- the integer n, as `unsigned One 10` for 10
    unsigned : Width → ℕ → Value
    -- the integer -1 - n, as `negative Immediate 0` for -1
    negative : Width → ℕ → Value
    string : StringKind → Width → List ℕ → Value
    -- a string of indefinite length (section 3.2.3)
    chunks : StringKind → List Chunk → Value
    array : Option Width → Values → Value
    -- a map: `map` is a function on lists
    cbor_map : Option Width → Pairs → Value
    tag : Width → ℕ → Value → Value
    -- a simple value (section 3.3): false is 20, true 21, null 22 and undefined 23
    simple : ℕ → Value
    -- a floating-point number of 2, 4 or 8 bytes
    float : Width → NonFinite → Value

  pub data Values : Type 0 where
    no_values : Values
    value : Value → Values → Values

  -- keys with their values
  pub data Pairs : Type 0 where
    no_pairs : Pairs
    pair : Value → Value → Pairs → Pairs

abbrev pub values_len : Values → ℕ
values_len no_values = 0
values_len (value v vs) = values_len vs + 1

abbrev pub pairs_len : Pairs → ℕ
pairs_len no_pairs = 0
pairs_len (pair k v ps) = pairs_len ps + 1

-- A head (section 3): the first byte has the major type in its high 3 bits. Its low 5 bits are the argument,
-- or say that the argument stands in the 1, 2, 4 or 8 bytes behind it, the high byte first.
-- `head 0 Immediate 10` is 0a, and `head 0 Two 500` is 19 01 f4.
unfoldable pub head : ℕ → Width → ℕ → List ℕ
head major Immediate n = (32 * major + n) ∷ []
head major One n = (32 * major + 24) ∷ to_be_bytes w8 n
head major Two n = (32 * major + 25) ∷ to_be_bytes w16 n
head major Four n = (32 * major + 26) ∷ to_be_bytes w32 n
head major Eight n = (32 * major + 27) ∷ to_be_bytes w64 n

-- The bits of a floating-point number of 2, 4 or 8 bytes (IEEE 754): those of an infinity have all bits of the exponent
-- and no bit of the fraction, those of NaN (the one that is read) the highest bit of the fraction too.
abbrev pub infinity_bits : Width → ℕ
infinity_bits Two = 0x7C00
infinity_bits Four = 0x7F800000
infinity_bits Eight = 0x7FF0000000000000
infinity_bits _ = 0

abbrev pub sign_bit : Width → ℕ
sign_bit Two = 2 ^ 15
sign_bit Four = 2 ^ 31
sign_bit Eight = 2 ^ 63
sign_bit _ = 0

abbrev pub nan_bit : Width → ℕ
nan_bit Two = 2 ^ 9
nan_bit Four = 2 ^ 22
nan_bit Eight = 2 ^ 51
nan_bit _ = 0

abbrev pub float_bits : Width → NonFinite → ℕ
float_bits w Infinity = infinity_bits w
float_bits w NegativeInfinity = sign_bit w + infinity_bits w
float_bits w NaN = infinity_bits w + nan_bit w

-- Simple values of one byte are 0 to 23, those of two bytes 32 to 255.
abbrev pub simple_width : ℕ → Width
simple_width n = if nat_lt n 24 then Immediate else One

abbrev pub IsSimple : ℕ → Type 0
IsSimple n = (n < 24) ⊎ ((32 ≤ n) × (n < 256))

abbrev pub IsFloatWidth : Width → Type 0
IsFloatWidth Two = Unit {0}
IsFloatWidth Four = Unit {0}
IsFloatWidth Eight = Unit {0}
IsFloatWidth _ = ⊥

-- what the arguments of a width are below
abbrev pub limit_of : Width → ℕ
limit_of Immediate = 24
limit_of One = 2 ^ 8
limit_of Two = 2 ^ 16
limit_of Four = 2 ^ 32
limit_of Eight = 2 ^ 64

abbrev pub ArgumentFits : Width → ℕ → Type 0
ArgumentFits w n = n < limit_of w

-- the head of an item with indefinite length (section 3.2)
abbrev pub open_head : ℕ → ℕ
open_head major = 32 * major + 31

-- the byte that ends it (section 3.2.1)
abbrev pub break : ℕ
break = 255

-- a list of n parts, with their encodings
abbrev pub list_encoding : ℕ → Option Width → ℕ → List ℕ → List ℕ
list_encoding major (Some w) n parts = head major w n ++ parts
list_encoding major None n parts = open_head major ∷ parts ++ break ∷ []

abbrev pub LengthFits : Option Width → ℕ → Type 0
LengthFits (Some w) n = ArgumentFits w n
LengthFits None n = Unit {0}

abbrev pub AreBytes : List ℕ → Type 0
AreBytes bs = All (λ b. b < 256) bs

-- the major type of a string
abbrev pub string_major : StringKind → ℕ
string_major Bytes = 2
string_major Text = 3

-- the argument of a string counts its bytes
abbrev pub chunk_encoding : StringKind → Chunk → List ℕ
chunk_encoding k c = head (string_major k) c.0 (length c.1) ++ c.1

abbrev pub chunk_encodings : StringKind → List Chunk → List ℕ
chunk_encodings k [] = []
chunk_encodings k (c ∷ cs) = chunk_encoding k c ++ chunk_encodings k cs

-- whether bytes may be the content of a string: those of a text are UTF-8
abbrev pub is_content : StringKind → List ℕ → Bool
is_content Bytes bs = true
is_content Text bs = is_utf8 bs

abbrev pub ChunkFits : StringKind → Chunk → Type 0
ChunkFits k c = ArgumentFits c.0 (length c.1) × AreBytes c.1 × (is_content k c.1 ≡ true)

abbrev pub ChunksFit : StringKind → List Chunk → Type 0
ChunksFit k [] = Unit {0}
ChunksFit k (c ∷ cs) = ChunkFits k c × ChunksFit k cs

-- The encoding of a value, where it has one.
-- `array (Some Immediate) (value (unsigned Immediate 1) no_values)` is 81 01, and with None for the width 9f 01 ff.
abbrev mutual
  pub encoding : Value → List ℕ
  encoding (unsigned w n) = head 0 w n
  encoding (negative w n) = head 1 w n
  encoding (string k w bs) = chunk_encoding k (w, bs)
  encoding (chunks k cs) = open_head (string_major k) ∷ chunk_encodings k cs ++ break ∷ []
  encoding (array w vs) = list_encoding 4 w (values_len vs) (encodings vs)
  encoding (cbor_map w ps) = list_encoding 5 w (pairs_len ps) (pair_encodings ps)
  encoding (tag w n v) = head 6 w n ++ encoding v
  encoding (simple n) = head 7 (simple_width n) n
  encoding (float w f) = head 7 w (float_bits w f)

  pub encodings : Values → List ℕ
  encodings no_values = []
  encodings (value v vs) = encoding v ++ encodings vs

  pub pair_encodings : Pairs → List ℕ
  pair_encodings no_pairs = []
  pair_encodings (pair k v ps) = encoding k ++ encoding v ++ pair_encodings ps

-- Each argument fits its width, and strings have a content of their kind: the value has an encoding.
abbrev mutual
  pub Fits : Value → Type 0
  Fits (unsigned w n) = ArgumentFits w n
  Fits (negative w n) = ArgumentFits w n
  Fits (string k w bs) = ChunkFits k (w, bs)
  Fits (chunks k cs) = ChunksFit k cs
  Fits (array w vs) = LengthFits w (values_len vs) × ValuesFit vs
  Fits (cbor_map w ps) = LengthFits w (pairs_len ps) × PairsFit ps
  Fits (tag w n v) = ArgumentFits w n × Fits v
  Fits (simple n) = IsSimple n
  Fits (float w f) = IsFloatWidth w

  pub ValuesFit : Values → Type 0
  ValuesFit no_values = Unit {0}
  ValuesFit (value v vs) = Fits v × ValuesFit vs

  pub PairsFit : Pairs → Type 0
  PairsFit no_pairs = Unit {0}
  PairsFit (pair k v ps) = Fits k × Fits v × PairsFit ps

-- The bytes are an encoding of the value.
abbrev pub Enc : List ℕ → Value → Type 0
Enc bs v = Fits v × (bs ≡ encoding v)

-- The bytes are encodings of the values, one behind the other.
abbrev pub EncAll : List ℕ → Values → Type 0
EncAll bs vs = ValuesFit vs × (bs ≡ encodings vs)
