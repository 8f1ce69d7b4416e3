-- A reader of CBOR on lists: items from left to right, with the first fault that is met.
use Rattle.std.specs.Prelude.{ℕ, zero, suc, ◌-◌, ◌/◌, ◌%◌, ℤ, pos, negsuc, List, [], ◌∷◌, map, length, take, drop, Option, Some, None, Result, Ok, Err, nat_lt, nat_le, ◌&&◌, ◌==◌, if◌then◌else◌}
use Rattle.std.specs.Int.{w8, w16, w32, w64, byte_len, from_be_bytes}
use Rattle.std.specs.Int.{Width as Bits}
use Rattle.std.specs.Fmt.{signed_decimal}
use Rattle.cbor_edn_parts.specs.declared.base.error.Fault.{Fault}
use Rattle.cbor_edn_model.specs.internal.Results.{◌>>=◌, FailsBy, GivesBy}
use Rattle.cbor_edn_parts.specs.declared.base.indicator.Indicator.{Indicator}
use Rattle.cbor_edn_parts.specs.declared.base.indicator.Indicator.TheVariants.{Indefinite}
use Rattle.cbor_edn_parts.specs.string.Contents.{kind_literal, empty_literal}
use Rattle.cbor_edn_parts.specs.declared.string.StringKind.{StringKind}
use Rattle.cbor_edn_parts.specs.declared.string.StringKind.TheVariants.{Bytes, Text}
use Rattle.cbor_edn_model.specs.declared.cbor.heads.Width.{Width}
use Rattle.cbor_edn_model.specs.declared.cbor.heads.Width.TheVariants.{Immediate, One, Two, Four, Eight}
use Rattle.cbor_edn_model.specs.declared.cbor.decode.CborError.{CborError}
use Rattle.cbor_edn_model.specs.declared.cbor.decode.CborError.TheVariants.{OutOfData, Reserved, MissingArgument, OtherChunk, OpenChunk, OpenNumber, MisplacedBreak, MissingBytes, InvalidUtf8, TooDeep, InvalidSimple, FloatOutOfScope}
use Rattle.cbor_edn_model.specs.declared.cbor.decode.head.Stop.{Stop}
use Rattle.cbor_edn_model.specs.declared.cbor.decode.head.Stop.TheVariants.{Break, EndOfData}
use Rattle.cbor_edn_model.specs.tree.Items as kind
use Rattle.cbor_edn_model.specs.tree.Items.{Row, Elements, Strings, Bracketed, Array, Map, entries_of}
use Rattle.cbor_edn_model.specs.tree.Trees.{Tree, OneItem, OneString, OneEntry, Rest, NumberTree, FloatTree, EnclosedTree, ListTree, StringTree, LiteralTree, LastPieceTree, ElementTree, ChunkTree}
use Rattle.cbor_edn_model.specs.cbor.Value.{Chunk, is_content, string_major, break, float_bits}
use Rattle.cbor_edn_model.specs.declared.text.opener.OpenerKind.TheVariants.{Tag}
use Rattle.cbor_edn_model.specs.declared.text.keyword.NonFinite.{NonFinite}
use Rattle.cbor_edn_model.specs.declared.text.keyword.NonFinite.TheVariants.{Infinity, NegativeInfinity, NaN}
use Rattle.cbor_edn_model.specs.cbor.Decoded.{indicator_of, float_indicator, simple_item, alone}
use Rattle.cbor_edn_model.specs.internal.Regular.{in_front, list_inside, key_value, stream_tree, regular}

-- what is read, and the bytes behind it
abbrev pub DecoderResult : Type 0 → Type 0
DecoderResult A = Result (A × List ℕ) CborError

abbrev pub Decoder : Type 0 → Type 0
Decoder A = List ℕ → DecoderResult A

-- what is read, seen by a function
abbrev pub shown : {A B : Type 0} → (A → B) → DecoderResult A → DecoderResult B
shown f r = r >>= λ x. Ok (f x.0, x.1)

-- What a function returned, seen by a view, is what reading gives, unless memory ran out.
abbrev pub DecoderFails : {Y : Type 0} → Fault CborError → Result Y CborError → Type 0
DecoderFails = FailsBy (λ e. e)

abbrev pub DecoderGives : {X Y : Type 0} → (X → Y) → Result X (Fault CborError) → Result Y CborError → Type 0
DecoderGives = GivesBy (λ e. e)

-- the argument of a head and its width, or none
abbrev pub Argument : Type 0
Argument = Option (Width × ℕ)

-- a head: its major type, and its argument
abbrev pub Head : Type 0
Head = ℕ × Argument

abbrev pub argument_at : ℕ → Width → Bits → Decoder Head
argument_at major w bits bytes =
    if nat_lt (length bytes) (byte_len bits) then Err MissingArgument
    else Ok ((major, Some (w, from_be_bytes bits (take (byte_len bits) bytes))), drop (byte_len bits) bytes)

abbrev pub head_by : ℕ → ℕ → Decoder Head
head_by major info rest =
    if nat_lt info 24 then Ok ((major, Some (Immediate, info)), rest)
    else if info == 24 then argument_at major One w8 rest
    else if info == 25 then argument_at major Two w16 rest
    else if info == 26 then argument_at major Four w32 rest
    else if info == 27 then argument_at major Eight w64 rest
    else if info == 31 then Ok ((major, None), rest)
    else Err Reserved

unfoldable pub head_at : Decoder Head
head_at [] = Err OutOfData
head_at (b ∷ rest) = head_by (b / 32) (b % 32) rest

-- so many of a kind
unfoldable pub many : {A : Type 0} → Decoder A → ℕ → Decoder (List A)
many one zero bytes = Ok ([], bytes)
many one (suc n) bytes = do
  x ← one bytes
  xs ← many one n x.1
  Ok (x.0 ∷ xs.0, xs.1)

-- what follows the end of a row, where it stands there
abbrev pub past_stop : Stop → List ℕ → Option (List ℕ)
past_stop Break [] = None
past_stop Break (b ∷ bytes) = if b == break then Some bytes else None
past_stop EndOfData [] = Some []
past_stop EndOfData (b ∷ bytes) = None

abbrev pub turn : {A : Type 0} → Decoder A → Decoder (List A) → List ℕ → Option (List ℕ) → DecoderResult (List A)
turn one more bytes (Some rest) = Ok ([], rest)
turn one more bytes None = do
  x ← one bytes
  xs ← more x.1
  Ok (x.0 ∷ xs.0, xs.1)

-- All up to an end. The number bounds the turns, and one more than the count of the bytes is always enough.
unfoldable pub until : {A : Type 0} → Stop → Decoder A → ℕ → Decoder (List A)
until stop one zero bytes = Err OutOfData
until stop one (suc n) bytes = turn one (until stop one n) bytes (past_stop stop bytes)

-- what an argument counts, or all up to a break
unfoldable pub several : {A : Type 0} → Decoder A → Argument → Decoder (List A)
several one (Some (w, n)) bytes = many one n bytes
several one None bytes = until Break one (suc (length bytes)) bytes

-- the bytes of a string: those of a text are UTF-8
unfoldable pub string_at : StringKind → ℕ → Decoder (List ℕ)
string_at k n bytes =
    if nat_lt (length bytes) n then Err MissingBytes
    else if is_content k (take n bytes) then Ok (take n bytes, drop n bytes)
    else Err InvalidUtf8

abbrev pub chunk_by : StringKind → Head → Decoder Chunk
chunk_by k (major, Some (w, n)) rest =
    if major == string_major k then (string_at k n rest >>= λ s. Ok ((w, s.0), s.1)) else Err OtherChunk
chunk_by k (major, None) rest = if major == string_major k then Err OpenChunk else Err OtherChunk

unfoldable pub chunk_at : StringKind → Decoder Chunk
chunk_at k bytes = do
  h ← head_at bytes
  chunk_by k h.0 h.1

-- What is made of each form: A for an item, B for a key with its value.
pub record Makes (A B : Type 0) : Type 0 where
  pub unsigned : Width → ℕ → A
  pub negative : Width → ℕ → A
  pub string : StringKind → Width → List ℕ → A
  pub chunks : StringKind → List Chunk → A
  pub array : Argument → List A → A
  pub pair : A → A → B
  pub cbor_map : Argument → List B → A
  pub tag : Width → ℕ → A → A
  pub simple : ℕ → A
  pub float : Width → NonFinite → A

unfoldable pub pair_at : {A B : Type 0} → Makes A B → Decoder A → Decoder B
pair_at m one bytes = do
  k ← one bytes
  v ← one k.1
  Ok (m.pair k.0 v.0, v.1)

abbrev pub number_by : {A : Type 0} → (Width → ℕ → A) → Argument → Decoder A
number_by make None rest = Err OpenNumber
number_by make (Some (w, n)) rest = Ok (make w n, rest)

-- An item by its head. Where nothing may nest any deeper, `inner` is none.
abbrev pub array_by : {A B : Type 0} → Makes A B → Option (Decoder A) → Argument → Decoder A
array_by m None argument rest = Err TooDeep
array_by m (Some inner) argument rest = several inner argument rest >>= λ xs. Ok (m.array argument xs.0, xs.1)

abbrev pub map_by : {A B : Type 0} → Makes A B → Option (Decoder A) → Argument → Decoder A
map_by m None argument rest = Err TooDeep
map_by m (Some inner) argument rest = several (pair_at m inner) argument rest >>= λ xs. Ok (m.cbor_map argument xs.0, xs.1)

abbrev pub tag_by : {A B : Type 0} → Makes A B → Option (Decoder A) → Argument → Decoder A
tag_by m inner None rest = Err OpenNumber
tag_by m None (Some (w, n)) rest = Err TooDeep
tag_by m (Some inner) (Some (w, n)) rest = inner rest >>= λ x. Ok (m.tag w n x.0, x.1)

abbrev pub string_by : {A B : Type 0} → Makes A B → StringKind → Argument → Decoder A
string_by m k (Some (w, n)) rest = string_at k n rest >>= λ s. Ok (m.string k w s.0, s.1)
string_by m k None rest = until Break (chunk_at k) (suc (length rest)) rest >>= λ cs. Ok (m.chunks k cs.0, cs.1)

-- What nests of a simple value: nothing where it has a name, else `simple(..)`.
abbrev pub simple_nesting : ℕ → ℕ
simple_nesting n = if nat_le 20 n && nat_lt n 24 then 0 else 1

-- A simple value: one without a name nests.
abbrev pub simple_by : {A B : Type 0} → Makes A B → Option (Decoder A) → ℕ → Result A CborError
simple_by m None n = if simple_nesting n == 0 then Ok (m.simple n) else Err TooDeep
simple_by m (Some inner) n = Ok (m.simple n)

-- the floating-point number with these bits, if it is read
abbrev pub float_of : Width → ℕ → Option NonFinite
float_of w n =
    if n == float_bits w Infinity then Some Infinity
    else if n == float_bits w NegativeInfinity then Some NegativeInfinity
    else if n == float_bits w NaN then Some NaN
    else None

abbrev pub float_by : {A B : Type 0} → Makes A B → Width → Option NonFinite → Result A CborError
float_by m w None = Err FloatOutOfScope
float_by m w (Some f) = Ok (m.float w f)

-- Simple values and floating-point numbers, and a break where an item has to stand.
abbrev pub special_by : {A B : Type 0} → Makes A B → Option (Decoder A) → Argument → Result A CborError
special_by m inner None = Err MisplacedBreak
special_by m inner (Some (Immediate, n)) = simple_by m inner n
special_by m inner (Some (One, n)) = if nat_lt n 32 then Err InvalidSimple else simple_by m inner n
special_by m inner (Some (w, n)) = float_by m w (float_of w n)

unfoldable pub item_by : {A B : Type 0} → Makes A B → Option (Decoder A) → ℕ → Argument → Decoder A
item_by m inner major argument rest =
    if major == 0 then number_by m.unsigned argument rest
    else if major == 1 then number_by m.negative argument rest
    else if major == 2 then string_by m Bytes argument rest
    else if major == 3 then string_by m Text argument rest
    else if major == 4 then array_by m inner argument rest
    else if major == 5 then map_by m inner argument rest
    else if major == 6 then tag_by m inner argument rest
    else special_by m inner argument >>= λ x. Ok (x, rest)

-- one item, nested no deeper than the number
unfoldable pub item_at : {A B : Type 0} → Makes A B → ℕ → Decoder A
item_at m zero bytes = head_at bytes >>= λ h. item_by m None h.0.0 h.0.1 h.1
item_at m (suc depth) bytes = head_at bytes >>= λ h. item_by m (Some (item_at m depth)) h.0.0 h.0.1 h.1

-- what reads inside, with that number
abbrev pub inner : {A B : Type 0} → Makes A B → ℕ → Option (Decoder A)
inner m depth = if depth == 0 then None else Some (item_at m (depth - 1))

-- the items of a sequence, each nested no deeper than the number
abbrev pub sequence_at : {A B : Type 0} → Makes A B → ℕ → Decoder (List A)
sequence_at m limit bytes = until EndOfData (item_at m limit) (suc (length bytes)) bytes

-- ---- trees

-- the indicator of a head with an argument, and of one without
abbrev pub argument_indicator : Argument → Option Indicator
argument_indicator None = Some Indefinite
argument_indicator (Some (w, n)) = indicator_of w n

-- entries with the spaces between them, if there are any
abbrev pub row_of : {k : Row} → List (Tree (OneEntry k)) → Option (Tree (Rest k))
row_of [] = None
row_of (e ∷ es) = Some (in_front e (row_of es))

abbrev pub element_row : List (Tree OneItem) → Option (Tree (Rest Elements))
element_row ws = row_of (map ElementTree ws)

abbrev pub number_tree : ℤ → Width → ℕ → Tree OneItem
number_tree z w n = NumberTree (signed_decimal z) (indicator_of w n)

-- a string: a literal, with its indicator
abbrev pub definite_tree : StringKind → Chunk → Tree OneString
definite_tree k c = LastPieceTree (LiteralTree (kind_literal k c.1) (indicator_of c.0 (length c.1)))

abbrev pub string_row : List (Tree OneString) → Option (Tree (Rest Strings))
string_row ws = row_of (map ChunkTree ws)

-- a string of indefinite length: a stream, or one that is empty
abbrev pub chunked_tree : StringKind → Option (Tree (Rest Strings)) → Tree OneItem
chunked_tree k None = StringTree (LastPieceTree (LiteralTree (empty_literal k) (Some Indefinite)))
chunked_tree k m = stream_tree m

abbrev pub chunks_tree : StringKind → List Chunk → Tree OneItem
chunks_tree k cs = chunked_tree k (string_row (map (definite_tree k) cs))

abbrev pub list_tree : (k : Bracketed) → Argument → Option (Tree (Rest (entries_of k))) → Tree OneItem
list_tree k argument m = ListTree k (list_inside (argument_indicator argument) m)

-- a simple value by its name, or by its number in `simple(..)`
abbrev pub simple_tree : ℕ → Tree OneItem
simple_tree n = regular (simple_item n)

-- the trees of items
abbrev pub trees : Makes (Tree OneItem) (Tree (OneEntry kind.Pairs))
trees = record {
  unsigned = λ w n. number_tree (pos n) w n;
  negative = λ w n. number_tree (negsuc n) w n;
  string = λ k w bs. StringTree (definite_tree k (w, bs));
  chunks = chunks_tree;
  array = λ argument ws. list_tree Array argument (element_row ws);
  pair = key_value;
  cbor_map = λ argument es. list_tree Map argument (row_of es);
  tag = λ w n t. EnclosedTree (Tag (indicator_of w n) n) (alone t);
  simple = simple_tree;
  float = λ w f. FloatTree f (float_indicator w);
}
