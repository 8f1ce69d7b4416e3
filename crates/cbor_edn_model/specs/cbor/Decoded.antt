-- The item that a value is decoded as, with the spaces that it is given.
use Rattle.std.specs.Prelude.{ℕ, pos, negsuc, ◌≡◌, ◌++◌, ◌^◌, ◌≤◌, ◌<◌, nat_lt, nat_le, ◌==◌, if◌then◌else◌, count_by, length, List, [], ◌∷◌, Option, Some, None}
use Rattle.cbor_edn_parts.specs.declared.space.policy.DelimiterPolicy.TheVariants.{DiscardAll, SingleLineRegularSpacing}
use Rattle.std.specs.Fmt.{signed_decimal}
use Rattle.cbor_edn_parts.specs.declared.base.indicator.Indicator.{Indicator}
use Rattle.cbor_edn_parts.specs.declared.base.indicator.Indicator.TheVariants as indicator
use Rattle.cbor_edn_parts.specs.string.Contents.{kind_literal, empty_literal}
use Rattle.cbor_edn_parts.specs.declared.string.StringKind.{StringKind}
use Rattle.cbor_edn_model.specs.declared.cbor.heads.Width.{Width}
use Rattle.cbor_edn_model.specs.declared.cbor.heads.Width.TheVariants.{Immediate, One, Two, Four, Eight}
use Rattle.cbor_edn_model.specs.declared.text.keyword.NamedSimple.TheVariants.{False, True, Null, Undefined}
use Rattle.cbor_edn_model.specs.tree.Items as kind
use Rattle.cbor_edn_model.specs.tree.Items.{Strings, Array, Map, Item, Pieces, Entries, Node, Number, Float, Listed, Tagged, Named, Simple, String, Stream, Literal, LastPiece, Element, Pair, Chunk, End, Then, Items, nesting}
use Rattle.cbor_edn_model.specs.tree.Trees.{Rule, Tree, OneItem, Seq, Standalone, StandaloneTree, items}
use Rattle.cbor_edn_model.specs.cbor.Value as values
use Rattle.cbor_edn_model.specs.cbor.Value.{Value, unsigned, negative, string, chunks, array, cbor_map, tag, simple, float, Values, no_values, value, values_len, Pairs, no_pairs, pair, pairs_len, Enc, EncAll}
use Rattle.cbor_edn_model.specs.cbor.Meaning.{means}
use Rattle.cbor_edn_model.specs.layout.Layout.{laid_out}

-- ---- items

abbrev pub if_below : ℕ → ℕ → Indicator → Option Indicator
if_below limit n i = if nat_lt n limit then Some i else None

-- the indicator of a head: none where no narrower one would do
abbrev pub indicator_of : Width → ℕ → Option Indicator
indicator_of Immediate n = None
indicator_of One n = if_below 24 n indicator.One
indicator_of Two n = if_below (2 ^ 8) n indicator.Two
indicator_of Four n = if_below (2 ^ 16) n indicator.Four
indicator_of Eight n = if_below (2 ^ 32) n indicator.Eight

-- the same of a list of n entries
abbrev pub list_indicator : Option Width → ℕ → Option Indicator
list_indicator None n = Some indicator.Indefinite
list_indicator (Some w) n = indicator_of w n

-- a string of definite length: bytes as h'..', a text between double quotes
abbrev pub definite_pieces : StringKind → values.Chunk → Node Pieces
definite_pieces k c = LastPiece (Literal (kind_literal k c.1) (indicator_of c.0 (length c.1)))

abbrev pub chunk_items : StringKind → List values.Chunk → Node (Entries Strings)
chunk_items k [] = End
chunk_items k (c ∷ cs) = Then (Chunk (definite_pieces k c)) (chunk_items k cs)

-- a string of indefinite length: without a chunk it is `''_` or `""_`
abbrev pub chunked_item : StringKind → List values.Chunk → Node Item
chunked_item k [] = String (LastPiece (Literal (empty_literal k) (Some indicator.Indefinite)))
chunked_item k (c ∷ cs) = Stream (chunk_items k (c ∷ cs))

-- a simple value: by its name, or its number in `simple(..)`
abbrev pub simple_item : ℕ → Node Item
simple_item n =
    if n == 20 then Named False
    else if n == 21 then Named True
    else if n == 22 then Named Null
    else if n == 23 then Named Undefined
    else Simple (Number (signed_decimal (pos n)) None)

-- the indicator of a floating-point number, which is always printed
abbrev pub float_indicator : Width → Option Indicator
float_indicator Two = Some indicator.Two
float_indicator Four = Some indicator.Four
float_indicator Eight = Some indicator.Eight
float_indicator _ = None

-- The item of a value: integers in decimal, and indicators only where they are needed, but on each floating-point number.
-- That of 18 0a is `10_0`, that of 9f 01 ff `[_ 1]`, that of 5f 41 61 ff `(_ h'61')`, and that of f9 7e 00 `NaN_1`.
abbrev mutual
  pub item_of : Value → Node Item
  item_of (unsigned w n) = Number (signed_decimal (pos n)) (indicator_of w n)
  item_of (negative w n) = Number (signed_decimal (negsuc n)) (indicator_of w n)
  item_of (string k w bs) = String (definite_pieces k (w, bs))
  item_of (chunks k cs) = chunked_item k cs
  item_of (array w vs) = Listed Array (list_indicator w (values_len vs)) (items_of vs)
  item_of (cbor_map w ps) = Listed Map (list_indicator w (pairs_len ps)) (pairs_of ps)
  item_of (tag w n v) = Tagged n (indicator_of w n) (item_of v)
  item_of (simple n) = simple_item n
  item_of (float w f) = Float f (float_indicator w)

  pub items_of : Values → Items
  items_of no_values = End
  items_of (value v vs) = Then (Element (item_of v)) (items_of vs)

  pub pairs_of : Pairs → Node (Entries kind.Pairs)
  pairs_of no_pairs = End
  pairs_of (pair k v ps) = Then (Pair (item_of k) (item_of v)) (pairs_of ps)

-- an item without space round it
abbrev pub alone : Tree OneItem → Tree Standalone
alone w = StandaloneTree [] w []

-- ---- what is decoded

-- The bytes are an encoding of the value and what follows it.
abbrev pub BeginsWith : List ℕ → List ℕ → Value → Type 0
BeginsWith bytes rest v = (front : List ℕ) × Enc front v × (bytes ≡ front ++ rest)

-- The spaces of a single line, without comments: what single-line spacing makes of a tree whose spaces were all discarded. So trees
-- with the same items are one, as `[_ 1, {2: 3}]`.
abbrev pub IsSingleLine : {s : Rule} → Tree s → Type 0
IsSingleLine w = w ≡ laid_out SingleLineRegularSpacing (laid_out DiscardAll w)

-- The tree is that of a value that is encoded so and whose item nests no deeper than the limit: its items are that item, with
-- the spaces of a single line, and mean this value.
pub record IsDecoded (limit : ℕ) (Encoded : Value → Type 0) (w : Tree OneItem) : Type 0 where
  pub value : Value
  pub encoded : Encoded value
  pub within : nesting (item_of value) ≤ limit
  pub same_items : items w ≡ item_of value
  pub spaced : IsSingleLine w
  pub meant : means (items w) ≡ Some value

-- The same of the values of a sequence, whose encodings are all of the bytes.
pub record IsDecodedSequence (limit : ℕ) (bytes : List ℕ) (w : Tree Seq) : Type 0 where
  pub values : Values
  pub encoded : EncAll bytes values
  pub within : nesting (items_of values) ≤ limit
  pub same_items : items w ≡ items_of values
  pub spaced : IsSingleLine w
  pub meant : means (items w) ≡ Some values

-- ---- refusals

-- No value is encoded so.
abbrev pub NoneIs : (Value → Type 0) → Type 0
NoneIs Encoded = (v : Value) → Encoded v → ⊥

-- how many bytes are 80 (hexadecimal) or more: only such bytes are heads of what nests
abbrev pub high_bytes : List ℕ → ℕ
high_bytes bytes = count_by (λ b. nat_le 128 b) bytes

-- More than `limit` bytes can be heads of what nests, and the item of each value that is encoded so nests deeper.
abbrev pub IsTooDeepEncoding : ℕ → List ℕ → (Value → Type 0) → Type 0
IsTooDeepEncoding limit bytes Encoded = (limit < high_bytes bytes) × ((v : Value) → Encoded v → limit < nesting (item_of v))

abbrev pub NoSequence : List ℕ → Type 0
NoSequence bytes = (vs : Values) → EncAll bytes vs → ⊥

abbrev pub IsTooDeepSequence : ℕ → List ℕ → Type 0
IsTooDeepSequence limit bytes = (limit < high_bytes bytes) × ((vs : Values) → EncAll bytes vs → limit < nesting (items_of vs))
