-- Items without space.
use Rattle.std.specs.Prelude.{ℕ, suc, max, List, Option}
use Rattle.cbor_edn_parts.specs.declared.base.indicator.Indicator.{Indicator}
use Rattle.cbor_edn_model.specs.declared.text.keyword.NamedSimple.{NamedSimple}
use Rattle.cbor_edn_model.specs.declared.text.keyword.NonFinite.{NonFinite}

-- What the entries of a row are.
pub data Row : Type 0 where
  -- an array's elements, and the items of a sequence
  Elements : Row
  -- a map's keys, each with its value
  Pairs : Row
  -- the strings of a stream
  Strings : Row

-- The lists between brackets.
pub data Bracketed : Type 0 where
  Array : Bracketed
  Map : Bracketed

abbrev pub entries_of : Bracketed → Row
entries_of Array = Elements
entries_of Map = Pairs

pub data Sort : Type 0 where
  Item : Sort
  -- a piece of a string
  Piece : Sort
  -- the pieces of a string, one or more
  Pieces : Sort
  Entry : Row → Sort
  Entries : Row → Sort

-- Items, their parts, the entries of lists, and rows of these.
pub data Node : Sort → Type 0 where
  -- a number as it is written, and its encoding indicator
  Number : List ℕ → Option Indicator → Node Item
  -- `Infinity`, `-Infinity` or `NaN`, and its encoding indicator
  Float : NonFinite → Option Indicator → Node Item
  -- an array or a map, with its encoding indicator
  Listed : (k : Bracketed) → Option Indicator → Node (Entries (entries_of k)) → Node Item
  -- a tag: its number, its encoding indicator, and the item that it holds
  Tagged : ℕ → Option Indicator → Node Item → Node Item
  -- `false`, `true`, `null` or `undefined`
  Named : NamedSimple → Node Item
  -- `simple(20)`
  Simple : Node Item → Node Item
  -- a string: `"a" + 'b'`
  String : Node Pieces → Node Item
  -- a string of indefinite length: `(_ "a", "b")`
  Stream : Node (Entries Strings) → Node Item
  -- a quoted text as it is written, with its prefix and its encoding indicator
  Literal : List ℕ → Option Indicator → Node Piece
  -- three dots or more
  Ellipsis : List ℕ → Node Piece
  -- `<<1, 2>>`: the encodings of its items, with its encoding indicator
  Embedded : Node (Entries Elements) → Option Indicator → Node Piece
  LastPiece : Node Piece → Node Pieces
  Plus : Node Piece → Node Pieces → Node Pieces
  Element : Node Item → Node (Entry Elements)
  Pair : Node Item → Node Item → Node (Entry Pairs)
  Chunk : Node Pieces → Node (Entry Strings)
  End : {k : Row} → Node (Entries k)
  Then : {k : Row} → Node (Entry k) → Node (Entries k) → Node (Entries k)

-- the items of a sequence
abbrev pub Items : Type 0
Items = Node (Entries Elements)

-- How deep arrays, maps, tags, `simple(..)` and embedded sequences nest: 0 for `1`, 1 for `[]` and `<<>>`; of a row the deepest.
abbrev pub nesting : {s : Sort} → Node s → ℕ
nesting (Number x i) = 0
nesting (Float f i) = 0
nesting (Listed k i m) = suc (nesting m)
nesting (Tagged n i w) = suc (nesting w)
nesting (Named b) = 0
nesting (Simple w) = suc (nesting w)
nesting (String w) = nesting w
nesting (Stream m) = nesting m
nesting (Literal x i) = 0
nesting (Ellipsis x) = 0
nesting (Embedded m i) = suc (nesting m)
nesting (LastPiece p) = nesting p
nesting (Plus p w) = max (nesting p) (nesting w)
nesting (Element w) = nesting w
nesting (Pair v w) = max (nesting v) (nesting w)
nesting (Chunk w) = nesting w
nesting End = 0
nesting (Then e m) = max (nesting e) (nesting m)
