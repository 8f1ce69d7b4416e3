-- Items that nest as deep as the values that they mean.
use Rattle.std.specs.Prelude.{◌≢◌, Some}
use Rattle.cbor_edn_model.specs.declared.text.keyword.NamedSimple.{NamedSimple}
use Rattle.cbor_edn_model.specs.tree.Items.{Sort, Item, Node, Number, Float, Listed, Tagged, Named, Simple, String, Stream, Literal, Ellipsis, Embedded, LastPiece, Plus, Element, Pair, Chunk, End, Then}
use Rattle.cbor_edn_model.specs.cbor.Meaning.{means_simple, named_number}
use Rattle.cbor_edn_model.specs.visit.Seeking.{SoughtCall}
use Rattle.cbor_edn_model.specs.tree.Trees.{items}
use Rattle.cbor_edn_model.specs.cbor.Value.{simple}

-- What stands in `simple(..)` is no value with a keyword: 42 is none, 20 is `false`.
abbrev pub HasNoKeyword : Node Item → Type 0
HasNoKeyword w = (b : NamedSimple) → means_simple w ≢ Some (simple (named_number b))

-- No sequence is embedded in the items, and each simple value with a keyword is that keyword: `[1, simple(42), false]`, with neither
-- `<<1>>` nor `simple(20)`, which nest one level deeper than `h'01'` and `false`.
abbrev pub IsDirect : {s : Sort} → Node s → Type 0
IsDirect (Number x i) = Unit {0}
IsDirect (Float f i) = Unit {0}
IsDirect (Listed k i m) = IsDirect m
IsDirect (Tagged n i w) = IsDirect w
IsDirect (Named b) = Unit {0}
IsDirect (Simple w) = HasNoKeyword w
IsDirect (String w) = IsDirect w
IsDirect (Stream m) = IsDirect m
IsDirect (Literal x i) = Unit {0}
IsDirect (Ellipsis x) = Unit {0}
IsDirect (Embedded m i) = ⊥
IsDirect (LastPiece p) = IsDirect p
IsDirect (Plus p w) = IsDirect p × IsDirect w
IsDirect (Element w) = IsDirect w
IsDirect (Pair v w) = IsDirect v × IsDirect w
IsDirect (Chunk w) = IsDirect w
IsDirect End = Unit {0}
IsDirect (Then e m) = IsDirect e × IsDirect m

-- A call leaves such items where it finds such.
abbrev pub StaysDirect : SoughtCall → Type 0
StaysDirect c = IsDirect (items c.before) → IsDirect (items c.after)
