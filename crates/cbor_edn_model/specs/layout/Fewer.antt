-- Items of which some indicators are gone.
use Rattle.std.specs.Prelude.{ℕ, ◌≡◌, ◌⊎◌, ◌<◌, ◌^◌, List, length, Option, None, Some}
use Rattle.cbor_edn_parts.specs.declared.base.indicator.Indicator.{Indicator}
use Rattle.cbor_edn_model.specs.declared.text.keyword.NamedSimple.{NamedSimple}
use Rattle.cbor_edn_model.specs.declared.text.keyword.NonFinite.{NonFinite}
use Rattle.cbor_edn_model.specs.tree.Items.{Row, Elements, Pairs, Strings, Bracketed, entries_of, Sort, Item, Piece, Pieces, Entry, Entries, Node, Number, Float, Listed, Tagged, Named, Simple, String, Stream, Literal, Ellipsis, Embedded, LastPiece, Plus, Element, Pair, Chunk, End, Then, Items}
use Rattle.cbor_edn_model.specs.cbor.Value.{Value, Values, encoding, encodings}
use Rattle.cbor_edn_model.specs.cbor.Meaning.{means}
use Rattle.cbor_edn_model.specs.layout.Plain.{plain, plain_values}

-- The second item is the first but for its indicators outside embedded sequences, of which each has become another by R.
pub data IndicatorsBecome (R : Option Indicator → Option Indicator → Type 0) : (s : Sort) → Node s → Node s → Type 0 where
  number : {x : List ℕ} {i j : Option Indicator} → R i j → IndicatorsBecome R Item (Number x i) (Number x j)
  float : {f : NonFinite} {i j : Option Indicator} → R i j → IndicatorsBecome R Item (Float f i) (Float f j)
  listed : {k : Bracketed} {i j : Option Indicator} {m n : Node (Entries (entries_of k))} → R i j → IndicatorsBecome R (Entries (entries_of k)) m n → IndicatorsBecome R Item (Listed k i m) (Listed k j n)
  tagged : {n : ℕ} {i j : Option Indicator} {w v : Node Item} → R i j → IndicatorsBecome R Item w v → IndicatorsBecome R Item (Tagged n i w) (Tagged n j v)
  named : {b : NamedSimple} → IndicatorsBecome R Item (Named b) (Named b)
  simple : {w v : Node Item} → IndicatorsBecome R Item w v → IndicatorsBecome R Item (Simple w) (Simple v)
  string : {w v : Node Pieces} → IndicatorsBecome R Pieces w v → IndicatorsBecome R Item (String w) (String v)
  stream : {m n : Node (Entries Strings)} → IndicatorsBecome R (Entries Strings) m n → IndicatorsBecome R Item (Stream m) (Stream n)
  literal : {x : List ℕ} {i j : Option Indicator} → R i j → IndicatorsBecome R Piece (Literal x i) (Literal x j)
  ellipsis : {x : List ℕ} → IndicatorsBecome R Piece (Ellipsis x) (Ellipsis x)
  embedded : {m : Items} {i j : Option Indicator} → R i j → IndicatorsBecome R Piece (Embedded m i) (Embedded m j)
  last_piece : {p q : Node Piece} → IndicatorsBecome R Piece p q → IndicatorsBecome R Pieces (LastPiece p) (LastPiece q)
  plus : {p q : Node Piece} {w v : Node Pieces} → IndicatorsBecome R Piece p q → IndicatorsBecome R Pieces w v → IndicatorsBecome R Pieces (Plus p w) (Plus q v)
  element : {w v : Node Item} → IndicatorsBecome R Item w v → IndicatorsBecome R (Entry Elements) (Element w) (Element v)
  pair : {a b w v : Node Item} → IndicatorsBecome R Item a b → IndicatorsBecome R Item w v → IndicatorsBecome R (Entry Pairs) (Pair a w) (Pair b v)
  chunk : {w v : Node Pieces} → IndicatorsBecome R Pieces w v → IndicatorsBecome R (Entry Strings) (Chunk w) (Chunk v)
  end : {k : Row} → IndicatorsBecome R (Entries k) End End
  then : {k : Row} {e f : Node (Entry k)} {m n : Node (Entries k)} → IndicatorsBecome R (Entry k) e f → IndicatorsBecome R (Entries k) m n → IndicatorsBecome R (Entries k) (Then e m) (Then f n)

-- each indicator stays or goes
abbrev pub StaysOrGoes : Option Indicator → Option Indicator → Type 0
StaysOrGoes i j = (j ≡ i) ⊎ (j ≡ None)

-- What a removal of indicators leaves that stops on its way.
abbrev pub Fewer : {s : Sort} → Node s → Node s → Type 0
Fewer {s} x y = IndicatorsBecome StaysOrGoes s x y

-- Where items mean a value, these with fewer indicators mean one that is the same but for its heads.
abbrev pub FewerMean : Type 0
FewerMean =
    ((x y : Node Item) (v : Value) → length (encoding v) < 2 ^ 64 → Fewer x y → means x ≡ Some v → (w : Value) × (means y ≡ Some w) × (plain w ≡ plain v))
    × ((x y : Items) (vs : Values) → length (encodings vs) < 2 ^ 64 → Fewer x y → means x ≡ Some vs → (ws : Values) × (means y ≡ Some ws) × (plain_values ws ≡ plain_values vs))
