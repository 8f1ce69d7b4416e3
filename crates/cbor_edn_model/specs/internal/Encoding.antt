-- What the calls answer that encode what items mean.
use Rattle.std.specs.Prelude.{◌≡◌, List, [], ◌∷◌, ℕ, ◌++◌, Bool, true, ◌&&◌, is_none, if◌then◌else◌, Option, Some, None, Result, Ok, Err}
use Rattle.cbor_edn_parts.specs.declared.base.error.Fault.{Fault}
use Rattle.cbor_edn_parts.specs.declared.base.error.InconsistentEdn.{InconsistentEdn}
use Rattle.cbor_edn_parts.specs.declared.string.StringKind.{StringKind}
use Rattle.cbor_edn_parts.specs.declared.string.StringKind.TheVariants.{Bytes}
use Rattle.cbor_edn_parts.specs.string.Contents.{Content}
use Rattle.cbor_edn_parts.specs.internal.ContentReading.{literal_kind}
use Rattle.cbor_edn_model.specs.declared.cbor.heads.Width.{Width}
use Rattle.cbor_edn_parts.specs.base.Refusals.{IfTold}
use Rattle.cbor_edn_model.specs.tree.Items.{Row, Elements, Pairs, Strings, Bracketed, Array, Map, Piece, Pieces, Node, Entries, Literal, Ellipsis, Embedded, LastPiece, Plus, End, Then, Chunk}
use Rattle.cbor_edn_model.specs.tree.Trees.{Tree, OnePiece, OneEntry, items}
use Rattle.cbor_edn_model.specs.cbor.Value as values
use Rattle.cbor_edn_model.specs.cbor.Value.{chunk_encoding, head, open_head, break, encoding, encodings, pair_encodings}
use Rattle.cbor_edn_model.specs.cbor.Meaning.{NoEncoding, EntryOf, RowOf, piece_indicator, same_kind}

-- A call puts the encoding of the meaning behind the bytes that were there, and refuses items that mean nothing, and no others
-- unless memory runs out. What stands there after a refusal is not said.
abbrev pub Encodes : {X : Type 0} → (X → List ℕ) → Option X → List ℕ → List ℕ → Result (Unit {0}) (Fault InconsistentEdn) → Type 0
Encodes {X} encode meaning old new (Ok x) = (v : X) × (meaning ≡ Some v) × (new ≡ old ++ encode v)
Encodes encode meaning old new (Err e) = IfTold {X = Unit {0}} (Err e) (NoEncoding meaning)

-- A call answers the value, and refuses where there is none.
abbrev pub Finds : {X : Type 0} → Option X → Result X (Fault InconsistentEdn) → Type 0
Finds value (Ok x) = value ≡ Some x
Finds {X} value (Err e) = IfTold {X = X} (Err e) (NoEncoding value)

-- A call puts the bytes of a content behind those that were there, and answers its kind. It refuses where there is no content.
abbrev pub Gathers : Option Content → List ℕ → List ℕ → Result StringKind (Fault InconsistentEdn) → Type 0
Gathers content old new (Ok kind) = (bs : List ℕ) × (content ≡ Some (kind, bs)) × (new ≡ old ++ bs)
Gathers content old new (Err e) = IfTold {X = StringKind} (Err e) (NoEncoding content)

-- the kind of a string by the form of its first piece, whether it has a content or not
abbrev pub piece_kind : Node Piece → StringKind
piece_kind (Literal x i) = literal_kind x
piece_kind (Ellipsis x) = Bytes
piece_kind (Embedded m i) = Bytes

abbrev pub form_kind : Node Pieces → StringKind
form_kind (LastPiece p) = piece_kind p
form_kind (Plus p w) = piece_kind p

-- the kind of the first string of a stream
abbrev pub first_kind : Node (Entries Strings) → StringKind
first_kind End = Bytes
first_kind (Then (Chunk w) m) = form_kind w

-- whether all strings of a stream are of this kind
abbrev pub kinds_are : StringKind → Node (Entries Strings) → Bool
kinds_are k End = true
kinds_are k (Then (Chunk w) m) = same_kind k (form_kind w) && kinds_are k m

-- the kind of the strings of a stream, where all are of one
abbrev pub stream_kind : Node (Entries Strings) → Option StringKind
stream_kind m = if kinds_are (first_kind m) m then Some (first_kind m) else None

-- whether none of these pieces has an indicator
abbrev pub no_indicators : List (Tree OnePiece × List ℕ × List ℕ) → Bool
no_indicators [] = true
no_indicators (p ∷ ps) = is_none (piece_indicator (items p.0)) && no_indicators ps

-- what stands before and behind the entries of a list
abbrev pub list_head : ℕ → Option Width → ℕ → List ℕ
list_head major (Some w) n = head major w n
list_head major None n = open_head major ∷ []

abbrev pub list_end : Option Width → List ℕ
list_end (Some w) = []
list_end None = break ∷ []

-- the major type of a list between brackets
abbrev pub major_of : Bracketed → ℕ
major_of Array = 4
major_of Map = 5

abbrev pub entry_encoding : (k : Row) → EntryOf k → List ℕ
entry_encoding Elements v = encoding v
entry_encoding Pairs p = encoding p.0 ++ encoding p.1
entry_encoding Strings c = chunk_encoding c.0 c.1

abbrev pub string_encodings : List (StringKind × values.Chunk) → List ℕ
string_encodings [] = []
string_encodings (c ∷ cs) = chunk_encoding c.0 c.1 ++ string_encodings cs

abbrev pub row_encoding : (k : Row) → RowOf k → List ℕ
row_encoding Elements vs = encodings vs
row_encoding Pairs ps = pair_encodings ps
row_encoding Strings cs = string_encodings cs

-- the entries of a row, each with the separator behind it
abbrev pub row_items : {k : Row} → List (Tree (OneEntry k) × List ℕ) → Node (Entries k)
row_items [] = End
row_items (p ∷ ps) = Then (items p.0) (row_items ps)
