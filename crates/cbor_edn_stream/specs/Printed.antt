-- What is printed of the items that bytes encode, while they are read.
use Rattle.std.specs.Prelude.{ℕ, ◌≡◌, List, [], ◌∷◌, ◌++◌, Option, Some, None, Result, Ok, Err}
use Rattle.cbor_edn_parts.specs.declared.base.error.Fault.{Fault}
use Rattle.cbor_edn_parts.specs.declared.string.StringKind.{StringKind}
use Rattle.cbor_edn_parts.specs.space.Spacing.{Separating, AtEnd}
use Rattle.cbor_edn_model.specs.declared.cbor.decode.CborError.{CborError}
use Rattle.cbor_edn_model.specs.text.Spelling.{open_byte, close_byte}
use Rattle.cbor_edn_model.specs.tree.Items.{Row, Strings, Bracketed, Array, Map, entries_of}
use Rattle.cbor_edn_model.specs.tree.Trees.{Rule, Tree, OneItem, OneEntry, Rest, ListTree, EnclosedTree, ElementTree, ChunkTree, text, opener_text}
use Rattle.cbor_edn_model.specs.layout.Layout.{Layout, Between, Last, respaced, laid}
use Rattle.cbor_edn_model.specs.internal.CborReading.{DecoderResult, Decoder, DecoderFails, Argument, shown, item_at, pair_at, chunk_at, definite_tree, array_by, map_by, tag_by, inner, trees}
use Rattle.cbor_edn_stream.specs.declared.print.Brackets.{Brackets}
use Rattle.cbor_edn_stream.specs.declared.print.Brackets.TheVariants as brackets
use Rattle.cbor_edn_stream.specs.declared.print.Nested.{Nested}
use Rattle.cbor_edn_stream.specs.declared.print.Nested.TheVariants as nested

abbrev pub bracketed : Brackets → Bracketed
bracketed brackets.Array = Array
bracketed brackets.Map = Map

-- What a function that prints while it reads answers: the bytes behind what the reader gives, whose text it wrote, or the refusal of the reader.
abbrev pub Prints : {A X : Type 0} → (A → List ℕ → List ℕ → Type 0) → (X → List ℕ) → List ℕ → List ℕ → Result X (Fault CborError) → DecoderResult A → Type 0
Prints {A} Written view old new (Ok x) read = (a : A) × (read ≡ Ok (a, view x)) × Written a old new
Prints Written view old new (Err e) read = DecoderFails e read

-- the text of a tree stands behind the old one
abbrev pub Writes : {s : Rule} → Layout → Tree s → List ℕ → List ℕ → Type 0
Writes l w old new = new ≡ old ++ text (laid l w)

-- it is written as by any layout
abbrev pub WritesAnyhow : {s : Rule} → Tree s → List ℕ → List ℕ → Type 0
WritesAnyhow t old new = (l : Layout) → Writes l t old new

-- an entry of a list
abbrev pub entry_at : (k : Bracketed) → ℕ → Decoder (Tree (OneEntry (entries_of k)))
entry_at Array limit bytes = shown ElementTree (item_at trees limit bytes)
entry_at Map limit bytes = pair_at trees (item_at trees limit) bytes

-- one of the strings that a string of indefinite length consists of
abbrev pub chunk_entry : StringKind → Decoder (Tree (OneEntry Strings))
chunk_entry k bytes = shown ChunkTree (shown (definite_tree k) (chunk_at k bytes))

-- a list behind its head
abbrev pub list_by : Bracketed → ℕ → Argument → Decoder (Tree OneItem)
list_by Array limit argument bytes = array_by trees (inner trees limit) argument bytes
list_by Map limit argument bytes = map_by trees (inner trees limit) argument bytes

-- the text of entries, of which there is one at least, and the end of their list
abbrev pub WritesRow : {k : Row} → Layout → Option (Tree (Rest k)) → List ℕ → List ℕ → Type 0
WritesRow l None old new = ⊥
WritesRow l (Some m) old new = Writes l m old new

-- the separator between entries, and the end of their list
abbrev pub separator : Layout → List ℕ
separator l = respaced Separating Between l (44 ∷ 32 ∷ [])

abbrev pub finish : Layout → List ℕ
finish l = respaced AtEnd Last l []

-- the items in which others nest, by their major types, behind their heads
abbrev pub nested_major : Nested → ℕ
nested_major nested.Array = 4
nested_major nested.Map = 5
nested_major nested.Tag = 6

abbrev pub nested_by : Nested → ℕ → Argument → Decoder (Tree OneItem)
nested_by nested.Array limit argument bytes = list_by Array limit argument bytes
nested_by nested.Map limit argument bytes = list_by Map limit argument bytes
nested_by nested.Tag limit argument bytes = tag_by trees (inner trees limit) argument bytes

-- such an item is written by the layout of what is in it
abbrev pub WritesParts : Layout → Tree OneItem → List ℕ → List ℕ → Type 0
WritesParts l (ListTree k w) old new = new ≡ old ++ (open_byte k ∷ (text (laid l w) ++ (close_byte k ∷ [])))
WritesParts l (EnclosedTree opener w) old new = new ≡ old ++ (opener_text opener ++ (40 ∷ (text (laid l w) ++ (41 ∷ []))))
WritesParts l w old new = ⊥
