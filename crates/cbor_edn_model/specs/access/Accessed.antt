-- What the accessors of an item answer.
use Rattle.std.specs.Prelude.{ℕ, ℤ, List, [], ◌∷◌, ◌++◌, ◌≡◌, map, Bool, true, false, Option, Some, None}
use Rattle.std.specs.List.{list_all}
use Rattle.cbor_edn_parts.specs.string.Literal.{Prefixed, IsLiteral}
use Rattle.cbor_edn_parts.specs.number.Number.{HasInteger, IsInteger}
use Rattle.cbor_edn_parts.specs.string.Contents.{Content}
use Rattle.cbor_edn_parts.specs.declared.base.indicator.Indicator.{Indicator}
use Rattle.cbor_edn_parts.specs.declared.string.StringKind.TheVariants.{Bytes}
use Rattle.cbor_edn_model.specs.cbor.Meaning.{means}
use Rattle.cbor_edn_model.specs.declared.text.opener.OpenerKind.TheVariants as opener
use Rattle.cbor_edn_model.specs.declared.text.keyword.NamedSimple.{NamedSimple}
use Rattle.cbor_edn_model.specs.tree.Items.{Row, Elements, Pairs, Strings, Bracketed, Array, Map, entries_of}
use Rattle.cbor_edn_model.specs.tree.Trees.{Tree, OneItem, OnePiece, OneString, OneEntry, Inside, Rest, Standalone, NumberTree, NamedTree, EnclosedTree, ListTree, StringTree, StreamTree, LiteralTree, LastPieceTree, PlusTree, EmptyTree, FullTree, LastTree, MoreTree, ElementTree, PairTree, ChunkTree, StandaloneTree, items}

-- the number of a tag: 1 of `1( 2 )`
abbrev pub tag_number : Tree OneItem → Option ℕ
tag_number (EnclosedTree (opener.Tag i n) w) = Some n
tag_number _ = None

-- the number of a tag with its encoding indicator: 1 and `_0` of `1_0(2)`
abbrev pub tag_head : Tree OneItem → Option (ℕ × Option Indicator)
tag_head (EnclosedTree (opener.Tag i n) w) = Some (n, i)
tag_head _ = None

-- what stands between the parentheses of a tag, with its spaces: ` 2 ` of `1( 2 )`
abbrev pub tag_content : Tree OneItem → Option (Tree Standalone)
tag_content (EnclosedTree (opener.Tag i n) w) = Some w
tag_content _ = None

-- the item between two spaces: 2 of ` 2 `
abbrev pub inner_item : Tree Standalone → Tree OneItem
inner_item (StandaloneTree s w t) = w

-- the keyword of a simple value that has a name: `true`
abbrev pub named_keyword : Tree OneItem → Option NamedSimple
named_keyword (NamedTree b) = Some b
named_keyword _ = None

-- the text of a number with its encoding indicator: `0x1f` and `_1` of `0x1f_1`
abbrev pub number_and_indicator : Tree OneItem → Option (List ℕ × Option Indicator)
number_and_indicator (NumberTree x i) = Some (x, i)
number_and_indicator _ = None

-- the text of a number: `0x1f` of `0x1f_1`
abbrev pub number_text : Tree OneItem → Option (List ℕ)
number_text (NumberTree x i) = Some x
number_text _ = None

-- The item is an integer literal, with or without an encoding indicator, and z is its integer.
abbrev pub IsIntegerItem : Tree OneItem → ℤ → Type 0
IsIntegerItem w z = (x : List ℕ) × (number_text w ≡ Some x) × HasInteger x z

-- the same, whatever its integer
abbrev pub IsIntegerLiteral : Tree OneItem → Type 0
IsIntegerLiteral w = (x : List ℕ) × (number_text w ≡ Some x) × IsInteger x

-- entries in text order, without the spaces behind them
abbrev pub entries : {k : Row} → Tree (Rest k) → List (Tree (OneEntry k))
entries (LastTree e s) = e ∷ []
entries (MoreTree e s m) = e ∷ entries m

-- the entries of a list
abbrev pub entries_inside : {k : Bracketed} → Tree (Inside k) → List (Tree (OneEntry (entries_of k)))
entries_inside (EmptyTree i s) = []
entries_inside (FullTree h s m) = entries m

abbrev pub element : Tree (OneEntry Elements) → Tree OneItem
element (ElementTree w) = w

abbrev pub key : Tree (OneEntry Pairs) → Tree OneItem
key (PairTree v s t w) = v

abbrev pub key_and_value : Tree (OneEntry Pairs) → Tree OneItem × Tree OneItem
key_and_value (PairTree v s t w) = (v, w)

-- the items of an array, in text order: 1 and 2 of `[1, 2]`
abbrev pub array_items : Tree OneItem → Option (List (Tree OneItem))
array_items (ListTree Array w) = Some (map element (entries_inside w))
array_items _ = None

-- the keys of a map with their values, in text order: 1 with 2, and 3 with 4, of `{1: 2, 3: 4}`
abbrev pub map_items : Tree OneItem → Option (List (Tree OneItem × Tree OneItem))
map_items (ListTree Map w) = Some (map key_and_value (entries_inside w))
map_items _ = None

-- byte strings one behind the other, where each is one
abbrev pub both_joined : Option (List ℕ) → Option (List ℕ) → Option (List ℕ)
both_joined (Some x) (Some y) = Some (x ++ y)
both_joined (Some x) None = None
both_joined None o = None

abbrev pub all_joined : List (Option (List ℕ)) → Option (List ℕ)
all_joined [] = Some []
all_joined (o ∷ os) = both_joined o (all_joined os)

-- the bytes of a content that is a byte string
abbrev pub only_bytes : Option Content → Option (List ℕ)
only_bytes (Some (Bytes, bs)) = Some bs
only_bytes _ = None

-- the bytes that a piece of a string means, whatever its encoding indicator
abbrev pub piece_bytes : Tree OnePiece → Option (List ℕ)
piece_bytes p = only_bytes (means (items p))

-- the pieces of a string, in text order: `'a'` and `h'62'` of `'a' + h'62'`
abbrev pub pieces : Tree OneString → List (Tree OnePiece)
pieces (LastPieceTree p) = p ∷ []
pieces (PlusTree p s t w) = p ∷ pieces w

abbrev pub pieces_bytes : Tree OneString → Option (List ℕ)
pieces_bytes w = all_joined (map piece_bytes (pieces w))

abbrev pub chunk : Tree (OneEntry Strings) → Tree OneString
chunk (ChunkTree w) = w

-- the bytes of strings, one behind the other
abbrev pub strings_bytes : Tree (Rest Strings) → Option (List ℕ)
strings_bytes m = all_joined (map (λ e. pieces_bytes (chunk e)) (entries m))

-- the bytes of a string, of definite length or not, whose pieces all mean bytes: `616263` of `(_ 'a', h'62' + 'c')`
abbrev pub item_bytes : Tree OneItem → Option (List ℕ)
item_bytes (StringTree w) = pieces_bytes w
item_bytes (StreamTree s m) = strings_bytes m
item_bytes _ = None

-- the string that an item is
abbrev pub string_tree : Tree OneItem → Option (Tree OneString)
string_tree (StringTree w) = Some w
string_tree _ = None

abbrev pub are_several : Tree OneString → Bool
are_several (LastPieceTree p) = false
are_several (PlusTree p s t w) = true

-- The piece is a literal of the prefix p that stands for the text v, with or without an encoding indicator: `b64` and `Yg` of
-- `b64'Yg'_1`.
abbrev pub IsApplicationPiece : Tree OnePiece → List ℕ → List ℕ → Type 0
IsApplicationPiece (LiteralTree x i) p v = IsLiteral (Prefixed p) v x
IsApplicationPiece _ p v = ⊥

-- The item is such a piece alone.
abbrev pub IsApplicationItem : Tree OneItem → List ℕ → List ℕ → Type 0
IsApplicationItem w p v = (l : Tree OnePiece) × (string_tree w ≡ Some (LastPieceTree l)) × IsApplicationPiece l p v

-- The piece is quoted and has no encoding indicator: `h'01'` and `"a"`, neither `h'01'_0` nor `<<1>>`.
abbrev pub is_plain_piece : Tree OnePiece → Bool
is_plain_piece (LiteralTree x None) = true
is_plain_piece _ = false

-- The item is a string of such pieces, as `h'01' + 'a'`.
abbrev pub is_plain_string : Tree OneItem → Bool
is_plain_string (StringTree w) = list_all is_plain_piece (pieces w)
is_plain_string _ = false
