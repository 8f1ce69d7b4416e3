-- Items with the space texts between their tokens: one family, indexed by the rule of the grammar.
use Rattle.std.specs.Fmt.{decimal}
use Rattle.std.specs.Prelude.{ℕ, codes, suc, max, Bool, false, not, eqb, ◌||◌, ◌&&◌, List, [], ◌∷◌, ◌≡◌, ◌++◌, Option, Some, None}
use Rattle.cbor_edn_parts.specs.declared.base.indicator.Indicator.{Indicator}
use Rattle.cbor_edn_model.specs.declared.text.opener.OpenerKind.{OpenerKind}
use Rattle.cbor_edn_model.specs.declared.text.opener.OpenerKind.TheVariants as opener
use Rattle.cbor_edn_model.specs.declared.text.keyword.NamedSimple.{NamedSimple}
use Rattle.cbor_edn_model.specs.declared.text.keyword.NonFinite.{NonFinite}
use Rattle.cbor_edn_parts.specs.base.Bytes.{Follow, Closes}
use Rattle.cbor_edn_parts.specs.internal.Lex as lex
use Rattle.cbor_edn_parts.specs.base.Indicator.{indicator_text}
use Rattle.cbor_edn_parts.specs.space.Space.{IsSpace, IsMandatorySpace, IsSeparator, IsListEnd}
use Rattle.cbor_edn_parts.specs.number.Number.{IsNumber}
use Rattle.cbor_edn_parts.specs.string.Literal.{IsQuoted, IsEllipsis}
use Rattle.cbor_edn_parts.specs.internal.SpaceTokens.{space}
use Rattle.cbor_edn_parts.specs.internal.LiteralTokens.{is_digit}
use Rattle.cbor_edn_model.specs.tree.Items.{Row, Elements, Pairs, Strings, Bracketed, entries_of, Item, Piece, Pieces, Entry, Entries, Node, Number, Float, Listed, Tagged, Named, Simple, String, Stream, Literal, Ellipsis, Embedded, LastPiece, Plus, Element, Pair, Chunk, End, Then, Items}
use Rattle.cbor_edn_model.specs.text.Openers.{IsOpener}
use Rattle.cbor_edn_model.specs.text.Spelling.{open_byte, close_byte}
use Rattle.cbor_edn_model.specs.text.Keywords.{named_text, simple_text, non_finite_text}

-- The rules of the grammar.
pub data Rule : Type 0 where
  OneItem : Rule
  OnePiece : Rule
  OneString : Rule
  OneEntry : Row → Rule
  -- what stands between the brackets of a list
  Inside : Bracketed → Rule
  -- entries, one or more, each with the space that follows it
  Rest : Row → Rule
  Seq : Rule
  Standalone : Rule

-- specms: an indicator and the space behind it, or nothing
pub data ListHead : Type 0 where
  NoIndicator : ListHead
  WithIndicator : Indicator → List ℕ → ListHead

abbrev pub head_indicator : ListHead → Option Indicator
head_indicator NoIndicator = None
head_indicator (WithIndicator i ms) = Some i

abbrev pub list_head_text : ListHead → List ℕ
list_head_text NoIndicator = []
list_head_text (WithIndicator i ms) = indicator_text (Some i) ++ ms

-- what stands in front of an item between parentheses: a tag's number and its indicator, or `simple`
abbrev pub opener_text : OpenerKind → List ℕ
opener_text (opener.Tag i n) = decimal n ++ indicator_text i
opener_text opener.Simple = simple_text

abbrev pub labelled : OpenerKind → Node Item → Node Item
labelled (opener.Tag i n) w = Tagged n i w
labelled opener.Simple w = Simple w

-- A use of a rule, with the texts that it leaves open.
pub data Tree : Rule → Type 0 where
  NumberTree : List ℕ → Option Indicator → Tree OneItem
  -- `Infinity`, `-Infinity` or `NaN`
  FloatTree : NonFinite → Option Indicator → Tree OneItem
  NamedTree : NamedSimple → Tree OneItem
  -- a label, and what stands between the parentheses behind it
  EnclosedTree : OpenerKind → Tree Standalone → Tree OneItem
  ListTree : (k : Bracketed) → Tree (Inside k) → Tree OneItem
  StringTree : Tree OneString → Tree OneItem
  -- the space behind `(_`, and the strings
  StreamTree : List ℕ → Tree (Rest Strings) → Tree OneItem
  LiteralTree : List ℕ → Option Indicator → Tree OnePiece
  EllipsisTree : List ℕ → Tree OnePiece
  EmbeddedTree : Tree Seq → Option Indicator → Tree OnePiece
  LastPieceTree : Tree OnePiece → Tree OneString
  -- a piece, the space before the plus sign and the one behind it, and more pieces
  PlusTree : Tree OnePiece → List ℕ → List ℕ → Tree OneString → Tree OneString
  ElementTree : Tree OneItem → Tree (OneEntry Elements)
  -- a key, the space before the colon and the one behind it, and a value
  PairTree : Tree OneItem → List ℕ → List ℕ → Tree OneItem → Tree (OneEntry Pairs)
  ChunkTree : Tree OneString → Tree (OneEntry Strings)
  -- the indicator and the space
  EmptyTree : {k : Bracketed} → Option Indicator → List ℕ → Tree (Inside k)
  -- the indicator with its space, the first space, and the entries
  FullTree : {k : Bracketed} → ListHead → List ℕ → Tree (Rest (entries_of k)) → Tree (Inside k)
  -- the last entry, and the space at the end
  LastTree : {k : Row} → Tree (OneEntry k) → List ℕ → Tree (Rest k)
  -- an entry, the separator behind it, and more entries
  MoreTree : {k : Row} → Tree (OneEntry k) → List ℕ → Tree (Rest k) → Tree (Rest k)
  -- a sequence without items: its space
  NothingTree : List ℕ → Tree Seq
  -- the first space, and the items
  SequenceTree : List ℕ → Tree (Rest Elements) → Tree Seq
  -- an item between spaces
  StandaloneTree : List ℕ → Tree OneItem → List ℕ → Tree Standalone

-- The text of a tree, with what follows it.
unfoldable pub onto : {s : Rule} → Tree s → List ℕ → List ℕ
onto (NumberTree x i) r = x ++ (indicator_text i ++ r)
onto (FloatTree f i) r = non_finite_text f ++ (indicator_text i ++ r)
onto (NamedTree b) r = named_text b ++ r
onto (EnclosedTree l w) r = opener_text l ++ (codes "(" ++ onto w (codes ")" ++ r))
onto (ListTree k w) r = open_byte k ∷ onto w (close_byte k ∷ r)
onto (StringTree w) r = onto w r
onto (StreamTree ms m) r = codes "(_" ++ (ms ++ onto m (codes ")" ++ r))
onto (LiteralTree x i) r = x ++ (indicator_text i ++ r)
onto (EllipsisTree x) r = x ++ r
onto (EmbeddedTree w i) r = codes "<<" ++ onto w (codes ">>" ++ (indicator_text i ++ r))
onto (LastPieceTree p) r = onto p r
onto (PlusTree p s t w) r = onto p (s ++ (codes "+" ++ (t ++ onto w r)))
onto (ElementTree w) r = onto w r
onto (PairTree v s t w) r = onto v (s ++ (codes ":" ++ (t ++ onto w r)))
onto (ChunkTree w) r = onto w r
onto (EmptyTree i s) r = indicator_text i ++ (s ++ r)
onto (FullTree h s m) r = list_head_text h ++ (s ++ onto m r)
onto (LastTree e s) r = onto e (s ++ r)
onto (MoreTree e s m) r = onto e (s ++ onto m r)
onto (NothingTree s) r = s ++ r
onto (SequenceTree s m) r = s ++ onto m r
onto (StandaloneTree s w t) r = s ++ onto w (t ++ r)

abbrev pub text : {s : Rule} → Tree s → List ℕ
text w = onto w []

-- the space behind an indicator, in front of others
abbrev pub list_head_space_onto : ListHead → List (List ℕ) → List (List ℕ)
list_head_space_onto NoIndicator r = r
list_head_space_onto (WithIndicator i ms) r = ms ∷ r

-- Its space texts, in text order, in front of others.
unfoldable pub spaces_onto : {s : Rule} → Tree s → List (List ℕ) → List (List ℕ)
spaces_onto (NumberTree x i) r = r
spaces_onto (FloatTree f i) r = r
spaces_onto (NamedTree b) r = r
spaces_onto (EnclosedTree l w) r = spaces_onto w r
spaces_onto (ListTree k w) r = spaces_onto w r
spaces_onto (StringTree w) r = spaces_onto w r
spaces_onto (StreamTree ms m) r = ms ∷ spaces_onto m r
spaces_onto (LiteralTree x i) r = r
spaces_onto (EllipsisTree x) r = r
spaces_onto (EmbeddedTree w i) r = spaces_onto w r
spaces_onto (LastPieceTree p) r = spaces_onto p r
spaces_onto (PlusTree p s t w) r = spaces_onto p (s ∷ t ∷ spaces_onto w r)
spaces_onto (ElementTree w) r = spaces_onto w r
spaces_onto (PairTree v s t w) r = spaces_onto v (s ∷ t ∷ spaces_onto w r)
spaces_onto (ChunkTree w) r = spaces_onto w r
spaces_onto (EmptyTree i s) r = s ∷ r
spaces_onto (FullTree h s m) r = list_head_space_onto h (s ∷ spaces_onto m r)
spaces_onto (LastTree e s) r = spaces_onto e (s ∷ r)
spaces_onto (MoreTree e s m) r = spaces_onto e (s ∷ spaces_onto m r)
spaces_onto (NothingTree s) r = s ∷ r
spaces_onto (SequenceTree s m) r = s ∷ spaces_onto m r
spaces_onto (StandaloneTree s w t) r = s ∷ spaces_onto w (t ∷ r)

abbrev pub spaces : {s : Rule} → Tree s → List (List ℕ)
spaces w = spaces_onto w []

-- What the items of a tree are.
abbrev pub Of : Rule → Type 0
Of OneItem = Node Item
Of OnePiece = Node Piece
Of OneString = Node Pieces
Of (OneEntry k) = Node (Entry k)
Of (Inside k) = Option Indicator × Node (Entries (entries_of k))
Of (Rest k) = Node (Entries k)
Of Seq = Items
Of Standalone = Node Item

unfoldable pub items : {s : Rule} → Tree s → Of s
items (NumberTree x i) = Number x i
items (FloatTree f i) = Float f i
items (NamedTree b) = Named b
items (EnclosedTree l w) = labelled l (items w)
items (ListTree k w) = Listed k (items w).0 (items w).1
items (StringTree w) = String (items w)
items (StreamTree ms m) = Stream (items m)
items (LiteralTree x i) = Literal x i
items (EllipsisTree x) = Ellipsis x
items (EmbeddedTree w i) = Embedded (items w) i
items (LastPieceTree p) = LastPiece (items p)
items (PlusTree p s t w) = Plus (items p) (items w)
items (ElementTree w) = Element (items w)
items (PairTree v s t w) = Pair (items v) (items w)
items (ChunkTree w) = Chunk (items w)
items (EmptyTree i s) = (i, End)
items (FullTree h s m) = (head_indicator h, items m)
items (LastTree e s) = Then (items e) End
items (MoreTree e s m) = Then (items e) (items m)
items (NothingTree s) = End
items (SequenceTree s m) = items m
items (StandaloneTree s w t) = items w

-- how deep arrays, maps, tags, `simple(..)` and embedded sequences nest in it
abbrev pub tree_nesting : {s : Rule} → Tree s → ℕ
tree_nesting (NumberTree x i) = 0
tree_nesting (FloatTree f i) = 0
tree_nesting (NamedTree b) = 0
tree_nesting (EnclosedTree l w) = suc (tree_nesting w)
tree_nesting (ListTree k w) = suc (tree_nesting w)
tree_nesting (StringTree w) = tree_nesting w
tree_nesting (StreamTree ms m) = tree_nesting m
tree_nesting (LiteralTree x i) = 0
tree_nesting (EllipsisTree x) = 0
tree_nesting (EmbeddedTree w i) = suc (tree_nesting w)
tree_nesting (LastPieceTree p) = tree_nesting p
tree_nesting (PlusTree p s t w) = max (tree_nesting p) (tree_nesting w)
tree_nesting (ElementTree w) = tree_nesting w
tree_nesting (PairTree v s t w) = max (tree_nesting v) (tree_nesting w)
tree_nesting (ChunkTree w) = tree_nesting w
tree_nesting (EmptyTree i s) = 0
tree_nesting (FullTree h s m) = tree_nesting m
tree_nesting (LastTree e s) = tree_nesting e
tree_nesting (MoreTree e s m) = max (tree_nesting e) (tree_nesting m)
tree_nesting (NothingTree s) = 0
tree_nesting (SequenceTree s m) = tree_nesting m
tree_nesting (StandaloneTree s w t) = tree_nesting w

abbrev pub IsListHead : ListHead → Type 0
IsListHead NoIndicator = Unit {0}
IsListHead (WithIndicator i ms) = IsMandatorySpace ms

-- Each text of a tree is in its set.
unfoldable pub Valid : {s : Rule} → Tree s → Type 0
Valid (NumberTree x i) = IsNumber x
Valid (FloatTree f i) = Unit {0}
Valid (NamedTree b) = Unit {0}
Valid (EnclosedTree l w) = IsOpener l × Valid w
Valid (ListTree k w) = Valid w
Valid (StringTree w) = Valid w
Valid (StreamTree ms m) = IsMandatorySpace ms × Valid m
Valid (LiteralTree x i) = IsQuoted x
Valid (EllipsisTree x) = IsEllipsis x
Valid (EmbeddedTree w i) = Valid w
Valid (LastPieceTree p) = Valid p
Valid (PlusTree p s t w) = Valid p × IsSpace s × IsSpace t × Valid w
Valid (ElementTree w) = Valid w
Valid (PairTree v s t w) = Valid v × IsSpace s × IsSpace t × Valid w
Valid (ChunkTree w) = Valid w
Valid (EmptyTree i s) = IsSpace s
Valid (FullTree h s m) = IsListHead h × IsSpace s × Valid m
Valid (LastTree e s) = Valid e × IsListEnd s
Valid (MoreTree e s m) = Valid e × IsSeparator s × Valid m
Valid (NothingTree s) = IsSpace s
Valid (SequenceTree s m) = IsSpace s × Valid m
Valid (StandaloneTree s w t) = IsSpace s × Valid w × IsSpace t

-- behind an indicator's space no other space stands
abbrev pub IsMerged : ListHead → List ℕ → Type 0
IsMerged NoIndicator s = Unit {0}
IsMerged (WithIndicator i ms) s = s ≡ []

-- The S after each indicator's MS is empty, as in every tree that is read: the MS takes all the space that is there.
unfoldable pub Merged : {s : Rule} → Tree s → Type 0
Merged (NumberTree x i) = Unit {0}
Merged (FloatTree f i) = Unit {0}
Merged (NamedTree b) = Unit {0}
Merged (EnclosedTree l w) = Merged w
Merged (ListTree k w) = Merged w
Merged (StringTree w) = Merged w
Merged (StreamTree ms m) = Merged m
Merged (LiteralTree x i) = Unit {0}
Merged (EllipsisTree x) = Unit {0}
Merged (EmbeddedTree w i) = Merged w
Merged (LastPieceTree p) = Merged p
Merged (PlusTree p s t w) = Merged p × Merged w
Merged (ElementTree w) = Merged w
Merged (PairTree v s t w) = Merged v × Merged w
Merged (ChunkTree w) = Merged w
Merged (EmptyTree i s) = Unit {0}
Merged (FullTree h s m) = IsMerged h s × Merged m
Merged (LastTree e s) = Merged e
Merged (MoreTree e s m) = Merged e × Merged m
Merged (NothingTree s) = Unit {0}
Merged (SequenceTree s m) = Merged m
Merged (StandaloneTree s w t) = Merged w

abbrev pub starts_digits : List ℕ → Bool
starts_digits [] = false
starts_digits (c ∷ r) = is_digit c

-- what a sign needs behind it to begin a number: a digit, or a point and a digit
abbrev pub starts_number : List ℕ → Bool
starts_number [] = false
starts_number (c ∷ r) = is_digit c || (eqb c 46 && starts_digits r)

-- Whether a plus sign stands in front that begins no number: it joins the pieces of a string.
unfoldable pub joins : List ℕ → Bool
joins [] = false
joins (c ∷ r) = eqb c 43 && not (starts_number r)

-- Behind the space in front no plus sign joins what follows to a string.
abbrev pub NoPlus : List ℕ → Type 0
NoPlus r = (p : List ℕ × List ℕ) × (lex.token space r ≡ Some p) × (joins p.1 ≡ false)

-- What may follow an item.
abbrev pub Next : List ℕ → Type 0
Next r = Follow r × NoPlus r

-- What may follow a use of a rule.
abbrev pub FollowOf : Rule → List ℕ → Type 0
FollowOf OneItem r = Next r
FollowOf OneString r = Next r
FollowOf (OneEntry k) r = Next r
FollowOf OnePiece r = Follow r
FollowOf _ r = Closes r
