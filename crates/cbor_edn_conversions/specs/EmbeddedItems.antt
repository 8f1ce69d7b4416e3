-- Byte strings that hold CBOR as embedded sequences: `<<{1: -7}>>` of `h'a10126'`, as headers and payloads of COSE (RFC 9052) are.
use Rattle.std.specs.Prelude.{ℕ, zero, suc, ◌-◌, nat_le, nat_lt, ◌&&◌, Bool, true, false, if◌then◌else◌, List, [], ◌∷◌, Option, Some, None, option_and_then, Ok}
use Rattle.cbor_edn_parts.specs.declared.base.indicator.Indicator.{Indicator}
use Rattle.cbor_edn_parts.specs.declared.string.Quote.TheVariants as quotes
use Rattle.cbor_edn_parts.specs.declared.string.QuotedState.TheVariants as part
use Rattle.cbor_edn_parts.specs.internal.ContentReading.{prefixed_bytes, behind_quote}
use Rattle.cbor_edn_parts.specs.internal.LiteralTokens.{is_literal, prefix_of, decoded}
use Rattle.cbor_edn_model.specs.declared.text.opener.OpenerKind.TheVariants as opener
use Rattle.cbor_edn_model.specs.internal.CborReading.{DecoderResult, item_at, trees}
use Rattle.cbor_edn_model.specs.tree.Items.{nesting}
use Rattle.cbor_edn_model.specs.tree.Trees.{Rule, Tree, OneItem, OneString, NumberTree, FloatTree, NamedTree, EnclosedTree, ListTree, StringTree, StreamTree, LiteralTree, EllipsisTree, EmbeddedTree, LastPieceTree, PlusTree, ElementTree, PairTree, ChunkTree, EmptyTree, FullTree, LastTree, MoreTree, NothingTree, SequenceTree, StandaloneTree, items}
use Rattle.cbor_edn_model.specs.visit.Seeking.{CallArguments}
use Rattle.cbor_edn_model.specs.visit.Visits.{fine}
use Rattle.cbor_edn_conversions.specs.Conversions.{Reply}

-- ---- literals, wherever they stand

-- what becomes of a literal that is an item, by its text and its indicator
abbrev pub OfLiteral : Type 0
OfLiteral = List ℕ → Option Indicator → Tree OneItem

-- the literal as it is: `h'01'_0`
abbrev pub literal_item : OfLiteral
literal_item x i = StringTree (LastPieceTree (LiteralTree x i))

-- a string that is one literal becomes what f makes of it; of any other there is another item
abbrev pub if_literal : OfLiteral → Tree OneString → Tree OneItem → Tree OneItem
if_literal f (LastPieceTree (LiteralTree x i)) w = f x i
if_literal f _ w = w

-- Each item that is one literal becomes what f makes of it, also in embedded sequences, but not in `simple(..)`. Literals beside others, in
-- a stream or behind a plus sign, stay.
unfoldable pub with_literals : OfLiteral → {s : Rule} → Tree s → Tree s
with_literals f (NumberTree x i) = NumberTree x i
with_literals f (FloatTree g i) = FloatTree g i
with_literals f (NamedTree b) = NamedTree b
with_literals f (EnclosedTree (opener.Tag i n) w) = EnclosedTree (opener.Tag i n) (with_literals f w)
with_literals f (EnclosedTree opener.Simple w) = EnclosedTree opener.Simple w
with_literals f (ListTree k w) = ListTree k (with_literals f w)
with_literals f (StringTree w) = if_literal f w (StringTree (with_literals f w))
with_literals f (StreamTree ms m) = StreamTree ms (with_literals f m)
with_literals f (LiteralTree x i) = LiteralTree x i
with_literals f (EllipsisTree x) = EllipsisTree x
with_literals f (EmbeddedTree w i) = EmbeddedTree (with_literals f w) i
with_literals f (LastPieceTree p) = LastPieceTree (with_literals f p)
with_literals f (PlusTree p s t w) = PlusTree (with_literals f p) s t (with_literals f w)
with_literals f (ElementTree w) = ElementTree (with_literals f w)
with_literals f (PairTree v s t w) = PairTree (with_literals f v) s t (with_literals f w)
with_literals f (ChunkTree w) = ChunkTree (with_literals f w)
with_literals f (EmptyTree i s) = EmptyTree i s
with_literals f (FullTree h s m) = FullTree h s (with_literals f m)
with_literals f (LastTree e s) = LastTree (with_literals f e) s
with_literals f (MoreTree e s m) = MoreTree (with_literals f e) s (with_literals f m)
with_literals f (NothingTree s) = NothingTree s
with_literals f (SequenceTree s m) = SequenceTree s (with_literals f m)
with_literals f (StandaloneTree s w t) = StandaloneTree s (with_literals f w) t

-- the item alone, where it is one literal
abbrev pub of_lone_literal : OfLiteral → Tree OneItem → Tree OneItem
of_lone_literal f (StringTree w) = if_literal f w (StringTree w)
of_lone_literal f w = w

-- ---- the bytes of a literal, and what they encode

-- The bytes of a literal with a prefix: 01 of `h'01'` and of `b64'AQ=='`; neither `'a'` nor `dt'..'` has any.
abbrev pub bytes_behind_prefix : List ℕ → Option (List ℕ)
bytes_behind_prefix x = if is_literal x then prefixed_bytes (prefix_of x) (decoded quotes.Single part.Between (behind_quote x)) else None

-- what is read, where nothing follows it
abbrev pub only_item : DecoderResult (Tree OneItem) → Option (Tree OneItem)
only_item (Ok (w, [])) = Some w
only_item _ = None

-- The item that bytes encode, nested no deeper than the limit, with the spaces of a single line.
abbrev pub decoded_item : ℕ → List ℕ → Option (Tree OneItem)
decoded_item limit bytes = only_item (item_at trees limit bytes)

abbrev pub is_structure : Tree OneItem → Bool
is_structure (ListTree k w) = true
is_structure (EnclosedTree (opener.Tag i n) w) = true
is_structure _ = false

-- the first byte is of major type 4, 5 or 6, as that of arrays, maps and tags is
abbrev pub begins_structure : List ℕ → Bool
begins_structure [] = false
begins_structure (b ∷ bs) = nat_le 128 b && nat_lt b 224

-- Arrays, maps and tags alone are shown: else too many short byte strings would be numbers or texts.
abbrev pub if_structure : Tree OneItem → Option (Tree OneItem)
if_structure w = if is_structure w then Some w else None

-- the structure that bytes encode, if there are any
abbrev pub structure_of : ℕ → Option (List ℕ) → Option (Tree OneItem)
structure_of limit bytes = option_and_then if_structure (option_and_then (decoded_item limit) bytes)

-- ---- what is shown

-- the string of one embedded item, without spaces round it: `<<[1]>>_0`
abbrev pub embedded_item : Tree OneItem → Option Indicator → Tree OneItem
embedded_item w i = StringTree (LastPieceTree (EmbeddedTree (SequenceTree [] (LastTree (ElementTree w) [])) i))

-- the literal, or what a function makes of the structure in it, embedded with the literal's indicator
abbrev pub shown_or : List ℕ → Option Indicator → (Tree OneItem → Tree OneItem) → Option (Tree OneItem) → Tree OneItem
shown_or x i inside None = literal_item x i
shown_or x i inside (Some w) = embedded_item (inside w) i

-- A literal whose bytes encode a structure becomes `<<..>>` of this structure, and so do the literals in it, to so many levels. The limit
-- says how deep the `<<..>>` may nest: what the structure leaves of it is the limit of the literals in it. `h'8142a103'`, two levels, is
-- `<<[h'a103']>>`, since a1 03 encode nothing, and `h'814181'` is no `<<[<<..>>]>>` either; `h'8142810c'` is `<<[<<[12]>>]>>`.
unfoldable pub shown : ℕ → ℕ → OfLiteral
shown zero limit x i = literal_item x i
shown (suc levels) zero x i = literal_item x i
shown (suc levels) (suc limit) x i = shown_or x i (λ w. with_literals (shown levels (limit - nesting (items w))) w) (structure_of limit (bytes_behind_prefix x))

-- `show_embedded`: it answers nothing, and shows the item if it is such a literal.
unfoldable pub show_embedded : ℕ → ℕ → CallArguments → Tree OneItem → Reply
show_embedded levels limit a w = (fine, of_lone_literal (shown levels limit) w)
