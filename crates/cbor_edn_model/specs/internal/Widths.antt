-- How many bytes wide the items of a tree are on a single line: what decides which of them have lines of their own, measured part by part.
use Rattle.std.specs.Prelude.{ℕ, ◌≡◌, ◌<◌, ◌+◌, ◌-◌, ◌^◌, min, Option, MatchOption, List, [], ◌∷◌, length, Some}
use Rattle.cbor_edn_parts.specs.base.Indicator.{indicator_text}
use Rattle.cbor_edn_parts.specs.space.Spacing.{SpaceKind, Optional, Mandatory, Separating, AtEnd, spaced}
use Rattle.cbor_edn_parts.specs.declared.space.policy.Spacing.TheVariants.{Comments, OneLine, OneSpace}
use Rattle.cbor_edn_model.specs.declared.layout.width.Spaces.{Spaces}
use Rattle.cbor_edn_model.specs.declared.layout.width.Spaces.TheVariants.{Kept, By}
use Rattle.cbor_edn_model.specs.tree.Items.{Row}
use Rattle.cbor_edn_model.specs.text.Keywords.{named_text, non_finite_text}
use Rattle.cbor_edn_model.specs.tree.Trees.{Rule, ListHead, NoIndicator, WithIndicator, OneEntry, OnePiece, Tree, NumberTree, FloatTree, NamedTree, EnclosedTree, ListTree, StringTree, StreamTree, LiteralTree, EllipsisTree, EmbeddedTree, LastPieceTree, PlusTree, ElementTree, PairTree, ChunkTree, EmptyTree, FullTree, LastTree, MoreTree, NothingTree, SequenceTree, StandaloneTree, opener_text}

-- the width of a space text: as it stands there, or by a column of the table
abbrev pub space_width : SpaceKind → Spaces → List ℕ → ℕ
space_width kind Kept x = length x
space_width kind (By c) x = length (spaced kind c x)

-- the spaces round a plus sign and behind a colon
abbrev pub wide : Spaces → Spaces
wide Kept = Kept
wide (By OneLine) = By OneSpace
wide (By c) = By c

-- the spaces in the strings of a stream
abbrev pub in_stream : Spaces → Spaces
in_stream Kept = Kept
in_stream (By OneLine) = By Comments
in_stream (By c) = By c

abbrev pub head_width : Spaces → ListHead → ℕ
head_width c NoIndicator = 0
head_width c (WithIndicator i ms) = length (indicator_text (Some i)) + space_width Mandatory c ms

-- The length of the text of a tree whose spaces are kept, or laid out by one column. What stands in an embedded sequence is kept.
unfoldable pub width : {s : Rule} → Spaces → Tree s → ℕ
width c (NumberTree x i) = length x + length (indicator_text i)
width c (FloatTree f i) = length (non_finite_text f) + length (indicator_text i)
width c (NamedTree b) = length (named_text b)
width c (EnclosedTree l w) = length (opener_text l) + width c w + 2
width c (ListTree k w) = width c w + 2
width c (StringTree w) = width c w
width c (StreamTree ms m) = space_width Mandatory c ms + width c m + 3
width c (LiteralTree x i) = length x + length (indicator_text i)
width c (EllipsisTree x) = length x
width c (EmbeddedTree w i) = width Kept w + length (indicator_text i) + 4
width c (LastPieceTree p) = width c p
width c (PlusTree p s t w) = width c p + space_width Optional (wide c) s + space_width Optional (wide c) t + 1 + width c w
width c (ElementTree w) = width c w
width c (PairTree v s t w) = width c v + space_width Optional c s + space_width Optional (wide c) t + width c w + 1
width c (ChunkTree w) = width (in_stream c) w
width c (EmptyTree i s) = length (indicator_text i) + space_width Optional c s
width c (FullTree h s m) = head_width c h + space_width Optional c s + width c m
width c (LastTree e s) = width c e + space_width AtEnd c s
width c (MoreTree e s m) = width c e + space_width Separating c s + width c m
width c (NothingTree s) = space_width Optional c s
width c (SequenceTree s m) = space_width Optional c s + width c m
width c (StandaloneTree s w t) = space_width Optional c s + width c w + space_width Optional c t

-- a number, or the greatest `usize` where it is more
abbrev pub capped : ℕ → ℕ
capped n = min n (2 ^ 64 - 1)

-- the width on a single line, or the greatest `usize` where it is more
abbrev pub measured : {s : Rule} → Tree s → ℕ
measured w = capped (width (By OneLine) w)

-- the room that is left behind so many bytes, or none where they are more than the room
abbrev pub Leaves : ℕ → ℕ → Option ℕ → Type 0
Leaves room n left = MatchOption left (room < n) (λ rest. n + rest ≡ room)

-- the width of entries, each with the separator behind it
abbrev pub entries_width : {k : Row} → Spaces → List (Tree (OneEntry k) × List ℕ) → ℕ
entries_width c [] = 0
entries_width c (p ∷ ps) = width c p.0 + space_width Separating c p.1 + entries_width c ps

-- the width of pieces, each with a plus sign behind it
abbrev pub pieces_width : Spaces → List (Tree OnePiece × List ℕ × List ℕ) → ℕ
pieces_width c [] = 0
pieces_width c (p ∷ ps) = width c p.0 + space_width Optional (wide c) p.1 + space_width Optional (wide c) p.2 + 1 + pieces_width c ps
