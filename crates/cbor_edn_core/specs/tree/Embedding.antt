-- Embedded sequences, and the encoding indicators of literals.
use Rattle.std.specs.Prelude.{Option, Some, None}
use Rattle.cbor_edn_parts.specs.declared.base.indicator.Indicator.{Indicator}
use Rattle.cbor_edn_model.specs.tree.Trees.{Tree, OneItem, OnePiece, OneString, Seq, StringTree, LastPieceTree, LiteralTree, EmbeddedTree}

-- a string of one embedded sequence: `<<1, 2>>_0`
abbrev pub embedded_tree : Tree Seq → Option Indicator → Tree OneItem
embedded_tree w i = StringTree (LastPieceTree (EmbeddedTree w i))

-- the encoding indicator of a literal
abbrev pub piece_indicator : Tree OnePiece → Option (Option Indicator)
piece_indicator (LiteralTree x i) = Some i
piece_indicator _ = None

-- that of a string that is one literal
abbrev pub lone_indicator : Tree OneString → Option (Option Indicator)
lone_indicator (LastPieceTree p) = piece_indicator p
lone_indicator _ = None

abbrev pub literal_indicator : Tree OneItem → Option (Option Indicator)
literal_indicator (StringTree w) = lone_indicator w
literal_indicator _ = None
