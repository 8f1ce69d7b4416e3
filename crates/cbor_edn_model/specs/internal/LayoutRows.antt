-- Rows of entries and of pieces, laid out or without indicators, one by one.
use Rattle.std.specs.Prelude.{ℕ, List}
use Rattle.cbor_edn_parts.specs.space.Spacing.{Optional, Separating}
use Rattle.cbor_edn_model.specs.tree.Items.{Row, Entry, Node, Piece}
use Rattle.cbor_edn_model.specs.tree.Trees.{OnePiece, OneEntry, Tree, items}
use Rattle.cbor_edn_model.specs.layout.Layout.{Layout, Between, BeforePlus, AfterPlus, respaced, laid}
use Rattle.cbor_edn_model.specs.layout.Bare.{without_indicators}

-- an entry and the separator behind it
abbrev pub laid_entry : {k : Row} → Layout → Tree (OneEntry k) × List ℕ → Tree (OneEntry k) × List ℕ
laid_entry l p = (laid l p.0, respaced Separating Between l p.1)

abbrev pub entry_without_indicators : {k : Row} → Tree (OneEntry k) × List ℕ → Tree (OneEntry k) × List ℕ
entry_without_indicators p = (without_indicators p.0, p.1)

abbrev pub entry_items : {k : Row} → Tree (OneEntry k) × List ℕ → Node (Entry k)
entry_items p = items p.0

-- a piece and the spaces round the plus sign behind it
abbrev pub laid_piece : Layout → Tree OnePiece × List ℕ × List ℕ → Tree OnePiece × List ℕ × List ℕ
laid_piece l p = (p.0, respaced Optional BeforePlus l p.1, respaced Optional AfterPlus l p.2)

abbrev pub piece_without_indicators : Tree OnePiece × List ℕ × List ℕ → Tree OnePiece × List ℕ × List ℕ
piece_without_indicators p = (without_indicators p.0, p.1, p.2)

abbrev pub piece_items : Tree OnePiece × List ℕ × List ℕ → Node Piece
piece_items p = items p.0
