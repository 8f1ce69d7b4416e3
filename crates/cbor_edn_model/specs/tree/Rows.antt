-- Entries and pieces in front of others.
use Rattle.std.specs.Prelude.{ℕ, List, [], ◌∷◌, ◌++◌}
use Rattle.cbor_edn_model.specs.tree.Items.{Row}
use Rattle.cbor_edn_model.specs.tree.Trees.{Tree, OnePiece, OneString, OneEntry, Rest, PlusTree, MoreTree, text}

-- entries, each with the separator behind it, in front of a rest
abbrev pub entries_onto : {k : Row} → List (Tree (OneEntry k) × List ℕ) → Tree (Rest k) → Tree (Rest k)
entries_onto [] m = m
entries_onto (p ∷ ps) m = MoreTree p.0 p.1 (entries_onto ps m)

-- the text of such entries
abbrev pub entries_text : {k : Row} → List (Tree (OneEntry k) × List ℕ) → List ℕ
entries_text [] = []
entries_text (p ∷ ps) = text p.0 ++ (p.1 ++ entries_text ps)

-- pieces, each with the spaces round the plus sign behind it, in front of others
abbrev pub pieces_onto : List (Tree OnePiece × List ℕ × List ℕ) → Tree OneString → Tree OneString
pieces_onto [] w = w
pieces_onto (p ∷ ps) w = PlusTree p.0 p.1 p.2 (pieces_onto ps w)

-- the text of such pieces
abbrev pub pieces_text : List (Tree OnePiece × List ℕ × List ℕ) → List ℕ
pieces_text [] = []
pieces_text (p ∷ ps) = text p.0 ++ (p.1 ++ (43 ∷ (p.2 ++ pieces_text ps)))
