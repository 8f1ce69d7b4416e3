-- A row laid out or without indicators is so entry by entry.
use Rattle.std.proofs.Common.{ℕ, ◌≡◌, List, [], ◌∷◌, map, refl, ap, ◌∙◌}
use Rattle.cbor_edn_parts.specs.space.Spacing.{Optional, Separating}
use Rattle.cbor_edn_model.specs.tree.Items.{Row, Plus, Then}
use Rattle.cbor_edn_model.specs.tree.Trees.{OnePiece, OneString, OneEntry, Rest, Tree, PlusTree, MoreTree, items}
use Rattle.cbor_edn_model.specs.tree.Rows.{entries_onto, pieces_onto}
use Rattle.cbor_edn_model.specs.layout.Layout.{Layout, Between, BeforePlus, AfterPlus, respaced, laid}
use Rattle.cbor_edn_model.specs.layout.Bare.{without_indicators}
use Rattle.cbor_edn_model.specs.internal.LayoutRows.{laid_entry, entry_without_indicators, entry_items, laid_piece, piece_without_indicators, piece_items}

pub laid_entries : {k : Row} (l : Layout) (ps : List (Tree (OneEntry k) × List ℕ)) (m : Tree (Rest k)) → laid l (entries_onto ps m) ≡ entries_onto (map (laid_entry l) ps) (laid l m)
unfolding laid
laid_entries l [] m = refl
laid_entries l (p ∷ ps) m = ap (MoreTree (laid l p.0) (respaced Separating Between l p.1)) (laid_entries l ps m)

pub laid_pieces : (l : Layout) (ps : List (Tree OnePiece × List ℕ × List ℕ)) (w : Tree OneString) → laid l (pieces_onto ps w) ≡ pieces_onto (map (laid_piece l) ps) (laid l w)
unfolding laid
laid_pieces l [] w = refl
laid_pieces l (p ∷ ps) w = ap (PlusTree p.0 (respaced Optional BeforePlus l p.1) (respaced Optional AfterPlus l p.2)) (laid_pieces l ps w)

pub entries_without_indicators : {k : Row} (ps : List (Tree (OneEntry k) × List ℕ)) (m : Tree (Rest k)) → without_indicators (entries_onto ps m) ≡ entries_onto (map entry_without_indicators ps) (without_indicators m)
unfolding without_indicators
entries_without_indicators [] m = refl
entries_without_indicators (p ∷ ps) m = ap (MoreTree (without_indicators p.0) p.1) (entries_without_indicators ps m)

pub pieces_without_indicators : (ps : List (Tree OnePiece × List ℕ × List ℕ)) (w : Tree OneString) → without_indicators (pieces_onto ps w) ≡ pieces_onto (map piece_without_indicators ps) (without_indicators w)
unfolding without_indicators
pieces_without_indicators [] w = refl
pieces_without_indicators (p ∷ ps) w = ap (PlusTree (without_indicators p.0) p.1 p.2) (pieces_without_indicators ps w)

-- rows with the same items, whatever their spaces
pub same_entries : {k : Row} (ps qs : List (Tree (OneEntry k) × List ℕ)) (m n : Tree (Rest k)) → map entry_items ps ≡ map entry_items qs → items m ≡ items n → items (entries_onto ps m) ≡ items (entries_onto qs n)
unfolding items
same_entries [] [] m n e h = h
same_entries [] (q ∷ qs) m n e h = absurd cc
same_entries (p ∷ ps) [] m n e h = absurd cc
same_entries (p ∷ ps) (q ∷ qs) m n e h =
    let first : items p.0 ≡ items q.0 = cc in
    let others : map entry_items ps ≡ map entry_items qs = cc in
    ap (λ x. Then x (items (entries_onto ps m))) first ∙ ap (Then (items q.0)) (same_entries ps qs m n others h)

pub same_pieces : (ps qs : List (Tree OnePiece × List ℕ × List ℕ)) (w v : Tree OneString) → map piece_items ps ≡ map piece_items qs → items w ≡ items v → items (pieces_onto ps w) ≡ items (pieces_onto qs v)
unfolding items
same_pieces [] [] w v e h = h
same_pieces [] (q ∷ qs) w v e h = absurd cc
same_pieces (p ∷ ps) [] w v e h = absurd cc
same_pieces (p ∷ ps) (q ∷ qs) w v e h =
    let first : items p.0 ≡ items q.0 = cc in
    let others : map piece_items ps ≡ map piece_items qs = cc in
    ap (λ x. Plus x (items (pieces_onto ps w))) first ∙ ap (Plus (items q.0)) (same_pieces ps qs w v others h)
