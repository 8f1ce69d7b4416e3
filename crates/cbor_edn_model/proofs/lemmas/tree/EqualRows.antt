-- When two lists of entries are the same.
use Rattle.std.proofs.Common.{◌≡◌, ◌≢◌, ℕ, List, [], ◌∷◌, Bool, true, false, ◌&&◌, length, map, refl, ap, ◌∙◌, arith}
use Rattle.cbor_edn_model.specs.tree.Items.{Row}
use Rattle.cbor_edn_model.specs.tree.Trees.{Tree, OnePiece, OneEntry, LastTree, LastPieceTree}
use Rattle.cbor_edn_model.specs.internal.Same.{same_tree, same_bytes, same_entries, same_pieces}
use Rattle.cbor_edn_model.specs.tree.Rows.{entries_onto, pieces_onto}

false_behind : (a b c : Bool) → c ≡ false → (a && (b && c)) ≡ false
false_behind false b c e = refl
false_behind true false c e = refl
false_behind true true c e = e

regroup : (a b c d : Bool) → (a && (b && (c && d))) ≡ ((a && (b && c)) && d)
regroup false b c d = refl
regroup true false c d = refl
regroup true true c d = refl

-- Two rows that end in a last entry are the same if what stands before that is, and the ends are.
pub same_lists : {k : Row} (ps qs : List (Tree (OneEntry k) × List ℕ)) (x y : Tree (OneEntry k)) (s t : List ℕ)
    → same_tree (entries_onto ps (LastTree x s)) (entries_onto qs (LastTree y t)) ≡ (same_entries ps qs && (same_tree x y && same_bytes s t))
same_lists [] [] x y s t = refl
same_lists [] (q ∷ qs) x y s t = refl
same_lists (p ∷ ps) [] x y s t = refl
same_lists (p ∷ ps) (q ∷ qs) x y s t =
    ap (λ b. same_tree p.0 q.0 && (same_bytes p.1 q.1 && b)) (same_lists ps qs x y s t)
    ∙ regroup (same_tree p.0 q.0) (same_bytes p.1 q.1) (same_entries ps qs) (same_tree x y && same_bytes s t)

pub rows_as_long : {A : Type 0} {k : Row} (f : A → Tree (OneEntry k) × List ℕ) (xs ys : List A) → length xs ≢ length ys → same_entries (map f xs) (map f ys) ≡ false
rows_as_long f [] [] h = absurd (h refl)
rows_as_long f [] (y ∷ ys) h = refl
rows_as_long f (x ∷ xs) [] h = refl
rows_as_long f (x ∷ xs) (y ∷ ys) h = false_behind _ _ _ (rows_as_long f xs ys (λ e. h (omega arith)))

regroup_pieces : (a b c d e : Bool) → (a && (b && (c && (d && e)))) ≡ ((a && (b && (c && d))) && e)
regroup_pieces false b c d e = refl
regroup_pieces true b c d e = regroup b c d e

-- The same of two rows of pieces that end in a last piece.
pub same_strings : (ps qs : List (Tree OnePiece × List ℕ × List ℕ)) (x y : Tree OnePiece)
    → same_tree (pieces_onto ps (LastPieceTree x)) (pieces_onto qs (LastPieceTree y)) ≡ (same_pieces ps qs && same_tree x y)
same_strings [] [] x y = refl
same_strings [] (q ∷ qs) x y = refl
same_strings (p ∷ ps) [] x y = refl
same_strings (p ∷ ps) (q ∷ qs) x y =
    ap (λ b. same_tree p.0 q.0 && (same_bytes p.1 q.1 && (same_bytes p.2 q.2 && b))) (same_strings ps qs x y)
    ∙ regroup_pieces (same_tree p.0 q.0) (same_bytes p.1 q.1) (same_bytes p.2 q.2) (same_pieces ps qs) (same_tree x y)

last_false : (a b c d : Bool) → d ≡ false → (a && (b && (c && d))) ≡ false
last_false false b c d e = refl
last_false true b c d e = false_behind b c d e

pub pieces_as_long : {A : Type 0} (f : A → Tree OnePiece × List ℕ × List ℕ) (xs ys : List A) → length xs ≢ length ys → same_pieces (map f xs) (map f ys) ≡ false
pieces_as_long f [] [] h = absurd (h refl)
pieces_as_long f [] (y ∷ ys) h = refl
pieces_as_long f (x ∷ xs) [] h = refl
pieces_as_long f (x ∷ xs) (y ∷ ys) h = last_false (same_tree (f x).0 (f y).0) (same_bytes (f x).1 (f y).1) (same_bytes (f x).2 (f y).2) _ (pieces_as_long f xs ys (λ e. h (omega arith)))
