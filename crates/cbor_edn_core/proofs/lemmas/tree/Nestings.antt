-- How deep items nest, by the levels that count: what a reader counts, what a visit counts, and rows by their entries.
use Rattle.std.proofs.Common.{ℕ, suc, max, ◌≡◌, List, [], ◌∷◌, refl, ap, arith}
use Rattle.cbor_edn_core.specs.declared.tree.nesting.Levels.{Levels}
use Rattle.cbor_edn_core.specs.declared.tree.nesting.Levels.TheVariants as levels
use Rattle.cbor_edn_model.specs.declared.text.opener.OpenerKind.TheVariants as opener
use Rattle.cbor_edn_model.specs.tree.Items.{Row}
use Rattle.cbor_edn_model.specs.tree.Rows.{entries_onto, pieces_onto}
use Rattle.cbor_edn_model.specs.tree.Trees.{Rule, Tree, OneEntry, OnePiece, OneString, Rest, NumberTree, FloatTree, NamedTree, EnclosedTree, ListTree, StringTree, StreamTree, LiteralTree, EllipsisTree, EmbeddedTree, LastPieceTree, PlusTree, ElementTree, PairTree, ChunkTree, EmptyTree, FullTree, LastTree, MoreTree, NothingTree, SequenceTree, StandaloneTree, tree_nesting}
use Rattle.cbor_edn_model.specs.visit.Depth.{depth}
use Rattle.cbor_edn_core.specs.tree.Nestings.{nesting_by, entries_nesting, pieces_nesting}

pub nesting_read : {s : Rule} (w : Tree s) → nesting_by levels.Read w ≡ tree_nesting w
nesting_read (NumberTree x i) = refl
nesting_read (FloatTree f i) = refl
nesting_read (NamedTree b) = refl
nesting_read (EnclosedTree (opener.Tag i n) w) = ap suc (nesting_read w)
nesting_read (EnclosedTree opener.Simple w) = ap suc (nesting_read w)
nesting_read (ListTree k w) = ap suc (nesting_read w)
nesting_read (StringTree w) = nesting_read w
nesting_read (StreamTree ms m) = nesting_read m
nesting_read (LiteralTree x i) = refl
nesting_read (EllipsisTree x) = refl
nesting_read (EmbeddedTree w i) = ap suc (nesting_read w)
nesting_read (LastPieceTree p) = nesting_read p
nesting_read (PlusTree p s t w) = rw (nesting_read p, nesting_read w)
nesting_read (ElementTree w) = nesting_read w
nesting_read (PairTree v s t w) = rw (nesting_read v, nesting_read w)
nesting_read (ChunkTree w) = nesting_read w
nesting_read (EmptyTree i s) = refl
nesting_read (FullTree h s m) = nesting_read m
nesting_read (LastTree e s) = nesting_read e
nesting_read (MoreTree e s m) = rw (nesting_read e, nesting_read m)
nesting_read (NothingTree s) = refl
nesting_read (SequenceTree s m) = nesting_read m
nesting_read (StandaloneTree s w t) = nesting_read w

pub nesting_visited : {s : Rule} (w : Tree s) → nesting_by levels.Visited w ≡ depth w
unfolding depth
nesting_visited (NumberTree x i) = refl
nesting_visited (FloatTree f i) = refl
nesting_visited (NamedTree b) = refl
nesting_visited (EnclosedTree (opener.Tag i n) w) = ap suc (nesting_visited w)
nesting_visited (EnclosedTree opener.Simple w) = refl
nesting_visited (ListTree k w) = ap suc (nesting_visited w)
nesting_visited (StringTree w) = nesting_visited w
nesting_visited (StreamTree ms m) = nesting_visited m
nesting_visited (LiteralTree x i) = refl
nesting_visited (EllipsisTree x) = refl
nesting_visited (EmbeddedTree w i) = ap suc (nesting_visited w)
nesting_visited (LastPieceTree p) = nesting_visited p
nesting_visited (PlusTree p s t w) = rw (nesting_visited p, nesting_visited w)
nesting_visited (ElementTree w) = nesting_visited w
nesting_visited (PairTree v s t w) = rw (nesting_visited v, nesting_visited w)
nesting_visited (ChunkTree w) = nesting_visited w
nesting_visited (EmptyTree i s) = refl
nesting_visited (FullTree h s m) = nesting_visited m
nesting_visited (LastTree e s) = nesting_visited e
nesting_visited (MoreTree e s m) = rw (nesting_visited e, nesting_visited m)
nesting_visited (NothingTree s) = refl
nesting_visited (SequenceTree s m) = nesting_visited m
nesting_visited (StandaloneTree s w t) = nesting_visited w

pub nesting_entries : (l : Levels) {k : Row} (ps : List (Tree (OneEntry k) × List ℕ)) (m : Tree (Rest k)) → nesting_by l (entries_onto ps m) ≡ max (entries_nesting l ps) (nesting_by l m)
nesting_entries l [] m = omega arith
nesting_entries l (p ∷ ps) m = let h = nesting_entries l ps m in omega (arith, h)

pub nesting_pieces : (l : Levels) (ps : List (Tree OnePiece × List ℕ × List ℕ)) (w : Tree OneString) → nesting_by l (pieces_onto ps w) ≡ max (pieces_nesting l ps) (nesting_by l w)
nesting_pieces l [] w = omega arith
nesting_pieces l (p ∷ ps) w = let h = nesting_pieces l ps w in omega (arith, h)
