-- Where paths lead in a tree, and what the tree is with another item there.
use Rattle.std.specs.Prelude.{ℕ, ◌-◌, ◌==◌, ltb, if◌then◌else◌, length, slice_get, List, [], ◌∷◌, ◌++◌, Option, Some, None, option_map, option_and_then, unwrap_or}
use Rattle.cbor_edn_model.specs.declared.text.opener.OpenerKind.TheVariants as opener
use Rattle.cbor_edn_model.specs.tree.Trees.{Rule, Tree, OneItem, Seq, Standalone, NumberTree, FloatTree, NamedTree, EnclosedTree, ListTree, StringTree, StreamTree, LiteralTree, EllipsisTree, EmbeddedTree, LastPieceTree, PlusTree, ElementTree, PairTree, ChunkTree, EmptyTree, FullTree, LastTree, MoreTree, NothingTree, SequenceTree, StandaloneTree}

-- The items right below an item, in text order: the elements of an array, the keys and values of a map, the content of a tag, and
-- the items of the sequences that are embedded in a string, whose pieces and chunks stand one behind the other. Nothing stands
-- below `simple(..)`. Of any other part of a tree: the items in it that stand in no other item of it.
abbrev pub items_in : {s : Rule} → Tree s → List (Tree OneItem)
items_in (NumberTree x i) = []
items_in (FloatTree f i) = []
items_in (NamedTree b) = []
items_in (EnclosedTree (opener.Tag i n) w) = items_in w
items_in (EnclosedTree opener.Simple w) = []
items_in (ListTree k w) = items_in w
items_in (StringTree w) = items_in w
items_in (StreamTree ms m) = items_in m
items_in (LiteralTree x i) = []
items_in (EllipsisTree x) = []
items_in (EmbeddedTree w i) = items_in w
items_in (LastPieceTree p) = items_in p
items_in (PlusTree p s t w) = items_in p ++ items_in w
items_in (ElementTree w) = w ∷ []
items_in (PairTree v s t w) = v ∷ w ∷ []
items_in (ChunkTree w) = items_in w
items_in (EmptyTree i s) = []
items_in (FullTree h s m) = items_in m
items_in (LastTree e s) = items_in e
items_in (MoreTree e s m) = items_in e ++ items_in m
items_in (NothingTree s) = []
items_in (SequenceTree s m) = items_in m
items_in (StandaloneTree s w t) = w ∷ []

-- Where a path leads from an item: the item itself where the path is empty, else on from the item below it that the first number
-- counts, from 0. So `2k` and `2k + 1` lead to the k-th key of a map and its value.
abbrev pub at : List ℕ → Tree OneItem → Option (Tree OneItem)
at [] w = Some w
at (i ∷ path) w = option_and_then (at path) (slice_get (items_in w) i)

-- the same from an item between spaces
abbrev pub at_standalone : List ℕ → Tree Standalone → Option (Tree OneItem)
at_standalone path (StandaloneTree s w t) = at path w

-- the same from a sequence, of which the first number picks the item: an empty path leads nowhere
abbrev pub at_sequence : List ℕ → Tree Seq → Option (Tree OneItem)
at_sequence [] w = None
at_sequence (i ∷ path) w = option_and_then (at path) (slice_get (items_in w) i)

-- A part of a tree with x in place of the item that stands at i in it. Nothing else changes, and where there is no such item
-- nothing does.
abbrev pub with_item : {s : Rule} → ℕ → Tree OneItem → Tree s → Tree s
with_item i x (NumberTree n p) = NumberTree n p
with_item i x (FloatTree f p) = FloatTree f p
with_item i x (NamedTree b) = NamedTree b
with_item i x (EnclosedTree (opener.Tag p n) w) = EnclosedTree (opener.Tag p n) (with_item i x w)
with_item i x (EnclosedTree opener.Simple w) = EnclosedTree opener.Simple w
with_item i x (ListTree k w) = ListTree k (with_item i x w)
with_item i x (StringTree w) = StringTree (with_item i x w)
with_item i x (StreamTree ms m) = StreamTree ms (with_item i x m)
with_item i x (LiteralTree y p) = LiteralTree y p
with_item i x (EllipsisTree y) = EllipsisTree y
with_item i x (EmbeddedTree w p) = EmbeddedTree (with_item i x w) p
with_item i x (LastPieceTree p) = LastPieceTree (with_item i x p)
with_item i x (PlusTree p s t w) =
    if ltb i (length (items_in p)) then PlusTree (with_item i x p) s t w else PlusTree p s t (with_item (i - length (items_in p)) x w)
with_item i x (ElementTree w) = ElementTree (if i == 0 then x else w)
with_item i x (PairTree v s t w) = PairTree (if i == 0 then x else v) s t (if i == 1 then x else w)
with_item i x (ChunkTree w) = ChunkTree (with_item i x w)
with_item i x (EmptyTree p s) = EmptyTree p s
with_item i x (FullTree h s m) = FullTree h s (with_item i x m)
with_item i x (LastTree e s) = LastTree (with_item i x e) s
with_item i x (MoreTree e s m) =
    if ltb i (length (items_in e)) then MoreTree (with_item i x e) s m else MoreTree e s (with_item (i - length (items_in e)) x m)
with_item i x (NothingTree s) = NothingTree s
with_item i x (SequenceTree s m) = SequenceTree s (with_item i x m)
with_item i x (StandaloneTree s w t) = StandaloneTree s (if i == 0 then x else w) t

-- An item with x in place of the item where a path leads, and the item itself where it leads nowhere.
abbrev pub with_at : List ℕ → Tree OneItem → Tree OneItem → Tree OneItem
with_at [] x w = x
with_at (i ∷ path) x w = unwrap_or (option_map (λ c. with_item i (with_at path x c) w) (slice_get (items_in w) i)) w

-- the same of an item between spaces, and of a sequence
abbrev pub with_at_standalone : List ℕ → Tree OneItem → Tree Standalone → Tree Standalone
with_at_standalone path x (StandaloneTree s w t) = StandaloneTree s (with_at path x w) t

abbrev pub with_at_sequence : List ℕ → Tree OneItem → Tree Seq → Tree Seq
with_at_sequence [] x w = w
with_at_sequence (i ∷ path) x w = unwrap_or (option_map (λ c. with_item i (with_at path x c) w) (slice_get (items_in w) i)) w
