-- Every tree of a decoded item's items is the decoder's, without comments and on a single line.
use Rattle.std.proofs.Common.{ℕ, ◌≡◌, List, [], ◌∷◌, Some, None, refl, sym, ap, ◌∙◌, subst}
use Rattle.std.specs.Prelude.{pos, eqb}
use Rattle.std.specs.Fmt.{signed_decimal}
use Rattle.std.proofs.lemmas.Bool.{cond_both}
use Rattle.cbor_edn_parts.specs.declared.string.StringKind.{StringKind}
use Rattle.cbor_edn_parts.specs.internal.CommentReading.{from_first, to_last, up_to_comma as front, past_comma}
use Rattle.cbor_edn_parts.specs.declared.space.policy.Spacing.TheVariants.{Least, OneLine}
use Rattle.cbor_edn_model.specs.declared.text.keyword.NamedSimple.TheVariants.{False, True, Null, Undefined}
use Rattle.cbor_edn_model.specs.declared.text.opener.OpenerKind.{OpenerKind}
use Rattle.cbor_edn_model.specs.declared.text.opener.OpenerKind.TheVariants as opener
use Rattle.cbor_edn_model.specs.tree.Items.{Sort, Item, Node, Number, Float, Listed, Tagged, Named, Simple, String, Stream, Literal, Ellipsis, Embedded, LastPiece, Plus, Element, Pair, Chunk, End, Then}
use Rattle.cbor_edn_model.specs.tree.Trees.{Rule, OneItem, OnePiece, OneString, OneEntry, Inside, Rest, Seq, Standalone, Tree, ListHead, NoIndicator, WithIndicator, head_indicator, NumberTree, FloatTree, NamedTree, EnclosedTree, ListTree, StringTree, StreamTree, LiteralTree, EllipsisTree, EmbeddedTree, LastPieceTree, PlusTree, ElementTree, PairTree, ChunkTree, EmptyTree, FullTree, LastTree, MoreTree, NothingTree, SequenceTree, StandaloneTree, labelled, Of, items}
use Rattle.cbor_edn_model.specs.cbor.Value as values
use Rattle.cbor_edn_model.specs.cbor.Value.{Value, unsigned, negative, string, chunks, array, cbor_map, tag, simple, float, Values, no_values, value, Pairs, no_pairs, pair}
use Rattle.cbor_edn_model.specs.cbor.Decoded.{item_of, items_of, pairs_of, chunk_items, chunked_item, simple_item, alone}
use Rattle.cbor_edn_model.specs.internal.Regular.{in_front, spaced_list_head, list_inside, key_value, regular, regular_sequence, sequence_tree_of, stream_tree}
use Rattle.cbor_edn_model.specs.layout.Layout.{Layout, Inline, laid_list_head, laid}
use Rattle.cbor_edn_model.specs.layout.LayoutLaws.{DecodedStays, OneSingleLine}
use Rattle.cbor_edn_model.proofs.lemmas.layout.RegularLayout.{item_fixed, sequence_stays}

-- ---- items without plus signs and embedded sequences

abbrev Single : {s : Sort} → Node s → Type 0
Single (Number x i) = Unit {0}
Single (Float f i) = Unit {0}
Single (Listed k i m) = Single m
Single (Tagged n i w) = Single w
Single (Named b) = Unit {0}
Single (Simple w) = Single w
Single (String w) = Single w
Single (Stream m) = Single m
Single (Literal x i) = Unit {0}
Single (Ellipsis x) = Unit {0}
Single (Embedded m i) = ⊥
Single (LastPiece p) = Single p
Single (Plus p w) = ⊥
Single (Element w) = Single w
Single (Pair v w) = Single v × Single w
Single (Chunk w) = Single w
Single End = Unit {0}
Single (Then e m) = Single e × Single m

chunks_single : (k : StringKind) (cs : List values.Chunk) → Single (chunk_items k cs)
chunks_single k [] = tt
chunks_single k (c ∷ cs) = (tt, chunks_single k cs)

chunked_single : (k : StringKind) (cs : List values.Chunk) → Single (chunked_item k cs)
chunked_single k [] = tt
chunked_single k (c ∷ cs) = chunks_single k (c ∷ cs)

simple_single : (n : ℕ) → Single (simple_item n)
simple_single n =
    cond_both (eqb n 20) (Named False) _ (λ (x : Node Item). Single x) (λ e. tt)
    (λ e. cond_both (eqb n 21) (Named True) _ (λ (x : Node Item). Single x) (λ e. tt)
    (λ e. cond_both (eqb n 22) (Named Null) _ (λ (x : Node Item). Single x) (λ e. tt)
    (λ e. cond_both (eqb n 23) (Named Undefined) (Simple (Number (signed_decimal (pos n)) None)) (λ (x : Node Item). Single x) (λ e. tt) (λ e. tt))))

mutual
  item_single : (v : Value) → Single (item_of v)
  item_single (unsigned w n) = tt
  item_single (negative w n) = tt
  item_single (string k w bs) = tt
  item_single (chunks k cs) = chunked_single k cs
  item_single (array w vs) = items_single vs
  item_single (cbor_map w ps) = pairs_single ps
  item_single (tag w n v) = item_single v
  item_single (simple n) = simple_single n
  item_single (float w f) = tt

  items_single : (vs : Values) → Single (items_of vs)
  items_single no_values = tt
  items_single (value v vs) = (item_single v, items_single vs)

  pairs_single : (ps : Pairs) → Single (pairs_of ps)
  pairs_single no_pairs = tt
  pairs_single (pair k v ps) = ((item_single k, item_single v), pairs_single ps)

-- ---- their trees

abbrev SingleOf : (s : Rule) → Of s → Type 0
SingleOf OneItem x = Single x
SingleOf OnePiece x = Single x
SingleOf OneString x = Single x
SingleOf (OneEntry k) x = Single x
SingleOf (Inside k) p = Single p.1
SingleOf (Rest k) m = Single m
SingleOf Seq m = Single m
SingleOf Standalone x = Single x

-- a tree is the regular one of these items
abbrev IsRegular : (s : Rule) → Tree s → Of s → Type 0
IsRegular OneItem w x = w ≡ regular x
IsRegular OnePiece w x = w ≡ regular x
IsRegular OneString w x = w ≡ regular x
IsRegular (OneEntry k) w x = w ≡ regular x
IsRegular (Inside k) w p = w ≡ list_inside p.0 (regular p.1)
IsRegular (Rest k) w m = Some w ≡ regular m
IsRegular Seq w m = w ≡ sequence_tree_of (regular m)
IsRegular Standalone w x = w ≡ alone (regular x)

abbrev line : Layout
line = Inline OneLine

abbrev least : Layout
least = Inline Least

opener_regular : (l : OpenerKind) (x : Node Item) → regular (labelled l x) ≡ EnclosedTree l (alone (regular x))
unfolding regular
opener_regular (opener.Tag i n) x = refl
opener_regular opener.Simple x = refl

opener_single : (l : OpenerKind) (x : Node Item) → Single (labelled l x) → Single x
opener_single (opener.Tag i n) x s = s
opener_single opener.Simple x s = s

piece_regular : (p : Tree OnePiece) → Single (items p) → p ≡ regular (items p)
unfolding items regular
piece_regular (LiteralTree x i) s = refl
piece_regular (EllipsisTree x) s = refl
piece_regular (EmbeddedTree w i) s = absurd s

-- a string has no space then, under any layout
string_regular : (l m : Layout) (w : Tree OneString) → Single (items w) → laid l (laid m w) ≡ regular (items w)
unfolding items regular laid
string_regular l m (LastPieceTree p) s = ap LastPieceTree (piece_regular p s)
string_regular l m (PlusTree p t u w) s = absurd s

head_regular : (h : ListHead) → laid_list_head line (laid_list_head least h) ≡ spaced_list_head (head_indicator h)
unfolding from_first to_last front past_comma
head_regular NoIndicator = refl
head_regular (WithIndicator i ms) = refl

is_regular : {s : Rule} (w : Tree s) → SingleOf s (items w) → IsRegular s (laid line (laid least w)) (items w)
unfolding items regular laid from_first to_last front past_comma
is_regular (NumberTree x i) s = refl
is_regular (FloatTree f i) s = refl
is_regular (NamedTree b) s = refl
is_regular (EnclosedTree l w) s = ap (EnclosedTree l) (is_regular w (opener_single l (items w) s)) ∙ sym (opener_regular l (items w))
is_regular (ListTree k w) s = ap (ListTree k) (is_regular w s)
is_regular (StringTree w) s = ap StringTree (string_regular line least w s)
is_regular (StreamTree ms m) s = ap stream_tree (is_regular m s)
is_regular (LiteralTree x i) s = refl
is_regular (EllipsisTree x) s = refl
is_regular (EmbeddedTree w i) s = absurd s
is_regular (LastPieceTree p) s = ap LastPieceTree (piece_regular p s)
is_regular (PlusTree p t u w) s = absurd s
is_regular (ElementTree w) s = ap ElementTree (is_regular w s)
is_regular (PairTree v t u w) s = ap (λ v. key_value v (laid line (laid least w))) (is_regular v s.0) ∙ ap (key_value (regular (items v))) (is_regular w s.1)
is_regular (ChunkTree w) s = ap ChunkTree (string_regular _ _ w s)
is_regular (EmptyTree i t) s = refl
is_regular (FullTree h t m) s = ap (λ h. FullTree h [] (laid line (laid least m))) (head_regular h) ∙ ap (list_inside (head_indicator h)) (is_regular m s)
is_regular (LastTree e t) s = ap (λ e. Some (LastTree e [])) (is_regular e s.0)
is_regular (MoreTree e t m) s = ap (λ e. Some (in_front e (Some (laid line (laid least m))))) (is_regular e s.0) ∙ ap (λ m. Some (in_front (regular (items e)) m)) (is_regular m s.1)
is_regular (NothingTree t) s = refl
is_regular (SequenceTree t m) s = ap sequence_tree_of (is_regular m s)
is_regular (StandaloneTree t w u) s = ap alone (is_regular w s)

-- the tree of a value's item, and that of the items of values
pub item_regular : (v : Value) (w : Tree OneItem) → items w ≡ item_of v → laid line (laid least w) ≡ regular (item_of v)
item_regular v w e = is_regular w (subst (λ (x : Node Item). Single x) (sym e) (item_single v)) ∙ ap (λ (x : Node Item). regular x) e

pub sequence_regular : (vs : Values) (w : Tree Seq) → items w ≡ items_of vs → laid line (laid least w) ≡ regular_sequence (items_of vs)
sequence_regular vs w e = is_regular w (subst (λ (x : Of Seq). SingleOf Seq x) (sym e) (items_single vs)) ∙ ap (λ (m : Of Seq). regular_sequence m) e

pub decoded_stays : DecodedStays
decoded_stays = (
  λ v w e s. let r = s ∙ item_regular v w e in ap (laid line) r ∙ item_fixed v ∙ sym r,
  λ vs w e s. let r = s ∙ sequence_regular vs w e in ap (laid line) r ∙ sequence_stays vs ∙ sym r,
)

pub one_single_line : OneSingleLine
one_single_line = (
  λ v w u e f s t. s ∙ item_regular v w e ∙ sym (t ∙ item_regular v u f),
  λ vs w u e f s t. s ∙ sequence_regular vs w e ∙ sym (t ∙ sequence_regular vs u f),
)
