-- A whole visit of a tree is one of its items.
use Rattle.std.proofs.Common.{ℕ, suc, max, ◌≡◌, ◌↔◌, List, [], Option, Some, None, All, refl, sym, ap, subst, arith}
use Rattle.std.proofs.lemmas.List.Elements.{All-head, All-tail}
use Rattle.cbor_edn_model.specs.access.Accessed.{string_tree, IsApplicationPiece}
use Rattle.cbor_edn_model.specs.declared.text.opener.OpenerKind.{OpenerKind}
use Rattle.cbor_edn_model.specs.declared.text.opener.OpenerKind.TheVariants as opener
use Rattle.cbor_edn_model.specs.visit.Depth.{depth, embedded_depth}
use Rattle.cbor_edn_model.specs.tree.Items as kind
use Rattle.cbor_edn_model.specs.tree.Items.{Row, Sort, Item, Piece, Pieces, Entry, Entries, entries_of, Elements, Node}
use Rattle.cbor_edn_model.specs.visit.Seeking as tree
use Rattle.cbor_edn_model.specs.visit.Seeking.{CallArguments, prefix_and_text, IsTag, IsApplication, SoughtCall, VisitItem, VisitParts, of_number, of_float, of_name, of_tag, of_simple, of_list, of_string, of_stream, of_literal, of_ellipsis, of_embedded, of_last_piece, of_pieces, of_pieces_cut, of_none_inside, of_all_inside, of_last, of_more, of_more_cut, of_nothing, of_sequence, of_standalone, VisitEntry, of_element, of_pair, of_pair_cut, of_chunk}
use Rattle.cbor_edn_model.specs.tree.Trees.{Rule, Tree, OneItem, OnePiece, OneString, OneEntry, Inside, Rest, Seq, Standalone, NumberTree, FloatTree, NamedTree, EnclosedTree, ListTree, StringTree, StreamTree, LiteralTree, EllipsisTree, EmbeddedTree, LastPieceTree, PlusTree, ElementTree, PairTree, ChunkTree, EmptyTree, FullTree, LastTree, MoreTree, NothingTree, SequenceTree, StandaloneTree, Of, items}
use Rattle.cbor_edn_model.specs.visit.Visits.{Ending, whole}
use Rattle.cbor_edn_conversions.specs.VisitedItems.{node_depth, IsTagNode, IsApplicationNode, ReachedItem, passed, entered, stayed, VisitedNode, number, float, named, simple, listed, tagged, string, stream, literal, ellipsis, embedded, last_piece, plus, element, pair, chunk, end, then}
use Rattle.cbor_edn_conversions.proofs.resolving.Keeping.{all_split}

-- ---- how deep they nest

abbrev depth_of : (k : Rule) → Of k → ℕ
depth_of OneItem x = node_depth x
depth_of OnePiece x = node_depth x
depth_of OneString x = node_depth x
depth_of (OneEntry k) x = node_depth x
depth_of (Inside k) x = node_depth x.1
depth_of (Rest k) x = node_depth x
depth_of Seq x = node_depth x
depth_of Standalone x = node_depth x

same_max : (a b c d : ℕ) → a ≡ c → b ≡ d → max a b ≡ max c d
same_max a b c d e f = cc

depth_items : {k : Rule} (w : Tree k) → depth w ≡ depth_of k (items w)
unfolding depth items
depth_items (NumberTree x i) = refl
depth_items (FloatTree f i) = refl
depth_items (NamedTree b) = refl
depth_items (EnclosedTree (opener.Tag i n) w) = ap (λ d. suc d) (depth_items w)
depth_items (EnclosedTree opener.Simple w) = refl
depth_items (ListTree k w) = ap (λ d. suc d) (depth_items w)
depth_items (StringTree w) = depth_items w
depth_items (StreamTree ms m) = depth_items m
depth_items (LiteralTree x i) = refl
depth_items (EllipsisTree x) = refl
depth_items (EmbeddedTree w i) = ap embedded_depth (depth_items w)
depth_items (LastPieceTree p) = depth_items p
depth_items (PlusTree p s t w) = same_max _ _ _ _ (depth_items p) (depth_items w)
depth_items (ElementTree w) = depth_items w
depth_items (PairTree v s t w) = same_max _ _ _ _ (depth_items v) (depth_items w)
depth_items (ChunkTree w) = depth_items w
depth_items (EmptyTree i s) = refl
depth_items (FullTree h s m) = depth_items m
depth_items (LastTree e s) = let h = depth_items e in omega (arith, h)
depth_items (MoreTree e s m) = same_max _ _ _ _ (depth_items e) (depth_items m)
depth_items (NothingTree s) = refl
depth_items (SequenceTree s m) = depth_items m
depth_items (StandaloneTree s w t) = depth_items w

pub item_depth : (w : Tree OneItem) → depth w ≡ node_depth (items w)
item_depth w = depth_items w

-- ---- what is sought

enclosed_tag : (l : OpenerKind) (w : Tree Standalone) (a : CallArguments) → IsTag (EnclosedTree l w) a ↔ IsTagNode (items (EnclosedTree l w)) a
unfolding items
enclosed_tag (opener.Tag i n) w (tree.number m) = (λ e. cc, λ e. cc)
enclosed_tag (opener.Tag i n) w (prefix_and_text p t) = (λ e. e, λ e. e)
enclosed_tag opener.Simple w (tree.number m) = (λ e. absurd cc, λ e. absurd e)
enclosed_tag opener.Simple w (prefix_and_text p t) = (λ e. e, λ e. e)

pub tag_node : (w : Tree OneItem) (a : CallArguments) → IsTag w a ↔ IsTagNode (items w) a
unfolding items
tag_node (EnclosedTree l w) a = enclosed_tag l w a
tag_node (NumberTree x i) (tree.number m) = (λ e. absurd cc, λ e. absurd e)
tag_node (NumberTree x i) (prefix_and_text p t) = (λ e. e, λ e. e)
tag_node (FloatTree f i) (tree.number m) = (λ e. absurd cc, λ e. absurd e)
tag_node (FloatTree f i) (prefix_and_text p t) = (λ e. e, λ e. e)
tag_node (NamedTree b) (tree.number m) = (λ e. absurd cc, λ e. absurd e)
tag_node (NamedTree b) (prefix_and_text p t) = (λ e. e, λ e. e)
tag_node (ListTree k w) (tree.number m) = (λ e. absurd cc, λ e. absurd e)
tag_node (ListTree k w) (prefix_and_text p t) = (λ e. e, λ e. e)
tag_node (StringTree w) (tree.number m) = (λ e. absurd cc, λ e. absurd e)
tag_node (StringTree w) (prefix_and_text p t) = (λ e. e, λ e. e)
tag_node (StreamTree s m) (tree.number n) = (λ e. absurd cc, λ e. absurd e)
tag_node (StreamTree s m) (prefix_and_text p t) = (λ e. e, λ e. e)

abbrev given_string : Tree OneString → Option (Tree OneString)
given_string w = Some w

last_is : (l m : Tree OnePiece) → given_string (LastPieceTree l) ≡ given_string (LastPieceTree m) → l ≡ m
last_is l m e = cc

of_last_literal : (l : Tree OnePiece) (p t : List ℕ) → IsApplication (StringTree (LastPieceTree l)) (prefix_and_text p t) ↔ IsApplicationPiece l p t
of_last_literal l p t = (λ a. subst (λ m. IsApplicationPiece m p t) (sym (last_is l a.0 a.1)) a.2, λ a. (l, refl, a))

enclosed_literal : (l : OpenerKind) (w : Tree Standalone) (p t : List ℕ) → IsApplicationNode (items (EnclosedTree l w)) (prefix_and_text p t) → ⊥
unfolding items
enclosed_literal (opener.Tag i n) w p t e = e
enclosed_literal opener.Simple w p t e = e

enclosed_number : (l : OpenerKind) (w : Tree Standalone) (n : ℕ) → IsApplicationNode (items (EnclosedTree l w)) (tree.number n) → ⊥
unfolding items
enclosed_number (opener.Tag i m) w n e = e
enclosed_number opener.Simple w n e = e

no_string : (w : Tree OneItem) (p t : List ℕ) → string_tree w ≡ None → IsApplication w (prefix_and_text p t) → ⊥
no_string w p t none a = let some = a.1 in absurd cc

enclosed_none : (l : OpenerKind) (w : Tree Standalone) (p t : List ℕ) → IsApplication (EnclosedTree l w) (prefix_and_text p t) → ⊥
enclosed_none l w p t a = no_string (EnclosedTree l w) p t refl a

pub application_node : (w : Tree OneItem) (a : CallArguments) → IsApplication w a ↔ IsApplicationNode (items w) a
unfolding items
application_node (StringTree (LastPieceTree (LiteralTree x i))) (prefix_and_text p t) = of_last_literal (LiteralTree x i) p t
application_node (StringTree (LastPieceTree (EllipsisTree x))) (prefix_and_text p t) = of_last_literal (EllipsisTree x) p t
application_node (StringTree (LastPieceTree (EmbeddedTree w i))) (prefix_and_text p t) = of_last_literal (EmbeddedTree w i) p t
application_node (StringTree (PlusTree q s u w)) (prefix_and_text p t) = (λ a. let e = a.1 in absurd cc, λ e. absurd e)
application_node (EnclosedTree l w) (prefix_and_text p t) = (λ a. absurd (enclosed_none l w p t a), λ a. absurd (enclosed_literal l w p t a))
application_node (NumberTree x i) (prefix_and_text p t) = (λ a. absurd (no_string (NumberTree x i) p t refl a), λ e. absurd e)
application_node (FloatTree f i) (prefix_and_text p t) = (λ a. absurd (no_string (FloatTree f i) p t refl a), λ e. absurd e)
application_node (NamedTree b) (prefix_and_text p t) = (λ a. absurd (no_string (NamedTree b) p t refl a), λ e. absurd e)
application_node (ListTree k w) (prefix_and_text p t) = (λ a. absurd (no_string (ListTree k w) p t refl a), λ e. absurd e)
application_node (StreamTree s m) (prefix_and_text p t) = (λ a. absurd (no_string (StreamTree s m) p t refl a), λ e. absurd e)
application_node (StringTree (LastPieceTree (LiteralTree x i))) (tree.number n) = (λ e. e, λ e. e)
application_node (StringTree (LastPieceTree (EllipsisTree x))) (tree.number n) = (λ e. e, λ e. e)
application_node (StringTree (LastPieceTree (EmbeddedTree w i))) (tree.number n) = (λ e. e, λ e. e)
application_node (StringTree (PlusTree q s u w)) (tree.number n) = (λ e. e, λ e. e)
application_node (EnclosedTree l w) (tree.number n) = (λ e. absurd e, λ e. absurd (enclosed_number l w n e))
application_node (NumberTree x i) (tree.number n) = (λ e. e, λ e. e)
application_node (FloatTree f i) (tree.number n) = (λ e. e, λ e. e)
application_node (NamedTree b) (tree.number n) = (λ e. e, λ e. e)
application_node (ListTree k w) (tree.number n) = (λ e. e, λ e. e)
application_node (StreamTree s m) (tree.number n) = (λ e. e, λ e. e)

-- ---- the visit

module _ (Sought : Tree OneItem → CallArguments → Type 0) (SoughtNode : Node Item → CallArguments → Type 0) (sought : (w : Tree OneItem) (a : CallArguments) → Sought w a ↔ SoughtNode (items w) a)
    (Good : SoughtCall → Type 0) (Step : CallArguments → Node Item → Node Item → Type 0) (steps : (c : SoughtCall) → Good c → Step c.arguments (items c.before) (items c.after)) where
  abbrev pub VisitedOf : (k : Rule) → Of k → Of k → Type 0
  VisitedOf OneItem x y = VisitedNode SoughtNode Step Item x y
  VisitedOf OnePiece x y = VisitedNode SoughtNode Step Piece x y
  VisitedOf OneString x y = VisitedNode SoughtNode Step Pieces x y
  VisitedOf (OneEntry k) x y = VisitedNode SoughtNode Step (Entry k) x y
  VisitedOf (Inside k) x y = (x.0 ≡ y.0) × VisitedNode SoughtNode Step (Entries (entries_of k)) x.1 y.1
  VisitedOf (Rest k) x y = VisitedNode SoughtNode Step (Entries k) x y
  VisitedOf Seq x y = VisitedNode SoughtNode Step (Entries Elements) x y
  VisitedOf Standalone x y = ReachedItem SoughtNode Step x y

  mutual
    unfolding items

    pub item_visited : {w v : Tree OneItem} {s t : List ℕ} {cs : List SoughtCall} {r : Ending} → VisitItem Sought w s cs v t r → r ≡ whole → All Good cs → ReachedItem SoughtNode Step (items w) (items v)
    item_visited (tree.passed {w = w} n a) is all = passed (λ b e. n b ((sought w b).1 e)) (parts_visited a is all)
    item_visited (tree.entered {c = c} {cs = cs} s f d a) is all =
        entered c.arguments ((sought c.before c.arguments).0 s) (steps c (All-head Good c cs all)) (let x = item_depth c.before in let y = item_depth c.after in omega (arith, x, y, d)) (parts_visited a is (All-tail Good c cs all))
    item_visited (tree.stayed {c = c} s f d) is all =
        stayed c.arguments ((sought c.before c.arguments).0 s) (steps c (All-head Good c [] all)) (let x = item_depth c.before in let y = item_depth c.after in omega (arith, x, y, d))
    item_visited (tree.refused s f) is all = absurd cc
    item_visited (tree.not_called s) is all = absurd cc

    pub parts_visited : {k : Rule} {w v : Tree k} {cs : List SoughtCall} {r : Ending} → VisitParts Sought k w cs v r → r ≡ whole → All Good cs → VisitedOf k (items w) (items v)
    parts_visited of_number is all = number
    parts_visited of_float is all = float
    parts_visited of_name is all = named
    parts_visited (of_tag a) is all = tagged (parts_visited a is all)
    parts_visited of_simple is all = simple
    parts_visited (of_list {k = k} {w = w} {v = v} a) is all =
        let h = parts_visited a is all in subst (λ i. VisitedNode SoughtNode Step Item (kind.Listed k (items w).0 (items w).1) (kind.Listed k i (items v).1)) h.0 (listed h.1)
    parts_visited (of_string a) is all = string (parts_visited a is all)
    parts_visited (of_stream a) is all = stream (parts_visited a is all)
    parts_visited of_literal is all = literal
    parts_visited of_ellipsis is all = ellipsis
    parts_visited (of_embedded a) is all = embedded (parts_visited a is all)
    parts_visited (of_last_piece a) is all = last_piece (parts_visited a is all)
    parts_visited (of_pieces {cs = cs} {ds = ds} a b e) is all = let h = all_split Good cs ds (subst (All Good) e all) in plus (parts_visited a refl h.0) (parts_visited b is h.1)
    parts_visited (of_pieces_cut a) is all = absurd cc
    parts_visited of_none_inside is all = (refl, end)
    parts_visited (of_all_inside a) is all = (refl, parts_visited a is all)
    parts_visited (of_last a) is all = then (entry_visited a is all) end
    parts_visited (of_more {cs = cs} {ds = ds} a b e) is all = let h = all_split Good cs ds (subst (All Good) e all) in then (entry_visited a refl h.0) (parts_visited b is h.1)
    parts_visited (of_more_cut a) is all = absurd cc
    parts_visited of_nothing is all = end
    parts_visited (of_sequence a) is all = parts_visited a is all
    parts_visited (of_standalone a) is all = item_visited a is all

    pub entry_visited : {k : Row} {e f : Tree (OneEntry k)} {s t : List ℕ} {cs : List SoughtCall} {r : Ending} → VisitEntry Sought k e s cs f t r → r ≡ whole → All Good cs → VisitedNode SoughtNode Step (Entry k) (items e) (items f)
    entry_visited (of_element a) is all = element (item_visited a is all)
    entry_visited (of_pair {cs = cs} {ds = ds} a b e) is all = let h = all_split Good cs ds (subst (All Good) e all) in pair (item_visited a refl h.0) (item_visited b is h.1)
    entry_visited (of_pair_cut a) is all = absurd cc
    entry_visited (of_chunk a) is all = chunk (parts_visited a is all)
