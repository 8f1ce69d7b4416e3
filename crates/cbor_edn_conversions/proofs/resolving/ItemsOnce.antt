-- A visit of items has one result where each call has one.
use Rattle.std.proofs.Common.{◌≡◌, ◌≤◌, ◌<◌, refl, sym, ap, ◌∙◌, subst, arith}
use Rattle.cbor_edn_parts.proofs.lemmas.string.Applications.{one_application}
use Rattle.cbor_edn_model.specs.tree.Items.{Elements, Strings, Sort, Item, Piece, Pieces, Entry, Entries, entries_of, Node, Number, Float, Listed, Tagged, Named, Simple, String, Stream, Literal, Ellipsis, Embedded, LastPiece, Plus, Element, Pair, Chunk, End, Then}
use Rattle.cbor_edn_model.specs.visit.Seeking as arguments
use Rattle.cbor_edn_model.specs.visit.Seeking.{CallArguments}
use Rattle.cbor_edn_conversions.specs.VisitedItems as visited
use Rattle.cbor_edn_conversions.specs.VisitedItems.{node_depth, IsTagNode, IsApplicationNode, ReachedItem, passed, entered, stayed, VisitedNode, number, float, named, simple, tagged, string, stream, literal, ellipsis, embedded, last_piece, plus, element, pair, chunk, end, then}

module _ (Sought : Node Item → CallArguments → Type 0) (Step : CallArguments → Node Item → Node Item → Type 0) where
  abbrev At : {s : Sort} → Node s → Node s → Type 0
  At {s} x y = VisitedNode Sought Step s x y

  abbrev Reached : Node Item → Node Item → Type 0
  Reached x y = ReachedItem Sought Step x y

  abbrev Inverted : {s : Sort} → Node s → Node s → Type 0
  Inverted (Number x i) y = y ≡ Number x i
  Inverted (Float f i) y = y ≡ Float f i
  Inverted (Named b) y = y ≡ Named b
  Inverted (Simple w) y = y ≡ Simple w
  Inverted (Listed k i m) y = (n : Node (Entries (entries_of k))) × At m n × (y ≡ Listed k i n)
  Inverted (Tagged n i w) y = (v : Node Item) × Reached w v × (y ≡ Tagged n i v)
  Inverted (String w) y = (v : Node Pieces) × At w v × (y ≡ String v)
  Inverted (Stream m) y = (n : Node (Entries Strings)) × At m n × (y ≡ Stream n)
  Inverted (Literal x i) y = y ≡ Literal x i
  Inverted (Ellipsis x) y = y ≡ Ellipsis x
  Inverted (Embedded m i) y = (n : Node (Entries Elements)) × At m n × (y ≡ Embedded n i)
  Inverted (LastPiece p) y = (q : Node Piece) × At p q × (y ≡ LastPiece q)
  Inverted (Plus p w) y = (q : Node Piece) × (v : Node Pieces) × At p q × At w v × (y ≡ Plus q v)
  Inverted (Element w) y = (v : Node Item) × Reached w v × (y ≡ Element v)
  Inverted (Pair a w) y = (b v : Node Item) × Reached a b × Reached w v × (y ≡ Pair b v)
  Inverted (Chunk w) y = (v : Node Pieces) × At w v × (y ≡ Chunk v)
  Inverted End y = y ≡ End
  Inverted (Then {k} e m) y = (f : Node (Entry k)) × (n : Node (Entries k)) × At e f × At m n × (y ≡ Then f n)

  inverted : {s : Sort} {x y : Node s} → VisitedNode Sought Step s x y → Inverted x y
  inverted number = refl
  inverted float = refl
  inverted named = refl
  inverted simple = refl
  inverted (visited.listed {n = n} a) = (n, a, refl)
  inverted (tagged {v = v} a) = (v, a, refl)
  inverted (string {v = v} a) = (v, a, refl)
  inverted (stream {n = n} a) = (n, a, refl)
  inverted literal = refl
  inverted ellipsis = refl
  inverted (embedded {n = n} a) = (n, a, refl)
  inverted (last_piece {q = q} a) = (q, a, refl)
  inverted (plus {q = q} {v = v} a b) = (q, v, a, b, refl)
  inverted (element {v = v} a) = (v, a, refl)
  inverted (pair {b = b} {v = v} c d) = (b, v, c, d, refl)
  inverted (chunk {v = v} a) = (v, a, refl)
  inverted end = refl
  inverted (then {f = f} {n = n} a b) = (f, n, a, b, refl)

  module _ (arguments_once : (x : Node Item) (a b : CallArguments) → Sought x a → Sought x b → a ≡ b) (one_answer : (a : CallArguments) (x y z : Node Item) → Step a x y → Step a x z → y ≡ z) where
    abbrev Once : {s : Sort} → Node s → Node s → Type 0
    Once {s} x y = (z : Node s) → VisitedNode Sought Step s x z → y ≡ z

    one_left : (x y z : Node Item) (a b : CallArguments) → Sought x a → Sought x b → Step a x y → Step b x z → y ≡ z
    one_left x y z a b s t h k = one_answer a x y z h (subst (λ a. Step a x z) (sym (arguments_once x a b s t)) k)

    passed_once : (x y z : Node Item) → ((a : CallArguments) → Sought x a → ⊥) → Once x y → Reached x z → y ≡ z
    passed_once x y z n once (passed m b) = once z b
    passed_once x y z n once (entered a s h d b) = absurd (n a s)
    passed_once x y z n once (stayed a s h d) = absurd (n a s)

    entered_once : (x l y z : Node Item) (a : CallArguments) → Sought x a → Step a x l → node_depth l ≤ node_depth x → Once l y → Reached x z → y ≡ z
    entered_once x l y z a s h d once (passed m b) = absurd (m a s)
    entered_once x l y z a s h d once (entered {z = m} b t k e v) = once z (subst (λ l. At l z) (sym (one_left x l m a b s t h k)) v)
    entered_once x l y z a s h d once (stayed b t k e) = let is = ap node_depth (one_left x l z a b s t h k) in absurd (omega (arith, is, d, e))

    stayed_once : (x y z : Node Item) (a : CallArguments) → Sought x a → Step a x y → node_depth x < node_depth y → Reached x z → y ≡ z
    stayed_once x y z a s h d (passed m b) = absurd (m a s)
    stayed_once x y z a s h d (entered {z = m} b t k e v) = let is = ap node_depth (one_left x y m a b s t h k) in absurd (omega (arith, is, d, e))
    stayed_once x y z a s h d (stayed b t k e) = one_left x y z a b s t h k

    mutual
      pub reached_once : {x y : Node Item} → ReachedItem Sought Step x y → (z : Node Item) → ReachedItem Sought Step x z → y ≡ z
      reached_once (passed {x = x} {y = y} n a) z b = passed_once x y z n (visited_once a) b
      reached_once (entered {x = x} {y = y} {z = l} a s h d v) z b = entered_once x l y z a s h d (visited_once v) b
      reached_once (stayed {x = x} {z = y} a s h d) z b = stayed_once x y z a s h d b

      pub visited_once : {s : Sort} {x y : Node s} → VisitedNode Sought Step s x y → (z : Node s) → VisitedNode Sought Step s x z → y ≡ z
      visited_once number z b = sym (inverted b)
      visited_once float z b = sym (inverted b)
      visited_once named z b = sym (inverted b)
      visited_once simple z b = sym (inverted b)
      visited_once (visited.listed {k = k} {i = i} a) z b = let h = inverted b in ap (Listed k i) (visited_once a h.0 h.1) ∙ sym h.2
      visited_once (tagged {n = n} {i = i} a) z b = let h = inverted b in ap (Tagged n i) (reached_once a h.0 h.1) ∙ sym h.2
      visited_once (string a) z b = let h = inverted b in ap String (visited_once a h.0 h.1) ∙ sym h.2
      visited_once (stream a) z b = let h = inverted b in ap Stream (visited_once a h.0 h.1) ∙ sym h.2
      visited_once literal z b = sym (inverted b)
      visited_once ellipsis z b = sym (inverted b)
      visited_once (embedded {i = i} a) z b = let h = inverted b in ap (λ m. Embedded m i) (visited_once a h.0 h.1) ∙ sym h.2
      visited_once (last_piece a) z b = let h = inverted b in ap LastPiece (visited_once a h.0 h.1) ∙ sym h.2
      visited_once (plus {v = v} c d) z b = let h = inverted b in ap (λ p. Plus p v) (visited_once c h.0 h.2) ∙ (ap (Plus h.0) (visited_once d h.1 h.3) ∙ sym h.4)
      visited_once (element a) z b = let h = inverted b in ap Element (reached_once a h.0 h.1) ∙ sym h.2
      visited_once (pair {v = v} c d) z b = let h = inverted b in ap (λ k. Pair k v) (reached_once c h.0 h.2) ∙ (ap (Pair h.0) (reached_once d h.1 h.3) ∙ sym h.4)
      visited_once (chunk a) z b = let h = inverted b in ap Chunk (visited_once a h.0 h.1) ∙ sym h.2
      visited_once end z b = sym (inverted b)
      visited_once (then {n = n} c d) z b = let h = inverted b in ap (λ e. Then e n) (visited_once c h.0 h.2) ∙ (ap (Then h.0) (visited_once d h.1 h.3) ∙ sym h.4)

-- ---- the arguments of an item

pub tag_node_once : (x : Node Item) (a b : CallArguments) → IsTagNode x a → IsTagNode x b → a ≡ b
tag_node_once (Tagged n i w) (arguments.number k) (arguments.number m) a b = ap arguments.number (sym a ∙ b)
tag_node_once (Tagged n i w) (arguments.number k) (arguments.prefix_and_text p t) a b = absurd b
tag_node_once (Tagged n i w) (arguments.prefix_and_text p t) b a c = absurd a
tag_node_once _ a b s t = absurd s

string_node_once : (w : Node Pieces) (a b : CallArguments) → IsApplicationNode (String w) a → IsApplicationNode (String w) b → a ≡ b
string_node_once (LastPiece (Literal x i)) (arguments.prefix_and_text p t) (arguments.prefix_and_text q u) a b = let h = one_application p t q u x a b in cc
string_node_once (LastPiece (Literal x i)) (arguments.prefix_and_text p t) (arguments.number n) a b = absurd b
string_node_once (LastPiece (Literal x i)) (arguments.number n) b a c = absurd a
string_node_once (LastPiece (Ellipsis x)) a b s t = absurd s
string_node_once (LastPiece (Embedded m i)) a b s t = absurd s
string_node_once (Plus p w) a b s t = absurd s

pub application_node_once : (x : Node Item) (a b : CallArguments) → IsApplicationNode x a → IsApplicationNode x b → a ≡ b
application_node_once (String w) a b s t = string_node_once w a b s t
application_node_once _ a b s t = absurd s
