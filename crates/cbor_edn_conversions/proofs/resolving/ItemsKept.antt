-- The same of visits of items alone: what they keep of a meaning, and that they have one result.
use Rattle.std.proofs.Common.{◌≡◌, ◌≤◌, Option, Some, refl, sym, ap, ◌∙◌, subst, le_trans, arith}
use Rattle.cbor_edn_parts.specs.declared.string.StringKind.TheVariants.{Bytes}
use Rattle.cbor_edn_model.specs.tree.Items as kind
use Rattle.cbor_edn_model.specs.tree.Items.{Row, Sort, Item, Piece, Pieces, Entry, Entries, Strings, entries_of, Node, Literal, Ellipsis, Embedded, LastPiece, Plus, String, Chunk, End, Then}
use Rattle.cbor_edn_model.specs.cbor.Meaning.{◌>>=◌, width_of, listed, pieces_indicator, chunk_of, stream_of, joined, one_more}
use Rattle.cbor_edn_model.specs.visit.Seeking as arguments
use Rattle.cbor_edn_model.specs.visit.Seeking.{CallArguments}
use Rattle.cbor_edn_model.specs.cbor.Value.{Value, encodings, tag}
use Rattle.cbor_edn_conversions.specs.Resolving.{Resolver, resolved, resolved_item, means_by, DifferAtPrefixes}
use Rattle.cbor_edn_conversions.specs.VisitedItems as visited
use Rattle.cbor_edn_conversions.specs.VisitedItems.{node_depth, IsTagNode, IsApplicationNode, ReachedItem, passed, entered, stayed, VisitedNode, number, float, named, simple, tagged, string, stream, literal, ellipsis, embedded, last_piece, plus, element, pair, chunk, end, then}
use Rattle.cbor_edn_conversions.proofs.resolving.Keeping.{Relates, one_step, two_steps, Kept, EnteredKept, piece_shape, shape, same_piece_indicator, string_kept}

module _ {Sought : Node Item → CallArguments → Type 0} {Step : CallArguments → Node Item → Node Item → Type 0} where
  piece_shaped : {p q : Node Piece} → VisitedNode Sought Step Piece p q → piece_shape p ≡ piece_shape q
  piece_shaped literal = refl
  piece_shaped ellipsis = refl
  piece_shaped (embedded a) = refl

  string_shaped : {w v : Node Pieces} → VisitedNode Sought Step Pieces w v → shape w ≡ shape v
  string_shaped (last_piece a) = ap LastPiece (piece_shaped a)
  string_shaped (plus {q = q} {w = w} a b) = ap (λ p. Plus p (shape w)) (piece_shaped a) ∙ ap (Plus (piece_shape q)) (string_shaped b)

  -- ---- what nests nothing

  piece_still : {p q : Node Piece} → VisitedNode Sought Step Piece p q → node_depth p ≤ 0 → q ≡ p
  piece_still literal flat = refl
  piece_still ellipsis flat = refl
  piece_still (embedded a) flat = absurd (omega arith)

  string_still : {w v : Node Pieces} → VisitedNode Sought Step Pieces w v → node_depth w ≤ 0 → v ≡ w
  string_still (last_piece a) flat = ap LastPiece (piece_still a flat)
  string_still (plus {p = p} {v = v} a b) flat = ap (λ p. Plus p v) (piece_still a (omega arith)) ∙ ap (Plus p) (string_still b (omega arith))

  entry_still : {e f : Node (Entry Strings)} → VisitedNode Sought Step (Entry Strings) e f → node_depth e ≤ 0 → f ≡ e
  entry_still (chunk a) flat = ap Chunk (string_still a flat)

  strings_still : {m n : Node (Entries Strings)} → VisitedNode Sought Step (Entries Strings) m n → node_depth m ≤ 0 → n ≡ m
  strings_still end flat = refl
  strings_still (then {e = e} {n = n} a b) flat = ap (λ e. Then e n) (entry_still a (omega arith)) ∙ ap (Then e) (strings_still b (omega arith))

  pub still : {x y : Node Item} → VisitedNode Sought Step Item x y → node_depth x ≤ 0 → y ≡ x
  still number flat = refl
  still float flat = refl
  still named flat = refl
  still simple flat = refl
  still (visited.listed a) flat = absurd (omega arith)
  still (tagged a) flat = absurd (omega arith)
  still (string a) flat = ap String (string_still a flat)
  still (stream a) flat = ap kind.Stream (strings_still a flat)

-- ---- what is kept

module _ (Rel : (A : Type 0) → Option A → Option A → Type 0) (B A : Resolver) where
  pub record ItemPremises (Sought : Node Item → CallArguments → Type 0) (Step : CallArguments → Node Item → Node Item → Type 0) : Type 0 where
    pub unsought : (x : Node Item) → ((a : CallArguments) → Sought x a → ⊥) → resolved_item B x ≡ resolved_item A x
    pub called : (a : CallArguments) (x z : Node Item) → Sought x a → Step a x z → Kept Rel B A x z
    pub entering : (a : CallArguments) (x y z : Node Item) → Sought x a → Step a x z → node_depth z ≤ node_depth x → VisitedNode Sought Step Item z y → EnteredKept Rel B A z y → Kept Rel B A x y

  abbrev pub KeptAt : (s : Sort) → Node s → Node s → Type 0
  KeptAt Item x y = EnteredKept Rel B A x y
  KeptAt Piece x y = Kept Rel B A x y
  KeptAt Pieces x y = Kept Rel B A x y
  KeptAt (Entry k) x y = Kept Rel B A x y
  KeptAt (Entries k) x y = Kept Rel B A x y

module _ (Rel : (A : Type 0) → Option A → Option A → Type 0) (relates : Relates Rel) (B A : Resolver) (Sought : Node Item → CallArguments → Type 0) (Step : CallArguments → Node Item → Node Item → Type 0) (premises : ItemPremises Rel B A Sought Step) where
  mutual
    unfolding means_by

    pub reached_kept : {x y : Node Item} → ReachedItem Sought Step x y → Kept Rel B A x y
    reached_kept (passed {x = x} n a) = visited_kept a (premises.unsought x n)
    reached_kept (entered {x = x} {y = y} {z = z} b s h d a) = premises.entering b x y z s h d a (visited_kept a)
    reached_kept (stayed {x = x} {z = z} b s h d) = premises.called b x z s h

    pub visited_kept : {s : Sort} {x y : Node s} → VisitedNode Sought Step s x y → KeptAt Rel B A s x y
    visited_kept number = λ agree. relates.same Value _
    visited_kept float = λ agree. relates.same Value _
    visited_kept named = λ agree. relates.same Value _
    visited_kept simple = λ agree. relates.same Value _
    visited_kept (visited.listed {k = k} {i = i} {m = m} {n = n} a) = λ agree. one_step Rel relates (means_by B m) (means_by A n) (listed k i) (visited_kept a)
    visited_kept (tagged {n = n} {i = i} {w = w} {v = v} a) = λ agree. two_steps Rel relates (width_of i n) (width_of i n) (means_by B w) (means_by A v) (λ d x. tag d n x) (relates.same _ _) (reached_kept a)
    visited_kept (string {w = w} {v = v} a) = string_kept Rel relates B A w v (string_shaped a) (visited_kept a)
    visited_kept (stream {m = m} {n = n} a) = λ agree. one_step Rel relates (means_by B m) (means_by A n) stream_of (visited_kept a)
    visited_kept literal = relates.same _ _
    visited_kept ellipsis = relates.same _ _
    visited_kept (embedded {m = m} {n = n} a) = one_step Rel relates (means_by B m) (means_by A n) (λ vs. Some (Bytes, encodings vs)) (visited_kept a)
    visited_kept (last_piece a) = visited_kept a
    visited_kept (plus {p = p} {q = q} {w = w} {v = v} a b) = two_steps Rel relates (means_by B p) (means_by A q) (means_by B w) (means_by A v) joined (visited_kept a) (visited_kept b)
    visited_kept (element a) = reached_kept a
    visited_kept (pair {a = a} {b = b} {w = w} {v = v} c d) = two_steps Rel relates (means_by B a) (means_by A b) (means_by B w) (means_by A v) (λ x y. (x, y)) (reached_kept c) (reached_kept d)
    visited_kept (chunk {w = w} {v = v} a) =
        subst (λ o. Rel _ (means_by B w >>= λ c. pieces_indicator w >>= chunk_of c) (means_by A v >>= λ c. o >>= chunk_of c)) (same_piece_indicator w v (string_shaped a)) (one_step Rel relates (means_by B w) (means_by A v) (λ c. pieces_indicator w >>= chunk_of c) (visited_kept a))
    visited_kept end = relates.same _ _
    visited_kept (then {k = k} {e = e} {f = f} {m = m} {n = n} a b) = two_steps Rel relates (means_by B e) (means_by A f) (means_by B m) (means_by A n) (one_more k) (visited_kept a) (visited_kept b)

-- ---- visits that keep one meaning, and visits of literals

module _ (Rel : (A : Type 0) → Option A → Option A → Type 0) (relates : Relates Rel) where
  abbrev pub Turning : Resolver → Resolver → CallArguments → Node Item → Node Item → Type 0
  Turning B A a x y = Rel Value (means_by B x) (means_by A y)

  pub keeps : (trans : (o p q : Option Value) → Rel Value o p → Rel Value p q → Rel Value o q) (Sought : Node Item → CallArguments → Type 0) (Step : CallArguments → Node Item → Node Item → Type 0) (R : Resolver)
      → ((a : CallArguments) (x z : Node Item) → Sought x a → Step a x z → Turning R R a x z) → ItemPremises Rel R R Sought Step
  keeps trans Sought Step R steps = record {
    unsought = λ x n. refl;
    called = steps;
    entering = λ a x y z s k d v e. trans (means_by R x) (means_by R z) (means_by R y) (steps a x z s k) (e refl);
  }

  unsought_string : (B A : Resolver) → DifferAtPrefixes B A → (w : Node Pieces) → ((a : CallArguments) → IsApplicationNode (String w) a → ⊥) → resolved B w ≡ resolved A w
  unsought_string B A q (LastPiece (Literal x i)) n = q x i (λ p t is. n (arguments.prefix_and_text p t) is)
  unsought_string B A q (LastPiece (Ellipsis x)) n = refl
  unsought_string B A q (LastPiece (Embedded m i)) n = refl
  unsought_string B A q (Plus p w) n = refl

  unsought_node : (B A : Resolver) → DifferAtPrefixes B A → (x : Node Item) → ((a : CallArguments) → IsApplicationNode x a → ⊥) → resolved_item B x ≡ resolved_item A x
  unsought_node B A q (String w) n = unsought_string B A q w n
  unsought_node B A q _ n = refl

  string_flat : (w : Node Pieces) (a : CallArguments) → IsApplicationNode (String w) a → node_depth w ≤ 0
  string_flat (LastPiece (Literal x i)) a is = omega arith
  string_flat (LastPiece (Ellipsis x)) a is = absurd is
  string_flat (LastPiece (Embedded m i)) a is = absurd is
  string_flat (Plus p w) a is = absurd is

  node_flat : (x : Node Item) (a : CallArguments) → IsApplicationNode x a → node_depth x ≤ 0
  node_flat (String w) a is = string_flat w a is
  node_flat _ a is = absurd is

  pub resolves : (B A : Resolver) → DifferAtPrefixes B A → (Step : CallArguments → Node Item → Node Item → Type 0) → ((a : CallArguments) (x z : Node Item) → IsApplicationNode x a → Step a x z → Turning B A a x z)
      → ItemPremises Rel B A IsApplicationNode Step
  resolves B A q Step steps = record {
    unsought = unsought_node B A q;
    called = steps;
    entering = λ a x y z s k d v e. subst (λ y. Rel Value (means_by B x) (means_by A y)) (sym (still v (le_trans d (node_flat x a s)))) (steps a x z s k);
  }
