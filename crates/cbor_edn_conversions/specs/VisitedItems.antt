-- What a whole visit of tags or of literals does to items, whatever the spaces between them.
use Rattle.std.specs.Prelude.{ℕ, suc, max, List, ◌≡◌, ◌≤◌, ◌<◌, Option, Some}
use Rattle.cbor_edn_parts.specs.declared.base.indicator.Indicator.{Indicator}
use Rattle.cbor_edn_parts.specs.string.Literal.{Prefixed, IsLiteral}
use Rattle.cbor_edn_model.specs.declared.text.keyword.NamedSimple.{NamedSimple}
use Rattle.cbor_edn_model.specs.declared.text.keyword.NonFinite.{NonFinite}
use Rattle.cbor_edn_model.specs.visit.Depth.{embedded_depth}
use Rattle.cbor_edn_model.specs.tree.Items.{Row, Elements, Pairs, Strings, Bracketed, entries_of, Sort, Item, Piece, Pieces, Entry, Entries, Node, Number, Float, Listed, Tagged, Named, Simple, String, Stream, Literal, Ellipsis, Embedded, LastPiece, Plus, Element, Pair, Chunk, End, Then}
use Rattle.cbor_edn_model.specs.visit.Seeking as arguments
use Rattle.cbor_edn_model.specs.visit.Seeking.{CallArguments, SoughtCall}
use Rattle.cbor_edn_model.specs.tree.Trees.{items}
use Rattle.cbor_edn_model.specs.cbor.Value.{Value}
use Rattle.cbor_edn_conversions.specs.Resolving.{Resolver, means_by}

-- How deep items nest, as visits count it: `[1, <<[2]>>]` three levels, `simple(2)` none.
abbrev pub node_depth : {s : Sort} → Node s → ℕ
node_depth (Number x i) = 0
node_depth (Float f i) = 0
node_depth (Listed k i m) = suc (node_depth m)
node_depth (Tagged n i w) = suc (node_depth w)
node_depth (Named b) = 0
node_depth (Simple w) = 0
node_depth (String w) = node_depth w
node_depth (Stream m) = node_depth m
node_depth (Literal x i) = 0
node_depth (Ellipsis x) = 0
node_depth (Embedded m i) = embedded_depth (node_depth m)
node_depth (LastPiece p) = node_depth p
node_depth (Plus p w) = max (node_depth p) (node_depth w)
node_depth (Element w) = node_depth w
node_depth (Pair v w) = max (node_depth v) (node_depth w)
node_depth (Chunk w) = node_depth w
node_depth End = 0
node_depth (Then e m) = max (node_depth e) (node_depth m)

-- The item is a tag, and these are the arguments of its call: of `1(42)` the number 1.
abbrev pub IsTagNode : Node Item → CallArguments → Type 0
IsTagNode (Tagged n i w) (arguments.number m) = n ≡ m
IsTagNode _ a = ⊥

-- The item is one literal with a prefix, and these are the arguments of its call: of `dt'a'` the prefix `dt` and the text `a`.
abbrev pub IsApplicationNode : Node Item → CallArguments → Type 0
IsApplicationNode (String (LastPiece (Literal x i))) (arguments.prefix_and_text p t) = IsLiteral (Prefixed p) t x
IsApplicationNode _ a = ⊥

-- Step says what a call, by its arguments, makes of an item. Where it makes `DT'..'` of `1(42)` and leaves other tags, `[9(1(42))]` becomes
-- `[9(DT'..')]`: the outer tag is called at, left as it is and entered.
module _ (IsSought : Node Item → CallArguments → Type 0) (Step : CallArguments → Node Item → Node Item → Type 0) where
  mutual
    pub data ReachedItem : Node Item → Node Item → Type 0 where
      -- what is not sought is entered
      passed : {x y : Node Item} → ((a : CallArguments) → IsSought x a → ⊥) → VisitedNode Item x y → ReachedItem x y
      -- of what is sought, what the call left is entered where it nests no deeper
      entered : {x y z : Node Item} (a : CallArguments) → IsSought x a → Step a x z → node_depth z ≤ node_depth x → VisitedNode Item z y → ReachedItem x y
      -- and stays where it nests deeper
      stayed : {x z : Node Item} (a : CallArguments) → IsSought x a → Step a x z → node_depth x < node_depth z → ReachedItem x z

    pub data VisitedNode : (s : Sort) → Node s → Node s → Type 0 where
      number : {x : List ℕ} {i : Option Indicator} → VisitedNode Item (Number x i) (Number x i)
      float : {f : NonFinite} {i : Option Indicator} → VisitedNode Item (Float f i) (Float f i)
      named : {b : NamedSimple} → VisitedNode Item (Named b) (Named b)
      -- `simple(..)` is not entered
      simple : {w : Node Item} → VisitedNode Item (Simple w) (Simple w)
      listed : {k : Bracketed} {i : Option Indicator} {m n : Node (Entries (entries_of k))} → VisitedNode (Entries (entries_of k)) m n → VisitedNode Item (Listed k i m) (Listed k i n)
      tagged : {n : ℕ} {i : Option Indicator} {w v : Node Item} → ReachedItem w v → VisitedNode Item (Tagged n i w) (Tagged n i v)
      string : {w v : Node Pieces} → VisitedNode Pieces w v → VisitedNode Item (String w) (String v)
      stream : {m n : Node (Entries Strings)} → VisitedNode (Entries Strings) m n → VisitedNode Item (Stream m) (Stream n)
      literal : {x : List ℕ} {i : Option Indicator} → VisitedNode Piece (Literal x i) (Literal x i)
      ellipsis : {x : List ℕ} → VisitedNode Piece (Ellipsis x) (Ellipsis x)
      embedded : {m n : Node (Entries Elements)} {i : Option Indicator} → VisitedNode (Entries Elements) m n → VisitedNode Piece (Embedded m i) (Embedded n i)
      last_piece : {p q : Node Piece} → VisitedNode Piece p q → VisitedNode Pieces (LastPiece p) (LastPiece q)
      plus : {p q : Node Piece} {w v : Node Pieces} → VisitedNode Piece p q → VisitedNode Pieces w v → VisitedNode Pieces (Plus p w) (Plus q v)
      element : {w v : Node Item} → ReachedItem w v → VisitedNode (Entry Elements) (Element w) (Element v)
      pair : {a b w v : Node Item} → ReachedItem a b → ReachedItem w v → VisitedNode (Entry Pairs) (Pair a w) (Pair b v)
      chunk : {w v : Node Pieces} → VisitedNode Pieces w v → VisitedNode (Entry Strings) (Chunk w) (Chunk v)
      end : {k : Row} → VisitedNode (Entries k) End End
      then : {k : Row} {e f : Node (Entry k)} {m n : Node (Entries k)} → VisitedNode (Entry k) e f → VisitedNode (Entries k) m n → VisitedNode (Entries k) (Then e m) (Then f n)

-- ---- what calls make of items

-- what a function says: a call leaves its value at the arguments and at the item before
abbrev pub Answered : (CallArguments → Node Item → Node Item) → CallArguments → Node Item → Node Item → Type 0
Answered f a x y = y ≡ f a x

abbrev pub LeavesAnswer : (CallArguments → Node Item → Node Item) → SoughtCall → Type 0
LeavesAnswer f c = Answered f c.arguments (items c.before) (items c.after)

-- Where the item before meant a value by the first resolver, the item after means it by the second.
abbrev pub TurnsItem : Resolver → Resolver → CallArguments → Node Item → Node Item → Type 0
TurnsItem B A a x y = (v : Value) → means_by B x ≡ Some v → means_by A y ≡ Some v
