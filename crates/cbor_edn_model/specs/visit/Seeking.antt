-- What the visits of tags and of application literals do to a tree, call by call.
use Rattle.std.specs.Prelude.{ℕ, List, [], ◌∷◌, ◌++◌, ◌≡◌, ◌≢◌, ◌≤◌, ◌<◌, Option, Some}
use Rattle.cbor_edn_parts.specs.declared.base.indicator.Indicator.{Indicator}
use Rattle.cbor_edn_model.specs.declared.text.opener.OpenerKind.TheVariants as opener
use Rattle.cbor_edn_model.specs.visit.Depth.{depth}
use Rattle.cbor_edn_model.specs.access.Accessed.{tag_number, IsApplicationItem}
use Rattle.cbor_edn_model.specs.tree.Items.{Row, Elements, Strings, Bracketed, entries_of}
use Rattle.cbor_edn_model.specs.tree.Trees.{Rule, Tree, OneItem, OnePiece, OneString, OneEntry, Inside, Rest, Seq, Standalone, ListHead, NumberTree, FloatTree, NamedTree, EnclosedTree, ListTree, StringTree, StreamTree, LiteralTree, EllipsisTree, EmbeddedTree, LastPieceTree, PlusTree, ElementTree, PairTree, ChunkTree, EmptyTree, FullTree, LastTree, MoreTree, NothingTree, SequenceTree, StandaloneTree}
use Rattle.cbor_edn_model.specs.visit.Visits.{Answer, fine, no_memory, answered, Ending, whole, cut}

-- The arguments of a call: the number of a tag, or the prefix and the text of a literal.
pub data CallArguments : Type 0 where
  number : ℕ → CallArguments
  prefix_and_text : List ℕ → List ℕ → CallArguments

-- The item is a tag, and these are the arguments of its call.
abbrev pub IsTag : Tree OneItem → CallArguments → Type 0
IsTag w (number n) = tag_number w ≡ Some n
IsTag w (prefix_and_text p v) = ⊥

-- The item is one literal with a prefix, and these are the arguments of its call.
abbrev pub IsApplication : Tree OneItem → CallArguments → Type 0
IsApplication w (number n) = ⊥
IsApplication w (prefix_and_text p v) = IsApplicationItem w p v

-- A call: its arguments, the item before, the answer, and the item after.
pub record SoughtCall : Type 0 where
  pub arguments : CallArguments
  pub before : Tree OneItem
  pub answer : Answer
  pub after : Tree OneItem

module _ (IsSought : Tree OneItem → CallArguments → Type 0) where
  mutual
    -- An item and the space that follows it: before, the calls, and after.
    pub data VisitItem : Tree OneItem → List ℕ → List SoughtCall → Tree OneItem → List ℕ → Ending → Type 0 where
      -- an item that is not sought has no call, and is entered
      passed : {w v : Tree OneItem} {s : List ℕ} {cs : List SoughtCall} {r : Ending}
          → ((a : CallArguments) → IsSought w a → ⊥) → VisitParts _ w cs v r → VisitItem w s cs v s r
      -- a sought one has one call, and what it left is entered where it nests no deeper
      entered : {c : SoughtCall} {v : Tree OneItem} {s : List ℕ} {cs : List SoughtCall} {r : Ending}
          → IsSought c.before c.arguments → c.answer ≢ no_memory → depth c.after ≤ depth c.before → VisitParts _ c.after cs v r
          → VisitItem c.before s (c ∷ cs) v (answered c.answer s) r
      -- and stays as it is where it nests deeper
      stayed : {c : SoughtCall} {s : List ℕ}
          → IsSought c.before c.arguments → c.answer ≢ no_memory → depth c.before < depth c.after
          → VisitItem c.before s (c ∷ []) c.after (answered c.answer s) whole
      -- want of memory, of the call itself or for its comment
      refused : {c : SoughtCall} {s : List ℕ}
          → IsSought c.before c.arguments → c.answer ≢ fine → VisitItem c.before s (c ∷ []) c.after s cut
      -- before the call, which only a sought one has
      not_called : {a : CallArguments} {w : Tree OneItem} {s : List ℕ} → IsSought w a → VisitItem w s [] w s cut

    -- What stands in a part of a tree, in text order, parents before children.
    pub data VisitParts : (k : Rule) → Tree k → List SoughtCall → Tree k → Ending → Type 0 where
      of_number : {x : List ℕ} {i : Option Indicator} → VisitParts _ (NumberTree x i) [] (NumberTree x i) whole
      of_float : {f : _} {i : Option Indicator} → VisitParts _ (FloatTree f i) [] (FloatTree f i) whole
      of_name : {b : _} → VisitParts _ (NamedTree b) [] (NamedTree b) whole
      of_tag : {n : ℕ} {i : Option Indicator} {w v : Tree Standalone} {cs : List SoughtCall} {r : Ending}
          → VisitParts _ w cs v r → VisitParts _ (EnclosedTree (opener.Tag i n) w) cs (EnclosedTree (opener.Tag i n) v) r
      -- `simple(..)` is not entered
      of_simple : {w : Tree Standalone} → VisitParts _ (EnclosedTree opener.Simple w) [] (EnclosedTree opener.Simple w) whole
      of_list : {k : Bracketed} {w v : Tree (Inside k)} {cs : List SoughtCall} {r : Ending}
          → VisitParts _ w cs v r → VisitParts _ (ListTree k w) cs (ListTree k v) r
      of_string : {w v : Tree OneString} {cs : List SoughtCall} {r : Ending}
          → VisitParts _ w cs v r → VisitParts _ (StringTree w) cs (StringTree v) r
      of_stream : {ms : List ℕ} {m n : Tree (Rest Strings)} {cs : List SoughtCall} {r : Ending}
          → VisitParts _ m cs n r → VisitParts _ (StreamTree ms m) cs (StreamTree ms n) r
      of_literal : {x : List ℕ} {i : Option Indicator} → VisitParts _ (LiteralTree x i) [] (LiteralTree x i) whole
      of_ellipsis : {x : List ℕ} → VisitParts _ (EllipsisTree x) [] (EllipsisTree x) whole
      of_embedded : {w v : Tree Seq} {i : Option Indicator} {cs : List SoughtCall} {r : Ending}
          → VisitParts _ w cs v r → VisitParts _ (EmbeddedTree w i) cs (EmbeddedTree v i) r
      of_last_piece : {p q : Tree OnePiece} {cs : List SoughtCall} {r : Ending}
          → VisitParts _ p cs q r → VisitParts _ (LastPieceTree p) cs (LastPieceTree q) r
      of_pieces : {p q : Tree OnePiece} {s t : List ℕ} {w v : Tree OneString} {cs ds all : List SoughtCall} {r : Ending}
          → VisitParts _ p cs q whole → VisitParts _ w ds v r → all ≡ cs ++ ds → VisitParts _ (PlusTree p s t w) all (PlusTree q s t v) r
      of_pieces_cut : {p q : Tree OnePiece} {s t : List ℕ} {w : Tree OneString} {cs : List SoughtCall}
          → VisitParts _ p cs q cut → VisitParts _ (PlusTree p s t w) cs (PlusTree q s t w) cut
      of_none_inside : {k : Bracketed} {i : Option Indicator} {s : List ℕ} → VisitParts _ (EmptyTree {k = k} i s) [] (EmptyTree {k = k} i s) whole
      of_all_inside : {k : Bracketed} {h : ListHead} {s : List ℕ} {m n : Tree (Rest (entries_of k))} {cs : List SoughtCall} {r : Ending}
          → VisitParts _ m cs n r → VisitParts _ (FullTree {k = k} h s m) cs (FullTree {k = k} h s n) r
      of_last : {k : Row} {e f : Tree (OneEntry k)} {s t : List ℕ} {cs : List SoughtCall} {r : Ending}
          → VisitEntry _ e s cs f t r → VisitParts _ (LastTree e s) cs (LastTree f t) r
      of_more : {k : Row} {e f : Tree (OneEntry k)} {s t : List ℕ} {m n : Tree (Rest k)} {cs ds all : List SoughtCall} {r : Ending}
          → VisitEntry _ e s cs f t whole → VisitParts _ m ds n r → all ≡ cs ++ ds → VisitParts _ (MoreTree e s m) all (MoreTree f t n) r
      of_more_cut : {k : Row} {e f : Tree (OneEntry k)} {s t : List ℕ} {m : Tree (Rest k)} {cs : List SoughtCall}
          → VisitEntry _ e s cs f t cut → VisitParts _ (MoreTree e s m) cs (MoreTree f t m) cut
      of_nothing : {s : List ℕ} → VisitParts _ (NothingTree s) [] (NothingTree s) whole
      of_sequence : {s : List ℕ} {m n : Tree (Rest Elements)} {cs : List SoughtCall} {r : Ending}
          → VisitParts _ m cs n r → VisitParts _ (SequenceTree s m) cs (SequenceTree s n) r
      of_standalone : {s t u : List ℕ} {w v : Tree OneItem} {cs : List SoughtCall} {r : Ending}
          → VisitItem w t cs v u r → VisitParts _ (StandaloneTree s w t) cs (StandaloneTree s v u) r

    -- An entry of a row and the space that follows it. A key is followed by the space before the colon.
    pub data VisitEntry : (k : Row) → Tree (OneEntry k) → List ℕ → List SoughtCall → Tree (OneEntry k) → List ℕ → Ending → Type 0 where
      of_element : {w v : Tree OneItem} {s t : List ℕ} {cs : List SoughtCall} {r : Ending}
          → VisitItem w s cs v t r → VisitEntry _ (ElementTree w) s cs (ElementTree v) t r
      of_pair : {w v x y : Tree OneItem} {s t u a b : List ℕ} {cs ds all : List SoughtCall} {r : Ending}
          → VisitItem w s cs v t whole → VisitItem x a ds y b r → all ≡ cs ++ ds → VisitEntry _ (PairTree w s u x) a all (PairTree v t u y) b r
      of_pair_cut : {w v x : Tree OneItem} {s t u a : List ℕ} {cs : List SoughtCall}
          → VisitItem w s cs v t cut → VisitEntry _ (PairTree w s u x) a cs (PairTree v t u x) a cut
      of_chunk : {w v : Tree OneString} {s : List ℕ} {cs : List SoughtCall} {r : Ending}
          → VisitParts _ w cs v r → VisitEntry _ (ChunkTree w) s cs (ChunkTree v) s r
