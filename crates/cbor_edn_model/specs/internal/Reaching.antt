-- The one call at an item, where it is sought, and whether the item is entered then.
use Rattle.std.specs.Prelude.{ℕ, List, [], ◌∷◌, ◌++◌, ◌≡◌, ◌≢◌, ◌≤◌, ◌<◌, Bool, true, false, Result, Ok, Err}
use Rattle.cbor_edn_model.specs.visit.Depth.{depth}
use Rattle.cbor_edn_model.specs.tree.Items.{Row, Pairs}
use Rattle.cbor_edn_model.specs.tree.Rows.{entries_onto, pieces_onto}
use Rattle.cbor_edn_model.specs.visit.Seeking.{CallArguments, SoughtCall, VisitItem, VisitParts}
use Rattle.cbor_edn_model.specs.tree.Trees.{Rule, Tree, OneItem, OnePiece, OneString, OneEntry, Rest, PairTree}
use Rattle.cbor_edn_model.specs.visit.Visits.{Answer, fine, no_memory, answered, Ending, whole, cut}

-- What a call comes to that gave this answer, at an item that nested so deep before: the comment in the space, and whether what it
-- left is entered.
pub data Ends {E : Type 0} (before : ℕ) (answer : Answer) (after : Tree OneItem) (s : List ℕ) : List ℕ → Result Bool E → Type 0 where
  enters : answer ≢ no_memory → depth after ≤ before → Ends before answer after s (answered answer s) (Ok true)
  stays : answer ≢ no_memory → before < depth after → Ends before answer after s (answered answer s) (Ok false)
  fails : {e : E} → answer ≢ fine → Ends before answer after s s (Err e)

pub data Reaches {E : Type 0} (IsSought : Tree OneItem → CallArguments → Type 0) : Tree OneItem → List ℕ → List SoughtCall → Tree OneItem → List ℕ → Result Bool E → Type 0 where
  -- not sought, hence no call
  passes : {w : Tree OneItem} {s : List ℕ} → ((a : CallArguments) → IsSought w a → ⊥) → Reaches IsSought w s [] w s (Ok true)
  calls : {c : SoughtCall} {s t : List ℕ} {r : Result Bool E} → IsSought c.before c.arguments → Ends (depth c.before) c.answer c.after s t r
      → Reaches IsSought c.before s (c ∷ []) c.after t r
  -- refused before the call
  fails_before : {a : CallArguments} {w : Tree OneItem} {s : List ℕ} {e : E} → IsSought w a → Reaches IsSought w s [] w s (Err e)

module _ (IsSought : Tree OneItem → CallArguments → Type 0) where
  -- what stands in an item that is entered; else it stays
  abbrev pub VisitIf : Bool → {k : Rule} → Tree k → List SoughtCall → Tree k → Ending → Type 0
  VisitIf true w cs v r = VisitParts IsSought _ w cs v r
  VisitIf false w cs v r = (cs ≡ []) × (v ≡ w) × (r ≡ whole)

  -- The visit of a key, and of what stands in it.
  pub data VisitKey : Tree (OneEntry Pairs) → List SoughtCall → Tree (OneEntry Pairs) → Ending → Type 0 where
    of_key : {w v x : Tree OneItem} {s t u : List ℕ} {cs : List SoughtCall} {r : Ending}
        → VisitItem IsSought w s cs v t r → VisitKey (PairTree w s u x) cs (PairTree v t u x) r

  -- The visit of the first entries of a row, each with the separator behind it, whatever follows them.
  abbrev pub SoughtFront : {k : Row} → List (Tree (OneEntry k) × List ℕ) → List SoughtCall → List (Tree (OneEntry k) × List ℕ) → Ending → Type 0
  SoughtFront {k} ps cs qs whole = (m n : Tree (Rest k)) (ds : List SoughtCall) (r : Ending) → VisitParts IsSought _ m ds n r → VisitParts IsSought _ (entries_onto ps m) (cs ++ ds) (entries_onto qs n) r
  SoughtFront {k} ps cs qs cut = (m : Tree (Rest k)) → VisitParts IsSought _ (entries_onto ps m) cs (entries_onto qs m) cut

  -- The visit of the first pieces of a string, each with the spaces round the plus sign behind it.
  abbrev pub SoughtPieces : List (Tree OnePiece × List ℕ × List ℕ) → List SoughtCall → List (Tree OnePiece × List ℕ × List ℕ) → Ending → Type 0
  SoughtPieces ps cs qs whole = (w v : Tree OneString) (ds : List SoughtCall) (r : Ending) → VisitParts IsSought _ w ds v r → VisitParts IsSought _ (pieces_onto ps w) (cs ++ ds) (pieces_onto qs v) r
  SoughtPieces ps cs qs cut = (w : Tree OneString) → VisitParts IsSought _ (pieces_onto ps w) cs (pieces_onto qs w) cut
