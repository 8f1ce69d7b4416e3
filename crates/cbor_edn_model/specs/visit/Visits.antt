-- What a visit does to an item, call by call.
use Rattle.std.specs.Prelude.{ℕ, List, [], ◌∷◌, ◌++◌, ◌≢◌, map}
use Rattle.cbor_edn_parts.specs.space.Notes.{noted}
use Rattle.cbor_edn_model.specs.access.Accessed.{element, key, entries_inside}
use Rattle.cbor_edn_model.specs.tree.Items.{Row, Elements, Pairs, Bracketed, Array, Map, entries_of}
use Rattle.cbor_edn_model.specs.tree.Trees.{Tree, OneItem, OneEntry, Inside, Rest, ListTree, ElementTree, PairTree, EmptyTree, FullTree, LastTree, MoreTree}

-- What is answered at an item: nothing, the text of a comment, or want of memory.
pub data Answer : Type 0 where
  fine : Answer
  comment : List ℕ → Answer
  no_memory : Answer

-- A call: the item before, the answer, and the item after.
pub record Call : Type 0 where
  pub before : Tree OneItem
  pub answer : Answer
  pub after : Tree OneItem

-- The space that follows the item, after the answer: `/ c /,` of `,`.
abbrev pub answered : Answer → List ℕ → List ℕ
answered fine s = s
answered (comment c) s = noted c ++ s
answered no_memory s = s

-- How a visit ended: it went through, or want of memory cut it short.
pub data Ending : Type 0 where
  whole : Ending
  cut : Ending

-- The visit of an element, which is not entered: `1/ c /,` of `1,`.
pub data VisitElement : Tree (OneEntry Elements) → List ℕ → Call → Tree (OneEntry Elements) → List ℕ → Ending → Type 0 where
  called : {c : Call} {s : List ℕ} → c.answer ≢ no_memory
      → VisitElement (ElementTree c.before) s c (ElementTree c.after) (answered c.answer s) whole
  -- want of memory, of the call itself or for its comment
  refused : {c : Call} {s : List ℕ} → c.answer ≢ fine
      → VisitElement (ElementTree c.before) s c (ElementTree c.after) s cut

-- What became of a handler for the value of a key.
pub data Handler : Type 0 where
  -- there is none
  no_handler : Handler
  -- it was dropped, for want of memory at the key
  dropped : Handler
  -- it was spent on the value, by this call
  spent : Call → Handler

-- A call at a key, and what became of the handler in its answer.
pub record KeyCall : Type 0 where
  pub at_key : Call
  pub handler : Handler

-- The visit of a key, and of its value where there is a handler: `1/ c /: 2/ d /,` of `1: 2,`.
pub data VisitPair : Tree (OneEntry Pairs) → List ℕ → KeyCall → Tree (OneEntry Pairs) → List ℕ → Ending → Type 0 where
  -- without a handler the value is passed over
  passed_over : {c : Call} {v : Tree OneItem} {s t r : List ℕ} → c.answer ≢ no_memory
      → VisitPair (PairTree c.before s t v) r (record { at_key = c; handler = no_handler }) (PairTree c.after (answered c.answer s) t v) r whole
  handled : {c d : Call} {s t r : List ℕ} → c.answer ≢ no_memory → d.answer ≢ no_memory
      → VisitPair (PairTree c.before s t d.before) r (record { at_key = c; handler = spent d }) (PairTree c.after (answered c.answer s) t d.after) (answered d.answer r) whole
  -- want of memory, of the call at the key or for its comment
  refused_at_key : {c : Call} {h : Handler} {v : Tree OneItem} {s t r : List ℕ} → c.answer ≢ fine → ((d : Call) → h ≢ spent d)
      → VisitPair (PairTree c.before s t v) r (record { at_key = c; handler = h }) (PairTree c.after s t v) r cut
  -- of the handler or for its comment
  refused_at_value : {c d : Call} {s t r : List ℕ} → c.answer ≢ no_memory → d.answer ≢ fine
      → VisitPair (PairTree c.before s t d.before) r (record { at_key = c; handler = spent d }) (PairTree c.after (answered c.answer s) t d.after) r cut

-- What a visit does to one entry of a row and to the space that follows it, by its call.
abbrev pub EntryVisit : Type 0 → Row → Type 1
EntryVisit C k = Tree (OneEntry k) → List ℕ → C → Tree (OneEntry k) → List ℕ → Ending → Type 0

module _ {C : Type 0} where
  -- The visit of entries in text order, with one call for each, up to the one where it is cut short.
  pub data VisitEntries {k : Row} (One : EntryVisit C k) : Tree (Rest k) → List C → Tree (Rest k) → Ending → Type 0 where
    last : {e f : Tree (OneEntry k)} {s t : List ℕ} {c : C} {r : Ending}
        → One e s c f t r → VisitEntries One (LastTree e s) (c ∷ []) (LastTree f t) r
    more : {e f : Tree (OneEntry k)} {s t : List ℕ} {c : C} {m n : Tree (Rest k)} {cs : List C} {r : Ending}
        → One e s c f t whole → VisitEntries One m cs n r → VisitEntries One (MoreTree e s m) (c ∷ cs) (MoreTree f t n) r
    stops : {e f : Tree (OneEntry k)} {s t : List ℕ} {c : C} {m : Tree (Rest k)}
        → One e s c f t cut → VisitEntries One (MoreTree e s m) (c ∷ []) (MoreTree f t m) cut

  -- The visit of what stands between brackets, whose indicator and first space stay.
  pub data VisitInside {k : Bracketed} (One : EntryVisit C (entries_of k)) : Tree (Inside k) → List C → Tree (Inside k) → Ending → Type 0 where
    full : {h : _} {s : List ℕ} {m n : Tree (Rest (entries_of k))} {cs : List C} {r : Ending}
        → VisitEntries One m cs n r → VisitInside One (FullTree h s m) cs (FullTree h s n) r
    empty : {i : _} {s : List ℕ} → VisitInside One (EmptyTree i s) [] (EmptyTree i s) whole

-- The visit of the elements of an array: `[1/ c /, 2/ d /]` of `[1, 2]`.
pub data VisitArray : Tree OneItem → List Call → Tree OneItem → Ending → Type 0 where
  elements : {w v : Tree (Inside Array)} {cs : List Call} {r : Ending}
      → VisitInside VisitElement w cs v r → VisitArray (ListTree Array w) cs (ListTree Array v) r

-- The visit of the keys of a map, and of the values that have a handler: `{1/ c /: 2, 3: 4/ d /}` of `{1: 2, 3: 4}`.
pub data VisitMap : Tree OneItem → List KeyCall → Tree OneItem → Ending → Type 0 where
  pairs : {w v : Tree (Inside Map)} {cs : List KeyCall} {r : Ending}
      → VisitInside VisitPair w cs v r → VisitMap (ListTree Map w) cs (ListTree Map v) r

-- the items that are called at: 1 and 2 of `[1, 2]`
abbrev pub elements_of : Tree OneItem → List (Tree OneItem)
elements_of (ListTree Array w) = map element (entries_inside w)
elements_of _ = []

-- and 1 and 3 of `{1: 2, 3: 4}`
abbrev pub keys_of : Tree OneItem → List (Tree OneItem)
keys_of (ListTree Map w) = map key (entries_inside w)
keys_of _ = []

-- The calls, in order, take a closure from its first state to its last: each begins in the state that the one before it left.
pub data Chain {F C : Type 0} (Step : F → C → F → Type 0) : F → List C → F → Type 0 where
  no_calls : {f : F} → Chain Step f [] f
  one_call : {f g h : F} {c : C} {cs : List C} → Step f c g → Chain Step g cs h → Chain Step f (c ∷ cs) h
