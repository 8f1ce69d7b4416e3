-- A whole visit exists by any answers that take no memory.
use Rattle.std.proofs.Common.{ℕ, zero, suc, ◌<◌, ◌≤◌, ◌≡◌, ◌≢◌, ◌⊎◌, inl, inr, ◌↔◌, Bool, true, false, max, List, [], ◌∷◌, ◌++◌, Option, All, refl, arith}
use Rattle.std.proofs.lemmas.Bool.{cases_lt}
use Rattle.std.proofs.lemmas.List.Elements.{All-nil, All-cons, All-append}
use Rattle.cbor_edn_parts.specs.declared.base.indicator.Indicator.{Indicator}
use Rattle.cbor_edn_parts.specs.internal.LiteralTokens.{is_literal, prefix_of}
use Rattle.cbor_edn_parts.specs.string.Literal.{Prefixed, IsLiteral}
use Rattle.cbor_edn_parts.proofs.lemmas.string.Applications.{prefixed_read, unprefixed_read}
use Rattle.cbor_edn_parts.proofs.lemmas.string.LiteralTexts.{literal_test}
use Rattle.cbor_edn_model.specs.declared.text.opener.OpenerKind.TheVariants as opener
use Rattle.cbor_edn_model.specs.visit.Depth.{depth}
use Rattle.cbor_edn_model.specs.tree.Items.{Row, Elements, Pairs, Strings, Bracketed, Array, Map, entries_of, Item, Node, Tagged, String, Literal, Ellipsis, Embedded, LastPiece, Plus}
use Rattle.cbor_edn_model.specs.visit.Seeking.{CallArguments, number, prefix_and_text, IsTag, IsApplication, SoughtCall, VisitItem, passed, entered, stayed, VisitParts, of_number, of_float, of_name, of_tag, of_simple, of_list, of_string, of_stream, of_literal, of_ellipsis, of_embedded, of_last_piece, of_pieces, of_none_inside, of_all_inside, of_last, of_more, of_nothing, of_sequence, of_standalone, VisitEntry, of_element, of_pair, of_chunk}
use Rattle.cbor_edn_model.specs.tree.Trees.{Rule, Tree, OneItem, OnePiece, OneString, OneEntry, Inside, Rest, Seq, Standalone, NumberTree, FloatTree, NamedTree, EnclosedTree, ListTree, StringTree, StreamTree, LiteralTree, EllipsisTree, EmbeddedTree, LastPieceTree, PlusTree, ElementTree, PairTree, ChunkTree, EmptyTree, FullTree, LastTree, MoreTree, NothingTree, SequenceTree, StandaloneTree, items}
use Rattle.cbor_edn_model.specs.visit.Visits.{Answer, answered, whole}
use Rattle.cbor_edn_conversions.specs.Resolving.{AnswersBy}
use Rattle.cbor_edn_conversions.specs.ResolvingLaws.{NeverRefused, VisitsExist}
use Rattle.cbor_edn_conversions.specs.VisitedItems.{IsTagNode, IsApplicationNode}
use Rattle.cbor_edn_conversions.proofs.resolving.OnItems.{tag_node, application_node}

-- ---- what is sought

-- it has arguments of a call, or none
abbrev Decided : {X : Type 0} → (X → CallArguments → Type 0) → X → Type 0
Decided Sought x = ((a : CallArguments) × Sought x a) ⊎ ((a : CallArguments) → Sought x a → ⊥)

tag_decided : (x : Node Item) → Decided IsTagNode x
tag_decided (Tagged n i w) = inl (number n, refl)
tag_decided _ = inr (λ a is. is)

empty_decided : (p : List ℕ) → (p ≡ []) ⊎ (p ≢ [])
empty_decided [] = inl refl
empty_decided (c ∷ p) = inr (λ e. absurd cc)

-- a text is a literal with a prefix, or none
module _ (x : List ℕ) where
  by_tests : (b : Bool) → is_literal x ≡ b → (prefix_of x ≡ []) ⊎ (prefix_of x ≢ []) → ((p t : List ℕ) × IsLiteral (Prefixed p) t x) ⊎ ((p t : List ℕ) → IsLiteral (Prefixed p) t x → ⊥)
  by_tests false is o = inr (λ p t l. let read : is_literal x ≡ true = (literal_test x).0 (Prefixed p, t, l) in absurd cc)
  by_tests true is (inl none) = inr (unprefixed_read x none)
  by_tests true is (inr filled) = inl (prefix_of x, _, prefixed_read x filled is)

module _ (x : List ℕ) (i : Option Indicator) where
  no_arguments : ((p t : List ℕ) → IsLiteral (Prefixed p) t x → ⊥) → (a : CallArguments) → IsApplicationNode (String (LastPiece (Literal x i))) a → ⊥
  no_arguments none (number n) is = is
  no_arguments none (prefix_and_text p t) is = none p t is

  of_text : ((p t : List ℕ) × IsLiteral (Prefixed p) t x) ⊎ ((p t : List ℕ) → IsLiteral (Prefixed p) t x → ⊥) → Decided IsApplicationNode (String (LastPiece (Literal x i)))
  of_text (inl (p, t, is)) = inl (prefix_and_text p t, is)
  of_text (inr none) = inr (no_arguments none)

literal_decided : (x : Node Item) → Decided IsApplicationNode x
literal_decided (String (LastPiece (Literal x i))) = of_text x i (by_tests x (is_literal x) refl (empty_decided (prefix_of x)))
literal_decided (String (LastPiece (Ellipsis x))) = inr (λ a is. is)
literal_decided (String (LastPiece (Embedded m i))) = inr (λ a is. is)
literal_decided (String (Plus p w)) = inr (λ a is. is)
literal_decided _ = inr (λ a is. is)

tree_decided : (Sought : Tree OneItem → CallArguments → Type 0) (SoughtNode : Node Item → CallArguments → Type 0) → ((w : Tree OneItem) (a : CallArguments) → Sought w a ↔ SoughtNode (items w) a) → (w : Tree OneItem) → Decided SoughtNode (items w) → Decided Sought w
tree_decided Sought SoughtNode same w (inl is) = inl (is.0, (same w is.0).1 is.1)
tree_decided Sought SoughtNode same w (inr none) = inr (λ a is. none a ((same w a).0 is))

-- ---- the visit

-- A part with items that nest less deep than n may nest so deep itself.
abbrev RowWithin : ℕ → Row → ℕ → Type 0
RowWithin n Elements d = d < n
RowWithin n Pairs d = d < n
RowWithin n Strings d = d ≤ n

abbrev Within : ℕ → Rule → ℕ → Type 0
Within n OneItem d = d ≤ n
Within n OnePiece d = d ≤ n
Within n OneString d = d ≤ n
Within n (OneEntry k) d = RowWithin n k d
Within n (Inside k) d = d < n
Within n (Rest k) d = RowWithin n k d
Within n Seq d = d < n
Within n Standalone d = d < n

inside_within : (n : ℕ) (k : Bracketed) (d : ℕ) → d < n → RowWithin n (entries_of k) d
inside_within n Array d h = h
inside_within n Map d h = h

both_within : (n : ℕ) (k : Row) (a b : ℕ) → RowWithin n k (max a b) → RowWithin n k a × RowWithin n k b
both_within n Elements a b h = (omega arith, omega arith)
both_within n Pairs a b h = (omega arith, omega arith)
both_within n Strings a b h = (omega arith, omega arith)

module _ (Sought : Tree OneItem → CallArguments → Type 0) (decided : (w : Tree OneItem) → Decided Sought w) (f : CallArguments → Tree OneItem → Answer × Tree OneItem) (given : NeverRefused f) where
  abbrev Calls : List SoughtCall → Type 0
  Calls cs = All (AnswersBy f) cs

  abbrev Visited : (k : Rule) → Tree k → Type 0
  Visited k w = (v : Tree k) × (cs : List SoughtCall) × Calls cs × VisitParts Sought k w cs v whole

  abbrev Reached : Tree OneItem → List ℕ → Type 0
  Reached w s = (v : Tree OneItem) × (t : List ℕ) × (cs : List SoughtCall) × Calls cs × VisitItem Sought w s cs v t whole

  abbrev EntryReached : (k : Row) → Tree (OneEntry k) → List ℕ → Type 0
  EntryReached k e s = (g : Tree (OneEntry k)) × (t : List ℕ) × (cs : List SoughtCall) × Calls cs × VisitEntry Sought k e s cs g t whole

  -- an entry is visited with the space that follows it
  abbrev VisitedOf : (k : Rule) → Tree k → Type 0
  VisitedOf (OneEntry k) e = (s : List ℕ) → EntryReached k e s
  VisitedOf k w = Visited k w

  pieces_visited : (q : Tree OnePiece) (s t : List ℕ) (w : Tree OneString) → Visited OnePiece q → Visited OneString w → Visited OneString (PlusTree q s t w)
  pieces_visited q s t w (p, cs, first, a) (v, ds, rest, b) = (PlusTree p s t v, cs ++ ds, All-append (AnswersBy f) cs ds first rest, of_pieces a b refl)

  pair_visited : (v w : Tree OneItem) (s t u : List ℕ) → Reached v s → Reached w u → EntryReached Pairs (PairTree v s t w) u
  pair_visited v w s t u (x, r, cs, first, a) (y, b, ds, rest, c) = (PairTree x r t y, b, cs ++ ds, All-append (AnswersBy f) cs ds first rest, of_pair a c refl)

  more_visited : (k : Row) (e : Tree (OneEntry k)) (s : List ℕ) (m : Tree (Rest k)) → EntryReached k e s → Visited (Rest k) m → Visited (Rest k) (MoreTree e s m)
  more_visited k e s m (g, t, cs, first, a) (n, ds, rest, b) = (MoreTree g t n, cs ++ ds, All-append (AnswersBy f) cs ds first rest, of_more a b refl)

  call : CallArguments → Tree OneItem → SoughtCall
  call a w = record { arguments = a; before = w; answer = (f a w).0; after = (f a w).1 }

  module _ (n : ℕ) (enter : (w : Tree OneItem) → depth w < n → Visited OneItem w) where
    by_depth : (w : Tree OneItem) (s : List ℕ) (a : CallArguments) → Sought w a → depth w < n → (depth w < depth (f a w).1) ⊎ (depth (f a w).1 ≤ depth w) → Reached w s
    unfolding call
    by_depth w s a is h (inl deeper) = ((f a w).1, answered (f a w).0 s, call a w ∷ [], All-cons (AnswersBy f) (call a w) [] (refl, refl) (All-nil (AnswersBy f)), stayed {c = call a w} is (given a w) deeper)
    by_depth w s a is h (inr within) =
        let p = enter (f a w).1 (omega arith) in
        (p.0, answered (f a w).0 s, call a w ∷ p.1, All-cons (AnswersBy f) (call a w) p.1 (refl, refl) p.2, entered {c = call a w} is (given a w) within p.3)

    by_sought : (w : Tree OneItem) (s : List ℕ) → depth w < n → Decided Sought w → Reached w s
    by_sought w s h (inl is) = by_depth w s is.0 is.1 h (cases_lt (depth w) (depth (f is.0 w).1))
    by_sought w s h (inr none) = let p = enter w h in (p.0, s, p.1, p.2, passed none p.3)

    reached : (w : Tree OneItem) (s : List ℕ) → depth w < n → Reached w s
    reached w s h = by_sought w s h (decided w)

    parts : {k : Rule} (w : Tree k) → Within n k (depth w) → VisitedOf k w
    unfolding depth
    parts (NumberTree x i) h = (_, [], All-nil (AnswersBy f), of_number)
    parts (FloatTree x i) h = (_, [], All-nil (AnswersBy f), of_float)
    parts (NamedTree b) h = (_, [], All-nil (AnswersBy f), of_name)
    parts (EnclosedTree (opener.Tag i m) w) h = let p = parts w (omega arith) in (_, p.1, p.2, of_tag p.3)
    parts (EnclosedTree opener.Simple w) h = (_, [], All-nil (AnswersBy f), of_simple)
    parts (ListTree k w) h = let p = parts w (omega arith) in (_, p.1, p.2, of_list p.3)
    parts (StringTree w) h = let p = parts w h in (_, p.1, p.2, of_string p.3)
    parts (StreamTree ms m) h = let p = parts m h in (_, p.1, p.2, of_stream p.3)
    parts (LiteralTree x i) h = (_, [], All-nil (AnswersBy f), of_literal)
    parts (EllipsisTree x) h = (_, [], All-nil (AnswersBy f), of_ellipsis)
    parts (EmbeddedTree w i) h = let p = parts w (omega arith) in (_, p.1, p.2, of_embedded p.3)
    parts (LastPieceTree q) h = let p = parts q h in (_, p.1, p.2, of_last_piece p.3)
    parts (PlusTree q s t w) h = pieces_visited q s t w (parts q (omega arith)) (parts w (omega arith))
    parts (ElementTree w) h = λ s. let p = reached w s h in (_, p.1, p.2, p.3, of_element p.4)
    parts (PairTree v s t w) h = λ u. pair_visited v w s t u (reached v s (omega arith)) (reached w u (omega arith))
    parts (ChunkTree w) h = λ s. let p = parts w h in (_, s, p.1, p.2, of_chunk p.3)
    parts (EmptyTree i s) h = (_, [], All-nil (AnswersBy f), of_none_inside)
    parts (FullTree {k} x s m) h = let p = parts m (inside_within n k (depth m) h) in (_, p.1, p.2, of_all_inside p.3)
    parts (LastTree e s) h = let p = parts e h s in (_, p.2, p.3, of_last p.4)
    parts (MoreTree {k} e s m) h =
        let within = both_within n k (depth e) (depth m) h in
        more_visited k e s m (parts e within.0 s) (parts m within.1)
    parts (NothingTree s) h = (_, [], All-nil (AnswersBy f), of_nothing)
    parts (SequenceTree s m) h = let p = parts m h in (_, p.1, p.2, of_sequence p.3)
    parts (StandaloneTree s w t) h = let p = reached w t h in (_, p.2, p.3, of_standalone p.4)

  -- what is left is entered at most as deep as the item before stood
  entering : (n : ℕ) (w : Tree OneItem) → depth w < n → Visited OneItem w
  entering zero w h = absurd (omega arith)
  entering (suc n) w h = parts n (entering n) w (omega arith)

visits_exist : (Sought : Tree OneItem → CallArguments → Type 0) → ((w : Tree OneItem) → Decided Sought w) → VisitsExist Sought
visits_exist Sought decided f given = (
  λ w. parts Sought decided f given (suc (depth w)) (entering Sought decided f given (suc (depth w))) w (omega arith),
  λ w. parts Sought decided f given (suc (depth w)) (entering Sought decided f given (suc (depth w))) w (omega arith),
)

pub tag_visits_exist : VisitsExist IsTag
tag_visits_exist = visits_exist IsTag (λ w. tree_decided IsTag IsTagNode tag_node w (tag_decided (items w)))

pub literal_visits_exist : VisitsExist IsApplication
literal_visits_exist = visits_exist IsApplication (λ w. tree_decided IsApplication IsApplicationNode application_node w (literal_decided (items w)))
