-- What a visit keeps of the meaning of items, from what its calls keep.
use Rattle.std.proofs.Common.{ℕ, ◌≡◌, ◌≤◌, ◌&&◌, cond, is_none, List, [], ◌∷◌, ◌++◌, Option, Some, None, All, refl, sym, ap, ◌∙◌, subst}
use Rattle.std.proofs.lemmas.List.Elements.{All-nil, All-cons, All-head, All-tail}
use Rattle.cbor_edn_parts.specs.declared.string.StringKind.TheVariants.{Bytes}
use Rattle.cbor_edn_model.specs.visit.Depth.{depth}
use Rattle.cbor_edn_model.specs.tree.Items as kind
use Rattle.cbor_edn_model.specs.tree.Items.{Row, Sort, Item, Node, Piece, Pieces, Entry, Entries, entries_of, Literal, Ellipsis, Embedded, LastPiece, Plus, End, Items}
use Rattle.cbor_edn_model.specs.cbor.Value.{Value, encodings, tag}
use Rattle.cbor_edn_model.specs.cbor.Meaning.{◌>>=◌, MeaningOf, width_of, listed, pieces_indicator, have_no_indicators, string_of, chunk_of, stream_of, joined, one_more, no_entries}
use Rattle.cbor_edn_model.specs.visit.Seeking.{CallArguments, SoughtCall, VisitItem, passed, entered, stayed, refused, not_called, VisitParts, of_number, of_float, of_name, of_tag, of_simple, of_list, of_string, of_stream, of_literal, of_ellipsis, of_embedded, of_last_piece, of_pieces, of_pieces_cut, of_none_inside, of_all_inside, of_last, of_more, of_more_cut, of_nothing, of_sequence, of_standalone, VisitEntry, of_element, of_pair, of_pair_cut, of_chunk}
use Rattle.cbor_edn_model.specs.tree.Trees.{Rule, Tree, OneItem, OnePiece, OneString, OneEntry, Inside, Rest, Seq, Standalone, Of, items}
use Rattle.cbor_edn_model.specs.visit.Visits.{Ending, whole, cut}
use Rattle.cbor_edn_conversions.specs.Resolving.{Resolver, or_else, resolved, resolved_item, means_by}

pub all_split : {X : Type 0} (P : X → Type 0) (xs ys : List X) → All P (xs ++ ys) → All P xs × All P ys
all_split P [] ys all = (All-nil P, all)
all_split P (x ∷ xs) ys all = let rest = all_split P xs ys (All-tail P x (xs ++ ys) all) in (All-cons P x xs (All-head P x (xs ++ ys) all) rest.0, rest.1)

-- ---- the pieces of a string that no visit changes

-- a string whose embedded pieces are emptied
abbrev pub piece_shape : Node Piece → Node Piece
piece_shape (Literal x i) = Literal x i
piece_shape (Ellipsis x) = Ellipsis x
piece_shape (Embedded m i) = Embedded End i

abbrev pub shape : Node Pieces → Node Pieces
shape (LastPiece p) = LastPiece (piece_shape p)
shape (Plus p w) = Plus (piece_shape p) (shape w)

no_indicators_shape : (w : Node Pieces) → have_no_indicators (shape w) ≡ have_no_indicators w
no_indicators_shape (LastPiece (Literal x i)) = refl
no_indicators_shape (LastPiece (Ellipsis x)) = refl
no_indicators_shape (LastPiece (Embedded m i)) = refl
no_indicators_shape (Plus (Literal x i) w) = ap (λ b. is_none i && b) (no_indicators_shape w)
no_indicators_shape (Plus (Ellipsis x) w) = no_indicators_shape w
no_indicators_shape (Plus (Embedded m i) w) = ap (λ b. is_none i && b) (no_indicators_shape w)

indicator_shape : (w : Node Pieces) → pieces_indicator (shape w) ≡ pieces_indicator w
indicator_shape (LastPiece (Literal x i)) = refl
indicator_shape (LastPiece (Ellipsis x)) = refl
indicator_shape (LastPiece (Embedded m i)) = refl
indicator_shape (Plus p w) = ap (λ b. cond b (Some None) None) (no_indicators_shape (Plus p w))

resolved_shape : (R : Resolver) (w : Node Pieces) → resolved R (shape w) ≡ resolved R w
resolved_shape R (LastPiece (Literal x i)) = refl
resolved_shape R (LastPiece (Ellipsis x)) = refl
resolved_shape R (LastPiece (Embedded m i)) = refl
resolved_shape R (Plus p w) = refl

pub same_piece_indicator : (w v : Node Pieces) → shape w ≡ shape v → pieces_indicator w ≡ pieces_indicator v
same_piece_indicator w v e = sym (indicator_shape w) ∙ ap pieces_indicator e ∙ indicator_shape v

pub same_resolved : (R : Resolver) (w v : Node Pieces) → shape w ≡ shape v → resolved R w ≡ resolved R v
same_resolved R w v e = sym (resolved_shape R w) ∙ ap (resolved R) e ∙ resolved_shape R v

module _ {Sought : Tree OneItem → CallArguments → Type 0} where
  pub piece_stays : {p q : Tree OnePiece} {cs : List SoughtCall} {r : Ending} → VisitParts Sought OnePiece p cs q r → piece_shape (items p) ≡ piece_shape (items q)
  unfolding items
  piece_stays of_literal = refl
  piece_stays of_ellipsis = refl
  piece_stays (of_embedded a) = refl

  pub string_stays : {w v : Tree OneString} {cs : List SoughtCall} {r : Ending} → VisitParts Sought OneString w cs v r → shape (items w) ≡ shape (items v)
  unfolding items
  string_stays (of_last_piece a) = ap LastPiece (piece_stays a)
  string_stays (of_pieces {q = q} {w = w} a b e) = ap (λ p. Plus p (shape (items w))) (piece_stays a) ∙ ap (Plus (piece_shape (items q))) (string_stays b)
  string_stays (of_pieces_cut {w = w} a) = ap (λ p. Plus p (shape (items w))) (piece_stays a)

-- ---- relations that steps keep

pub record Relates (Rel : (A : Type 0) → Option A → Option A → Type 0) : Type 1 where
  pub same : (A : Type 0) (o : Option A) → Rel A o o
  pub step : (A B : Type 0) (o p : Option A) (f g : A → Option B) → Rel A o p → ((x : A) → Rel B (f x) (g x)) → Rel B (o >>= f) (p >>= g)

-- What a relation of meanings says of the items of a tree, by the resolver B before and by A after.
module _ (Rel : (A : Type 0) → Option A → Option A → Type 0) where
  module _ (B A : Resolver) where
    abbrev pub Kept : {s : Sort} → Node s → Node s → Type 0
    Kept {s} x y = Rel (MeaningOf s) (means_by B x) (means_by A y)

    -- of an item that is entered, where the resolvers agree on it
    abbrev pub EnteredKept : Node Item → Node Item → Type 0
    EnteredKept x y = resolved_item B x ≡ resolved_item A x → Kept x y

    abbrev pub KeptOf : (k : Rule) → Of k → Of k → Type 0
    KeptOf OneItem x y = EnteredKept x y
    KeptOf OnePiece x y = Kept x y
    KeptOf OneString x y = Kept x y
    KeptOf (OneEntry k) x y = Kept x y
    KeptOf (Inside k) x y = (x.0 ≡ y.0) × Kept x.1 y.1
    KeptOf (Rest k) x y = Kept x y
    KeptOf Seq x y = Kept x y
    KeptOf Standalone x y = Kept x y

    -- Good is what is known of calls, and Done r that a visit that ended so is spoken of.
    pub record Premises (Sought : Tree OneItem → CallArguments → Type 0) (Good : SoughtCall → Type 0) (Done : Ending → Type 0) : Type 0 where
      pub done : Done whole
      -- what a visit did not come to
      pub untouched : {s : Sort} (x : Node s) → Done cut → Kept x x
      pub unsought : (w : Tree OneItem) → ((a : CallArguments) → Sought w a → ⊥) → resolved_item B (items w) ≡ resolved_item A (items w)
      pub called : (c : SoughtCall) → Good c → Sought c.before c.arguments → Kept (items c.before) (items c.after)
      -- what is left of a call's item once it is entered
      pub entering : (c : SoughtCall) (v : Tree OneItem) (cs : List SoughtCall) (r : Ending) → Good c → Sought c.before c.arguments → depth c.after ≤ depth c.before → VisitParts Sought OneItem c.after cs v r
          → EnteredKept (items c.after) (items v) → Kept (items c.before) (items v)

module _ (Rel : (A : Type 0) → Option A → Option A → Type 0) (relates : Relates Rel) where
  pub one_step : {A B : Type 0} (o p : Option A) (f : A → Option B) → Rel A o p → Rel B (o >>= f) (p >>= f)
  one_step {A} {B} o p f e = relates.step A B o p f f e (λ x. relates.same B (f x))

  pub two_steps : {A B C : Type 0} (o p : Option A) (a b : Option B) (f : A → B → C) → Rel A o p → Rel B a b → Rel C (o >>= λ x. a >>= λ y. Some (f x y)) (p >>= λ x. b >>= λ y. Some (f x y))
  two_steps {A} {B} {C} o p a b f e g = relates.step A C o p (λ x. a >>= λ y. Some (f x y)) (λ x. b >>= λ y. Some (f x y)) e (λ x. one_step a b (λ y. Some (f x y)) g)

  pub else_step : {A : Type 0} (o a b : Option A) → Rel A a b → Rel A (or_else o a) (or_else o b)
  else_step None a b e = e
  else_step {A} (Some x) a b e = relates.same A (Some x)

  module _ (B A : Resolver) where
    pub string_kept : (w v : Node Pieces) → shape w ≡ shape v → Kept Rel B A w v → EnteredKept Rel B A (kind.String w) (kind.String v)
    unfolding means_by
    string_kept w v e k agree =
        let a : resolved B w ≡ resolved A v = agree ∙ same_resolved A w v e in
        let m = same_piece_indicator w v e in
        subst
        (λ o. Rel Value (or_else (resolved B w) (means_by B w >>= λ c. pieces_indicator w >>= string_of c)) (or_else o (means_by A v >>= λ c. pieces_indicator v >>= string_of c)))
        a
        (else_step (resolved B w) _ _ (subst (λ o. Rel Value (means_by B w >>= λ c. pieces_indicator w >>= string_of c) (means_by A v >>= λ c. o >>= string_of c)) m (one_step (means_by B w) (means_by A v) (λ c. pieces_indicator w >>= string_of c) k)))

    module _ (Sought : Tree OneItem → CallArguments → Type 0) (Good : SoughtCall → Type 0) (Done : Ending → Type 0) (premises : Premises Rel B A Sought Good Done) where
      mutual
        unfolding items means_by

        pub item_kept : {w v : Tree OneItem} {s t : List ℕ} {cs : List SoughtCall} {r : Ending} → VisitItem Sought w s cs v t r → All Good cs → Done r → Kept Rel B A (items w) (items v)
        item_kept (passed {w = w} n a) all done = parts_kept a all done (premises.unsought w n)
        item_kept (entered {c = c} {v = v} {cs = cs} {r = r} is f d a) all done = premises.entering c v cs r (All-head Good c cs all) is d a (parts_kept a (All-tail Good c cs all) done)
        item_kept (stayed {c = c} is f d) all done = premises.called c (All-head Good c [] all) is
        item_kept (refused {c = c} is f) all done = premises.called c (All-head Good c [] all) is
        item_kept (not_called {w = w} is) all done = premises.untouched (items w) done

        pub parts_kept : {k : Rule} {w v : Tree k} {cs : List SoughtCall} {r : Ending} → VisitParts Sought k w cs v r → All Good cs → Done r → KeptOf Rel B A k (items w) (items v)
        parts_kept of_number all done = λ agree. relates.same Value _
        parts_kept of_float all done = λ agree. relates.same Value _
        parts_kept of_name all done = λ agree. relates.same Value _
        parts_kept (of_tag {n = n} {i = i} {w = w} {v = v} a) all done = λ agree. two_steps (width_of i n) (width_of i n) (means_by B (items w)) (means_by A (items v)) (λ d x. tag d n x) (relates.same _ _) (parts_kept a all done)
        parts_kept of_simple all done = λ agree. relates.same Value _
        parts_kept (of_list {k = k} {w = w} {v = v} a) all done = λ agree.
            let h = parts_kept a all done in
            subst (λ i. Rel Value (means_by B (items w).1 >>= listed k (items w).0) (means_by A (items v).1 >>= listed k i)) h.0 (one_step (means_by B (items w).1) (means_by A (items v).1) (listed k (items w).0) h.1)
        parts_kept (of_string {w = w} {v = v} a) all done = string_kept (items w) (items v) (string_stays a) (parts_kept a all done)
        parts_kept (of_stream {m = m} {n = n} a) all done = λ agree. one_step (means_by B (items m)) (means_by A (items n)) stream_of (parts_kept a all done)
        parts_kept of_literal all done = relates.same _ _
        parts_kept of_ellipsis all done = relates.same _ _
        parts_kept (of_embedded {w = w} {v = v} a) all done = one_step (means_by B (items w)) (means_by A (items v)) (λ vs. Some (Bytes, encodings vs)) (parts_kept a all done)
        parts_kept (of_last_piece a) all done = parts_kept a all done
        parts_kept (of_pieces {p = p} {q = q} {w = w} {v = v} {cs = cs} {ds = ds} a b e) all done =
            let h = all_split Good cs ds (subst (All Good) e all) in
            two_steps (means_by B (items p)) (means_by A (items q)) (means_by B (items w)) (means_by A (items v)) joined (parts_kept a h.0 premises.done) (parts_kept b h.1 done)
        parts_kept (of_pieces_cut {p = p} {q = q} {w = w} a) all done = two_steps (means_by B (items p)) (means_by A (items q)) (means_by B (items w)) (means_by A (items w)) joined (parts_kept a all done) (premises.untouched (items w) done)
        parts_kept (of_none_inside {k = k}) all done = (refl, relates.same _ _)
        parts_kept (of_all_inside a) all done = (refl, parts_kept a all done)
        parts_kept (of_last {k = k} {e = e} {f = f} a) all done = two_steps (means_by B (items e)) (means_by A (items f)) (Some (no_entries k)) (Some (no_entries k)) (one_more k) (entry_kept a all done) (relates.same _ _)
        parts_kept (of_more {k = k} {e = e} {f = f} {m = m} {n = n} {cs = cs} {ds = ds} a b is) all done =
            let h = all_split Good cs ds (subst (All Good) is all) in
            two_steps (means_by B (items e)) (means_by A (items f)) (means_by B (items m)) (means_by A (items n)) (one_more k) (entry_kept a h.0 premises.done) (parts_kept b h.1 done)
        parts_kept (of_more_cut {k = k} {e = e} {f = f} {m = m} a) all done = two_steps (means_by B (items e)) (means_by A (items f)) (means_by B (items m)) (means_by A (items m)) (one_more k) (entry_kept a all done) (premises.untouched (items m) done)
        parts_kept of_nothing all done = relates.same _ _
        parts_kept (of_sequence a) all done = parts_kept a all done
        parts_kept (of_standalone a) all done = item_kept a all done

        pub entry_kept : {k : Row} {e f : Tree (OneEntry k)} {s t : List ℕ} {cs : List SoughtCall} {r : Ending} → VisitEntry Sought k e s cs f t r → All Good cs → Done r → Kept Rel B A (items e) (items f)
        entry_kept (of_element a) all done = item_kept a all done
        entry_kept (of_pair {w = w} {v = v} {x = x} {y = y} {cs = cs} {ds = ds} a b e) all done =
            let h = all_split Good cs ds (subst (All Good) e all) in
            two_steps (means_by B (items w)) (means_by A (items v)) (means_by B (items x)) (means_by A (items y)) (λ x y. (x, y)) (item_kept a h.0 premises.done) (item_kept b h.1 done)
        entry_kept (of_pair_cut {w = w} {v = v} {x = x} a) all done = two_steps (means_by B (items w)) (means_by A (items v)) (means_by B (items x)) (means_by A (items x)) (λ x y. (x, y)) (item_kept a all done) (premises.untouched (items x) done)
        entry_kept (of_chunk {w = w} {v = v} a) all done =
            subst (λ o. Rel _ (means_by B (items w) >>= λ c. pieces_indicator (items w) >>= chunk_of c) (means_by A (items v) >>= λ c. o >>= chunk_of c)) (same_piece_indicator (items w) (items v) (string_stays a)) (one_step (means_by B (items w)) (means_by A (items v)) (λ c. pieces_indicator (items w) >>= chunk_of c) (parts_kept a all done))
