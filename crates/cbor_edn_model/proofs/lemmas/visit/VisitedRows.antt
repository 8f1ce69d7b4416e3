-- Rows that are visited entry by entry, and chains of calls.
use Rattle.std.proofs.Common.{ℕ, suc, ◌+◌, ◌<◌, ◌≤◌, ◌≡◌, List, [], ◌∷◌, ◌++◌, length, map, take, drop, set, get_or, arith, refl, sym, ap, ◌∙◌, subst, append_assoc, add-one}
use Rattle.std.proofs.Math.Seq.{take-suc-set, drop-cons}
use Rattle.std.proofs.lemmas.List.{get_or-map, length-map, take_more, take_all, set_split, take-append-drop, drop-drop}
use Rattle.std.specs.List.{Contains}
use Rattle.std.proofs.lemmas.List.Elements.{Contains-get_or}
use Rattle.cbor_edn_model.specs.tree.Items.{Row, Elements, Pairs}
use Rattle.cbor_edn_model.specs.tree.Trees.{OneItem, OneEntry, Rest, Tree, ElementTree, PairTree, MoreTree}
use Rattle.cbor_edn_model.specs.tree.Rows.{entries_onto}
use Rattle.cbor_edn_model.specs.visit.Visits.{EntryVisit, Ending, whole, cut, Call, VisitElement, called, refused, KeyCall, VisitPair, passed_over, handled, refused_at_key, refused_at_value, VisitEntries, more, stops, Chain, no_calls, one_call}
use Rattle.cbor_edn_model.specs.internal.Visiting.{VisitFront}

pub Chain-append : {F C : Type 0} {Step : F → C → F → Type 0} {f g h : F} {cs ds : List C} → Chain Step f cs g → Chain Step g ds h → Chain Step f (cs ++ ds) h
Chain-append no_calls k = k
Chain-append (one_call c j) k = one_call c (Chain-append j k)

-- an element of a list, as it is seen
pub seen_here : {A B : Type 0} (look : A → B) (xs : List A) (n : ℕ) (d : A) → n < length xs → Contains (map look xs) (look (get_or xs n d))
seen_here look xs n d h =
    let inside : n < length (map look xs) = omega (arith, length-map xs look) in
    subst (Contains (map look xs)) (get_or-map look xs n d (look d) h) (Contains-get_or (map look xs) n (look d) inside)

-- the item that an element is called at
pub called_at : {w : Tree OneItem} {e : Tree (OneEntry Elements)} {s t : List ℕ} {c : Call} {r : Ending} → VisitElement (ElementTree w) s c e t r → c.before ≡ w
called_at (called a) = refl
called_at (refused a) = refl

pub key_called_at : {w v : Tree OneItem} {p q : List ℕ} {e : Tree (OneEntry Pairs)} {s t : List ℕ} {c : KeyCall} {r : Ending} → VisitPair (PairTree w p q v) s c e t r → c.at_key.before ≡ w
key_called_at (passed_over a) = refl
key_called_at (handled a b) = refl
key_called_at (refused_at_key a b) = refl
key_called_at (refused_at_value a b) = refl

onto_append : {A : Type 0} {k : Row} (seen : A → Tree (OneEntry k) × List ℕ) (ps qs : List A) (m : Tree (Rest k)) → entries_onto (map seen (ps ++ qs)) m ≡ entries_onto (map seen ps) (entries_onto (map seen qs) m)
onto_append seen [] qs m = refl
onto_append seen (p ∷ ps) qs m = ap (λ r. MoreTree (seen p).0 (seen p).1 r) (onto_append seen ps qs m)

module _ {C : Type 0} {k : Row} {One : EntryVisit C k} where
  pub nothing_visited : VisitFront One [] [] [] whole
  nothing_visited m n ds r v = v

  module _ {A : Type 0} (seen : A → Tree (OneEntry k) × List ℕ) where
    -- the entry at n joins those before it
    pub one_visited : (xs ys : List A) (x y : A) (n : ℕ) (cs : List C) (c : C) → n < length xs → length ys ≡ length xs → get_or xs n x ≡ x
        → VisitFront One (map seen (take n xs)) cs (map seen (take n ys)) whole
        → One (seen x).0 (seen x).1 c (seen y).0 (seen y).1 whole
        → VisitFront One (map seen (take (n + 1) xs)) (cs ++ c ∷ []) (map seen (take (n + 1) (set ys n y))) whole
    one_visited xs ys x y n cs c h e is v w m o ds r u =
        let front : take (n + 1) xs ≡ take n xs ++ x ∷ [] = take_more xs n x h ∙ ap (λ z. take n xs ++ z ∷ []) is in
        let back : take (n + 1) (set ys n y) ≡ take n ys ++ y ∷ [] = rw add-one (take-suc-set ys n y (omega arith)) in
        rw (front, back, onto_append seen (take n xs) (x ∷ []) m, onto_append seen (take n ys) (y ∷ []) o, append_assoc cs (c ∷ []) ds)
        (v (MoreTree (seen x).0 (seen x).1 m) (MoreTree (seen y).0 (seen y).1 o) (c ∷ ds) r (more w u))

    -- the visit is cut short at the entry at n, and those behind it stay
    pub one_cut : (xs ys : List A) (x y : A) (n : ℕ) (cs : List C) (c : C) → n < length xs → length ys ≡ length xs → get_or xs n x ≡ x → drop n ys ≡ drop n xs
        → VisitFront One (map seen (take n xs)) cs (map seen (take n ys)) whole
        → One (seen x).0 (seen x).1 c (seen y).0 (seen y).1 cut
        → VisitFront One (map seen xs) (cs ++ c ∷ []) (map seen (set ys n y)) cut
    one_cut xs ys x y n cs c h e is same v w m =
        let rest = drop (n + 1) xs in
        let left : drop (n + 1) ys ≡ rest = sym (drop-drop 1 n ys) ∙ ap (drop 1) same ∙ drop-drop 1 n xs in
        let here : drop n xs ≡ x ∷ rest = rw add-one (drop-cons xs n x h ∙ ap (λ z. z ∷ drop (suc n) xs) is) in
        let before : xs ≡ take n xs ++ x ∷ rest = sym (take-append-drop n xs) ∙ ap (λ z. take n xs ++ z) here in
        let after : set ys n y ≡ take n ys ++ y ∷ rest = rw (← left, add-one) (set_split ys n y (omega arith)) in
        let behind = entries_onto (map seen rest) m in
        subst (λ z. VisitEntries One (entries_onto (map seen z) m) (cs ++ c ∷ []) (entries_onto (map seen (set ys n y)) m) cut) (sym before)
        (rw (after, onto_append seen (take n xs) (x ∷ rest) m, onto_append seen (take n ys) (y ∷ rest) m)
        (v (MoreTree (seen x).0 (seen x).1 behind) (MoreTree (seen y).0 (seen y).1 behind) (c ∷ []) cut (stops w)))

    -- the visit of all entries
    pub all_visited : (xs ys : List A) (n : ℕ) (cs : List C) → length xs ≤ n → length ys ≡ length xs
        → VisitFront One (map seen (take n xs)) cs (map seen (take n ys)) whole
        → VisitFront One (map seen xs) cs (map seen ys) whole
    all_visited xs ys n cs h e v = rw (take_all n xs h, take_all n ys (omega arith)) at v
