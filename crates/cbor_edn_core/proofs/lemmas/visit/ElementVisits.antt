-- What the parts of a visit show: an entry, the entries of a row, and an item.
use Rattle.std.proofs.Common.{ℕ, ◌≡◌, ◌≢◌, Result, Ok, Err, OnOk, OnErr, List, refl, sym, subst}
use Rattle.std.specs.Result.{IsErr}
use Rattle.cbor_edn_model.specs.tree.Trees.{Tree, OneItem, ElementTree, LastTree, PairTree}
use Rattle.cbor_edn_model.specs.visit.Visits.{Answer, fine, no_memory, answered, cut, Call, VisitElement, called, refused}
use Rattle.cbor_edn_model.specs.visit.Visits.{Ending, whole, VisitEntries, VisitInside, VisitArray, elements, last, KeyCall, Handler, no_handler, dropped, spent, VisitPair, passed_over, handled, refused_at_key, refused_at_value, VisitMap, pairs}
use Rattle.cbor_edn_model.specs.internal.Visiting.{VisitFront}
use Rattle.cbor_edn_parts.specs.Leaves.{list_end_bytes}
use Rattle.std.proofs.lemmas.List.Elements.{Contains-append_left, Contains-append_right}
use Rattle.std.specs.List.{Contains}
use Rattle.std.specs.Global.{Box}
use Rattle.std.proofs.Common.{Option, None, Some, [], ◌∷◌, ◌++◌, map, ap, ◌∙◌, arith}
use Rattle.cbor_edn_parts.specs.declared.space.Space.{Space}
use Rattle.cbor_edn_parts.specs.declared.space.MandatorySpace.{MandatorySpace}
use Rattle.cbor_edn_parts.specs.declared.space.Separator.{Separator}
use Rattle.cbor_edn_parts.specs.declared.space.ListEnd.{ListEnd}
use Rattle.cbor_edn_parts.specs.declared.number.Number.{Number}
use Rattle.cbor_edn_parts.specs.declared.string.Literal.{Literal}
use Rattle.cbor_edn_parts.specs.declared.string.Ellipsis.{Ellipsis}
use Rattle.cbor_edn_model.specs.access.Accessed.{array_items, map_items, element, key, entries}
use Rattle.cbor_edn_model.specs.tree.TreeLeaves.{Ghosts, texts}
use Rattle.cbor_edn_core.specs.declared.tree.InnerItemOf.{InnerItemOf}
use Rattle.cbor_edn_core.specs.declared.tree.InnerItemOf.TheVariants as inner
use Rattle.cbor_edn_core.specs.declared.tree.ItemListOf.{ItemListOf}
use Rattle.cbor_edn_core.specs.declared.tree.ItemsOf.{ItemsOf, out-ItemsOf, roll-ItemsOf}
use Rattle.cbor_edn_core.specs.declared.tree.PairListOf.{PairListOf}
use Rattle.cbor_edn_core.specs.declared.tree.PairsOf.{PairsOf, out-PairsOf, roll-PairsOf}
use Rattle.cbor_edn_core.specs.declared.tree.StreamOf.{StreamOf'}
use Rattle.cbor_edn_core.specs.tree.View.{Item, Pair, item_tree, row_item, row_key, row_onto, pair_row_onto, seen, seen_pair, view_inner, view_items, view_list, view_pair, view_pairs, view_pair_list}
use Rattle.cbor_edn_core.proofs.lemmas.tree.Views.{view_items_is, view_items_made, view_pairs_is, view_pairs_made}
use Rattle.cbor_edn_core.specs.visit.Callbacks.{Callback, MayVisit, ending, Handles, Spends, none, drops}

pub cut_short : {X E : Type 0} (r : Result X E) → IsErr r → ending r ≡ cut
cut_short (Ok x) h = cc
cut_short (Err e) h = refl

pub element_visited : {E : Type 0} (w v : Tree OneItem) (a : Answer) (s t : List ℕ) (r : Result (Unit {0}) E) → OnOk r (a ≢ no_memory) → OnOk r (t ≡ answered a s) → OnErr r (a ≢ fine) → OnErr r (t ≡ s)
    → VisitElement (ElementTree w) s (record { before = w; answer = a; after = v }) (ElementTree v) t (ending r)
element_visited w v a s t (Ok x) had put asked kept = rw put (called {c = record { before = w; answer = a; after = v }} had)
element_visited w v a s t (Err e) had put asked kept = rw kept (refused {c = record { before = w; answer = a; after = v }} asked)

-- fewer items to call at
pub narrowed : {T R F C : Type 0} {look : T → Tree OneItem} {callback : Callback T R F} {Step : F → C → F → Type 0} {before : C → Tree OneItem} (ws vs : List (Tree OneItem)) {f : F}
    → MayVisit look callback Step before ws f → ((w : Tree OneItem) → Contains vs w → Contains ws w) → MayVisit look callback Step before vs f
narrowed ws vs may inside = record { at = λ cs g chain all w here. may.at cs g chain (λ k d h. inside _ (all k d h)) w (inside w here) }

elements_row : (ps : List (Item × Separator)) (w : Tree OneItem) (s : List ℕ) → map element (entries (row_onto texts ps (LastTree (ElementTree w) s))) ≡ map row_item ps ++ w ∷ []
elements_row [] w s = refl
elements_row (p ∷ ps) w s = ap (λ ws. row_item p ∷ ws) (elements_row ps w s)

-- the elements of a row and its last one
pub elements_are : (x : ItemsOf Space MandatorySpace Separator ListEnd Number Literal Ellipsis) → map element (entries (view_items texts x)) ≡ map row_item (out-ItemsOf Space MandatorySpace Separator ListEnd Number Literal Ellipsis x).row.items ++ item_tree (out-ItemsOf Space MandatorySpace Separator ListEnd Number Literal Ellipsis x).last ∷ []
elements_are x = ap (λ m. map element (entries m)) (view_items_is texts x) ∙ elements_row _ _ _

pub row_inside : (x : ItemsOf Space MandatorySpace Separator ListEnd Number Literal Ellipsis) (w : Tree OneItem) → Contains (map row_item (out-ItemsOf Space MandatorySpace Separator ListEnd Number Literal Ellipsis x).row.items) w → Contains (map element (entries (view_items texts x))) w
row_inside x w h = subst (λ ws. Contains ws w) (sym (elements_are x)) (Contains-append_left _ _ w h)

pub last_inside : (x : ItemsOf Space MandatorySpace Separator ListEnd Number Literal Ellipsis) → Contains (map element (entries (view_items texts x))) (item_tree (out-ItemsOf Space MandatorySpace Separator ListEnd Number Literal Ellipsis x).last)
last_inside x =
    let w = item_tree (out-ItemsOf Space MandatorySpace Separator ListEnd Number Literal Ellipsis x).last in
    subst (λ ws. Contains ws w) (sym (elements_are x)) (Contains-append_right (map row_item (out-ItemsOf Space MandatorySpace Separator ListEnd Number Literal Ellipsis x).row.items) (w ∷ []) w (0, omega arith, refl))

-- the visit stops in the row
pub items_cut : (x y : ItemsOf Space MandatorySpace Separator ListEnd Number Literal Ellipsis) (f : _) (cs : List Call) → y ≡ roll-ItemsOf Space MandatorySpace Separator ListEnd Number Literal Ellipsis f → f.last ≡ (out-ItemsOf Space MandatorySpace Separator ListEnd Number Literal Ellipsis x).last → f.end ≡ (out-ItemsOf Space MandatorySpace Separator ListEnd Number Literal Ellipsis x).end
    → VisitFront VisitElement (map (seen texts) (out-ItemsOf Space MandatorySpace Separator ListEnd Number Literal Ellipsis x).row.items) cs (map (seen texts) f.row.items) cut
    → VisitEntries VisitElement (view_items texts x) cs (view_items texts y) cut
items_cut x y f cs is same_last same_list_end v =
    let left : view_items texts y ≡ row_onto texts f.row.items (LastTree (ElementTree (item_tree (out-ItemsOf Space MandatorySpace Separator ListEnd Number Literal Ellipsis x).last)) (list_end_bytes (out-ItemsOf Space MandatorySpace Separator ListEnd Number Literal Ellipsis x).end)) =
    ap (view_items texts) is ∙ view_items_made texts f ∙ (λ i. row_onto texts f.row.items (LastTree (ElementTree (item_tree (same_last i))) (list_end_bytes (same_list_end i)))) in
    rw (view_items_is texts x, left) (v _)

-- it goes on to the last element
pub items_visited : (x p y : ItemsOf Space MandatorySpace Separator ListEnd Number Literal Ellipsis) (item : Item) (list_end : ListEnd) (cs : List Call) (c : Call) (r : Ending) → y ≡ roll-ItemsOf Space MandatorySpace Separator ListEnd Number Literal Ellipsis (record { row = (out-ItemsOf Space MandatorySpace Separator ListEnd Number Literal Ellipsis p).row; last = item; end = list_end })
    → (out-ItemsOf Space MandatorySpace Separator ListEnd Number Literal Ellipsis p).last ≡ (out-ItemsOf Space MandatorySpace Separator ListEnd Number Literal Ellipsis x).last → (out-ItemsOf Space MandatorySpace Separator ListEnd Number Literal Ellipsis p).end ≡ (out-ItemsOf Space MandatorySpace Separator ListEnd Number Literal Ellipsis x).end
    → VisitFront VisitElement (map (seen texts) (out-ItemsOf Space MandatorySpace Separator ListEnd Number Literal Ellipsis x).row.items) cs (map (seen texts) (out-ItemsOf Space MandatorySpace Separator ListEnd Number Literal Ellipsis p).row.items) whole
    → VisitElement (ElementTree (item_tree (out-ItemsOf Space MandatorySpace Separator ListEnd Number Literal Ellipsis p).last)) (list_end_bytes (out-ItemsOf Space MandatorySpace Separator ListEnd Number Literal Ellipsis p).end) c (ElementTree (item_tree item)) (list_end_bytes list_end) r
    → VisitEntries VisitElement (view_items texts x) (cs ++ c ∷ []) (view_items texts y) r
items_visited x p y item list_end cs c r is same_last same_list_end v w =
    let o = out-ItemsOf Space MandatorySpace Separator ListEnd Number Literal Ellipsis x in
    let left : view_items texts y ≡ row_onto texts (out-ItemsOf Space MandatorySpace Separator ListEnd Number Literal Ellipsis p).row.items (LastTree (ElementTree (item_tree item)) (list_end_bytes list_end)) = ap (view_items texts) is ∙ view_items_made texts (record { row = (out-ItemsOf Space MandatorySpace Separator ListEnd Number Literal Ellipsis p).row; last = item; end = list_end }) in
    let there : VisitElement (ElementTree (item_tree o.last)) (list_end_bytes o.end) c (ElementTree (item_tree item)) (list_end_bytes list_end) r = rw (← same_last, ← same_list_end) w in
    rw (view_items_is texts x, left) (v _ _ (c ∷ []) r (last there))

-- the array of a visited list
pub array_visited : (x y : InnerItemOf Space MandatorySpace Separator ListEnd Number Literal Ellipsis) (b d : Box (ItemListOf Space MandatorySpace Separator ListEnd Number Literal Ellipsis)) (l : ItemListOf Space MandatorySpace Separator ListEnd Number Literal Ellipsis) (cs : List Call) (r : Ending) → x ≡ inner.Array b → l ≡ b.value → y ≡ inner.Array d
    → VisitInside VisitElement (view_list texts l) cs (view_list texts d.value) r → VisitArray (view_inner texts x) cs (view_inner texts y) r
array_visited x y b d l cs r is read made v = rw (is, made, ← read) (elements v)

-- ---- the same of pairs

keys_row : (ps : List (Pair × Separator)) (w : Pair) (s : List ℕ) → map key (entries (pair_row_onto texts ps (LastTree (view_pair texts w) s))) ≡ map row_key ps ++ item_tree w.key ∷ []
keys_row [] w s = refl
keys_row (p ∷ ps) w s = ap (λ ws. row_key p ∷ ws) (keys_row ps w s)

-- the keys of a row and its last one
pub keys_are : (x : PairsOf Space MandatorySpace Separator ListEnd Number Literal Ellipsis) → map key (entries (view_pairs texts x)) ≡ map row_key (out-PairsOf Space MandatorySpace Separator ListEnd Number Literal Ellipsis x).row.items ++ item_tree (out-PairsOf Space MandatorySpace Separator ListEnd Number Literal Ellipsis x).last.key ∷ []
keys_are x = let o = out-PairsOf Space MandatorySpace Separator ListEnd Number Literal Ellipsis x in ap (λ m. map key (entries m)) (view_pairs_is texts x) ∙ keys_row o.row.items o.last (list_end_bytes o.end)

pub key_inside : (x : PairsOf Space MandatorySpace Separator ListEnd Number Literal Ellipsis) (w : Tree OneItem) → Contains (map row_key (out-PairsOf Space MandatorySpace Separator ListEnd Number Literal Ellipsis x).row.items) w → Contains (map key (entries (view_pairs texts x))) w
key_inside x w h = subst (λ ws. Contains ws w) (sym (keys_are x)) (Contains-append_left _ _ w h)

pub last_key_inside : (x : PairsOf Space MandatorySpace Separator ListEnd Number Literal Ellipsis) → Contains (map key (entries (view_pairs texts x))) (item_tree (out-PairsOf Space MandatorySpace Separator ListEnd Number Literal Ellipsis x).last.key)
last_key_inside x =
    let w = item_tree (out-PairsOf Space MandatorySpace Separator ListEnd Number Literal Ellipsis x).last.key in
    subst (λ ws. Contains ws w) (sym (keys_are x)) (Contains-append_right (map row_key (out-PairsOf Space MandatorySpace Separator ListEnd Number Literal Ellipsis x).row.items) (w ∷ []) w (0, omega arith, refl))

-- the visit stops in the row
pub pairs_cut : (x y : PairsOf Space MandatorySpace Separator ListEnd Number Literal Ellipsis) (f : _) (cs : List KeyCall) → y ≡ roll-PairsOf Space MandatorySpace Separator ListEnd Number Literal Ellipsis f → f.last ≡ (out-PairsOf Space MandatorySpace Separator ListEnd Number Literal Ellipsis x).last → f.end ≡ (out-PairsOf Space MandatorySpace Separator ListEnd Number Literal Ellipsis x).end
    → VisitFront VisitPair (map (seen_pair texts) (out-PairsOf Space MandatorySpace Separator ListEnd Number Literal Ellipsis x).row.items) cs (map (seen_pair texts) f.row.items) cut
    → VisitEntries VisitPair (view_pairs texts x) cs (view_pairs texts y) cut
pairs_cut x y f cs is same_last same_list_end v =
    let left : view_pairs texts y ≡ pair_row_onto texts f.row.items (LastTree (view_pair texts (out-PairsOf Space MandatorySpace Separator ListEnd Number Literal Ellipsis x).last) (list_end_bytes (out-PairsOf Space MandatorySpace Separator ListEnd Number Literal Ellipsis x).end)) =
    ap (view_pairs texts) is ∙ view_pairs_made texts f ∙ (λ i. pair_row_onto texts f.row.items (LastTree (view_pair texts (same_last i)) (list_end_bytes (same_list_end i)))) in
    rw (view_pairs_is texts x, left) (v _)

-- it goes on to the last pair
pub pairs_visited : (x p y : PairsOf Space MandatorySpace Separator ListEnd Number Literal Ellipsis) (item : Pair) (list_end : ListEnd) (cs : List KeyCall) (c : KeyCall) (r : Ending) → y ≡ roll-PairsOf Space MandatorySpace Separator ListEnd Number Literal Ellipsis (record { row = (out-PairsOf Space MandatorySpace Separator ListEnd Number Literal Ellipsis p).row; last = item; end = list_end })
    → (out-PairsOf Space MandatorySpace Separator ListEnd Number Literal Ellipsis p).last ≡ (out-PairsOf Space MandatorySpace Separator ListEnd Number Literal Ellipsis x).last → (out-PairsOf Space MandatorySpace Separator ListEnd Number Literal Ellipsis p).end ≡ (out-PairsOf Space MandatorySpace Separator ListEnd Number Literal Ellipsis x).end
    → VisitFront VisitPair (map (seen_pair texts) (out-PairsOf Space MandatorySpace Separator ListEnd Number Literal Ellipsis x).row.items) cs (map (seen_pair texts) (out-PairsOf Space MandatorySpace Separator ListEnd Number Literal Ellipsis p).row.items) whole
    → VisitPair (view_pair texts (out-PairsOf Space MandatorySpace Separator ListEnd Number Literal Ellipsis p).last) (list_end_bytes (out-PairsOf Space MandatorySpace Separator ListEnd Number Literal Ellipsis p).end) c (view_pair texts item) (list_end_bytes list_end) r
    → VisitEntries VisitPair (view_pairs texts x) (cs ++ c ∷ []) (view_pairs texts y) r
pairs_visited x p y item list_end cs c r is same_last same_list_end v w =
    let o = out-PairsOf Space MandatorySpace Separator ListEnd Number Literal Ellipsis x in
    let left : view_pairs texts y ≡ pair_row_onto texts (out-PairsOf Space MandatorySpace Separator ListEnd Number Literal Ellipsis p).row.items (LastTree (view_pair texts item) (list_end_bytes list_end)) = ap (view_pairs texts) is ∙ view_pairs_made texts (record { row = (out-PairsOf Space MandatorySpace Separator ListEnd Number Literal Ellipsis p).row; last = item; end = list_end }) in
    let there : VisitPair (view_pair texts o.last) (list_end_bytes o.end) c (view_pair texts item) (list_end_bytes list_end) r = rw (← same_last, ← same_list_end) w in
    rw (view_pairs_is texts x, left) (v _ _ (c ∷ []) r (last there))

-- the map of a visited list
pub map_visited : (x y : InnerItemOf Space MandatorySpace Separator ListEnd Number Literal Ellipsis) (b d : Box (PairListOf Space MandatorySpace Separator ListEnd Number Literal Ellipsis)) (l : PairListOf Space MandatorySpace Separator ListEnd Number Literal Ellipsis) (cs : List KeyCall) (r : Ending) → x ≡ inner.Map b → l ≡ b.value → y ≡ inner.Map d
    → VisitInside VisitPair (view_pair_list texts l) cs (view_pair_list texts d.value) r → VisitMap (view_inner texts x) cs (view_inner texts y) r
map_visited x y b d l cs r is read made v = rw (is, made, ← read) (pairs v)

-- ---- a pair

-- a handler that is not spent
pub unspent : {T H : Type 0} {look : T → Tree OneItem} {handles : Handles T H} (o : Option H) → (h : Handler) × Spends look handles o h × ((d : Call) → h ≢ spent d)
unspent None = (no_handler, none, λ d e. cc)
unspent (Some h) = (dropped, drops, λ d e. cc)

pub pair_refused : (k l v : Tree OneItem) (s u t r : List ℕ) (a : Answer) (h : Handler) → a ≢ fine → ((d : Call) → h ≢ spent d) → u ≡ s
    → VisitPair (PairTree k s t v) r (record { at_key = record { before = k; answer = a; after = l }; handler = h }) (PairTree l u t v) r cut
pair_refused k l v s u t r a h asked unspent kept = rw kept (refused_at_key {c = record { before = k; answer = a; after = l }} asked unspent)

pub pair_passed : (k l v : Tree OneItem) (s u t r : List ℕ) (a : Answer) → a ≢ no_memory → u ≡ answered a s
    → VisitPair (PairTree k s t v) r (record { at_key = record { before = k; answer = a; after = l }; handler = no_handler }) (PairTree l u t v) r whole
pair_passed k l v s u t r a had put = rw put (passed_over {c = record { before = k; answer = a; after = l }} had)

pub pair_handled : {E : Type 0} (k l v w : Tree OneItem) (s u t r q : List ℕ) (a b : Answer) (x : Result (Unit {0}) E) → a ≢ no_memory → u ≡ answered a s
    → OnOk x (b ≢ no_memory) → OnOk x (q ≡ answered b r) → OnErr x (b ≢ fine) → OnErr x (q ≡ r)
    → VisitPair (PairTree k s t v) r (record { at_key = record { before = k; answer = a; after = l }; handler = spent (record { before = v; answer = b; after = w }) }) (PairTree l u t w) q (ending x)
pair_handled k l v w s u t r q a b (Ok x) had put had_too put_too asked kept = rw (put, put_too) (handled {c = record { before = k; answer = a; after = l }} {d = record { before = v; answer = b; after = w }} had had_too)
pair_handled k l v w s u t r q a b (Err e) had put had_too put_too asked kept = rw (put, kept) (refused_at_value {c = record { before = k; answer = a; after = l }} {d = record { before = v; answer = b; after = w }} had asked)

module _ {O M C E N L D : Type 0} (leaves : Ghosts O M C E N L D) where
  pub no_array : (x : InnerItemOf O M C E N L D) → ((b : Box (ItemListOf O M C E N L D)) → x ≡ inner.Array b → ⊥) → array_items (view_inner leaves x) ≡ None
  no_array (inner.Number i n) differs = refl
  no_array (inner.NonFinite i f) differs = refl
  no_array (inner.Named b) differs = refl
  no_array (inner.Enclosed' l p before item after) differs = refl
  no_array (inner.Array' p list) differs = absurd (differs (record { ptr = p.ptr; alloc = p.alloc; value = list }) refl)
  no_array (inner.Map' p list) differs = refl
  no_array (inner.Literal i literal) differs = refl
  no_array (inner.String' p n row piece) differs = refl
  no_array (inner.Stream' p (StreamOf' ms strings)) differs = refl

  pub no_map : (x : InnerItemOf O M C E N L D) → ((b : Box (PairListOf O M C E N L D)) → x ≡ inner.Map b → ⊥) → map_items (view_inner leaves x) ≡ None
  no_map (inner.Number i n) differs = refl
  no_map (inner.NonFinite i f) differs = refl
  no_map (inner.Named b) differs = refl
  no_map (inner.Enclosed' l p before item after) differs = refl
  no_map (inner.Array' p list) differs = refl
  no_map (inner.Map' p list) differs = absurd (differs (record { ptr = p.ptr; alloc = p.alloc; value = list }) refl)
  no_map (inner.Literal i literal) differs = refl
  no_map (inner.String' p n row piece) differs = refl
  no_map (inner.Stream' p (StreamOf' ms strings)) differs = refl
