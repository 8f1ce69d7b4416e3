-- The reader that makes trees makes those of the values that are read.
use Rattle.std.proofs.Common.{◌≡◌, ℕ, zero, suc, Bool, true, false, cond, ltb, eqb, List, [], ◌∷◌, length, map, Option, Some, None, Result, Ok, Err, refl, sym, ap, ◌∙◌, arith}
use Rattle.std.specs.Prelude.{pos, negsuc}
use Rattle.cbor_edn_parts.specs.declared.string.StringKind.{StringKind}
use Rattle.cbor_edn_parts.specs.declared.string.StringKind.TheVariants.{Bytes, Text}
use Rattle.cbor_edn_model.specs.declared.cbor.heads.Width.{Width}
use Rattle.cbor_edn_model.specs.declared.cbor.heads.Width.TheVariants.{Immediate, One, Two, Four, Eight}
use Rattle.cbor_edn_model.specs.declared.cbor.decode.CborError.{CborError}
use Rattle.cbor_edn_model.specs.declared.cbor.decode.CborError.TheVariants.{InvalidSimple, TooDeep}
use Rattle.cbor_edn_model.specs.declared.cbor.decode.head.Stop.{Stop}
use Rattle.cbor_edn_model.specs.declared.cbor.decode.head.Stop.TheVariants.{Break}
use Rattle.cbor_edn_model.specs.declared.text.opener.OpenerKind.TheVariants.{Tag}
use Rattle.cbor_edn_model.specs.declared.text.keyword.NonFinite.{NonFinite}
use Rattle.cbor_edn_model.specs.tree.Items as kind
use Rattle.cbor_edn_model.specs.tree.Items.{Elements, Array, Map}
use Rattle.cbor_edn_model.specs.tree.Trees.{Tree, OneItem, OneEntry, Rest, FloatTree, EnclosedTree, ListTree, StringTree, ElementTree, ChunkTree}
use Rattle.cbor_edn_model.specs.cbor.Value.{Value, Chunk, unsigned, negative, string, chunks, array, cbor_map, tag, simple, float, Values, no_values, value, values_len, Pairs, no_pairs, pair, pairs_len}
use Rattle.cbor_edn_model.specs.cbor.Decoded as decoded
use Rattle.cbor_edn_model.specs.cbor.Decoded.{item_of, items_of, chunk_items, chunked_item, list_indicator, float_indicator, alone}
use Rattle.cbor_edn_model.specs.internal.Regular.{in_front, list_inside, key_value, stream_tree, regular}
use Rattle.cbor_edn_model.specs.internal.Results.{◌>>=◌}
use Rattle.cbor_edn_model.specs.internal.CborReading.{DecoderResult, Decoder, shown, head_at, many, until, several, past_stop, turn, string_at, chunk_at, string_by, pair_at, item_by, item_at, array_by, map_by, number_by, tag_by, simple_by, float_by, special_by, float_of, simple_tree, number_tree, definite_tree, string_row, chunks_tree, argument_indicator, list_tree, row_of, element_row, trees, simple_nesting}
use Rattle.cbor_edn_model.proofs.lemmas.cbor.CborHeads.{bind_ok}
use Rattle.cbor_edn_model.proofs.lemmas.cbor.CborValues.{values_of, pairs_of, argument_width, makes, value_at, in_front_of}

-- the tree of a value
abbrev mutual
  pub tree_of : Value → Tree OneItem
  tree_of (unsigned w n) = number_tree (pos n) w n
  tree_of (negative w n) = number_tree (negsuc n) w n
  tree_of (string k w bs) = StringTree (definite_tree k (w, bs))
  tree_of (chunks k cs) = chunks_tree k cs
  tree_of (array w vs) = ListTree Array (list_inside (list_indicator w (values_len vs)) (row_tree vs))
  tree_of (cbor_map w ps) = ListTree Map (list_inside (list_indicator w (pairs_len ps)) (pair_row_tree ps))
  tree_of (tag w n v) = EnclosedTree (Tag (decoded.indicator_of w n) n) (alone (tree_of v))
  tree_of (simple n) = simple_tree n
  tree_of (float w f) = FloatTree f (float_indicator w)

  pub row_tree : Values → Option (Tree (Rest Elements))
  row_tree no_values = None
  row_tree (value v vs) = Some (in_front (ElementTree (tree_of v)) (row_tree vs))

  pub pair_row_tree : Pairs → Option (Tree (Rest kind.Pairs))
  pair_row_tree no_pairs = None
  pair_row_tree (pair k v ps) = Some (in_front (key_value (tree_of k) (tree_of v)) (pair_row_tree ps))

chunk_row : (k : StringKind) (cs : List Chunk) → string_row (map (definite_tree k) cs) ≡ regular (chunk_items k cs)
unfolding regular
chunk_row k [] = refl
chunk_row k (c ∷ cs) = ap (λ m. Some (in_front (ChunkTree (definite_tree k c)) m)) (chunk_row k cs)

chunks_tree_is : (k : StringKind) (cs : List Chunk) → chunks_tree k cs ≡ regular (chunked_item k cs)
unfolding regular
chunks_tree_is k [] = refl
chunks_tree_is k (c ∷ cs) = ap stream_tree (chunk_row k (c ∷ cs))

mutual
  unfolding regular

  pub tree_of_item : (v : Value) → tree_of v ≡ regular (item_of v)
  tree_of_item (unsigned w n) = refl
  tree_of_item (negative w n) = refl
  tree_of_item (string k w bs) = refl
  tree_of_item (chunks k cs) = chunks_tree_is k cs
  tree_of_item (array w vs) = ap (λ m. ListTree Array (list_inside (list_indicator w (values_len vs)) m)) (row_tree_of_items vs)
  tree_of_item (cbor_map w ps) = ap (λ m. ListTree Map (list_inside (list_indicator w (pairs_len ps)) m)) (row_tree_of_pairs ps)
  tree_of_item (tag w n v) = ap (λ t. EnclosedTree (Tag (decoded.indicator_of w n) n) (alone t)) (tree_of_item v)
  tree_of_item (simple n) = refl
  tree_of_item (float w f) = refl

  pub row_tree_of_items : (vs : Values) → row_tree vs ≡ regular (items_of vs)
  row_tree_of_items no_values = refl
  row_tree_of_items (value v vs) =
      ap (λ w. Some (in_front (ElementTree w) (row_tree vs))) (tree_of_item v) ∙ ap (λ r. Some (in_front (ElementTree (regular (item_of v))) r)) (row_tree_of_items vs)

  row_tree_of_pairs : (ps : Pairs) → pair_row_tree ps ≡ regular (decoded.pairs_of ps)
  row_tree_of_pairs no_pairs = refl
  row_tree_of_pairs (pair k v ps) =
      ap (λ w. Some (in_front (key_value w (tree_of v)) (pair_row_tree ps))) (tree_of_item k) ∙ ap (λ w. Some (in_front (key_value (regular (item_of k)) w) (pair_row_tree ps))) (tree_of_item v)
      ∙ ap (λ r. Some (in_front (key_value (regular (item_of k)) (regular (item_of v))) r)) (row_tree_of_pairs ps)

-- ---- reading, seen by a function

-- one reader gives what another gives, seen by a function
abbrev pub Shows : {A B : Type 0} → (A → B) → Decoder B → Decoder A → Type 0
Shows f one other = (bytes : List ℕ) → one bytes ≡ shown f (other bytes)

-- steps whose first step is shown
shown_step : {A B C D : Type 0} (f : A → B) (g : C → D) (r : DecoderResult B) (s : DecoderResult A) (k : B × List ℕ → DecoderResult D) (l : A × List ℕ → DecoderResult C) → r ≡ shown f s → ((x : A × List ℕ) → s ≡ Ok x → k (f x.0, x.1) ≡ shown g (l x)) → (r >>= k) ≡ shown g (s >>= l)
shown_step f g r (Ok x) k l first next = ap (λ q. q >>= k) first ∙ next x refl
shown_step f g r (Err e) k l first next = ap (λ q. q >>= k) first

many_shown : {A B : Type 0} (f : A → B) (one : Decoder B) (other : Decoder A) → Shows f one other → (n : ℕ) → Shows (map f) (many one n) (many other n)
unfolding many
many_shown f one other shows zero bytes = refl
many_shown {A} {B} f one other shows (suc n) bytes =
    shown_step f (map f) (one bytes) (other bytes) (λ x. many one n x.1 >>= λ xs. Ok (x.0 ∷ xs.0, xs.1)) (λ x. many other n x.1 >>= λ xs. Ok (x.0 ∷ xs.0, xs.1)) (shows bytes)
    (λ x _. shown_step (map f) (map f) (many one n x.1) (many other n x.1) (λ xs. Ok (f x.0 ∷ xs.0, xs.1)) (λ xs. Ok (x.0 ∷ xs.0, xs.1)) (many_shown f one other shows n x.1) (λ xs _. refl))

turn_shown : {A B : Type 0} (f : A → B) (one : Decoder B) (other : Decoder A) (more : Decoder (List B)) (others : Decoder (List A)) → Shows f one other → Shows (map f) more others → (bytes : List ℕ) (o : Option (List ℕ))
    → turn one more bytes o ≡ shown (map f) (turn other others bytes o)
turn_shown f one other more others shows next bytes (Some rest) = refl
turn_shown f one other more others shows next bytes None =
    shown_step f (map f) (one bytes) (other bytes) (λ x. more x.1 >>= λ xs. Ok (x.0 ∷ xs.0, xs.1)) (λ x. others x.1 >>= λ xs. Ok (x.0 ∷ xs.0, xs.1)) (shows bytes)
    (λ x _. shown_step (map f) (map f) (more x.1) (others x.1) (λ xs. Ok (f x.0 ∷ xs.0, xs.1)) (λ xs. Ok (x.0 ∷ xs.0, xs.1)) (next x.1) (λ xs _. refl))

pub until_shown : {A B : Type 0} (f : A → B) (stop : Stop) (one : Decoder B) (other : Decoder A) → Shows f one other → (n : ℕ) → Shows (map f) (until stop one n) (until stop other n)
unfolding until
until_shown f stop one other shows zero bytes = refl
until_shown f stop one other shows (suc n) bytes = turn_shown f one other (until stop one n) (until stop other n) shows (until_shown f stop one other shows n) bytes (past_stop stop bytes)

pub several_shown : {A B : Type 0} (f : A → B) (one : Decoder B) (other : Decoder A) → Shows f one other → (argument : Option (Width × ℕ)) → Shows (map f) (several one argument) (several other argument)
unfolding several
several_shown f one other shows (Some (w, n)) bytes = many_shown f one other shows n bytes
several_shown f one other shows None bytes = until_shown f Break one other shows (suc (length bytes)) bytes

abbrev pair_tree : Value × Value → Tree (OneEntry kind.Pairs)
pair_tree p = key_value (tree_of p.0) (tree_of p.1)

pair_shown : (one : Decoder (Tree OneItem)) (other : Decoder Value) → Shows tree_of one other → Shows pair_tree (pair_at trees one) (pair_at makes other)
unfolding pair_at
pair_shown one other shows bytes =
    shown_step tree_of pair_tree (one bytes) (other bytes) (λ k. one k.1 >>= λ v. Ok (key_value k.0 v.0, v.1)) (λ k. other k.1 >>= λ v. Ok ((k.0, v.0), v.1)) (shows bytes)
    (λ k _. shown_step tree_of pair_tree (one k.1) (other k.1) (λ v. Ok (key_value (tree_of k.0) v.0, v.1)) (λ v. Ok ((k.0, v.0), v.1)) (shows k.1) (λ v _. refl))

-- so many were read
many_len : {A : Type 0} (one : Decoder A) (n : ℕ) (bytes : List ℕ) (x : List A × List ℕ) → many one n bytes ≡ Ok x → length x.0 ≡ n
unfolding many
many_len {A} one zero bytes x e = (let same : ([], bytes) ≡ x = cc in ap (λ (y : List A × List ℕ). length y.0) (sym same))
many_len {A} one (suc n) bytes x e =
    let a = bind_ok (one bytes) (λ y. many one n y.1 >>= λ ys. Ok (y.0 ∷ ys.0, ys.1)) x e in
    let b = bind_ok (many one n a.0.1) (λ ys. Ok (a.0.0 ∷ ys.0, ys.1)) x a.2 in
    let len : length b.0.0 ≡ n = many_len one n a.0.1 b.0 b.1 in
    let same : (a.0.0 ∷ b.0.0, b.0.1) ≡ x = (let g = b.2 in cc) in
    ap (λ (y : List A × List ℕ). length y.0) (sym same) ∙ ap suc len

-- the indicator of the head is that of the list
indicator_is : {A : Type 0} (one : Decoder A) (argument : Option (Width × ℕ)) (bytes : List ℕ) (x : List A × List ℕ) → several one argument bytes ≡ Ok x → argument_indicator argument ≡ list_indicator (argument_width argument) (length x.0)
unfolding several
indicator_is one None bytes x e = refl
indicator_is one (Some (w, n)) bytes x e = ap (λ k. decoded.indicator_of w k) (sym (many_len one n bytes x e))

pub values_row : (vs : List Value) → (row_of (map ElementTree (map tree_of vs)) ≡ row_tree (values_of vs)) × (values_len (values_of vs) ≡ length vs)
values_row [] = (refl, refl)
values_row (v ∷ vs) = let r = values_row vs in (ap (λ m. Some (in_front (ElementTree (tree_of v)) m)) r.0, omega (arith, r.1))

pairs_row : (ps : List (Value × Value)) → (row_of (map pair_tree ps) ≡ pair_row_tree (pairs_of ps)) × (pairs_len (pairs_of ps) ≡ length ps)
pairs_row [] = (refl, refl)
pairs_row (p ∷ ps) = let r = pairs_row ps in (ap (λ m. Some (in_front (pair_tree p) m)) r.0, omega (arith, r.1))

-- what reads inside
abbrev InnerShows : Option (Decoder (Tree OneItem)) → Option (Decoder Value) → Type 0
InnerShows None None = Unit {0}
InnerShows (Some one) (Some other) = Shows tree_of one other
InnerShows _ _ = ⊥

array_shown : (i : Option (Decoder (Tree OneItem))) (j : Option (Decoder Value)) (argument : Option (Width × ℕ)) (rest : List ℕ) → InnerShows i j → array_by trees i argument rest ≡ shown tree_of (array_by makes j argument rest)
array_shown None None argument rest shows = refl
array_shown (Some one) (Some other) argument rest shows =
    shown_step (map tree_of) tree_of (several one argument rest) (several other argument rest) (λ xs. Ok (list_tree Array argument (element_row xs.0), xs.1)) (λ xs. Ok (array (argument_width argument) (values_of xs.0), xs.1)) (several_shown tree_of one other shows argument rest)
    (λ xs is. let row = values_row xs.0 in
    ap (λ i. Ok (ListTree Array (list_inside i (row_of (map ElementTree (map tree_of xs.0)))), xs.1)) (indicator_is other argument rest xs is ∙ ap (list_indicator (argument_width argument)) (sym row.1))
    ∙ ap (λ m. Ok (ListTree Array (list_inside (list_indicator (argument_width argument) (values_len (values_of xs.0))) m), xs.1)) row.0)
array_shown None (Some other) argument rest shows = absurd shows
array_shown (Some one) None argument rest shows = absurd shows

map_shown : (i : Option (Decoder (Tree OneItem))) (j : Option (Decoder Value)) (argument : Option (Width × ℕ)) (rest : List ℕ) → InnerShows i j → map_by trees i argument rest ≡ shown tree_of (map_by makes j argument rest)
map_shown None None argument rest shows = refl
map_shown (Some one) (Some other) argument rest shows =
    shown_step (map pair_tree) tree_of (several (pair_at trees one) argument rest) (several (pair_at makes other) argument rest) (λ xs. Ok (list_tree Map argument (row_of xs.0), xs.1)) (λ xs. Ok (cbor_map (argument_width argument) (pairs_of xs.0), xs.1))
    (several_shown pair_tree (pair_at trees one) (pair_at makes other) (pair_shown one other shows) argument rest)
    (λ xs is. let row = pairs_row xs.0 in
    ap (λ i. Ok (ListTree Map (list_inside i (row_of (map pair_tree xs.0))), xs.1)) (indicator_is (pair_at makes other) argument rest xs is ∙ ap (list_indicator (argument_width argument)) (sym row.1))
    ∙ ap (λ m. Ok (ListTree Map (list_inside (list_indicator (argument_width argument) (pairs_len (pairs_of xs.0))) m), xs.1)) row.0)
map_shown None (Some other) argument rest shows = absurd shows
map_shown (Some one) None argument rest shows = absurd shows

number_shown : (make : Width → ℕ → Tree OneItem) (made : Width → ℕ → Value) (argument : Option (Width × ℕ)) (rest : List ℕ) → ((w : Width) (n : ℕ) → make w n ≡ tree_of (made w n)) → number_by make argument rest ≡ shown tree_of (number_by made argument rest)
number_shown make made None rest same = refl
number_shown make made (Some (w, n)) rest same = ap (λ t. Ok (t, rest)) (same w n)

pub shown_again : {A B C : Type 0} (f : A → B) (g : B → C) (r : DecoderResult A) → shown g (shown f r) ≡ shown (λ x. g (f x)) r
shown_again f g (Ok x) = refl
shown_again f g (Err e) = refl

string_shown : (k : StringKind) (argument : Option (Width × ℕ)) (rest : List ℕ) → string_by trees k argument rest ≡ shown tree_of (string_by makes k argument rest)
string_shown k None rest = sym (shown_again (chunks k) tree_of (until Break (chunk_at k) (suc (length rest)) rest))
string_shown k (Some (w, n)) rest = sym (shown_again (string k w) tree_of (string_at k n rest))

choice : (b : Bool) (r t : DecoderResult (Tree OneItem)) (s u : DecoderResult Value) → r ≡ shown tree_of s → t ≡ shown tree_of u → cond b r t ≡ shown tree_of (cond b s u)
choice true r t s u first second = first
choice false r t s u first second = second

tag_shown : (i : Option (Decoder (Tree OneItem))) (j : Option (Decoder Value)) (argument : Option (Width × ℕ)) (rest : List ℕ) → InnerShows i j → tag_by trees i argument rest ≡ shown tree_of (tag_by makes j argument rest)
tag_shown i j None rest shows = refl
tag_shown None None (Some (w, n)) rest shows = refl
tag_shown (Some one) (Some other) (Some (w, n)) rest shows =
    shown_step tree_of tree_of (one rest) (other rest) (λ x. Ok (EnclosedTree (Tag (decoded.indicator_of w n) n) (alone x.0), x.1)) (λ x. Ok (tag w n x.0, x.1)) (shows rest) (λ x _. refl)
tag_shown None (Some other) (Some (w, n)) rest shows = absurd shows
tag_shown (Some one) None (Some (w, n)) rest shows = absurd shows

named_shown : (b : Bool) (n : ℕ) (rest : List ℕ) → (cond b (Ok (simple_tree n)) (Err TooDeep) >>= in_front_of rest) ≡ shown tree_of (cond b (Ok (simple n)) (Err TooDeep) >>= in_front_of rest)
named_shown true n rest = refl
named_shown false n rest = refl

simple_shown : (i : Option (Decoder (Tree OneItem))) (j : Option (Decoder Value)) (n : ℕ) (rest : List ℕ) → InnerShows i j → (simple_by trees i n >>= in_front_of rest) ≡ shown tree_of (simple_by makes j n >>= in_front_of rest)
simple_shown None None n rest shows = named_shown (eqb (simple_nesting n) 0) n rest
simple_shown (Some one) (Some other) n rest shows = refl
simple_shown None (Some other) n rest shows = absurd shows
simple_shown (Some one) None n rest shows = absurd shows

float_shown : (w : Width) (o : Option NonFinite) (rest : List ℕ) → (float_by trees w o >>= in_front_of rest) ≡ shown tree_of (float_by makes w o >>= in_front_of rest)
float_shown w None rest = refl
float_shown w (Some f) rest = refl

valid_shown : (b : Bool) (r : Result (Tree OneItem) CborError) (s : Result Value CborError) (rest : List ℕ) → (r >>= in_front_of rest) ≡ shown tree_of (s >>= in_front_of rest)
    → (cond b (Err InvalidSimple) r >>= in_front_of rest) ≡ shown tree_of (cond b (Err InvalidSimple) s >>= in_front_of rest)
valid_shown true r s rest e = refl
valid_shown false r s rest e = e

special_shown : (i : Option (Decoder (Tree OneItem))) (j : Option (Decoder Value)) (argument : Option (Width × ℕ)) (rest : List ℕ) → InnerShows i j → (special_by trees i argument >>= in_front_of rest) ≡ shown tree_of (special_by makes j argument >>= in_front_of rest)
special_shown i j None rest shows = refl
special_shown i j (Some (Immediate, n)) rest shows = simple_shown i j n rest shows
special_shown i j (Some (One, n)) rest shows = valid_shown (ltb n 32) (simple_by trees i n) (simple_by makes j n) rest (simple_shown i j n rest shows)
special_shown i j (Some (Two, n)) rest shows = float_shown Two (float_of Two n) rest
special_shown i j (Some (Four, n)) rest shows = float_shown Four (float_of Four n) rest
special_shown i j (Some (Eight, n)) rest shows = float_shown Eight (float_of Eight n) rest

item_by_shown : (i : Option (Decoder (Tree OneItem))) (j : Option (Decoder Value)) (major : ℕ) (argument : Option (Width × ℕ)) (rest : List ℕ) → InnerShows i j → item_by trees i major argument rest ≡ shown tree_of (item_by makes j major argument rest)
unfolding item_by
item_by_shown i j major argument rest shows =
    choice (eqb major 0) _ _ _ _ (number_shown (λ w n. number_tree (pos n) w n) unsigned argument rest (λ w n. refl))
    (choice (eqb major 1) _ _ _ _ (number_shown (λ w n. number_tree (negsuc n) w n) negative argument rest (λ w n. refl))
    (choice (eqb major 2) _ _ _ _ (string_shown Bytes argument rest)
    (choice (eqb major 3) _ _ _ _ (string_shown Text argument rest)
    (choice (eqb major 4) _ _ _ _ (array_shown i j argument rest shows)
    (choice (eqb major 5) _ _ _ _ (map_shown i j argument rest shows) (choice (eqb major 6) _ _ _ _ (tag_shown i j argument rest shows) (special_shown i j argument rest shows)))))))

head_step : {H A B : Type 0} (f : A → B) (r : Result H CborError) (k : H → DecoderResult B) (l : H → DecoderResult A) → ((h : H) → k h ≡ shown f (l h)) → (r >>= k) ≡ shown f (r >>= l)
head_step f (Ok h) k l next = next h
head_step f (Err e) k l next = refl

-- the trees that are read are those of the values
pub tree_read : (limit : ℕ) → Shows tree_of (item_at trees limit) (value_at limit)
unfolding item_at
tree_read zero bytes = head_step tree_of (head_at bytes) (λ h. item_by trees None h.0.0 h.0.1 h.1) (λ h. item_by makes None h.0.0 h.0.1 h.1) (λ h. item_by_shown None None h.0.0 h.0.1 h.1 tt)
tree_read (suc d) bytes =
    head_step tree_of (head_at bytes) (λ h. item_by trees (Some (item_at trees d)) h.0.0 h.0.1 h.1) (λ h. item_by makes (Some (value_at d)) h.0.0 h.0.1 h.1)
    (λ h. item_by_shown (Some (item_at trees d)) (Some (value_at d)) h.0.0 h.0.1 h.1 (tree_read d))
