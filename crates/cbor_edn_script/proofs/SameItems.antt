-- What conversions leave of an item depends on its items alone, whatever its spaces.
use Rattle.std.proofs.Common.{ℕ, ℤ, ◌≡◌, ◌==◌, Bool, true, false, if◌then◌else◌, List, [], ◌∷◌, map, Option, Some, None, Result, Ok, Err, refl, sym, ap, ◌∙◌, subst}
use Rattle.std.specs.Prelude.{codes, option_map, option_and_then}
use Rattle.cbor_edn_parts.specs.declared.base.indicator.Indicator.{Indicator}
use Rattle.cbor_edn_parts.specs.internal.ContentReading.{literal_content}
use Rattle.cbor_edn_parts.specs.internal.NumberReading.{integer_of}
use Rattle.cbor_edn_times_and_addresses.specs.declared.address.IpVersion.{IpVersion}
use Rattle.cbor_edn_times_and_addresses.specs.declared.address.IpVersion.TheVariants.{V4, V6}
use Rattle.cbor_edn_model.specs.access.Accessed.{both_joined, only_bytes, piece_bytes, pieces_bytes, strings_bytes, item_bytes, array_items, entries_inside, entries, element, number_text}
use Rattle.cbor_edn_model.specs.declared.text.opener.OpenerKind.TheVariants as opener
use Rattle.cbor_edn_model.specs.tree.Items as kind
use Rattle.cbor_edn_model.specs.tree.Items.{Elements, Strings, Array, Map, Item, Piece, Pieces, Entries, Node}
use Rattle.cbor_edn_model.specs.cbor.Meaning.{means}
use Rattle.cbor_edn_model.specs.access.Paths.{with_item}
use Rattle.cbor_edn_model.specs.visit.Seeking.{CallArguments}
use Rattle.cbor_edn_model.specs.tree.Trees.{Tree, OneItem, OnePiece, OneString, Rest, Inside, NumberTree, FloatTree, NamedTree, EnclosedTree, ListTree, StringTree, StreamTree, LiteralTree, EllipsisTree, EmbeddedTree, LastPieceTree, PlusTree, ElementTree, ChunkTree, EmptyTree, FullTree, LastTree, MoreTree, StandaloneTree, head_indicator, items}
use Rattle.cbor_edn_model.specs.visit.Visits.{Answer, fine, comment, no_memory}
use Rattle.cbor_edn_model.proofs.lemmas.cbor.MeaningSteps.{some_is}
use Rattle.cbor_edn_conversions.specs.Addresses.{address_tag, address_prefix, address_item, whole_text, prefix_text, if_same, as_literal, with_first, as_first, by_length, by_first, by_elements, by_bytes, address_literal, address_of_tag, address_of_literal, resolve_address, pretty_address}
use Rattle.cbor_edn_conversions.specs.All.{resolve_all, pretty_all}
use Rattle.cbor_edn_conversions.specs.Bignums.{quoted_bytes, quoted_string_bytes, quoted_item_bytes, magnitude, bignum_integer, if_same_integer, integer_of_tag, bignum_of_tag, pretty_bignum}
use Rattle.cbor_edn_conversions.specs.ConversionLaws.{Made}
use Rattle.cbor_edn_conversions.specs.Conversions.{Message, Conversion, Reply, reply, and_then, converted, of_literal, tells, called_tag, is_shortest, changed_encoding, without_tag, encoded, item_encoding, are_same, mean_the_same, integer_tree, literal_tree, tag_tree, in_tag}
use Rattle.cbor_edn_conversions.specs.Integers.{within_128, item_integer}
use Rattle.cbor_edn_conversions.specs.Tag999.{tag999_of_literal, to_tag999}
use Rattle.cbor_edn_conversions.specs.Times.{is_plain, instant_by, instant_literal, time_literal, time_of_tag, time_of_literal, resolve_time, pretty_time}
use Rattle.cbor_edn_script.specs.ItemPaths.{changed}

-- ---- replies and conversions that are the same but for spaces

abbrev pub SameReply : Reply → Reply → Type 0
SameReply p q = (p.0 ≡ q.0) × (items p.1 ≡ items q.1)

abbrev SameConversion : Conversion → Conversion → Type 0
SameConversion (Ok w) (Ok v) = items w ≡ items v
SameConversion (Err e) (Err f) = e ≡ f
SameConversion _ _ = ⊥

abbrev SameIfAny : Option Conversion → Option Conversion → Type 0
SameIfAny None None = Unit {0}
SameIfAny (Some c) (Some d) = SameConversion c d
SameIfAny _ _ = ⊥

-- what one does to two items with the same items
abbrev pub SameAct : (Tree OneItem → Reply) → Type 0
SameAct f = (w v : Tree OneItem) → items w ≡ items v → SameReply (f w) (f v)

conversion_refl : (c : Conversion) → SameConversion c c
conversion_refl (Ok w) = refl
conversion_refl (Err e) = refl

any_refl : (c : Option Conversion) → SameIfAny c c
any_refl None = tt
any_refl (Some c) = conversion_refl c

any_is : (c d : Option Conversion) → c ≡ d → SameIfAny c d
any_is c d e = subst (SameIfAny c) e (any_refl c)

conversion_is : (c d : Conversion) → c ≡ d → SameConversion c d
conversion_is c d e = subst (SameConversion c) e (conversion_refl c)

reply_same : (c d : Option Conversion) (w v : Tree OneItem) → items w ≡ items v → SameIfAny c d → SameReply (reply w c) (reply v d)
reply_same None None w v e h = (refl, e)
reply_same None (Some d) w v e h = absurd h
reply_same (Some c) None w v e h = absurd h
reply_same (Some (Ok x)) (Some (Ok y)) w v e h = (refl, h)
reply_same (Some (Err x)) (Some (Err y)) w v e h = (ap comment h, e)
reply_same (Some (Ok x)) (Some (Err y)) w v e h = absurd h
reply_same (Some (Err x)) (Some (Ok y)) w v e h = absurd h

then_by : (f : Tree OneItem → Reply) → SameAct f → (r : Answer) (w v : Tree OneItem) → items w ≡ items v → SameReply (and_then (r, w) f) (and_then (r, v) f)
then_by f same fine w v e = same w v e
then_by f same (comment c) w v e = (refl, e)
then_by f same no_memory w v e = (refl, e)

then_same : (f : Tree OneItem → Reply) → SameAct f → (p q : Reply) → SameReply p q → SameReply (and_then p f) (and_then q f)
then_same f same p q h = subst (λ (r : Answer). SameReply (and_then p f) (and_then (r, q.1) f)) h.0 (then_by f same p.0 p.1 q.1 h.1)

-- ---- literals

resolve_time_same : (a : CallArguments) → SameAct (resolve_time a)
unfolding resolve_time
resolve_time_same a w v e = reply_same (of_literal time_of_literal a) (of_literal time_of_literal a) w v e (any_refl (of_literal time_of_literal a))

resolve_address_same : (a : CallArguments) → SameAct (resolve_address a)
unfolding resolve_address
resolve_address_same a w v e = reply_same (of_literal address_of_literal a) (of_literal address_of_literal a) w v e (any_refl (of_literal address_of_literal a))

pub resolve_all_same : (a : CallArguments) → SameAct (resolve_all a)
resolve_all_same a w v e = then_same (resolve_address a) (resolve_address_same a) (resolve_time a w) (resolve_time a v) (resolve_time_same a w v e)

pub tag999_same : (a : CallArguments) → SameAct (to_tag999 a)
unfolding to_tag999
tag999_same a w v e = reply_same (of_literal tag999_of_literal a) (of_literal tag999_of_literal a) w v e (any_refl (of_literal tag999_of_literal a))

-- ---- tags

abbrev TagOf : Type 0 → Type 0
TagOf X = Option (ℕ × Option Indicator × X)

abbrev tag_of_items : TagOf (Tree OneItem) → TagOf (Node Item)
tag_of_items None = None
tag_of_items (Some p) = Some (p.0, p.1, items p.2)

abbrev tag_if : Bool → ℕ → Option Indicator → Node Item → TagOf (Node Item)
tag_if b n i x = if b then Some (n, i, x) else None

abbrev node_tag : CallArguments → Node Item → TagOf (Node Item)
node_tag a (kind.Tagged n i x) = tag_if (tells a n) n i x
node_tag a _ = None

if_tells : (b : Bool) (n : ℕ) (i : Option Indicator) (w : Tree OneItem) → tag_of_items (if b then Some (n, i, w) else None) ≡ tag_if b n i (items w)
if_tells true n i w = refl
if_tells false n i w = refl

called_items : (a : CallArguments) (w : Tree OneItem) → tag_of_items (called_tag a w) ≡ node_tag a (items w)
unfolding items
called_items a (NumberTree x i) = refl
called_items a (FloatTree f i) = refl
called_items a (NamedTree b) = refl
called_items a (EnclosedTree (opener.Tag i n) (StandaloneTree s w t)) = if_tells (tells a n) n i w
called_items a (EnclosedTree opener.Simple w) = refl
called_items a (ListTree k w) = refl
called_items a (StringTree w) = refl
called_items a (StreamTree s m) = refl

abbrev SameTag : TagOf (Tree OneItem) → TagOf (Tree OneItem) → Type 0
SameTag None None = Unit {0}
SameTag (Some p) (Some q) = (p.0 ≡ q.0) × (p.1 ≡ q.1) × (items p.2 ≡ items q.2)
SameTag _ _ = ⊥

tag_is : (o p : TagOf (Tree OneItem)) → tag_of_items o ≡ tag_of_items p → SameTag o p
tag_is None None e = tt
tag_is None (Some q) e = absurd cc
tag_is (Some p) None e = absurd cc
tag_is (Some p) (Some q) e =
    let same : (p.0, p.1, items p.2) ≡ (q.0, q.1, items q.2) = some_is (p.0, p.1, items p.2) (q.0, q.1, items q.2) e in
    (ap (λ (t : ℕ × Option Indicator × Node Item). t.0) same, ap (λ (t : ℕ × Option Indicator × Node Item). t.1) same, ap (λ (t : ℕ × Option Indicator × Node Item). t.2) same)

called_same : (a : CallArguments) (w v : Tree OneItem) → items w ≡ items v → SameTag (called_tag a w) (called_tag a v)
called_same a w v e = tag_is (called_tag a w) (called_tag a v) (called_items a w ∙ (ap (node_tag a) e ∙ sym (called_items a v)))

-- ---- what accessors answer, of items alone

abbrev node_time : Node Item → Bool → Conversion
node_time (kind.Number x i) wrap = instant_literal wrap (is_plain (integer_of x) i) (instant_by (integer_of x) i x)
node_time _ wrap = Err (codes "Numeric value expected for dt'' literal")

time_items : (w : Tree OneItem) (wrap : Bool) → time_literal w wrap ≡ node_time (items w) wrap
unfolding items time_literal
time_items (NumberTree x i) wrap = refl
time_items (FloatTree f i) wrap = refl
time_items (NamedTree b) wrap = refl
time_items (EnclosedTree (opener.Tag i n) w) wrap = refl
time_items (EnclosedTree opener.Simple w) wrap = refl
time_items (ListTree k w) wrap = refl
time_items (StringTree w) wrap = refl
time_items (StreamTree s m) wrap = refl

time_same : (w v : Tree OneItem) (wrap : Bool) → items w ≡ items v → time_literal w wrap ≡ time_literal v wrap
time_same w v wrap e = time_items w wrap ∙ (ap (λ x. node_time x wrap) e ∙ sym (time_items v wrap))

abbrev node_number : Node Item → Option (List ℕ)
node_number (kind.Number x i) = Some x
node_number _ = None

number_items : (w : Tree OneItem) → number_text w ≡ node_number (items w)
unfolding items
number_items (NumberTree x i) = refl
number_items (FloatTree f i) = refl
number_items (NamedTree b) = refl
number_items (EnclosedTree (opener.Tag i n) w) = refl
number_items (EnclosedTree opener.Simple w) = refl
number_items (ListTree k w) = refl
number_items (StringTree w) = refl
number_items (StreamTree s m) = refl

integer_same : (w v : Tree OneItem) → items w ≡ items v → item_integer w ≡ item_integer v
integer_same w v e = ap (λ o. option_and_then within_128 (option_and_then integer_of o)) (number_items w ∙ (ap node_number e ∙ sym (number_items v)))

abbrev node_pieces : Node Pieces → Option (List ℕ)
node_pieces (kind.LastPiece p) = both_joined (only_bytes (means p)) (Some [])
node_pieces (kind.Plus p w) = both_joined (only_bytes (means p)) (node_pieces w)

abbrev node_strings : Node (Entries Strings) → Option (List ℕ)
node_strings kind.End = Some []
node_strings (kind.Then (kind.Chunk w) m) = both_joined (node_pieces w) (node_strings m)

abbrev node_bytes : Node Item → Option (List ℕ)
node_bytes (kind.String w) = node_pieces w
node_bytes (kind.Stream m) = node_strings m
node_bytes _ = None

pieces_items : (w : Tree OneString) → pieces_bytes w ≡ node_pieces (items w)
unfolding items
pieces_items (LastPieceTree p) = refl
pieces_items (PlusTree p s t w) = ap (both_joined (piece_bytes p)) (pieces_items w)

strings_items : (m : Tree (Rest Strings)) → strings_bytes m ≡ node_strings (items m)
unfolding items
strings_items (LastTree (ChunkTree w) s) = ap (λ o. both_joined o (Some [])) (pieces_items w)
strings_items (MoreTree (ChunkTree w) s m) = ap (λ o. both_joined o (strings_bytes m)) (pieces_items w) ∙ ap (both_joined (node_pieces (items w))) (strings_items m)

bytes_items : (w : Tree OneItem) → item_bytes w ≡ node_bytes (items w)
unfolding items
bytes_items (NumberTree x i) = refl
bytes_items (FloatTree f i) = refl
bytes_items (NamedTree b) = refl
bytes_items (EnclosedTree (opener.Tag i n) w) = refl
bytes_items (EnclosedTree opener.Simple w) = refl
bytes_items (ListTree k w) = refl
bytes_items (StringTree w) = pieces_items w
bytes_items (StreamTree s m) = strings_items m

bytes_same : (w v : Tree OneItem) → items w ≡ items v → item_bytes w ≡ item_bytes v
bytes_same w v e = bytes_items w ∙ (ap node_bytes e ∙ sym (bytes_items v))

abbrev node_elements : Node (Entries Elements) → List (Node Item)
node_elements kind.End = []
node_elements (kind.Then (kind.Element x) m) = x ∷ node_elements m

abbrev node_array : Node Item → Option (List (Node Item))
node_array (kind.Listed Array i m) = Some (node_elements m)
node_array _ = None

abbrev items_of_all : List (Tree OneItem) → List (Node Item)
items_of_all ws = map (λ (w : Tree OneItem). items w) ws

elements_items : (m : Tree (Rest Elements)) → items_of_all (map element (entries m)) ≡ node_elements (items m)
unfolding items
elements_items (LastTree (ElementTree w) s) = refl
elements_items (MoreTree (ElementTree w) s m) = ap (λ xs. items w ∷ xs) (elements_items m)

inside_items : (w : Tree (Inside Array)) → items_of_all (map element (entries_inside w)) ≡ node_elements (items w).1
unfolding items
inside_items (EmptyTree i s) = refl
inside_items (FullTree h s m) = elements_items m

array_is_items : (w : Tree OneItem) → option_map items_of_all (array_items w) ≡ node_array (items w)
unfolding items
array_is_items (NumberTree x i) = refl
array_is_items (FloatTree f i) = refl
array_is_items (NamedTree b) = refl
array_is_items (EnclosedTree (opener.Tag i n) w) = refl
array_is_items (EnclosedTree opener.Simple w) = refl
array_is_items (ListTree Array w) = ap (λ xs. Some xs) (inside_items w)
array_is_items (ListTree Map w) = refl
array_is_items (StringTree w) = refl
array_is_items (StreamTree s m) = refl

array_same : (w v : Tree OneItem) → items w ≡ items v → option_map items_of_all (array_items w) ≡ option_map items_of_all (array_items v)
array_same w v e = array_is_items w ∙ (ap node_array e ∙ sym (array_is_items v))

abbrev node_quoted_piece : Node Piece → Option (List ℕ)
node_quoted_piece (kind.Literal x None) = only_bytes (literal_content x)
node_quoted_piece _ = None

abbrev node_quoted_pieces : Node Pieces → Option (List ℕ)
node_quoted_pieces (kind.LastPiece p) = node_quoted_piece p
node_quoted_pieces (kind.Plus p w) = both_joined (node_quoted_piece p) (node_quoted_pieces w)

abbrev node_quoted : Node Item → Option (List ℕ)
node_quoted (kind.String w) = node_quoted_pieces w
node_quoted _ = None

quoted_piece_items : (p : Tree OnePiece) → quoted_bytes p ≡ node_quoted_piece (items p)
unfolding items
quoted_piece_items (LiteralTree x None) = refl
quoted_piece_items (LiteralTree x (Some i)) = refl
quoted_piece_items (EllipsisTree x) = refl
quoted_piece_items (EmbeddedTree w i) = refl

quoted_pieces_items : (w : Tree OneString) → quoted_string_bytes w ≡ node_quoted_pieces (items w)
unfolding items
quoted_pieces_items (LastPieceTree p) = quoted_piece_items p
quoted_pieces_items (PlusTree p s t w) = ap (λ o. both_joined o (quoted_string_bytes w)) (quoted_piece_items p) ∙ ap (both_joined (node_quoted_piece (items p))) (quoted_pieces_items w)

quoted_items : (w : Tree OneItem) → quoted_item_bytes w ≡ node_quoted (items w)
unfolding items
quoted_items (NumberTree x i) = refl
quoted_items (FloatTree f i) = refl
quoted_items (NamedTree b) = refl
quoted_items (EnclosedTree (opener.Tag i n) w) = refl
quoted_items (EnclosedTree opener.Simple w) = refl
quoted_items (ListTree k w) = refl
quoted_items (StringTree w) = quoted_pieces_items w
quoted_items (StreamTree s m) = refl

quoted_same : (w v : Tree OneItem) → items w ≡ items v → quoted_item_bytes w ≡ quoted_item_bytes v
quoted_same w v e = quoted_items w ∙ (ap node_quoted e ∙ sym (quoted_items v))

-- ---- times

without_same : (i : Option Indicator) (n : ℕ) (c d : Conversion) → SameConversion c d → SameConversion (without_tag i n c) (without_tag i n d)
without_same i n (Err e) (Err f) h = h
without_same i n (Ok w) (Err f) h = absurd h
without_same i n (Err e) (Ok v) h = absurd h
without_same i n (Ok w) (Ok v) h = kept (is_shortest i n)
  where
    kept : (b : Bool) → SameConversion (if b then Ok w else Err changed_encoding) (if b then Ok v else Err changed_encoding)
    kept true = h
    kept false = refl

time_of_same : (o p : TagOf (Tree OneItem)) → SameTag o p → SameIfAny (time_of_tag o) (time_of_tag p)
time_of_same None None h = tt
time_of_same None (Some q) h = absurd h
time_of_same (Some p) None h = absurd h
time_of_same (Some (n, i, w)) (Some (m, j, v)) h = subst (λ k. SameIfAny (time_of_tag (Some (n, i, w))) (time_of_tag (Some (k, j, v)))) h.0 (subst (λ k. SameIfAny (time_of_tag (Some (n, i, w))) (time_of_tag (Some (n, k, v)))) h.1 (by_number (n == 1)))
  where
    by_number : (b : Bool) → SameIfAny (if b then Some (without_tag i n (time_literal w true)) else None) (if b then Some (without_tag i n (time_literal v true)) else None)
    by_number true = without_same i n (time_literal w true) (time_literal v true) (conversion_is (time_literal w true) (time_literal v true) (time_same w v true h.2))
    by_number false = tt

pretty_time_same : (a : CallArguments) → SameAct (pretty_time a)
unfolding pretty_time
pretty_time_same a w v e = reply_same (time_of_tag (called_tag a w)) (time_of_tag (called_tag a v)) w v e (time_of_same (called_tag a w) (called_tag a v) (called_same a w v e))

-- ---- bignums

tag_same : (n : ℕ) (w v : Tree OneItem) → items w ≡ items v → items (tag_tree n w) ≡ items (tag_tree n v)
unfolding items
tag_same n w v e = ap (kind.Tagged n None) e

mean_same : (w v x y : Tree OneItem) → items w ≡ items v → items x ≡ items y → mean_the_same w x ≡ mean_the_same v y
mean_same w v x y e f =
    ap (λ (z : Node Item). are_same (option_and_then encoded (means z)) (item_encoding x)) e ∙ ap (λ (z : Node Item). are_same (item_encoding v) (option_and_then encoded (means z))) f

integer_if_same : (w v : Tree OneItem) (o : Option ℤ) → items w ≡ items v → if_same_integer w o ≡ if_same_integer v o
integer_if_same w v None e = refl
integer_if_same w v (Some z) e = ap (λ b. if b then Some (Ok (integer_tree z)) else None) (mean_same w v (integer_tree z) (integer_tree z) e refl)

integer_of_same : (n : ℕ) (w v : Tree OneItem) (o : Option (List ℕ)) → items w ≡ items v → integer_of_tag n w o ≡ integer_of_tag n v o
integer_of_same n w v None e = refl
integer_of_same n w v (Some bs) e = integer_if_same (tag_tree n w) (tag_tree n v) (bignum_integer n (magnitude bs)) (tag_same n w v e)

bignum_of_same : (o p : TagOf (Tree OneItem)) → SameTag o p → bignum_of_tag o ≡ bignum_of_tag p
bignum_of_same None None h = refl
bignum_of_same None (Some q) h = absurd h
bignum_of_same (Some p) None h = absurd h
bignum_of_same (Some (n, Some i, w)) (Some (m, Some j, v)) h = refl
bignum_of_same (Some (n, Some i, w)) (Some (m, None, v)) h = let bad = h.1 in absurd cc
bignum_of_same (Some (n, None, w)) (Some (m, Some j, v)) h = let bad = h.1 in absurd cc
bignum_of_same (Some (n, None, w)) (Some (m, None, v)) h =
    integer_of_same n w v (quoted_item_bytes w) h.2 ∙ (ap (integer_of_tag n v) (quoted_same w v h.2) ∙ ap (λ k. integer_of_tag k v (quoted_item_bytes v)) h.0)

pretty_bignum_same : (a : CallArguments) → SameAct (pretty_bignum a)
unfolding pretty_bignum
pretty_bignum_same a w v e =
    reply_same (bignum_of_tag (called_tag a w)) (bignum_of_tag (called_tag a v)) w v e
    (any_is (bignum_of_tag (called_tag a w)) (bignum_of_tag (called_tag a v)) (bignum_of_same (called_tag a w) (called_tag a v) (called_same a w v e)))

-- ---- addresses

in_tag_same : (wrap : Bool) (n : ℕ) (w v : Tree OneItem) → items w ≡ items v → items (in_tag wrap n w) ≡ items (in_tag wrap n v)
in_tag_same true n w v e = tag_same n w v e
in_tag_same false n w v e = e

-- an array with another first element
first_rest : (x : Tree OneItem) (m : Tree (Rest Elements)) → items (with_item 0 x m) ≡ changed 0 (λ _. items x) (items m)
unfolding items
first_rest x (LastTree (ElementTree w) s) = refl
first_rest x (MoreTree (ElementTree w) s m) = refl

first_inside : (x : Tree OneItem) (w : Tree (Inside Array)) → items (ListTree Array (with_item 0 x w)) ≡ changed 0 (λ _. items x) (items (ListTree Array w))
unfolding items
first_inside x (EmptyTree i s) = refl
first_inside x (FullTree h s m) = ap (kind.Listed Array (head_indicator h)) (first_rest x m)

first_items : (x w : Tree OneItem) (es : List (Tree OneItem)) → array_items w ≡ Some es → items (with_item 0 x w) ≡ changed 0 (λ _. items x) (items w)
first_items x (ListTree Array w) es is = first_inside x w
first_items x (ListTree Map w) es is = absurd cc
first_items x (NumberTree y i) es is = absurd cc
first_items x (FloatTree f i) es is = absurd cc
first_items x (NamedTree b) es is = absurd cc
first_items x (EnclosedTree l w) es is = absurd cc
first_items x (StringTree w) es is = absurd cc
first_items x (StreamTree s m) es is = absurd cc

if_conversion : (b c : Bool) (x y : Tree OneItem) (e : Message) → b ≡ c → items x ≡ items y → SameConversion (if b then Ok x else Err e) (if c then Ok y else Err e)
if_conversion true true x y e is same = same
if_conversion false false x y e is same = refl
if_conversion true false x y e is same = absurd cc
if_conversion false true x y e is same = absurd cc

module _ (version : IpVersion) (wrap : Bool) (w v : Tree OneItem) (e : items w ≡ items v) where
  wrapped : items (in_tag wrap (address_tag version) w) ≡ items (in_tag wrap (address_tag version) v)
  wrapped = in_tag_same wrap (address_tag version) w v e

  -- the literal in place of the item
  literal_if : (new : Tree OneItem) (c : Conversion) → SameConversion (if_same version wrap w new c) (if_same version wrap v new c)
  literal_if new (Err f) = refl
  literal_if new (Ok back) =
      if_conversion (mean_the_same (in_tag wrap (address_tag version) w) back) (mean_the_same (in_tag wrap (address_tag version) v) back) new new changed_encoding
      (mean_same (in_tag wrap (address_tag version) w) (in_tag wrap (address_tag version) v) back back wrapped refl) refl

  literal_same : (t : Result (List ℕ) Message) → SameConversion (as_literal version wrap w t) (as_literal version wrap v t)
  literal_same (Err f) = refl
  literal_same (Ok t) = literal_if (literal_tree (address_prefix wrap) t) (address_item wrap t)

  length_same : (o : Option ℤ) (p : Option (List ℕ)) → SameConversion (by_length version wrap w o p) (by_length version wrap v o p)
  length_same None p = refl
  length_same (Some z) None = refl
  length_same (Some z) (Some bs) = literal_same (prefix_text version z bs)

  module _ (es fs : List (Tree OneItem)) (there : array_items w ≡ Some es) (other : array_items v ≡ Some fs) where
    -- the literal in place of the first element
    put_same : (x : Tree OneItem) → items (with_first version wrap w x) ≡ items (with_first version wrap v x)
    put_same x = in_tag_same wrap (address_tag version) (with_item 0 x w) (with_item 0 x v) (first_items x w es there ∙ (ap (changed 0 (λ _. items x)) e ∙ sym (first_items x v fs other)))

    first_if : (new : Tree OneItem) (c : Conversion) → SameConversion (if_same version wrap w (with_first version wrap w new) (converted c (λ x. Ok (with_first version wrap w x)))) (if_same version wrap v (with_first version wrap v new) (converted c (λ x. Ok (with_first version wrap v x))))
    first_if new (Err f) = refl
    first_if new (Ok x) =
        if_conversion (mean_the_same (in_tag wrap (address_tag version) w) (with_first version wrap w x)) (mean_the_same (in_tag wrap (address_tag version) v) (with_first version wrap v x)) (with_first version wrap w new) (with_first version wrap v new) changed_encoding
        (mean_same (in_tag wrap (address_tag version) w) (in_tag wrap (address_tag version) v) (with_first version wrap w x) (with_first version wrap v x) wrapped (put_same x)) (put_same new)

    first_same : (t : Result (List ℕ) Message) → SameConversion (as_first version wrap w t) (as_first version wrap v t)
    first_same (Err f) = refl
    first_same (Ok t) = first_if (literal_tree (address_prefix false) t) (address_item false t)

    element_same : (o p : Option (List ℕ)) (a b : Tree OneItem) (rest others : List (Tree OneItem)) → o ≡ p → items a ≡ items b → items_of_all rest ≡ items_of_all others
        → SameConversion (by_first version wrap w o a rest) (by_first version wrap v p b others)
    element_same (Some x) (Some y) a b rest others is same also = subst (λ z. SameConversion (by_first version wrap w (Some x) a rest) (by_first version wrap v z b others)) is (first_same (whole_text version x))
    element_same (Some x) None a b rest others is same also = absurd cc
    element_same None (Some y) a b rest others is same also = absurd cc
    element_same None None a b [] [] is same rest = refl
    element_same None None a b [] (d ∷ ds) is same rest = absurd cc
    element_same None None a b (c ∷ cs) [] is same rest = absurd cc
    element_same None None a b (c ∷ []) (d ∷ []) is same rest =
        subst (λ z. SameConversion (by_length version wrap w (item_integer a) (item_bytes c)) (by_length version wrap v z (item_bytes d))) (integer_same a b same)
        (subst (λ z. SameConversion (by_length version wrap w (item_integer a) (item_bytes c)) (by_length version wrap v (item_integer a) z)) (bytes_same c d cc) (length_same (item_integer a) (item_bytes c)))
    element_same None None a b (c ∷ []) (d ∷ f ∷ ds) is same rest = absurd cc
    element_same None None a b (c ∷ f ∷ cs) (d ∷ []) is same rest = absurd cc
    element_same None None a b (c ∷ f ∷ cs) (d ∷ g ∷ ds) is same rest = refl

  elements_same : (o p : Option (List (Tree OneItem))) → array_items w ≡ o → array_items v ≡ p → option_map items_of_all o ≡ option_map items_of_all p → SameConversion (by_elements version wrap w o) (by_elements version wrap v p)
  elements_same None None there other is = refl
  elements_same None (Some fs) there other is = absurd cc
  elements_same (Some es) None there other is = absurd cc
  elements_same (Some []) (Some []) there other is = refl
  elements_same (Some []) (Some (f ∷ fs)) there other is = absurd cc
  elements_same (Some (a ∷ more)) (Some []) there other is = absurd cc
  elements_same (Some (a ∷ more)) (Some (b ∷ others)) there other is =
      let one : items a ≡ items b = cc in
      let rest : items_of_all more ≡ items_of_all others = cc in
      element_same (a ∷ more) (b ∷ others) there other (item_bytes a) (item_bytes b) a b more others (bytes_same a b one) one rest

  bytes_by : (o : Option (List ℕ)) → SameConversion (by_bytes version wrap w o) (by_bytes version wrap v o)
  bytes_by (Some bs) = literal_same (whole_text version bs)
  bytes_by None = elements_same (array_items w) (array_items v) refl refl (array_same w v e)

  address_same : SameConversion (address_literal w version wrap) (address_literal v version wrap)
  unfolding address_literal
  address_same = subst (λ o. SameConversion (by_bytes version wrap w (item_bytes w)) (by_bytes version wrap v o)) (bytes_same w v e) (bytes_by (item_bytes w))

address_of_same : (o p : TagOf (Tree OneItem)) → SameTag o p → SameIfAny (address_of_tag o) (address_of_tag p)
address_of_same None None h = tt
address_of_same None (Some q) h = absurd h
address_of_same (Some p) None h = absurd h
address_of_same (Some (n, i, w)) (Some (m, j, v)) h = subst (λ k. SameIfAny (address_of_tag (Some (n, i, w))) (address_of_tag (Some (k, j, v)))) h.0 (subst (λ k. SameIfAny (address_of_tag (Some (n, i, w))) (address_of_tag (Some (n, k, v)))) h.1 (by_number (n == 52) (n == 54)))
  where
    by_number : (b c : Bool) → SameIfAny (if b then Some (without_tag i n (address_literal w V4 true)) else if c then Some (without_tag i n (address_literal w V6 true)) else None) (if b then Some (without_tag i n (address_literal v V4 true)) else if c then Some (without_tag i n (address_literal v V6 true)) else None)
    by_number true c = without_same i n (address_literal w V4 true) (address_literal v V4 true) (address_same V4 true w v h.2)
    by_number false true = without_same i n (address_literal w V6 true) (address_literal v V6 true) (address_same V6 true w v h.2)
    by_number false false = tt

pretty_address_same : (a : CallArguments) → SameAct (pretty_address a)
unfolding pretty_address
pretty_address_same a w v e = reply_same (address_of_tag (called_tag a w)) (address_of_tag (called_tag a v)) w v e (address_of_same (called_tag a w) (called_tag a v) (called_same a w v e))

pub pretty_all_same : (a : CallArguments) → SameAct (pretty_all a)
pretty_all_same a w v e =
    then_same (pretty_bignum a) (pretty_bignum_same a) (and_then (pretty_time a w) (pretty_address a)) (and_then (pretty_time a v) (pretty_address a))
    (then_same (pretty_address a) (pretty_address_same a) (pretty_time a w) (pretty_time a v) (pretty_time_same a w v e))

-- ---- what calls make of items

-- they make one thing of an item
pub makes_one : (act : CallArguments → Tree OneItem → Reply) → ((a : CallArguments) → SameAct (act a)) → (a : CallArguments) (x y z : Node Item) → Made act a x y → Made act a x z → y ≡ z
makes_one act same a x y z h k = sym h.2 ∙ ((same a h.0 k.0 (h.1 ∙ sym k.1)).1 ∙ k.2)
