-- Bytes take at least a ninth of their number on a single line: each head has at most nine, and shows something.
use Rattle.std.proofs.Common.{ℕ, ◌+◌, ◌*◌, ◌^◌, ◌≤◌, ◌<◌, Bool, true, false, cond, eqb, List, [], ◌∷◌, ◌++◌, length, map, Option, Some, None, length-append, arith}
use Rattle.std.specs.Fmt.{decimal}
use Rattle.std.proofs.lemmas.Fmt.{decimal_nonempty}
use Rattle.hex.specs.Hex.{lower_digits}
use Rattle.hex.proofs.HexLemmas.{length-encode_with}
use Rattle.cbor_edn_parts.specs.declared.base.indicator.Indicator.{Indicator}
use Rattle.cbor_edn_parts.specs.string.Contents.{escaped, all_escaped, hex_literal, kind_literal}
use Rattle.cbor_edn_parts.specs.declared.space.policy.Spacing.TheVariants.{OneLine}
use Rattle.cbor_edn_parts.specs.declared.string.StringKind.{StringKind}
use Rattle.cbor_edn_parts.specs.declared.string.StringKind.TheVariants.{Bytes, Text}
use Rattle.cbor_edn_model.specs.declared.cbor.heads.Width.{Width}
use Rattle.cbor_edn_model.specs.declared.cbor.heads.Width.TheVariants.{Immediate, One, Two, Four, Eight}
use Rattle.cbor_edn_model.specs.declared.layout.width.Spaces.TheVariants.{By}
use Rattle.cbor_edn_model.specs.declared.text.keyword.NonFinite.{NonFinite}
use Rattle.cbor_edn_model.specs.declared.text.keyword.NonFinite.TheVariants.{Infinity, NegativeInfinity, NaN}
use Rattle.cbor_edn_model.specs.text.Keywords.{non_finite_text}
use Rattle.cbor_edn_model.specs.tree.Items as kind
use Rattle.cbor_edn_model.specs.tree.Items.{Row, Bracketed, entries_of, Node, Item}
use Rattle.cbor_edn_model.specs.tree.Trees.{Rule, Tree, OneEntry, Rest, ChunkTree, ElementTree, ListTree}
use Rattle.cbor_edn_model.specs.cbor.Value.{float_bits, Value, Chunk, unsigned, negative, string, chunks, array, cbor_map, tag, simple, float, Values, no_values, value, values_len, Pairs, no_pairs, pair, pairs_len, head, ArgumentFits, list_encoding, chunk_encoding, chunk_encodings, string_major, encoding, encodings, pair_encodings, Fits, ValuesFit, PairsFit, simple_width}
use Rattle.cbor_edn_model.specs.cbor.Decoded.{list_indicator}
use Rattle.cbor_edn_model.specs.internal.Regular.{in_front, list_inside, key_value, regular}
use Rattle.cbor_edn_model.specs.internal.CborReading.{definite_tree, chunks_tree, string_row, simple_tree}
use Rattle.cbor_edn_model.specs.internal.Widths.{width}
use Rattle.cbor_edn_model.proofs.lemmas.cbor.CborHeads.{wide16, wide32, wide64}
use Rattle.cbor_edn_model.proofs.lemmas.cbor.CborTrees.{tree_of, row_tree, pair_row_tree}

abbrev pub line_width : {s : Rule} → Tree s → ℕ
line_width w = width (By OneLine) w

pub head_short : (major : ℕ) (w : Width) (n : ℕ) → length (head major w n) ≤ 9
unfolding head
head_short major Immediate n = omega arith
head_short major One n = omega arith
head_short major Two n = let h = wide16.len n in omega (arith, h)
head_short major Four n = let h = wide32.len n in omega (arith, h)
head_short major Eight n = let h = wide64.len n in omega (arith, h)

-- ---- leaves

pub fits_64 : (w : Width) (n : ℕ) → ArgumentFits w n → n < 2 ^ 64
fits_64 Immediate n h = omega (arith, h)
fits_64 One n h = omega (arith, h)
fits_64 Two n h = omega (arith, h)
fits_64 Four n h = omega (arith, h)
fits_64 Eight n h = omega (arith, h)

escaped_some : (c : ℕ) → 1 ≤ length (escaped c)
escaped_some c = grind arith

escaped_long : (bs : List ℕ) → length bs ≤ length (all_escaped bs)
escaped_long [] = omega arith
escaped_long (b ∷ bs) = let h = escaped_long bs in let g = escaped_some b in simp length-append (omega (arith, h, g))

hex_long : (bs : List ℕ) → length bs + 1 ≤ length (hex_literal bs)
hex_long bs = let h = length-encode_with lower_digits bs in simp length-append (omega (arith, h))

pub literal_long : (k : StringKind) (bs : List ℕ) → length bs + 1 ≤ length (kind_literal k bs)
literal_long Bytes bs = hex_long bs
literal_long Text bs = let h = escaped_long bs in simp length-append (omega (arith, h))

-- ---- strings

chunk_long : (k : StringKind) (c : Chunk) → length (chunk_encoding k c) ≤ 9 * line_width (ChunkTree (definite_tree k c))
unfolding width
chunk_long k c = let h = literal_long k c.1 in let g = head_short (string_major k) c.0 (length c.1) in simp length-append (omega (arith, h, g))

-- of entries with their row
abbrev pub row_width : {k : Row} → Option (Tree (Rest k)) → ℕ
row_width None = 0
row_width (Some m) = line_width m

pub in_front_wide : {k : Row} (e : Tree (OneEntry k)) (o : Option (Tree (Rest k))) → line_width e + row_width o ≤ line_width (in_front e o)
unfolding width
in_front_wide e None = omega arith
in_front_wide e (Some m) = omega arith

chunks_long : (k : StringKind) (cs : List Chunk) → length (chunk_encodings k cs) ≤ 9 * row_width (string_row (map (definite_tree k) cs))
chunks_long k [] = omega arith
chunks_long k (c ∷ cs) =
    let h = chunks_long k cs in
    let g = chunk_long k c in
    let f : line_width (ChunkTree (definite_tree k c)) + row_width (string_row (map (definite_tree k) cs)) ≤ row_width (string_row (map (definite_tree k) (c ∷ cs))) = in_front_wide (ChunkTree (definite_tree k c)) (string_row (map (definite_tree k) cs)) in
    let both = length-append (chunk_encoding k c) (chunk_encodings k cs) in
    omega (arith, h, g, f, both)

stream_long : (k : StringKind) (cs : List Chunk) → length (encoding (chunks k cs)) ≤ 9 * line_width (chunks_tree k cs)
unfolding width
stream_long Bytes [] = omega arith
stream_long Text [] = omega arith
stream_long k (c ∷ cs) =
    let h = chunks_long k (c ∷ cs) in
    let both = length-append (chunk_encodings k (c ∷ cs)) (255 ∷ []) in
    omega (arith, h, both)

-- ---- lists

pub inside_wide : (k : Bracketed) (i : Option Indicator) (o : Option (Tree (Rest (entries_of k)))) → row_width o ≤ line_width (list_inside {k = k} i o)
unfolding width
inside_wide k i None = omega arith
inside_wide k i (Some m) = omega arith

list_long : (major : ℕ) (w : Option Width) (n : ℕ) (parts : List ℕ) → length (list_encoding major w n parts) ≤ 9 + length parts
list_long major None n parts = simp length-append (omega arith)
list_long major (Some w) n parts = let h = head_short major w n in simp length-append (omega (arith, h))

bracketed_long : (k : Bracketed) (i : Option Indicator) (o : Option (Tree (Rest (entries_of k)))) (major : ℕ) (w : Option Width) (n : ℕ) (parts : List ℕ) → length parts ≤ 9 * row_width o → length (list_encoding major w n parts) ≤ 9 * line_width (ListTree k (list_inside i o))
unfolding width
bracketed_long k i o major w n parts le = let h = list_long major w n parts in let g = inside_wide k i o in omega (arith, h, g, le)

-- ---- simple values and numbers

pub number_some : (n : ℕ) → n < 2 ^ 64 → 1 ≤ length (decimal n)
number_some n fits = let h = decimal_nonempty n fits in omega (arith, h)

either_some : (b : Bool) (x y : Node Item) → 1 ≤ line_width (regular x) → 1 ≤ line_width (regular y) → 1 ≤ line_width (regular (cond b x y))
either_some true x y first second = first
either_some false x y first second = second

pub simple_some : (n : ℕ) → 1 ≤ line_width (simple_tree n)
unfolding width regular
simple_some n =
    either_some (eqb n 20) _ _ (omega arith) (either_some (eqb n 21) _ _ (omega arith) (either_some (eqb n 22) _ _ (omega arith) (either_some (eqb n 23) _ _ (omega arith) (omega arith))))

pub float_some : (f : NonFinite) → 1 ≤ length (non_finite_text f)
float_some Infinity = omega arith
float_some NegativeInfinity = omega arith
float_some NaN = omega arith

-- ---- values

mutual
  unfolding width

  pub value_long : (v : Value) → Fits v → length (encoding v) ≤ 9 * line_width (tree_of v)
  value_long (unsigned w n) fits = let h = head_short 0 w n in let g = number_some n (fits_64 w n fits) in omega (arith, h, g)
  value_long (negative w n) fits = let h = head_short 1 w n in omega (arith, h)
  value_long (string k w bs) fits = let h = head_short (string_major k) w (length bs) in let g = literal_long k bs in simp length-append (omega (arith, h, g))
  value_long (chunks k cs) fits = stream_long k cs
  value_long (array w vs) fits = bracketed_long kind.Array (list_indicator w (values_len vs)) (row_tree vs) 4 w (values_len vs) (encodings vs) (values_long vs fits.1)
  value_long (cbor_map w ps) fits = bracketed_long kind.Map (list_indicator w (pairs_len ps)) (pair_row_tree ps) 5 w (pairs_len ps) (pair_encodings ps) (pairs_long ps fits.1)
  value_long (tag w n v) fits = let h = head_short 6 w n in let g = value_long v fits.1 in let both = length-append (head 6 w n) (encoding v) in omega (arith, h, g, both)
  value_long (simple n) fits = let h = head_short 7 (simple_width n) n in let g = simple_some n in omega (arith, h, g)
  value_long (float w f) fits = let h = head_short 7 w (float_bits w f) in let g = float_some f in omega (arith, h, g)

  values_long : (vs : Values) → ValuesFit vs → length (encodings vs) ≤ 9 * row_width (row_tree vs)
  values_long no_values fits = omega arith
  values_long (value v vs) fits =
      let h = value_long v fits.0 in
      let g = values_long vs fits.1 in
      let f : line_width (tree_of v) + row_width (row_tree vs) ≤ row_width (row_tree (value v vs)) = in_front_wide (ElementTree (tree_of v)) (row_tree vs) in
      let both = length-append (encoding v) (encodings vs) in
      omega (arith, h, g, f, both)

  pairs_long : (ps : Pairs) → PairsFit ps → length (pair_encodings ps) ≤ 9 * row_width (pair_row_tree ps)
  pairs_long no_pairs fits = omega arith
  pairs_long (pair k v ps) fits =
      let h = value_long k fits.0 in
      let i = value_long v fits.1 in
      let g = pairs_long ps fits.2 in
      let f : line_width (key_value (tree_of k) (tree_of v)) + row_width (pair_row_tree ps) ≤ row_width (pair_row_tree (pair k v ps)) = in_front_wide (key_value (tree_of k) (tree_of v)) (pair_row_tree ps) in
      let one : line_width (tree_of k) + line_width (tree_of v) ≤ line_width (key_value (tree_of k) (tree_of v)) = omega arith in
      let all = length-append (encoding k ++ encoding v) (pair_encodings ps) in
      let both = length-append (encoding k) (encoding v) in
      omega (arith, h, i, g, f, one, all, both)
