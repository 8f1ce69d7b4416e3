-- From head to head through an item: its heads show how wide it is at the least.
use Rattle.std.proofs.Common.{◌≡◌, ℕ, zero, suc, ◌+◌, ◌-◌, ◌*◌, ◌^◌, ◌≤◌, ◌<◌, true, false, List, [], ◌∷◌, ◌++◌, map, length, Option, Some, None, Ok, refl, sym, ap, subst, ◌∙◌, append_assoc, arith}
use Rattle.std.specs.Prelude.{min}
use Rattle.std.proofs.Math.Seq.{drop-append_seam}
use Rattle.cbor_edn_parts.specs.declared.base.indicator.Indicator.{Indicator}
use Rattle.cbor_edn_parts.specs.declared.string.StringKind.{StringKind}
use Rattle.cbor_edn_parts.specs.declared.string.StringKind.TheVariants.{Bytes, Text}
use Rattle.cbor_edn_model.specs.declared.cbor.heads.Width.{Width}
use Rattle.cbor_edn_model.specs.tree.Items as kind
use Rattle.cbor_edn_model.specs.tree.Items.{Bracketed, entries_of}
use Rattle.cbor_edn_model.specs.tree.Trees.{Tree, OneItem, Rest, ChunkTree, ElementTree, ListTree}
use Rattle.cbor_edn_model.specs.cbor.Value.{Value, Chunk, unsigned, negative, string, chunks, array, cbor_map, tag, simple, float, Values, no_values, value, values_len, Pairs, no_pairs, pair, pairs_len, head, break, simple_width, float_bits, LengthFits, ChunkFits, ChunksFit, list_encoding, chunk_encoding, chunk_encodings, encoding, encodings, pair_encodings, Fits, ValuesFit, PairsFit}
use Rattle.cbor_edn_model.specs.cbor.Decoded.{list_indicator}
use Rattle.cbor_edn_model.specs.internal.Regular.{list_inside, key_value}
use Rattle.cbor_edn_model.specs.internal.CborReading.{Argument, Head, head_at, definite_tree, chunks_tree, string_row}
use Rattle.cbor_edn_model.specs.internal.Widths.{width}
use Rattle.cbor_edn_model.proofs.lemmas.cbor.CborHeads.{IsBytes, head_again, open_again}
use Rattle.cbor_edn_model.proofs.lemmas.cbor.CborSpecials.{simple_fits, float_fits}
use Rattle.cbor_edn_model.proofs.lemmas.cbor.CborTrees.{tree_of, row_tree, pair_row_tree}
use Rattle.cbor_edn_stream.specs.Heads.{behind_content, is_break, parts_of, opened, owed}
use Rattle.cbor_edn_stream.specs.Wide.{IsWider}
use Rattle.cbor_edn_stream.proofs.lemmas.Lengths.{line_width, row_width, in_front_wide, inside_wide, literal_long, number_some, simple_some, float_some, fits_64}
use Rattle.cbor_edn_stream.proofs.lemmas.Prefixes.{read_value}

-- The heads from these bytes on end an item: so many lists and strings of indefinite length are open, so many items are due, and all show no
-- more than so many columns.
pub data Walks : List ℕ → ℕ → ℕ → ℕ → Type 0 where
  ended : {rest : List ℕ} {w : ℕ} → Walks rest 0 0 w
  closed : {bytes rest : List ℕ} {depth due w : ℕ} → head_at bytes ≡ Ok ((7, None), rest) → Walks rest depth due w → Walks bytes (suc depth) due w
  shown : {bytes rest : List ℕ} {major : ℕ} {argument : Argument} {depth due w m : ℕ} → head_at bytes ≡ Ok ((major, argument), rest) → is_break major argument ≡ false
      → Walks (behind_content major argument rest) (opened argument depth) (owed depth due (parts_of major argument)) w → w < m → Walks bytes depth due m

wider : (bytes : List ℕ) (depth due w m : ℕ) → Walks bytes depth due w → w ≤ m → Walks bytes depth due m
wider bytes depth due w m ended le = ended
wider bytes depth due w m (closed {rest = rest} {depth = outer} is s) le = closed is (wider rest outer due w m s le)
wider bytes depth due w m (shown is plain s lt) le = shown is plain s (omega (arith, lt, le))

-- ---- what is due

-- so many more are due in front
abbrev more : ℕ → ℕ → ℕ → ℕ
more k zero due = due + k
more k (suc depth) due = due

more_again : (k l depth due : ℕ) → more k depth (more l depth due) ≡ more (l + k) depth due
more_again k l zero due = omega arith
more_again k l (suc depth) due = refl

none_more : (depth due : ℕ) → more 0 depth due ≡ due
none_more zero due = omega arith
none_more (suc depth) due = refl

owed_parts : (depth due parts : ℕ) → owed depth (more 1 depth due) parts ≡ more parts depth due
owed_parts zero due parts = omega arith
owed_parts (suc depth) due parts = refl

-- so many items in front of others, which are so wide
abbrev Row : ℕ → List ℕ → ℕ → Type 0
Row k bytes w = (rest : List ℕ) (depth due n : ℕ) → Walks rest depth due n → Walks (bytes ++ rest) depth (more k depth due) (w + n)

regrouped : (a b rest : List ℕ) (depth due w : ℕ) → Walks (a ++ (b ++ rest)) depth due w → Walks ((a ++ b) ++ rest) depth due w
regrouped a b rest depth due w s = subst (λ (l : List ℕ). Walks l depth due w) (sym (append_assoc a b rest)) s

as_due : (bytes : List ℕ) (depth due other w : ℕ) → due ≡ other → Walks bytes depth due w → Walks bytes depth other w
as_due bytes depth due other w e s = subst (λ (d : ℕ). Walks bytes depth d w) e s

no_row : Row 0 [] 0
no_row rest depth due n s = as_due rest depth due (more 0 depth due) (0 + n) (sym (none_more depth due)) (wider rest depth due n (0 + n) s (omega arith))

as_row : (k l : ℕ) (bytes : List ℕ) (w : ℕ) → k ≡ l → Row k bytes w → Row l bytes w
as_row k l bytes w e row = subst (λ (n : ℕ). Row n bytes w) e row

two_rows : (k l : ℕ) (a b : List ℕ) (v w m : ℕ) → Row k a v → Row l b w → v + w ≤ m → Row (l + k) (a ++ b) m
two_rows k l a b v w m first second le rest depth due n s =
    regrouped a b rest depth (more (l + k) depth due) (m + n) (as_due (a ++ (b ++ rest)) depth (more k depth (more l depth due)) (more (l + k) depth due) (m + n) (more_again k l depth due)
    (wider (a ++ (b ++ rest)) depth (more k depth (more l depth due)) (v + (w + n)) (m + n) (first (b ++ rest) depth (more l depth due) (w + n) (second rest depth due n s)) (omega (arith, le))))

-- ---- an item, by its head

-- an item shows its head, and what that announces
headed : (bytes rest : List ℕ) (major : ℕ) (argument : Argument) (depth due w m : ℕ) → head_at bytes ≡ Ok ((major, argument), rest) → is_break major argument ≡ false
    → Walks (behind_content major argument rest) (opened argument depth) (more (parts_of major argument) depth due) w → w < m → Walks bytes depth (more 1 depth due) m
headed bytes rest major argument depth due w m is plain s lt = shown is plain (as_due _ (opened argument depth) (more (parts_of major argument) depth due) (owed depth (more 1 depth due) (parts_of major argument)) w (sym (owed_parts depth due (parts_of major argument))) s) lt

-- a head that announces nothing, with what it holds
leaf : (major : ℕ) (w : Width) (n : ℕ) (bytes rest : List ℕ) (depth due m k : ℕ) → head_at bytes ≡ Ok ((major, Some (w, n)), rest) → parts_of major (Some (w, n)) ≡ 0 → Walks (behind_content major (Some (w, n)) rest) depth due k → k < m → Walks bytes depth (more 1 depth due) m
leaf major w n bytes rest depth due m k is none s lt =
    headed bytes rest major (Some (w, n)) depth due k m is refl (as_due _ depth due (more (parts_of major (Some (w, n))) depth due) k (sym (ap (λ p. more p depth due) none ∙ none_more depth due)) s) lt

-- A break behind its parts ends what has indefinite length.
open_shown : (major k : ℕ) (parts : List ℕ) (w m : ℕ) → is_break major None ≡ false → Row k parts w → w < m → (bytes rest : List ℕ) (depth due n : ℕ) → head_at bytes ≡ Ok ((major, None), (parts ++ break ∷ []) ++ rest)
    → Walks rest depth due n → Walks bytes depth (more 1 depth due) (m + n)
open_shown major k parts w m plain row lt bytes rest depth due n is s =
    let end : Walks (break ∷ rest) (suc depth) due n = closed (open_again 7 rest) s in
    let all : Walks ((parts ++ break ∷ []) ++ rest) (suc depth) due (w + n) = regrouped parts (break ∷ []) rest (suc depth) due (w + n) (row (break ∷ rest) (suc depth) due n end) in
    headed bytes ((parts ++ break ∷ []) ++ rest) major None depth due (w + n) (m + n) is plain
    (subst (λ (d : ℕ). Walks ((parts ++ break ∷ []) ++ rest) d (more 0 depth due) (w + n)) (omega arith) (as_due _ (suc depth) due (more 0 depth due) (w + n) (sym (none_more depth due)) all))
    (omega (arith, lt))

-- ---- strings

definite_shown : (k : StringKind) (c : Chunk) (m : ℕ) → ChunkFits k c → 0 < m → Row 1 (chunk_encoding k c) m
definite_shown Bytes c m fits some rest depth due n s = regrouped (head 2 c.0 (length c.1)) c.1 rest depth (more 1 depth due) (m + n)
    (leaf 2 c.0 (length c.1) _ (c.1 ++ rest) depth due (m + n) n (head_again 2 c.0 (length c.1) (c.1 ++ rest) fits.0) refl (subst (λ (l : List ℕ). Walks l depth due n) (sym (drop-append_seam c.1 rest)) s) (omega (arith, some)))
definite_shown Text c m fits some rest depth due n s = regrouped (head 3 c.0 (length c.1)) c.1 rest depth (more 1 depth due) (m + n)
    (leaf 3 c.0 (length c.1) _ (c.1 ++ rest) depth due (m + n) n (head_again 3 c.0 (length c.1) (c.1 ++ rest) fits.0) refl (subst (λ (l : List ℕ). Walks l depth due n) (sym (drop-append_seam c.1 rest)) s) (omega (arith, some)))

chunk_some : (k : StringKind) (c : Chunk) → 0 < line_width (ChunkTree (definite_tree k c))
unfolding width
chunk_some k c = let h = literal_long k c.1 in omega (arith, h)

chunks_shown : (k : StringKind) (cs : List Chunk) → ChunksFit k cs → Row (length cs) (chunk_encodings k cs) (row_width (string_row (map (definite_tree k) cs)))
chunks_shown k [] fits = no_row
chunks_shown k (c ∷ cs) fits =
    let f : line_width (ChunkTree (definite_tree k c)) + row_width (string_row (map (definite_tree k) cs)) ≤ row_width (string_row (map (definite_tree k) (c ∷ cs))) = in_front_wide (ChunkTree (definite_tree k c)) (string_row (map (definite_tree k) cs)) in
    as_row (length cs + 1) (suc (length cs)) (chunk_encoding k c ++ chunk_encodings k cs) (row_width (string_row (map (definite_tree k) (c ∷ cs)))) (omega arith)
    (two_rows 1 (length cs) (chunk_encoding k c) (chunk_encodings k cs) (line_width (ChunkTree (definite_tree k c))) (row_width (string_row (map (definite_tree k) cs))) (row_width (string_row (map (definite_tree k) (c ∷ cs))))
    (definite_shown k c (line_width (ChunkTree (definite_tree k c))) fits.0 (chunk_some k c)) (chunks_shown k cs fits.1) f)

stream_wide : (k : StringKind) (cs : List Chunk) → row_width (string_row (map (definite_tree k) cs)) < line_width (chunks_tree k cs)
unfolding width
stream_wide Bytes [] = omega arith
stream_wide Text [] = omega arith
stream_wide k (c ∷ cs) = omega arith

stream_shown : (k : StringKind) (cs : List Chunk) → ChunksFit k cs → Row 1 (encoding (chunks k cs)) (line_width (chunks_tree k cs))
stream_shown Bytes cs fits rest depth due n s = open_shown 2 (length cs) (chunk_encodings Bytes cs) _ (line_width (chunks_tree Bytes cs)) refl (chunks_shown Bytes cs fits) (stream_wide Bytes cs) _ rest depth due n (open_again 2 ((chunk_encodings Bytes cs ++ break ∷ []) ++ rest)) s
stream_shown Text cs fits rest depth due n s = open_shown 3 (length cs) (chunk_encodings Text cs) _ (line_width (chunks_tree Text cs)) refl (chunks_shown Text cs fits) (stream_wide Text cs) _ rest depth due n (open_again 3 ((chunk_encodings Text cs ++ break ∷ []) ++ rest)) s

-- ---- lists

list_wide : (k : Bracketed) (i : Option Indicator) (o : Option (Tree (Rest (entries_of k)))) → row_width o < line_width (ListTree k (list_inside i o))
unfolding width
list_wide k i o = let h = inside_wide k i o in omega (arith, h)

array_shown : (w : Option Width) (n : ℕ) (parts : List ℕ) (v m : ℕ) → LengthFits w n → Row n parts v → v < m → Row 1 (list_encoding 4 w n parts) m
array_shown (Some w) n parts v m fits row lt rest depth due k s = regrouped (head 4 w n) parts rest depth (more 1 depth due) (m + k)
    (headed _ (parts ++ rest) 4 (Some (w, n)) depth due (v + k) (m + k) (head_again 4 w n (parts ++ rest) fits) refl (row rest depth due k s) (omega (arith, lt)))
array_shown None n parts v m fits row lt rest depth due k s = open_shown 4 n parts v m refl row lt _ rest depth due k (open_again 4 ((parts ++ break ∷ []) ++ rest)) s

map_shown : (w : Option Width) (n : ℕ) (parts : List ℕ) (v m : ℕ) → LengthFits w n → Row (2 * n) parts v → v < m → Row 1 (list_encoding 5 w n parts) m
map_shown (Some w) n parts v m fits row lt rest depth due k s = regrouped (head 5 w n) parts rest depth (more 1 depth due) (m + k)
    (headed _ (parts ++ rest) 5 (Some (w, n)) depth due (v + k) (m + k) (head_again 5 w n (parts ++ rest) fits) refl (row rest depth due k s) (omega (arith, lt)))
map_shown None n parts v m fits row lt rest depth due k s = open_shown 5 (2 * n) parts v m refl row lt _ rest depth due k (open_again 5 ((parts ++ break ∷ []) ++ rest)) s

-- ---- values

mutual
  unfolding width

  pub value_shown : (v : Value) → Fits v → Row 1 (encoding v) (line_width (tree_of v))
  value_shown (unsigned w n) fits rest depth due k s = let g = number_some n (fits_64 w n fits) in leaf 0 w n _ rest depth due _ k (head_again 0 w n rest fits) refl s (omega (arith, g))
  value_shown (negative w n) fits rest depth due k s = leaf 1 w n _ rest depth due _ k (head_again 1 w n rest fits) refl s (omega arith)
  value_shown (string k w bs) fits rest depth due n s = let g = literal_long k bs in definite_shown k (w, bs) (line_width (tree_of (string k w bs))) fits (omega (arith, g)) rest depth due n s
  value_shown (chunks k cs) fits rest depth due n s = stream_shown k cs fits rest depth due n s
  value_shown (array w vs) fits rest depth due n s = array_shown w (values_len vs) (encodings vs) (row_width (row_tree vs)) (line_width (tree_of (array w vs))) fits.0 (values_shown vs fits.1) (list_wide kind.Array (list_indicator w (values_len vs)) (row_tree vs)) rest depth due n s
  value_shown (cbor_map w ps) fits rest depth due n s = map_shown w (pairs_len ps) (pair_encodings ps) (row_width (pair_row_tree ps)) (line_width (tree_of (cbor_map w ps))) fits.0 (pairs_shown ps fits.1) (list_wide kind.Map (list_indicator w (pairs_len ps)) (pair_row_tree ps)) rest depth due n s
  value_shown (tag w n v) fits rest depth due k s =
      regrouped (head 6 w n) (encoding v) rest depth (more 1 depth due) _
      (headed _ (encoding v ++ rest) 6 (Some (w, n)) depth due (line_width (tree_of v) + k) _ (head_again 6 w n (encoding v ++ rest) fits.0) refl (value_shown v fits.1 rest depth due k s) (omega arith))
  value_shown (simple n) fits rest depth due k s = let g = simple_some n in leaf 7 (simple_width n) n _ rest depth due _ k (head_again 7 (simple_width n) n rest (simple_fits n fits)) refl s (omega (arith, g))
  value_shown (float w f) fits rest depth due k s = let g = float_some f in leaf 7 w (float_bits w f) _ rest depth due _ k (head_again 7 w (float_bits w f) rest (float_fits w f fits)) refl s (omega (arith, g))

  values_shown : (vs : Values) → ValuesFit vs → Row (values_len vs) (encodings vs) (row_width (row_tree vs))
  values_shown no_values fits = no_row
  values_shown (value v vs) fits =
      let f : line_width (tree_of v) + row_width (row_tree vs) ≤ row_width (row_tree (value v vs)) = in_front_wide (ElementTree (tree_of v)) (row_tree vs) in
      two_rows 1 (values_len vs) (encoding v) (encodings vs) (line_width (tree_of v)) (row_width (row_tree vs)) _ (value_shown v fits.0) (values_shown vs fits.1) f

  pairs_shown : (ps : Pairs) → PairsFit ps → Row (2 * pairs_len ps) (pair_encodings ps) (row_width (pair_row_tree ps))
  pairs_shown no_pairs fits = no_row
  pairs_shown (pair k v ps) fits =
      let f : line_width (key_value (tree_of k) (tree_of v)) + row_width (pair_row_tree ps) ≤ row_width (pair_row_tree (pair k v ps)) = in_front_wide (key_value (tree_of k) (tree_of v)) (pair_row_tree ps) in
      let one : line_width (tree_of k) + line_width (tree_of v) ≤ line_width (key_value (tree_of k) (tree_of v)) = omega arith in
      as_row (2 * pairs_len ps + (1 + 1)) (2 * (pairs_len ps + 1)) _ _ (omega arith)
      (two_rows (1 + 1) (2 * pairs_len ps) (encoding k ++ encoding v) (pair_encodings ps) (line_width (key_value (tree_of k) (tree_of v))) (row_width (pair_row_tree ps)) _
      (two_rows 1 1 (encoding k) (encoding v) (line_width (tree_of k)) (line_width (tree_of v)) _ (value_shown k fits.0) (value_shown v fits.1) one) (pairs_shown ps fits.2) f)

-- ---- a turn

-- each item that is due shows something
pub due_shown : (bytes : List ℕ) (depth due w : ℕ) → Walks bytes depth due w → due ≤ w
due_shown bytes depth due w ended = omega arith
due_shown bytes depth due w (closed {rest = rest} {depth = outer} is s) = due_shown rest outer due w s
due_shown bytes zero due m (shown {rest = rest} {major = major} {argument = argument} {w = w} is plain s lt) =
    let h = due_shown (behind_content major argument rest) (opened argument 0) (due - 1 + parts_of major argument) w s in omega (arith, h, lt)
due_shown bytes (suc depth) due m (shown {rest = rest} {major = major} {argument = argument} {w = w} is plain s lt) =
    let h = due_shown (behind_content major argument rest) (opened argument (suc depth)) due w s in omega (arith, h, lt)

read_twice : (bytes : List ℕ) (x y : Head × List ℕ) → head_at bytes ≡ Ok x → head_at bytes ≡ Ok y → x ≡ y
read_twice bytes x y first second = cc

-- behind a head that is no break
abbrev pub Behind : ℕ → ℕ → ℕ → Head × List ℕ → Type 0
Behind depth due m x = (w : ℕ) × (w < m) × Walks (behind_content x.0.0 x.0.1 x.1) (opened x.0.1 depth) (owed depth due (parts_of x.0.0 x.0.1)) w

no_break : (argument : Argument) (major : ℕ) (bytes rest other : List ℕ) → head_at bytes ≡ Ok ((7, None), other) → head_at bytes ≡ Ok ((major, argument), rest) → is_break major argument ≡ true
no_break argument major bytes rest other first second = subst (λ (y : Head × List ℕ). is_break y.0.0 y.0.1 ≡ true) (read_twice bytes ((7, None), other) ((major, argument), rest) first second) refl

pub walked_on : (bytes rest : List ℕ) (depth due m major : ℕ) (argument : Argument) → 0 < depth + due → head_at bytes ≡ Ok ((major, argument), rest) → is_break major argument ≡ false → Walks bytes depth due m → Behind depth due m ((major, argument), rest)
walked_on bytes rest depth due m major argument going is plain ended = absurd (omega (arith, going))
walked_on bytes rest depth due m major argument going is plain (closed {rest = other} first s) = absurd (let h = no_break argument major bytes rest other first is in cc)
walked_on bytes rest depth due m major argument going is plain (shown {rest = other} {major = kind} {argument = count} {w = w} first other_plain s lt) =
    subst (λ (y : Head × List ℕ). Behind depth due m y) (read_twice bytes ((kind, count), other) ((major, argument), rest) first is) (w, lt, s)

-- behind a break
pub walked_out : (bytes rest : List ℕ) (depth due m major : ℕ) (argument : Argument) → 0 < depth → head_at bytes ≡ Ok ((major, argument), rest) → is_break major argument ≡ true → Walks bytes depth due m → Walks rest (depth - 1) due m
walked_out bytes rest depth due m major argument some is broken ended = absurd (omega (arith, some))
walked_out bytes rest depth due m major argument some is broken (closed {rest = other} {depth = outer} first s) =
    let same : other ≡ rest = ap (λ (y : Head × List ℕ). y.1) (read_twice bytes ((7, None), other) ((major, argument), rest) first is) in
    subst (λ (l : List ℕ). Walks l (suc outer - 1) due m) same (subst (λ (d : ℕ). Walks other d due m) (omega arith) s)
walked_out bytes rest depth due m major argument some is broken (shown {rest = other} {major = kind} {argument = count} first plain s lt) =
    absurd (let h : is_break kind count ≡ true = subst (λ (y : Head × List ℕ). is_break y.0.0 y.0.1 ≡ true) (read_twice bytes ((major, argument), rest) ((kind, count), other) is first) broken in cc)

-- ---- what is gone

-- What an item shows from its start on, it shows in the columns that are gone, and from there on.
abbrev pub Gone : List ℕ → List ℕ → ℕ → ℕ → ℕ → ℕ → Type 0
Gone bytes rest depth due columns left = (w : ℕ) → Walks bytes 0 1 w → (v : ℕ) × Walks rest depth due v × (v + columns ≤ w + left)

pub opened_one : (argument : Argument) (depth : ℕ) → opened argument depth ≤ depth + 1
opened_one None depth = omega arith
opened_one (Some (w, n)) depth = omega arith

-- an argument of a break has no content
no_content : (major : ℕ) (argument : Argument) (rest : List ℕ) → is_break major argument ≡ true → behind_content major argument rest ≡ rest
no_content major None rest is = refl
no_content major (Some (w, n)) rest is = absurd cc

-- a state that is another by its parts
as_state : (a b : List ℕ) (depth deeper due other w : ℕ) → a ≡ b → depth ≡ deeper → due ≡ other → Walks a depth due w → Walks b deeper other w
as_state a b depth deeper due other w same deep more s = subst (λ (l : List ℕ). Walks l deeper other w) same (subst (λ (d : ℕ). Walks a d other w) deep (subst (λ (d : ℕ). Walks a depth d w) more s))

pub gone_out : (bytes rest behind after : List ℕ) (depth due columns left deeper other spare major : ℕ) (argument : Argument) → (depth ≡ 0 → ⊥) → head_at rest ≡ Ok ((major, argument), behind) → is_break major argument ≡ true
    → after ≡ behind_content major argument behind → deeper ≡ depth - 1 → other ≡ due → spare ≡ left → Gone bytes rest depth due columns left → Gone bytes after deeper other columns spare
gone_out bytes rest behind after depth due columns left deeper other spare major argument some is broken content deep more less gone = λ w s.
    let g = gone w s in
    let b = walked_out rest behind depth due g.0 major argument (omega (arith, some)) is broken g.1 in
    (g.0, as_state behind after (depth - 1) deeper due other g.0 (sym (content ∙ no_content major argument behind broken)) (sym deep) (sym more) b, omega (arith, g.2, less))

pub gone_on : (bytes rest behind after : List ℕ) (depth due columns left deeper other spare major : ℕ) (argument : Argument) → 0 < depth + due → head_at rest ≡ Ok ((major, argument), behind) → is_break major argument ≡ false
    → after ≡ behind_content major argument behind → deeper ≡ opened argument depth → other ≡ min (owed depth due (parts_of major argument)) (2 ^ 64 - 1) → spare ≡ left - 1 → other < left → left < 2 ^ 64
    → Gone bytes rest depth due columns left → Gone bytes after deeper other columns spare
gone_on bytes rest behind after depth due columns left deeper other spare major argument going is plain content deep more less lt small gone = λ w s.
    let g = gone w s in
    let b = walked_on rest behind depth due g.0 major argument going is plain g.1 in
    let same : owed depth due (parts_of major argument) ≡ other = omega (arith, more, lt, small) in
    (b.0, as_state (behind_content major argument behind) after (opened argument depth) deeper (owed depth due (parts_of major argument)) other b.0 (sym content) (sym deep) same b.2, omega (arith, g.2, b.1, less, lt))

-- Those that are due have no place in the columns that are left.
pub gone_wide : (bytes rest behind : List ℕ) (depth due columns left other major : ℕ) (argument : Argument) → 0 < depth + due → head_at rest ≡ Ok ((major, argument), behind) → is_break major argument ≡ false
    → other ≡ min (owed depth due (parts_of major argument)) (2 ^ 64 - 1) → left ≤ other → Gone bytes rest depth due columns left → (w : ℕ) → Walks bytes 0 1 w → columns < w
gone_wide bytes rest behind depth due columns left other major argument going is plain more le gone w s =
    let g = gone w s in
    let b = walked_on rest behind depth due g.0 major argument going is plain g.1 in
    let h = due_shown (behind_content major argument behind) (opened argument depth) (owed depth due (parts_of major argument)) b.0 b.2 in
    omega (arith, g.2, b.1, h, more, le)

-- ---- an item

pub item_walked : (columns : ℕ) (bytes : List ℕ) → IsBytes bytes → ((w : ℕ) → Walks bytes 0 1 w → columns < w) → IsWider columns bytes
item_walked columns bytes fits all limit t rest read =
    let r = read_value limit bytes (t, rest) fits read in
    let v = r.0 in
    let s = value_shown v r.1.0 rest 0 0 0 ended in
    let here : Walks bytes 0 1 (line_width (tree_of v) + 0) = subst (λ (l : List ℕ). Walks l 0 1 (line_width (tree_of v) + 0)) (sym r.2) s in
    let same : line_width (tree_of v) ≡ line_width t = ap (λ (w : Tree OneItem). line_width w) r.3 in
    let h = all (line_width (tree_of v) + 0) here in
    omega (arith, h, same)
