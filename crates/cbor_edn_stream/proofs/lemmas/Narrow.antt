-- From head to head through an item: its heads show how wide it is at the most.
use Rattle.std.proofs.Common.{◌≡◌, ℕ, suc, ◌+◌, ◌-◌, ◌*◌, ◌≤◌, ◌<◌, List, [], ◌∷◌, ◌++◌, length, take, Option, Some, None, Ok, ap, subst, append_assoc, length-append, arith}
use Rattle.std.specs.Prelude.{All, MatchOption}
use Rattle.std.specs.Fmt.{decimal}
use Rattle.std.proofs.lemmas.List.{length-take}
use Rattle.std.proofs.Math.Seq.{take-append_seam, drop-append_seam}
use Rattle.hex.specs.Hex.{lower_digits}
use Rattle.hex.proofs.HexLemmas.{length-encode_with}
use Rattle.cbor_edn_parts.specs.base.Indicator.{indicator_text}
use Rattle.cbor_edn_parts.specs.declared.base.indicator.Indicator.{Indicator}
use Rattle.cbor_edn_parts.specs.declared.base.indicator.Indicator.TheVariants as indicator
use Rattle.cbor_edn_parts.specs.declared.string.StringKind.TheVariants.{Bytes, Text}
use Rattle.cbor_edn_parts.specs.internal.CommentReading.{from_first, to_last, up_to_comma, past_comma}
use Rattle.cbor_edn_parts.specs.string.Contents.{hex_literal, escaped, all_escaped}
use Rattle.cbor_edn_parts.proofs.lemmas.string.Escapes.{all_plain}
use Rattle.cbor_edn_model.specs.tree.Items as kind
use Rattle.cbor_edn_model.specs.tree.Items.{Row, Bracketed, entries_of}
use Rattle.cbor_edn_model.specs.tree.Trees.{Tree, OneItem, OneEntry, Rest, ElementTree, ListTree}
use Rattle.cbor_edn_model.specs.cbor.Value.{Value, unsigned, negative, string, chunks, array, cbor_map, tag, simple, float, Values, no_values, value, values_len, Pairs, no_pairs, pair, pairs_len, head, break, simple_width, float_bits, chunk_encodings, encoding, encodings, pair_encodings, Fits, ValuesFit, PairsFit}
use Rattle.cbor_edn_model.specs.cbor.Decoded.{indicator_of}
use Rattle.cbor_edn_model.specs.internal.Regular.{in_front, list_inside, key_value}
use Rattle.cbor_edn_model.specs.internal.CborReading.{Argument, Head, head_at}
use Rattle.cbor_edn_model.specs.internal.Widths.{width}
use Rattle.cbor_edn_model.proofs.lemmas.cbor.CborHeads.{IsBytes, head_again, open_again}
use Rattle.cbor_edn_model.proofs.lemmas.cbor.CborSpecials.{simple_fits, float_fits}
use Rattle.cbor_edn_model.proofs.lemmas.cbor.CborTrees.{tree_of, row_tree, pair_row_tree}
use Rattle.cbor_edn_stream.specs.Heads.{behind_content, parts_of, most_columns, ShowsWithin}
use Rattle.cbor_edn_stream.specs.Wide.{IsNarrower}
use Rattle.cbor_edn_stream.proofs.lemmas.Lengths.{line_width, row_width}
use Rattle.cbor_edn_stream.proofs.lemmas.Prefixes.{read_value}

-- a head leaves so many columns of others
abbrev LeavesColumns : ℕ → Argument → List ℕ → ℕ → ℕ → Type 0
LeavesColumns major argument rest m l = MatchOption (most_columns major argument rest) ⊥ (λ columns. columns + l ≤ m)

-- From these bytes on heads end so many items, which show no more than so many columns.
pub data Fit : List ℕ → ℕ → ℕ → Type 0 where
  ended : {rest : List ℕ} {m : ℕ} → Fit rest 0 m
  shown : {bytes rest : List ℕ} {major : ℕ} {argument : Argument} {due l m : ℕ} → head_at bytes ≡ Ok ((major, argument), rest) → LeavesColumns major argument rest m l
      → Fit (behind_content major argument rest) (due + parts_of major argument) l → Fit bytes (suc due) m

-- behind the head of one that is due
abbrev Behind : ℕ → ℕ → Head × List ℕ → Type 0
Behind due m x = (l : ℕ) × LeavesColumns x.0.0 x.0.1 x.1 m l × Fit (behind_content x.0.0 x.0.1 x.1) (due + parts_of x.0.0 x.0.1) l

read_twice : (bytes : List ℕ) (x y : Head × List ℕ) → head_at bytes ≡ Ok x → head_at bytes ≡ Ok y → x ≡ y
read_twice bytes x y first second = cc

behind : (bytes rest : List ℕ) (major : ℕ) (argument : Argument) (due m : ℕ) → head_at bytes ≡ Ok ((major, argument), rest) → Fit bytes (suc due) m → Behind due m ((major, argument), rest)
behind bytes rest major argument due m is (shown {rest = other} {major = kind} {argument = count} {l = l} first leaves f) =
    subst (λ (y : Head × List ℕ). Behind due m y) (read_twice bytes ((kind, count), other) ((major, argument), rest) first is) (l, leaves, f)

-- an item of so many columns, in front of others
abbrev Leaves : List ℕ → ℕ → ℕ → ℕ → Type 0
Leaves rest due w m = (l : ℕ) × (w + l ≤ m) × Fit rest due l

regrouped : (a b rest : List ℕ) (due m : ℕ) → Fit ((a ++ b) ++ rest) due m → Fit (a ++ (b ++ rest)) due m
regrouped a b rest due m f = subst (λ (l : List ℕ). Fit l due m) (append_assoc a b rest) f

as_due : (bytes : List ℕ) (due other m : ℕ) → due ≡ other → Fit bytes due m → Fit bytes other m
as_due bytes due other m e f = subst (λ (d : ℕ). Fit bytes d m) e f

-- ---- the widths of lists

in_front_narrow : {k : Row} (e : Tree (OneEntry k)) (o : Option (Tree (Rest k))) → line_width (in_front e o) ≤ line_width e + 2 + row_width o
unfolding width from_first to_last up_to_comma past_comma
in_front_narrow e None = omega arith
in_front_narrow e (Some m) = omega arith

list_narrow : (k : Bracketed) (i : Option Indicator) (o : Option (Tree (Rest (entries_of k)))) → line_width (ListTree k (list_inside i o)) ≤ row_width o + length (indicator_text i) + 3
unfolding width from_first to_last up_to_comma past_comma
list_narrow k i None = omega arith
list_narrow k None (Some m) = omega arith
list_narrow k (Some i) (Some m) = omega arith

pair_narrow : (v w : Tree OneItem) → line_width (key_value v w) ≡ line_width v + line_width w + 2
unfolding width from_first to_last up_to_comma past_comma
pair_narrow v w = omega arith

pub indicator_short : (i : Option Indicator) → length (indicator_text i) ≤ 2
indicator_short None = omega arith
indicator_short (Some indicator.Indefinite) = omega arith
indicator_short (Some indicator.Immediate) = omega arith
indicator_short (Some indicator.One) = omega arith
indicator_short (Some indicator.Two) = omega arith
indicator_short (Some indicator.Four) = omega arith
indicator_short (Some indicator.Eight) = omega arith

pub plain_short : (n : ℕ) (bs : List ℕ) → All (λ c. escaped c ≡ c ∷ []) (take n bs) → length (all_escaped (take n bs)) ≤ n
plain_short n bs plain = let h = length-take n bs in let same = ap length (all_plain (take n bs) plain) in omega (arith, h, same)

pub hex_narrow : (bs : List ℕ) → length (hex_literal bs) ≡ 2 * length bs + 3
hex_narrow bs = let h = length-encode_with lower_digits bs in simp length-append (omega (arith, h))

-- ---- values

mutual
  unfolding width from_first to_last

  -- an item and the separator behind it
  value_leaves : (v : Value) → Fits v → (rest : List ℕ) (due m : ℕ) → Fit (encoding v ++ rest) (suc due) m → Leaves rest due (line_width (tree_of v) + 2) m
  value_leaves (unsigned w n) fits rest due m f =
      let b = behind _ rest 0 (Some (w, n)) due m (head_again 0 w n rest fits) f in (b.0, omega (arith, b.1), as_due rest (due + 0) due b.0 (omega arith) b.2)
  value_leaves (negative w n) fits rest due m f =
      let b = behind _ rest 1 (Some (w, n)) due m (head_again 1 w n rest fits) f in
      let same : length (decimal (n + 1)) ≡ length (decimal (suc n)) = ap (λ (k : ℕ). length (decimal k)) (omega arith) in
      (b.0, omega (arith, b.1, same), as_due rest (due + 0) due b.0 (omega arith) b.2)
  value_leaves (string Bytes w bs) fits rest due m f =
      let b = behind _ (bs ++ rest) 2 (Some (w, length bs)) due m (head_again 2 w (length bs) (bs ++ rest) fits.0) (regrouped (head 2 w (length bs)) bs rest (suc due) m f) in
      let h = hex_narrow bs in
      (b.0, omega (arith, b.1, h), as_due rest (due + 0) due b.0 (omega arith) (subst (λ (l : List ℕ). Fit l (due + 0) b.0) (drop-append_seam bs rest) b.2))
  value_leaves (string Text w bs) fits rest due m f =
      let b = behind _ (bs ++ rest) 3 (Some (w, length bs)) due m (head_again 3 w (length bs) (bs ++ rest) fits.0) (regrouped (head 3 w (length bs)) bs rest (suc due) m f) in
      let same : length (all_escaped (take (length bs) (bs ++ rest))) ≡ length (all_escaped bs) = ap (λ (l : List ℕ). length (all_escaped l)) (take-append_seam bs rest) in
      let h = length-append (all_escaped bs) (34 ∷ []) in
      (b.0, omega (arith, b.1, same, h), as_due rest (due + 0) due b.0 (omega arith) (subst (λ (l : List ℕ). Fit l (due + 0) b.0) (drop-append_seam bs rest) b.2))
  value_leaves (chunks Bytes cs) fits rest due m f = let b = behind _ _ 2 None due m (open_again 2 ((chunk_encodings Bytes cs ++ break ∷ []) ++ rest)) f in absurd b.1
  value_leaves (chunks Text cs) fits rest due m f = let b = behind _ _ 3 None due m (open_again 3 ((chunk_encodings Text cs ++ break ∷ []) ++ rest)) f in absurd b.1
  value_leaves (array (Some w) vs) fits rest due m f =
      let b = behind _ (encodings vs ++ rest) 4 (Some (w, values_len vs)) due m (head_again 4 w (values_len vs) (encodings vs ++ rest) fits.0) (regrouped (head 4 w (values_len vs)) (encodings vs) rest (suc due) m f) in
      let p = values_leave vs fits.1 rest due b.0 (as_due (encodings vs ++ rest) (due + values_len vs) (values_len vs + due) b.0 (omega arith) b.2) in
      let h = list_narrow kind.Array (indicator_of w (values_len vs)) (row_tree vs) in
      (p.0, omega (arith, b.1, p.1, h), p.2)
  value_leaves (array None vs) fits rest due m f = let b = behind _ _ 4 None due m (open_again 4 ((encodings vs ++ break ∷ []) ++ rest)) f in absurd b.1
  value_leaves (cbor_map (Some w) ps) fits rest due m f =
      let b = behind _ (pair_encodings ps ++ rest) 5 (Some (w, pairs_len ps)) due m (head_again 5 w (pairs_len ps) (pair_encodings ps ++ rest) fits.0) (regrouped (head 5 w (pairs_len ps)) (pair_encodings ps) rest (suc due) m f) in
      let p = pairs_leave ps fits.1 rest due b.0 (as_due (pair_encodings ps ++ rest) (due + 2 * pairs_len ps) (2 * pairs_len ps + due) b.0 (omega arith) b.2) in
      let h = list_narrow kind.Map (indicator_of w (pairs_len ps)) (pair_row_tree ps) in
      (p.0, omega (arith, b.1, p.1, h), p.2)
  value_leaves (cbor_map None ps) fits rest due m f = let b = behind _ _ 5 None due m (open_again 5 ((pair_encodings ps ++ break ∷ []) ++ rest)) f in absurd b.1
  value_leaves (tag w n v) fits rest due m f =
      let b = behind _ (encoding v ++ rest) 6 (Some (w, n)) due m (head_again 6 w n (encoding v ++ rest) fits.0) (regrouped (head 6 w n) (encoding v) rest (suc due) m f) in
      let p = value_leaves v fits.1 rest due b.0 (as_due (encoding v ++ rest) (due + 1) (suc due) b.0 (omega arith) b.2) in
      let h = length-append (decimal n) (indicator_text (indicator_of w n)) in
      (p.0, omega (arith, b.1, p.1, h), p.2)
  value_leaves (simple n) fits rest due m f = let b = behind _ rest 7 (Some (simple_width n, n)) due m (head_again 7 (simple_width n) n rest (simple_fits n fits)) f in absurd b.1
  value_leaves (float w g) fits rest due m f = let b = behind _ rest 7 (Some (w, float_bits w g)) due m (head_again 7 w (float_bits w g) rest (float_fits w g fits)) f in absurd b.1

  values_leave : (vs : Values) → ValuesFit vs → (rest : List ℕ) (due m : ℕ) → Fit (encodings vs ++ rest) (values_len vs + due) m → Leaves rest due (row_width (row_tree vs)) m
  values_leave no_values fits rest due m f = (m, omega arith, as_due rest (0 + due) due m (omega arith) f)
  values_leave (value v vs) fits rest due m f =
      let one = value_leaves v fits.0 (encodings vs ++ rest) (values_len vs + due) m (as_due _ (values_len vs + 1 + due) (suc (values_len vs + due)) m (omega arith) (regrouped (encoding v) (encodings vs) rest (values_len vs + 1 + due) m f)) in
      let more = values_leave vs fits.1 rest due one.0 one.2 in
      let h = in_front_narrow (ElementTree (tree_of v)) (row_tree vs) in
      (more.0, omega (arith, one.1, more.1, h), more.2)

  pairs_leave : (ps : Pairs) → PairsFit ps → (rest : List ℕ) (due m : ℕ) → Fit (pair_encodings ps ++ rest) (2 * pairs_len ps + due) m → Leaves rest due (row_width (pair_row_tree ps)) m
  pairs_leave no_pairs fits rest due m f = (m, omega arith, as_due rest (2 * 0 + due) due m (omega arith) f)
  pairs_leave (pair k v ps) fits rest due m f =
      let all = regrouped (encoding k) (encoding v) (pair_encodings ps ++ rest) _ m (regrouped (encoding k ++ encoding v) (pair_encodings ps) rest (2 * (pairs_len ps + 1) + due) m f) in
      let key = value_leaves k fits.0 (encoding v ++ (pair_encodings ps ++ rest)) (suc (2 * pairs_len ps + due)) m (as_due _ (2 * (pairs_len ps + 1) + due) (suc (suc (2 * pairs_len ps + due))) m (omega arith) all) in
      let held = value_leaves v fits.1 (pair_encodings ps ++ rest) (2 * pairs_len ps + due) key.0 key.2 in
      let more = pairs_leave ps fits.2 rest due held.0 held.2 in
      let h = in_front_narrow (key_value (tree_of k) (tree_of v)) (pair_row_tree ps) in
      let p = pair_narrow (tree_of k) (tree_of v) in
      (more.0, omega (arith, key.1, held.1, more.1, h, p), more.2)

-- ---- a turn

-- What fits from there on, in the columns that are left, fits from the start on.
abbrev pub Before : List ℕ → List ℕ → ℕ → ℕ → ℕ → Type 0
Before bytes rest due columns left = Fit rest due left → Fit bytes 1 columns

leaves_some : (o : Option ℕ) (most m l : ℕ) → MatchOption o ⊥ (λ columns. columns ≤ most) → most + l ≤ m → MatchOption o ⊥ (λ columns. columns + l ≤ m)
leaves_some None most m l within le = absurd within
leaves_some (Some columns) most m l within le = omega (arith, within, le)

pub before_on : (bytes rest behind after : List ℕ) (due columns left other spare most major : ℕ) (argument : Argument) → 0 < due → head_at rest ≡ Ok ((major, argument), behind) → ShowsWithin major argument behind most
    → after ≡ behind_content major argument behind → spare + most ≤ left → other ≡ due - 1 + parts_of major argument → Before bytes rest due columns left → Before bytes after other columns spare
before_on bytes rest behind after due columns left other spare most major argument some is within content less more before = λ f.
    let here : Fit (behind_content major argument behind) (due - 1 + parts_of major argument) spare = subst (λ (l : List ℕ). Fit l (due - 1 + parts_of major argument) spare) content (as_due after other (due - 1 + parts_of major argument) spare more f) in
    before (as_due rest (suc (due - 1)) due left (omega (arith, some)) (shown is (leaves_some (most_columns major argument behind) most left spare within (omega (arith, less))) here))

-- ---- an item

pub item_narrow : (columns : ℕ) (bytes : List ℕ) → IsBytes bytes → Fit bytes 1 columns → IsNarrower columns bytes
item_narrow columns bytes fits f limit t rest read =
    let r = read_value limit bytes (t, rest) fits read in
    let v = r.0 in
    let s = value_leaves v r.1.0 rest 0 columns (subst (λ (l : List ℕ). Fit l 1 columns) r.2 f) in
    let same : line_width (tree_of v) ≡ line_width t = ap (λ (w : Tree OneItem). line_width w) r.3 in
    omega (arith, s.1, same)
