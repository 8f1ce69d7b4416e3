-- The tree of a value that has an encoding is valid: each text in it passes the test of its set.
use Rattle.std.proofs.Common.{◌≡◌, ℕ, ◌<◌, Bool, true, false, cond, eqb, List, [], ◌∷◌, map, Option, Some, None, refl, sym, ap, subst, ◌∙◌, arith}
use Rattle.std.specs.Prelude.{pos, negsuc}
use Rattle.cbor_edn_parts.specs.declared.base.indicator.Indicator.{Indicator}
use Rattle.cbor_edn_parts.specs.declared.string.StringKind.{StringKind}
use Rattle.cbor_edn_parts.specs.declared.string.StringKind.TheVariants.{Bytes, Text}
use Rattle.cbor_edn_parts.specs.string.Contents.{kind_literal}
use Rattle.cbor_edn_parts.specs.base.Bytes.{kind}
use Rattle.cbor_edn_parts.specs.internal.Lex.{munch, push}
use Rattle.cbor_edn_parts.specs.internal.SpaceTokens.{is_space, is_mandatory_space, is_separator, is_list_end}
use Rattle.cbor_edn_parts.specs.internal.LiteralTokens.{is_literal}
use Rattle.cbor_edn_parts.proofs.lemmas.number.Decimals.{decimal_number}
use Rattle.cbor_edn_parts.proofs.lemmas.string.StringLiterals.{text_is_literal, hex_is_literal, empty_is_literal}
use Rattle.cbor_edn_model.specs.tree.Items as items
use Rattle.cbor_edn_model.specs.tree.Items.{Row, Elements, Bracketed, entries_of, Node, Item}
use Rattle.cbor_edn_model.specs.tree.Trees.{Tree, OneEntry, Rest, Seq, ListTree, ElementTree, Valid}
use Rattle.cbor_edn_model.specs.cbor.Value.{Value, Chunk, unsigned, negative, string, chunks, array, cbor_map, tag, simple, float, Values, no_values, value, values_len, Pairs, no_pairs, pair, pairs_len, AreBytes, ChunksFit, Fits, ValuesFit, PairsFit}
use Rattle.cbor_edn_model.specs.cbor.Decoded.{list_indicator, IsDecodedSequence}
use Rattle.cbor_edn_model.specs.internal.Regular.{in_front, list_inside, key_value, sequence_tree_of, regular}
use Rattle.cbor_edn_model.specs.internal.CborReading.{definite_tree, chunks_tree, string_row, simple_tree}
use Rattle.cbor_edn_model.proofs.lemmas.cbor.CborTrees.{tree_of, row_tree, pair_row_tree, row_tree_of_items}
use Rattle.cbor_edn_model.proofs.lemmas.layout.RegularTrees.{sequence_regular}
use Rattle.cbor_edn_model.proofs.lemmas.text.Tested.{Tested, valid}
use Rattle.cbor_edn_stream.proofs.lemmas.Lengths.{fits_64}

-- the spaces that a value's tree has
no_optional : is_space [] ≡ true
unfolding munch
no_optional = refl

no_at_end : is_list_end [] ≡ true
unfolding munch push
no_at_end = refl

space_optional : is_space (32 ∷ []) ≡ true
unfolding munch push kind
space_optional = refl

space_mandatory : is_mandatory_space (32 ∷ []) ≡ true
unfolding munch push kind
space_mandatory = refl

comma_space : is_separator (44 ∷ 32 ∷ []) ≡ true
unfolding munch push kind
comma_space = refl

literal_tested : (k : StringKind) (bs : List ℕ) → AreBytes bs → is_literal (kind_literal k bs) ≡ true
literal_tested Bytes bs fit = hex_is_literal bs fit
literal_tested Text bs fit = text_is_literal bs fit

-- of entries with their row
abbrev pub IsTestedRow : {k : Row} → Option (Tree (Rest k)) → Type 0
IsTestedRow None = Unit {0}
IsTestedRow (Some m) = Tested m

in_front_tested : {k : Row} (e : Tree (OneEntry k)) (o : Option (Tree (Rest k))) → Tested e → IsTestedRow o → Tested (in_front e o)
unfolding Tested
in_front_tested e None one rest = (one, no_at_end)
in_front_tested e (Some m) one rest = (one, comma_space, rest)

chunks_tested : (k : StringKind) (cs : List Chunk) → ChunksFit k cs → IsTestedRow (string_row (map (definite_tree k) cs))
unfolding Tested
chunks_tested k [] fit = tt
chunks_tested k (c ∷ cs) fit = in_front_tested _ (string_row (map (definite_tree k) cs)) (literal_tested k c.1 fit.0.1) (chunks_tested k cs fit.1)

stream_tested : (k : StringKind) (cs : List Chunk) → ChunksFit k cs → Tested (chunks_tree k cs)
unfolding Tested
stream_tested k [] fit = empty_is_literal k
stream_tested k (c ∷ cs) fit = (space_mandatory, chunks_tested k (c ∷ cs) fit)

inside_tested : (k : Bracketed) (i : Option Indicator) (o : Option (Tree (Rest (entries_of k)))) → IsTestedRow o → Tested (ListTree k (list_inside i o))
unfolding Tested
inside_tested k i None row = no_optional
inside_tested k None (Some m) row = (tt, no_optional, row)
inside_tested k (Some i) (Some m) row = (space_mandatory, no_optional, row)

either_tested : (b : Bool) (x y : Node Item) → Tested (regular x) → Tested (regular y) → Tested (regular (cond b x y))
either_tested true x y first second = first
either_tested false x y first second = second

simple_tested : (n : ℕ) → n < 256 → Tested (simple_tree n)
unfolding Tested regular
simple_tested n fits =
    either_tested (eqb n 20) _ _ tt (either_tested (eqb n 21) _ _ tt (either_tested (eqb n 22) _ _ tt (either_tested (eqb n 23) _ _ tt (tt, (no_optional, decimal_number (pos n) (omega (arith, fits)), no_optional)))))

mutual
  unfolding Tested

  pub value_tested : (v : Value) → Fits v → Tested (tree_of v)
  value_tested (unsigned w n) fits = let h = fits_64 w n fits in decimal_number (pos n) (omega (arith, h))
  value_tested (negative w n) fits = let h = fits_64 w n fits in decimal_number (negsuc n) (omega (arith, h))
  value_tested (string k w bs) fits = literal_tested k bs fits.1
  value_tested (chunks k cs) fits = stream_tested k cs fits
  value_tested (array w vs) fits = inside_tested items.Array (list_indicator w (values_len vs)) (row_tree vs) (values_tested vs fits.1)
  value_tested (cbor_map w ps) fits = inside_tested items.Map (list_indicator w (pairs_len ps)) (pair_row_tree ps) (pairs_tested ps fits.1)
  value_tested (tag w n v) fits = (fits_64 w n fits.0, (no_optional, value_tested v fits.1, no_optional))
  value_tested (simple n) fits = simple_tested n (omega (arith, fits))
  value_tested (float w f) fits = tt

  pub values_tested : (vs : Values) → ValuesFit vs → IsTestedRow (row_tree vs)
  values_tested no_values fits = tt
  values_tested (value v vs) fits = in_front_tested (ElementTree (tree_of v)) (row_tree vs) (value_tested v fits.0) (values_tested vs fits.1)

  pairs_tested : (ps : Pairs) → PairsFit ps → IsTestedRow (pair_row_tree ps)
  pairs_tested no_pairs fits = tt
  pairs_tested (pair k v ps) fits = in_front_tested (key_value (tree_of k) (tree_of v)) (pair_row_tree ps) (value_tested k fits.0, no_optional, space_optional, value_tested v fits.1) (pairs_tested ps fits.2)

sequence_tested : (o : Option (Tree (Rest Elements))) → IsTestedRow o → Tested (sequence_tree_of o)
unfolding Tested
sequence_tested None row = no_optional
sequence_tested (Some m) row = (no_optional, row)

-- what bytes encode is the tree of its values, and valid
pub decoded_tree : (limit : ℕ) (bytes : List ℕ) (w : Tree Seq) (d : IsDecodedSequence limit bytes w) → w ≡ sequence_tree_of (row_tree d.values)
decoded_tree limit bytes w d = d.spaced ∙ sequence_regular d.values w d.same_items ∙ ap sequence_tree_of (sym (row_tree_of_items d.values))

pub decoded_valid : (limit : ℕ) (bytes : List ℕ) (w : Tree Seq) → IsDecodedSequence limit bytes w → Valid w
decoded_valid limit bytes w d =
    subst (λ (t : Tree Seq). Valid t) (sym (decoded_tree limit bytes w d)) (valid (sequence_tree_of (row_tree d.values)) (sequence_tested (row_tree d.values) (values_tested d.values d.encoded.0)))
