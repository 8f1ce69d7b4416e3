-- The trees of decoded items are laid out on a single line already.
use Rattle.std.proofs.Common.{ℕ, ◌≡◌, List, [], ◌∷◌, Option, Some, None, refl, ap, ◌∙◌}
use Rattle.std.specs.Prelude.{pos, eqb}
use Rattle.std.specs.Fmt.{signed_decimal}
use Rattle.std.proofs.lemmas.Bool.{cond_both}
use Rattle.cbor_edn_parts.specs.declared.base.indicator.Indicator.{Indicator}
use Rattle.cbor_edn_parts.specs.declared.string.StringKind.{StringKind}
use Rattle.cbor_edn_parts.specs.internal.CommentReading.{from_first, to_last, up_to_comma, past_comma}
use Rattle.cbor_edn_parts.specs.declared.space.policy.Spacing.TheVariants.{OneLine}
use Rattle.cbor_edn_model.specs.declared.text.keyword.NamedSimple.TheVariants.{False, True, Null, Undefined}
use Rattle.cbor_edn_model.specs.tree.Items as kind
use Rattle.cbor_edn_model.specs.tree.Items.{Row, Bracketed, entries_of, Item, Node, Number, Named, Simple}
use Rattle.cbor_edn_model.specs.tree.Trees.{OneItem, OneEntry, Rest, Tree, EnclosedTree, ListTree, ElementTree}
use Rattle.cbor_edn_model.specs.declared.text.opener.OpenerKind.{OpenerKind}
use Rattle.cbor_edn_model.specs.declared.text.opener.OpenerKind.TheVariants as opener
use Rattle.cbor_edn_model.specs.cbor.Value as values
use Rattle.cbor_edn_model.specs.cbor.Value.{Value, unsigned, negative, string, chunks, array, cbor_map, tag, simple, float, Values, no_values, value, Pairs, no_pairs, pair}
use Rattle.cbor_edn_model.specs.cbor.Decoded as decoded
use Rattle.cbor_edn_model.specs.cbor.Decoded.{indicator_of, item_of, items_of, pairs_of, chunk_items, simple_item, alone}
use Rattle.cbor_edn_model.specs.internal.Regular.{in_front as put, list_inside, key_value, regular, regular_sequence, sequence_tree_of, stream_tree}
use Rattle.cbor_edn_model.specs.layout.Layout.{Layout, Inline, laid}

abbrev line : Layout
line = Inline OneLine

-- a row that is laid out on a single line, if there is one
abbrev Fixed : {k : Row} → Option (Tree (Rest k)) → Type 0
Fixed None = Unit {0}
Fixed (Some m) = laid line m ≡ m

put_fixed : {k : Row} (e : Tree (OneEntry k)) (m : Option (Tree (Rest k))) → laid line e ≡ e → Fixed m → Fixed (Some (put e m))
unfolding laid from_first to_last up_to_comma past_comma
put_fixed e None h f = ap (λ e. put e None) h
put_fixed e (Some m) h f = ap (λ e. put e (Some (laid line m))) h ∙ ap (λ m. put e (Some m)) f

inside_fixed : {k : Bracketed} (i : Option Indicator) (m : Option (Tree (Rest (entries_of k)))) → Fixed m → laid line (list_inside {k = k} i m) ≡ list_inside i m
unfolding laid from_first to_last up_to_comma past_comma
inside_fixed i None f = refl
inside_fixed None (Some m) f = ap (λ m. list_inside None (Some m)) f
inside_fixed (Some i) (Some m) f = ap (λ m. list_inside (Some i) (Some m)) f

enclosed_fixed : (l : OpenerKind) (w : Tree OneItem) → laid line w ≡ w → laid line (EnclosedTree l (alone w)) ≡ EnclosedTree l (alone w)
unfolding laid from_first to_last up_to_comma past_comma
enclosed_fixed l w h = ap (λ w. EnclosedTree l (alone w)) h

abbrev IsRegular : Node Item → Type 0
IsRegular x = laid line (regular x) ≡ regular x

simple_fixed : (n : ℕ) → IsRegular (simple_item n)
unfolding laid regular from_first to_last up_to_comma past_comma
simple_fixed n =
    cond_both (eqb n 20) (Named False) _ IsRegular (λ e. refl)
    (λ e. cond_both (eqb n 21) (Named True) _ IsRegular (λ e. refl)
    (λ e. cond_both (eqb n 22) (Named Null) _ IsRegular (λ e. refl)
    (λ e. cond_both (eqb n 23) (Named Undefined) (Simple (Number (signed_decimal (pos n)) None)) IsRegular (λ e. refl) (λ e. refl))))

chunks_fixed : (k : StringKind) (cs : List values.Chunk) → Fixed (regular (chunk_items k cs))
unfolding laid regular
chunks_fixed k [] = tt
chunks_fixed k (c ∷ cs) = put_fixed _ (regular (chunk_items k cs)) refl (chunks_fixed k cs)

chunked_fixed : (k : StringKind) (cs : List values.Chunk) → IsRegular (decoded.chunked_item k cs)
unfolding laid regular from_first to_last up_to_comma past_comma
chunked_fixed k [] = refl
chunked_fixed k (c ∷ cs) = ap (λ m. stream_tree (Some m)) (chunks_fixed k (c ∷ cs))

mutual
  unfolding laid regular from_first to_last up_to_comma past_comma

  pub item_fixed : (v : Value) → IsRegular (item_of v)
  item_fixed (unsigned w n) = refl
  item_fixed (negative w n) = refl
  item_fixed (string k w bs) = refl
  item_fixed (chunks k cs) = chunked_fixed k cs
  item_fixed (array w vs) = ap (ListTree kind.Array) (inside_fixed (decoded.list_indicator w (values.values_len vs)) (regular (items_of vs)) (items_fixed vs))
  item_fixed (cbor_map w ps) = ap (ListTree kind.Map) (inside_fixed (decoded.list_indicator w (values.pairs_len ps)) (regular (pairs_of ps)) (pairs_fixed ps))
  item_fixed (tag w n v) = enclosed_fixed (opener.Tag (indicator_of w n) n) (regular (item_of v)) (item_fixed v)
  item_fixed (simple n) = simple_fixed n
  item_fixed (float w f) = refl

  items_fixed : (vs : Values) → Fixed (regular (items_of vs))
  items_fixed no_values = tt
  items_fixed (value v vs) = put_fixed (ElementTree (regular (item_of v))) (regular (items_of vs)) (ap ElementTree (item_fixed v)) (items_fixed vs)

  pairs_fixed : (ps : Pairs) → Fixed (regular (pairs_of ps))
  pairs_fixed no_pairs = tt
  pairs_fixed (pair k v ps) = put_fixed (key_value (regular (item_of k)) (regular (item_of v))) (regular (pairs_of ps)) (ap (λ x. key_value x (laid line (regular (item_of v)))) (item_fixed k) ∙ ap (key_value (regular (item_of k))) (item_fixed v)) (pairs_fixed ps)

sequence_fixed : (m : Option (Tree (Rest kind.Elements))) → Fixed m → laid line (sequence_tree_of m) ≡ sequence_tree_of m
unfolding laid from_first to_last up_to_comma past_comma
sequence_fixed None f = refl
sequence_fixed (Some m) f = ap (λ m. sequence_tree_of (Some m)) f

pub sequence_stays : (vs : Values) → laid line (regular_sequence (items_of vs)) ≡ regular_sequence (items_of vs)
sequence_stays vs = sequence_fixed (regular (items_of vs)) (items_fixed vs)
