-- What is decoded of bytes is the item of the one value that they encode.
use Rattle.std.proofs.Common.{ℕ, zero, suc, ◌<◌, ◌≤◌, ◌≡◌, List, [], ◌∷◌, Some, Ok, Err, refl, sym, ap, ◌∙◌, subst, append-nil, arith}
use Rattle.std.proofs.lemmas.List.Elements.{All-head, All-tail}
use Rattle.cbor_edn_model.specs.cbor.Decoded.{IsSingleLine, item_of}
use Rattle.cbor_edn_model.specs.cbor.Meaning.{means}
use Rattle.cbor_edn_model.specs.cbor.Value.{Value, encoding, Fits, AreBytes, Enc}
use Rattle.cbor_edn_model.specs.internal.CborReading.{DecoderResult, shown}
use Rattle.cbor_edn_model.specs.internal.Regular.{regular}
use Rattle.cbor_edn_model.specs.tree.Items.{nesting}
use Rattle.cbor_edn_model.specs.tree.Trees.{Tree, OneItem, items}
use Rattle.cbor_edn_model.proofs.lemmas.cbor.CborAgain.{item_again}
use Rattle.cbor_edn_model.proofs.lemmas.cbor.CborHeads.{IsBytes}
use Rattle.cbor_edn_model.proofs.lemmas.cbor.CborOutcomes.{within}
use Rattle.cbor_edn_model.proofs.lemmas.cbor.CborTakes.{item_takes}
use Rattle.cbor_edn_model.proofs.lemmas.cbor.CborTrees.{tree_of, tree_of_item, tree_read}
use Rattle.cbor_edn_model.proofs.lemmas.cbor.CborValues.{value_at}
use Rattle.cbor_edn_model.proofs.lemmas.cbor.Decoding.{items_again, item_means}
use Rattle.cbor_edn_model.proofs.lemmas.cbor.MeaningSteps.{some_is}
use Rattle.cbor_edn_model.proofs.lemmas.cbor.Nestings.{item_nests, value_nesting}
use Rattle.cbor_edn_model.proofs.lemmas.layout.RegularTrees.{item_regular}
use Rattle.cbor_edn_conversions.specs.EmbeddedItems.{only_item, decoded_item}
use Rattle.cbor_edn_conversions.specs.EmbeddedLaws.{DecodedItemIs}

bytes_at : (bs : List ℕ) → AreBytes bs → IsBytes bs
bytes_at [] all i = omega arith
bytes_at (b ∷ bs) all zero = All-head (λ b. b < 256) b bs all
bytes_at (b ∷ bs) all (suc i) = bytes_at bs (All-tail (λ b. b < 256) b bs all) i

-- what the item is of
pub record HoldsValue (limit : ℕ) (bytes : List ℕ) (w : Tree OneItem) : Type 0 where
  pub value : Value
  pub fits : Fits value
  pub within : nesting (item_of value) ≤ limit
  pub encoded : bytes ≡ encoding value
  pub is : w ≡ regular (item_of value)
  pub same_items : items w ≡ item_of value

-- what a reader that was shown gave
record ShownAs (r : DecoderResult Value) (w : Tree OneItem) : Type 0 where
  pub value : Value
  pub read : r ≡ Ok (value, [])
  pub is : w ≡ tree_of value

tree_is : (v : Value) (w : Tree OneItem) → only_item (Ok (tree_of v, [])) ≡ Some w → w ≡ tree_of v
tree_is v w e = sym (some_is (tree_of v) w e)

shown_as : (r : DecoderResult Value) (w : Tree OneItem) → only_item (shown tree_of r) ≡ Some w → ShownAs r w
shown_as (Err e) w is = absurd cc
shown_as (Ok (v, [])) w is = record { value = v; read = refl; is = tree_is v w is }
shown_as (Ok (v, b ∷ rest)) w is = absurd cc

pub holds_value : (limit : ℕ) (bytes : List ℕ) → AreBytes bytes → (w : Tree OneItem) → decoded_item limit bytes ≡ Some w → HoldsValue limit bytes w
holds_value limit bytes all w e =
    let h = shown_as (value_at limit bytes) w (sym (ap only_item (tree_read limit bytes)) ∙ e) in
    let takes = item_takes limit bytes (h.value, []) (bytes_at bytes all) h.read in
    let regular_is : w ≡ regular (item_of h.value) = h.is ∙ tree_of_item h.value in
    record {
      value = h.value;
      fits = takes.0.0;
      within = subst (λ n. n ≤ limit) (sym (item_nests h.value)) takes.0.1;
      encoded = takes.1.parts ∙ append-nil (encoding h.value);
      is = regular_is;
      same_items = ap items regular_is ∙ items_again h.value;
    }

-- an item of a value is decoded again
again : (limit : ℕ) (bytes : List ℕ) (v : Value) → Enc bytes v → nesting (item_of v) ≤ limit → decoded_item limit bytes ≡ Some (regular (item_of v))
again limit bytes v enc le =
    let nests : value_nesting v ≤ limit = subst (λ n. n ≤ limit) (item_nests v) le in
    let read : value_at limit bytes ≡ Ok (v, []) = ap (value_at limit) (enc.1 ∙ sym (append-nil (encoding v))) ∙ (item_again v limit [] enc.0 ∙ within (value_nesting v) limit (v, []) nests) in
    ap only_item (tree_read limit bytes) ∙ (ap (λ r. only_item (shown tree_of r)) read ∙ ap (λ (t : Tree OneItem). Some t) (tree_of_item v))

single_line : (v : Value) (w : Tree OneItem) → items w ≡ item_of v → IsSingleLine w → w ≡ regular (item_of v)
single_line v w same line = line ∙ item_regular v w same

on_one_line : (v : Value) (w : Tree OneItem) → items w ≡ item_of v → w ≡ regular (item_of v) → IsSingleLine w
on_one_line v w same is = is ∙ sym (item_regular v w same)

pub decoded_item_is : DecodedItemIs
decoded_item_is limit bytes all w = (
  λ e.
      let h = holds_value limit bytes all w e in
      record {
        value = h.value;
        encoded = (h.fits, h.encoded);
        within = h.within;
        same_items = h.same_items;
        spaced = on_one_line h.value w h.same_items h.is;
        meant = ap means h.same_items ∙ item_means h.value h.fits;
      },
  λ d. again limit bytes d.value d.encoded d.within ∙ ap (λ (t : Tree OneItem). Some t) (sym (single_line d.value w d.same_items d.spaced)),
)
