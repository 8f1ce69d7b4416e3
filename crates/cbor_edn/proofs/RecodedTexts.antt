-- The text of decoded items is one of their bytes, and no text is of other bytes too.
use Rattle.std.proofs.Common.{ℕ, List, ◌≡◌, ap, sym, subst, ◌∙◌, Some, arith}
use Rattle.cbor_edn_model.specs.tree.Items.{Sort, Node, Items, Item, nesting}
use Rattle.cbor_edn_model.specs.tree.Trees.{Tree, OneItem, Seq, Standalone, items}
use Rattle.cbor_edn_model.specs.text.Spelling.{SpellsOne, SpellsSequence}
use Rattle.cbor_edn_model.specs.cbor.Value.{Value, Values, Enc, EncAll, encoding, encodings}
use Rattle.cbor_edn_model.specs.cbor.Meaning.{MeaningOf, means}
use Rattle.cbor_edn_model.specs.cbor.Decoded.{IsDecoded, IsDecodedSequence, alone}
use Rattle.cbor_edn.specs.Recoding.{IsTextOf, IsTextOfItem, IsTextOfItems}
use Rattle.cbor_edn_model.proofs.lemmas.text.GrammarLaws.{unique_items}

same_some : {A : Type 0} (v w : A) → Some v ≡ Some w → v ≡ w
same_some v w e = cc

module _ {s : Sort} (Spelled : Node s → List ℕ → Type 0) (Encoded : List ℕ → MeaningOf s → Type 0) (unique : (x y : Node s) (t : List ℕ) → Spelled x t → Spelled y t → x ≡ y) where
  -- what a text spells means what the text is of
  means_text : (limit : ℕ) (bytes t : List ℕ) (x : Node s) → IsTextOf Spelled Encoded limit bytes t → Spelled x t → (v : MeaningOf s) × (means x ≡ Some v)
  means_text limit bytes t x (y, v, spelled, nested, meant, enc) also = (v, ap means (unique x y t also spelled) ∙ meant)

  one_text : (encode : MeaningOf s → List ℕ) → ((b : List ℕ) (v : MeaningOf s) → Encoded b v → b ≡ encode v)
      → (limit : ℕ) (a b t : List ℕ) → IsTextOf Spelled Encoded limit a t → IsTextOf Spelled Encoded limit b t → a ≡ b
  one_text encode encoded limit a b t (x, v, spelled, nested, meant, enc) (y, w, also, within, means_too, enc_too) =
      let same : x ≡ y = unique x y t spelled also in
      let values_same : v ≡ w = same_some v w (sym meant ∙ ap means same ∙ means_too) in
      encoded a v enc ∙ ap encode values_same ∙ sym (encoded b w enc_too)

pub text_of_decoded : (limit : ℕ) (bytes t : List ℕ) (w : Tree Seq) → IsDecodedSequence limit bytes w → SpellsSequence (items w) t → IsTextOfItems limit bytes t
text_of_decoded limit bytes t w d spelled = (items w, d.values, spelled, omega (arith, ap nesting d.same_items, d.within), d.meant, d.encoded)

pub meant_by_text : (limit : ℕ) (bytes t : List ℕ) (x : Items) → IsTextOfItems limit bytes t → SpellsSequence x t → (vs : Values) × (means x ≡ Some vs)
meant_by_text = means_text SpellsSequence EncAll unique_items.0

pub one_encoding_of_text : (limit : ℕ) (a b t : List ℕ) → IsTextOfItems limit a t → IsTextOfItems limit b t → a ≡ b
one_encoding_of_text = one_text SpellsSequence EncAll unique_items.0 encodings (λ b v e. e.1)

pub text_of_decoded_item : (limit : ℕ) (bytes t : List ℕ) (v : Tree Standalone) → ((w : Tree OneItem) × IsDecoded limit (Enc bytes) w × (v ≡ alone w)) → SpellsOne (items v) t → IsTextOfItem limit bytes t
unfolding items
text_of_decoded_item limit bytes t v (w, d, is) spelled =
    (items w, d.value, subst (λ v. SpellsOne (items v) t) is spelled, omega (arith, ap nesting d.same_items, d.within), d.meant, d.encoded)

pub meant_by_item_text : (limit : ℕ) (bytes t : List ℕ) (x : Node Item) → IsTextOfItem limit bytes t → SpellsOne x t → (v : Value) × (means x ≡ Some v)
meant_by_item_text = means_text SpellsOne Enc unique_items.1

pub one_encoding_of_item_text : (limit : ℕ) (a b t : List ℕ) → IsTextOfItem limit a t → IsTextOfItem limit b t → a ≡ b
one_encoding_of_item_text = one_text SpellsOne Enc unique_items.1 encoding (λ b v e. e.1)
