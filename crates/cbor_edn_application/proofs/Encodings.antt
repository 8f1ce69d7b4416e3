-- Encodings, compared.
use Rattle.std.proofs.Common.{◌≡◌, ℕ, false, List, [], ◌∷◌, Option, Some, None, refl, sym, ap, ◌∙◌}
use Rattle.std.specs.Prelude.{nat_eq, option_and_then, ◌&&◌}
use Rattle.std.specs.Cmp.Lexicographic.{pointwise}
use Rattle.cbor_edn_parts.specs.internal.ContentReading.{same}
use Rattle.cbor_edn_model.specs.cbor.Meaning.{means}
use Rattle.cbor_edn_model.specs.tree.Trees.{Tree, OneItem, items}
use Rattle.cbor_edn_model.specs.cbor.Value.{Value, Enc, AreBytes}
use Rattle.cbor_edn_conversions.specs.Conversions.{are_same, encoded, item_encoding}
use Rattle.cbor_edn_conversions.proofs.conversions.SameValues.{encodings_computed}

pub none_left : (o p : Option (List ℕ)) → None ≡ o → false ≡ are_same o p
none_left None p e = refl
none_left (Some bs) p e = absurd cc

pub none_right : (o p : Option (List ℕ)) → None ≡ p → false ≡ are_same o p
none_right None p e = refl
none_right (Some bs) None e = refl
none_right (Some bs) (Some cs) e = absurd cc

pointwise_same : (bs cs : List ℕ) → pointwise nat_eq bs cs ≡ same bs cs
pointwise_same [] [] = refl
pointwise_same [] (c ∷ cs) = refl
pointwise_same (b ∷ bs) [] = refl
pointwise_same (b ∷ bs) (c ∷ cs) = ap (λ x. nat_eq b c && x) (pointwise_same bs cs)

pub both_same : (o p : Option (List ℕ)) (bs cs : List ℕ) → Some bs ≡ o → Some cs ≡ p → pointwise nat_eq bs cs ≡ are_same o p
both_same None p bs cs e f = absurd cc
both_same (Some x) None bs cs e f = absurd cc
both_same (Some x) (Some y) bs cs e f = pointwise_same bs cs ∙ (let left : bs ≡ x = cc in let right : cs ≡ y = cc in ap (λ z. same z cs) left ∙ ap (same x) right)

pub encoding_is : (w : Tree OneItem) (bs : List ℕ) → (v : Value) × (means (items w) ≡ Some v) × Enc bs v → AreBytes bs → Some bs ≡ item_encoding w
encoding_is w bs h all = sym ((encodings_computed w bs).1 (h.0, h.1, h.2, all))

pub no_encoding : (w : Tree OneItem) → means (items w) ≡ None → None ≡ item_encoding w
no_encoding w e = sym (ap (λ o. option_and_then encoded o) e)
