-- The integer that stands for a bignum means what the tag means.
use Rattle.std.proofs.Common.{ℕ, ℤ, ◌≡◌, Bool, true, false, cond, List, Option, Some, None, Ok, refl, sym, ap, ◌∙◌}
use Rattle.cbor_edn_parts.specs.declared.base.indicator.Indicator.{Indicator}
use Rattle.cbor_edn_model.specs.tree.Items.{Tagged}
use Rattle.cbor_edn_model.specs.visit.Seeking.{CallArguments}
use Rattle.cbor_edn_model.specs.tree.Trees.{Tree, OneItem, items}
use Rattle.cbor_edn_model.specs.cbor.Value.{Value}
use Rattle.cbor_edn_model.proofs.lemmas.cbor.MeaningSteps.{some_is}
use Rattle.cbor_edn_conversions.specs.Resolving.{Resolver, means_by, ResolvesNoContent}
use Rattle.cbor_edn_conversions.proofs.resolving.Resolved.{more_means}
use Rattle.cbor_edn_conversions.specs.Conversions.{Conversion, called_tag, mean_the_same, integer_tree, tag_tree}
use Rattle.cbor_edn_conversions.specs.Resolvers.{TurnsTo}
use Rattle.cbor_edn_conversions.specs.Bignums.{quoted_item_bytes, magnitude, bignum_integer, if_same_integer, integer_of_tag, bignum_of_tag, pretty_bignum}
use Rattle.cbor_edn_conversions.proofs.conversions.SameValues.{mean_one}
use Rattle.cbor_edn_conversions.proofs.conversions.Calls.{reply_turns, called_tag_is}

module _ (R : Resolver) (no_content : ResolvesNoContent R) where
  -- Items that mean the same bytes turn into each other, whatever literals stand for.
  pub same_turns : (w v : Tree OneItem) → mean_the_same w v ≡ true → TurnsTo R R w v
  same_turns w v e u is =
      let h = mean_one w v e in
      let value : h.value ≡ u = some_is h.value u (sym (more_means R no_content (items w) h.value h.left) ∙ is) in
      more_means R no_content (items v) h.value h.right ∙ ap (λ (x : Value). Some x) value

  abbrev converts : Tree OneItem → Option Conversion
  converts v = Some (Ok v)

  converts_is : (x y : Tree OneItem) → converts x ≡ converts y → x ≡ y
  converts_is x y e = cc

  tag_turns : (w v : Tree OneItem) (z : ℤ) (b : Bool) → mean_the_same w (integer_tree z) ≡ b → cond b (converts (integer_tree z)) None ≡ converts v → TurnsTo R R w v
  tag_turns w v z false p e u is = absurd cc
  tag_turns w v z true p e u is = let same = converts_is (integer_tree z) v e in ap (λ x. means_by R (items x)) (sym same) ∙ same_turns w (integer_tree z) p u is

  integer_turns : (w v : Tree OneItem) (o : Option ℤ) → if_same_integer w o ≡ Some (Ok v) → TurnsTo R R w v
  integer_turns w v None e u is = absurd cc
  integer_turns w v (Some z) e u is = tag_turns w v z _ refl e u is

  bytes_turn : (n : ℕ) (c v : Tree OneItem) (o : Option (List ℕ)) → integer_of_tag n c o ≡ Some (Ok v) → TurnsTo R R (tag_tree n c) v
  bytes_turn n c v None e u is = absurd cc
  bytes_turn n c v (Some bs) e u is = integer_turns (tag_tree n c) v (bignum_integer n (magnitude bs)) e u is

  by_tag : (w : Tree OneItem) (o : Option (ℕ × Option Indicator × Tree OneItem)) → ((n : ℕ) (i : Option Indicator) (c : Tree OneItem) → o ≡ Some (n, i, c) → items w ≡ Tagged n i (items c)) → (v : Tree OneItem) → bignum_of_tag o ≡ Some (Ok v) → TurnsTo R R w v
  unfolding items
  by_tag w None is v e u h = absurd cc
  by_tag w (Some (n, Some i, c)) is v e u h = absurd cc
  by_tag w (Some (n, None, c)) is v e u h = bytes_turn n c v (quoted_item_bytes c) e u (sym (ap (λ x. means_by R x) (is n None c refl)) ∙ h)

  pub bignum_turns : (a : CallArguments) (w : Tree OneItem) → TurnsTo R R w (pretty_bignum a w).1
  unfolding pretty_bignum
  bignum_turns a w = reply_turns R R w (bignum_of_tag (called_tag a w)) (λ x e. e) (λ v e. by_tag w (called_tag a w) (called_tag_is a w) v e)
