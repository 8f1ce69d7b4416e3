-- The prefixes of the grammar are those that the test takes.
use Rattle.std.proofs.Common.{ℕ, ◌≡◌, List, [], ◌∷◌, Bool, true, false, refl, ◌∙◌}
use Rattle.std.specs.Prelude.{◌↔◌, nat_le}
use Rattle.std.specs.Bool.{Decides}
use Rattle.std.specs.List.{list_all}
use Rattle.std.proofs.lemmas.Bool.{cond-true, cond-false, cond_both, and_from, and_parts, and_left, lt-leb, false≢true}
use Rattle.std.proofs.Common.{arith}
use Rattle.cbor_edn_parts.specs.string.Literal.{IsPrefix, small, large}
use Rattle.cbor_edn_parts.specs.internal.LiteralTokens.{is_lower, is_upper}
use Rattle.cbor_edn_parts.specs.internal.Prefixes.{are_small, are_large, is_prefix}
use Rattle.cbor_edn_parts.proofs.lemmas.base.Each.{Each, end, next, each, all}
use Rattle.cbor_edn_parts.proofs.lemmas.string.LiteralTexts.{decides_range, lower_next, upper_next}

module _ (test : ℕ → Bool) (P : ℕ → Type 0) (decides : (c : ℕ) → Decides (test c) (P c)) where
  all_of : {x : List ℕ} → Each P x → list_all test x ≡ true
  all_of end = refl
  all_of (next {c = c} h more) = and_from (test c) _ ((decides c).1 h) (all_of more)

  each_from : (x : List ℕ) → list_all test x ≡ true → Each P x
  each_from [] e = end
  each_from (c ∷ x) e = let h = and_parts (test c) _ e in next ((decides c).0 h.0) (each_from x h.1)

prefix_is : {t : List ℕ} → IsPrefix t → is_prefix t ≡ true
prefix_is (small {c = c} h more) = cond-true (is_lower c) _ _ ((decides_range 97 122 c).1 h) ∙ all_of _ _ lower_next (each more)
prefix_is (large {c = c} h more) =
    cond-false (is_lower c) _ _ (and_left (nat_le 97 c) _ (lt-leb 97 c (omega arith))) ∙ (cond-true (is_upper c) _ _ ((decides_range 65 90 c).1 h) ∙ all_of _ _ upper_next (each more))

prefix_of_test : (t : List ℕ) → is_prefix t ≡ true → IsPrefix t
prefix_of_test [] e = absurd (false≢true e)
prefix_of_test (c ∷ t) e =
    cond_both (is_lower c) (are_small t) _ (λ b. b ≡ true → IsPrefix (c ∷ t))
    (λ low rest. small ((decides_range 97 122 c).0 low) (all (each_from _ _ lower_next t rest)))
    (λ _. cond_both (is_upper c) (are_large t) false (λ b. b ≡ true → IsPrefix (c ∷ t))
    (λ up rest. large ((decides_range 65 90 c).0 up) (all (each_from _ _ upper_next t rest)))
    (λ _ never. absurd (false≢true never)))
    e

pub prefix_test : (t : List ℕ) → IsPrefix t ↔ (is_prefix t ≡ true)
prefix_test t = (prefix_is, prefix_of_test t)
