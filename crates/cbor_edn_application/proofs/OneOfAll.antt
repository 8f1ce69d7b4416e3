-- What one function does, where it alone acts.
use Rattle.std.proofs.Common.{ℕ, ◌≡◌, ◌≢◌, ◌==◌, ◌||◌, Bool, false, cond, codes, List, refl, sym, ap, ◌∙◌, inl, inr}
use Rattle.std.specs.Prelude.{◌⊎◌}
use Rattle.cbor_edn_parts.specs.internal.ContentReading.{same}
use Rattle.cbor_edn_parts.proofs.lemmas.string.LiteralPrefixes.{differ}
use Rattle.cbor_edn_model.specs.visit.Seeking.{CallArguments, number, prefix_and_text}
use Rattle.cbor_edn_model.specs.tree.Trees.{Tree, OneItem}
use Rattle.cbor_edn_model.specs.visit.Visits.{Answer, fine, comment, no_memory}
use Rattle.cbor_edn_conversions.specs.Conversions.{Reply}
use Rattle.cbor_edn_conversions.specs.Times.{resolve_time, pretty_time}
use Rattle.cbor_edn_conversions.specs.Addresses.{resolve_address, pretty_address}
use Rattle.cbor_edn_conversions.specs.Bignums.{pretty_bignum}
use Rattle.cbor_edn_conversions.specs.All.{resolve_all, pretty_all}
use Rattle.cbor_edn_conversions.proofs.conversions.OneActs.{pretty_by_number, resolved_by_prefix}
use Rattle.cbor_edn_application.proofs.BignumBytes.{other_false}
use Rattle.cbor_edn_application.specs.Acts.{Act, ActsBy}

-- Two functions that say the same of an item act alike at it.
pub acts_alike : (f g : Act) (a : CallArguments) (w : Tree OneItem) (r : Answer) (v : Tree OneItem) → f a w ≡ g a w → ActsBy g a w r v → ActsBy f a w r v
acts_alike f g a w no_memory v e h = h
acts_alike f g a w fine v e h = (h.0 ∙ sym (ap (λ (p : Reply). p.0) e), h.1 ∙ sym (ap (λ (p : Reply). p.1) e))
acts_alike f g a w (comment c) v e h = (h.0 ∙ sym (ap (λ (p : Reply). p.0) e), h.1 ∙ sym (ap (λ (p : Reply). p.1) e))

-- ---- tags

module _ (n : ℕ) (w : Tree OneItem) where
  abbrev by_number : ℕ → Reply
  by_number m = cond (m == 1) (pretty_time (number n) w) (cond ((m == 52) || (m == 54)) (pretty_address (number n) w) (pretty_bignum (number n) w))

  pub time_alone : (r : Answer) (v : Tree OneItem) → n ≡ 1 → ActsBy pretty_time (number n) w r v → ActsBy pretty_all (number n) w r v
  time_alone r v e = acts_alike pretty_all pretty_time (number n) w r v (pretty_by_number n w ∙ ap by_number e)

  address_is : (n ≡ 52) ⊎ (n ≡ 54) → pretty_all (number n) w ≡ pretty_address (number n) w
  address_is (inl e) = pretty_by_number n w ∙ ap by_number e
  address_is (inr e) = pretty_by_number n w ∙ ap by_number e

  pub address_alone : (r : Answer) (v : Tree OneItem) → (n ≡ 52) ⊎ (n ≡ 54) → ActsBy pretty_address (number n) w r v → ActsBy pretty_all (number n) w r v
  address_alone r v e = acts_alike pretty_all pretty_address (number n) w r v (address_is e)

  bignum_by : (a b c : Bool) → a ≡ false → b ≡ false → c ≡ false → cond a (pretty_time (number n) w) (cond (b || c) (pretty_address (number n) w) (pretty_bignum (number n) w)) ≡ pretty_bignum (number n) w
  bignum_by a b c p q s = rw (p, q, s) refl

  pub bignum_alone : (r : Answer) (v : Tree OneItem) → n ≢ 1 → n ≢ 52 → n ≢ 54 → ActsBy pretty_bignum (number n) w r v → ActsBy pretty_all (number n) w r v
  bignum_alone r v a b c =
      acts_alike pretty_all pretty_bignum (number n) w r v
      (pretty_by_number n w ∙ bignum_by (n == 1) (n == 52) (n == 54) (other_false n 1 _ refl a) (other_false n 52 _ refl b) (other_false n 54 _ refl c))

-- ---- literals

module _ (p t : List ℕ) (w : Tree OneItem) where
  abbrev by_prefix : List ℕ → Reply
  by_prefix q = cond (same q (codes "dt") || same q (codes "DT")) (resolve_time (prefix_and_text p t) w) (resolve_address (prefix_and_text p t) w)

  time_is : (p ≡ codes "dt") ⊎ (p ≡ codes "DT") → resolve_all (prefix_and_text p t) w ≡ resolve_time (prefix_and_text p t) w
  time_is (inl e) = resolved_by_prefix p t w ∙ ap by_prefix e
  time_is (inr e) = resolved_by_prefix p t w ∙ ap by_prefix e

  pub time_of_literal : (r : Answer) (v : Tree OneItem) → (p ≡ codes "dt") ⊎ (p ≡ codes "DT") → ActsBy resolve_time (prefix_and_text p t) w r v → ActsBy resolve_all (prefix_and_text p t) w r v
  time_of_literal r v e = acts_alike resolve_all resolve_time (prefix_and_text p t) w r v (time_is e)

  address_by : (a b : Bool) → a ≡ false → b ≡ false → cond (a || b) (resolve_time (prefix_and_text p t) w) (resolve_address (prefix_and_text p t) w) ≡ resolve_address (prefix_and_text p t) w
  address_by a b e f = rw (e, f) refl

  pub address_of_literal : (r : Answer) (v : Tree OneItem) → p ≢ codes "dt" → p ≢ codes "DT" → ActsBy resolve_address (prefix_and_text p t) w r v → ActsBy resolve_all (prefix_and_text p t) w r v
  address_of_literal r v a b =
      acts_alike resolve_all resolve_address (prefix_and_text p t) w r v
      (resolved_by_prefix p t w ∙ address_by (same p (codes "dt")) (same p (codes "DT")) (differ p (codes "dt") a) (differ p (codes "DT") b))
