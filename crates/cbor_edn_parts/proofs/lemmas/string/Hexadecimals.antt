-- Bytes by pairs of hexadecimal digits.
use Rattle.std.proofs.Common.{ℕ, ◌+◌, ◌*◌, ◌<◌, ◌≡◌, Bool, true, false, List, [], ◌∷◌, Option, Some, None, option_map, refl, sym, ap, ◌∙◌, ltb, inl, inr, arith}
use Rattle.std.specs.Prelude.{◌⊎◌, is_some, if◌then◌else◌}
use Rattle.std.specs.Char.{digit_value}
use Rattle.std.proofs.lemmas.Bool.Decides.{nat_tests}
use Rattle.cbor_edn_parts.specs.base.Bytes.{kind}
use Rattle.cbor_edn_parts.specs.internal.SpaceTokens.{space_step}
use Rattle.cbor_edn_parts.specs.internal.ContentReading.{hex_bytes, hex_digit_at, if_scanned}
use Rattle.cbor_edn_parts.specs.declared.space.SpaceState.{SpaceState}
use Rattle.cbor_edn_parts.specs.declared.space.SpaceState.TheVariants.{Between, InSlashes, InHash}

pub digit_small : (m : SpaceState) (c d : ℕ) → Some d ≡ hex_digit_at m c → d < 16
digit_small Between c d e = grind (arith, nat_tests)
digit_small InSlashes c d e = absurd (cc)
digit_small InHash c d e = absurd (cc)

pub digit_is : (b : Bool) (v d : ℕ) → ◌≡◌ {A = Option ℕ} (Some d) (if b then Some v else None) → (b ≡ true) × (v ≡ d)
digit_is true v d e = (refl, cc)
digit_is false v d e = absurd (cc)

no_digit : (b : Bool) (v : ℕ) → ◌≡◌ {A = Option ℕ} None (if b then Some v else None) → b ≡ false
no_digit true v e = absurd (cc)
no_digit false v e = refl

module _ (c : ℕ) (t : List ℕ) where
  pub hex_first : (m : SpaceState) (d : ℕ) → Some d ≡ hex_digit_at m c → hex_bytes m None (c ∷ t) ≡ hex_bytes m (Some d) t
  unfolding hex_bytes
  hex_first Between d e = let h = digit_is (ltb (digit_value c) 16) (digit_value c) d e in rw h.0 (ap (λ v. hex_bytes Between (Some v) t) h.1)
  hex_first InSlashes d e = absurd (cc)
  hex_first InHash d e = absurd (cc)

  pub hex_second : (m : SpaceState) (h d : ℕ) → Some d ≡ hex_digit_at m c → hex_bytes m (Some h) (c ∷ t) ≡ option_map (◌∷◌ (16 * h + d)) (hex_bytes m None t)
  unfolding hex_bytes
  hex_second Between h d e = let f = digit_is (ltb (digit_value c) 16) (digit_value c) d e in rw f.0 (ap (λ v. option_map (◌∷◌ (16 * h + v)) (hex_bytes Between None t)) f.1)
  hex_second InSlashes h d e = absurd (cc)
  hex_second InHash h d e = absurd (cc)

  -- a byte that is no digit stands in space, or nowhere
  pub hex_space : (m : SpaceState) (h : Option ℕ) → None ≡ hex_digit_at m c → hex_bytes m h (c ∷ t) ≡ if_scanned (space_step (kind c) m) (λ n. hex_bytes n h t)
  unfolding hex_bytes
  hex_space Between None e = rw (no_digit (ltb (digit_value c) 16) (digit_value c) e)
  hex_space Between (Some d) e = rw (no_digit (ltb (digit_value c) 16) (digit_value c) e)
  hex_space InSlashes h e = refl
  hex_space InHash h e = refl

  pub hex_on : (m n : SpaceState) (h : Option ℕ) → None ≡ hex_digit_at m c → Some n ≡ space_step (kind c) m → hex_bytes m h (c ∷ t) ≡ hex_bytes n h t
  hex_on m n h e s = hex_space m h e ∙ ap (λ o. if_scanned o (λ n. hex_bytes n h t)) (sym s)

  pub hex_refused : (m : SpaceState) (h : Option ℕ) → None ≡ hex_digit_at m c → None ≡ space_step (kind c) m → hex_bytes m h (c ∷ t) ≡ None
  hex_refused m h e s = hex_space m h e ∙ ap (λ o. if_scanned o (λ n. hex_bytes n h t)) (sym s)

pub hex_all : (m : SpaceState) (h : Option ℕ) → false ≡ is_some h → (m ≡ Between) ⊎ (m ≡ InHash) → hex_bytes m h [] ≡ Some []
unfolding hex_bytes
hex_all m (Some d) none space = absurd (cc)
hex_all m None none (inl e) = rw e
hex_all m None none (inr e) = rw e

pub hex_in_comment : (h : Option ℕ) → hex_bytes InSlashes h [] ≡ None
unfolding hex_bytes
hex_in_comment h = refl

pub hex_waiting : (m : SpaceState) (h : Option ℕ) → true ≡ is_some h → hex_bytes m h [] ≡ None
unfolding hex_bytes
hex_waiting m None some = absurd (cc)
hex_waiting Between (Some d) some = refl
hex_waiting InSlashes (Some d) some = refl
hex_waiting InHash (Some d) some = refl
