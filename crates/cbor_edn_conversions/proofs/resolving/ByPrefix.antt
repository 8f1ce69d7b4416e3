-- Resolvers by prefix and text give values to literals with a prefix that says no content alone.
use Rattle.std.proofs.Common.{ℕ, ◌≡◌, ◌≢◌, Bool, true, false, cond, not, ◌&&◌, ◌||◌, List, [], Option, Some, None, refl, ap, ◌∙◌}
use Rattle.cbor_edn_parts.specs.declared.base.indicator.Indicator.{Indicator}
use Rattle.cbor_edn_parts.specs.declared.string.Quote.TheVariants as quotes
use Rattle.cbor_edn_parts.specs.declared.string.QuotedState.TheVariants as part
use Rattle.cbor_edn_parts.specs.string.Contents.{h, b64, b32, h32}
use Rattle.cbor_edn_parts.specs.string.Literal.{Prefixed, IsLiteral}
use Rattle.cbor_edn_parts.specs.internal.ContentReading.{same, of_bytes, prefixed_bytes, is_decoded, is_supported_prefix, is_supported, behind_quote}
use Rattle.cbor_edn_parts.specs.internal.LiteralTokens.{is_literal, prefix_of, decoded}
use Rattle.cbor_edn_parts.proofs.lemmas.string.Applications.{one_application, prefixed_read, unprefixed_read}
use Rattle.cbor_edn_parts.proofs.lemmas.string.LiteralTexts.{literal_test}
use Rattle.cbor_edn_parts.proofs.lemmas.string.LiteralPrefixes.{prefixed_content}
use Rattle.cbor_edn_model.specs.cbor.Value.{Value}
use Rattle.cbor_edn_conversions.specs.Resolving.{by_prefix, ResolvesApplications, ResolvesNoContent}

both_true : (a b : Bool) → (a && not b) ≡ true → (a ≡ true) × (b ≡ false)
both_true true true e = absurd cc
both_true true false e = (refl, refl)
both_true false b e = absurd cc

no_bytes : (a b c d : Bool) (w x y z : Option (List ℕ)) → (a || b || c || d) ≡ false → cond a w (cond b x (cond c y (cond d z None))) ≡ None
no_bytes true b c d w x y z e = absurd cc
no_bytes false true c d w x y z e = absurd cc
no_bytes false false true d w x y z e = absurd cc
no_bytes false false false true w x y z e = absurd cc
no_bytes false false false false w x y z e = refl

not_either : (a b : Bool) → (a || b) ≡ false → b ≡ false
not_either true b e = absurd cc
not_either false b e = e

unsupported_bytes : (p v : List ℕ) → is_supported_prefix p ≡ false → prefixed_bytes p v ≡ None
unsupported_bytes p v e = no_bytes (same p h) (same p b64) (same p b32) (same p h32) _ _ _ _ (not_either (same p []) (is_decoded p) e)

-- a prefix that is not supported is one
prefix_filled : (x : List ℕ) → is_supported x ≡ false → prefix_of x ≢ []
prefix_filled x e none = let s = ap is_supported_prefix none in absurd cc

module _ (F : List ℕ → List ℕ → Option Value) where
  none_or : (b : Bool) (o : Option Value) → (b ≡ true → ⊥) → cond b o None ≡ None
  none_or true o n = absurd (n refl)
  none_or false o n = refl

  pub by_prefix_applications : ResolvesApplications (by_prefix F)
  by_prefix_applications x i n =
      none_or (is_literal x && not (is_supported x)) _ (λ e.
      let b = both_true (is_literal x) (is_supported x) e in
      let s = ap is_supported_prefix (n _ _ (prefixed_read x (prefix_filled x b.1) b.0)) in absurd cc)

  some_or : (b : Bool) (o : Option Value) (v : Value) → cond b o None ≡ Some v → b ≡ true
  some_or true o v e = refl
  some_or false o v e = absurd cc

  pub by_prefix_no_content : ResolvesNoContent (by_prefix F)
  by_prefix_no_content x i v e =
      let b = both_true (is_literal x) (is_supported x) (some_or (is_literal x && not (is_supported x)) _ v e) in
      prefixed_content x b.0 (prefix_filled x b.1) ∙ ap of_bytes (unsupported_bytes (prefix_of x) _ b.1)

  -- Of a literal with such a prefix it gives what F gives.
  pub by_prefix_is : (p t x : List ℕ) (i : Option Indicator) → IsLiteral (Prefixed p) t x → is_supported_prefix p ≡ false → by_prefix F x i ≡ F p t
  by_prefix_is p t x i is not_supported =
      let read : is_literal x ≡ true = (literal_test x).0 (Prefixed p, t, is) in
      let filled : prefix_of x ≢ [] = λ none. unprefixed_read x none p t is in
      let same = one_application p t (prefix_of x) (decoded quotes.Single part.Between (behind_quote x)) x is (prefixed_read x filled read) in
      let supported : is_supported x ≡ false = ap is_supported_prefix same.0 ∙ not_supported in
      ap (λ b. cond (b && not (is_supported x)) (F (prefix_of x) (decoded quotes.Single part.Between (behind_quote x))) None) read
      ∙ (ap (λ b. cond (true && not b) (F (prefix_of x) (decoded quotes.Single part.Between (behind_quote x))) None) supported
      ∙ (ap (λ p. F p (decoded quotes.Single part.Between (behind_quote x))) same.0 ∙ ap (F p) same.1))
