-- What is quoted so and stands for a text is read as the content of that text.
use Rattle.std.proofs.Common.{ℕ, ◌≡◌, ◌≢◌, List, [], ◌∷◌, ◌++◌, false, Option, Some, refl, ap, ◌∙◌, arith}
use Rattle.std.specs.Prelude.{◌==◌, ◌||◌}
use Rattle.std.proofs.lemmas.Bool.{cond-true, eq-eqb, ne_eqb, or_from}
use Rattle.std.proofs.lemmas.List.{append-nil}
use mathlib.Core.Logic.{⊎_elim}
use Rattle.cbor_edn_parts.specs.string.Contents.{Content}
use Rattle.cbor_edn_parts.specs.internal.ContentReading.{of_bytes, prefixed_bytes, literal_content}
use Rattle.cbor_edn_parts.specs.string.Literal as literals
use Rattle.cbor_edn_parts.specs.string.Literal.{IsLower, IsUpper, IsDigit, IsPrefix, small, large, Decoded, Quoting, Prefixed, IsLiteral}
use Rattle.cbor_edn_parts.specs.internal.LiteralTokens.{quote_byte, decoded, prefix_of, quoted_of}
use Rattle.cbor_edn_parts.specs.declared.string.Quote.{Quote}
use Rattle.cbor_edn_parts.specs.declared.string.Quote.TheVariants.{Single, Double}
use Rattle.cbor_edn_parts.specs.declared.string.QuotedState.TheVariants.{Between}
use Rattle.cbor_edn_parts.specs.declared.string.StringKind.TheVariants.{Bytes, Text}
use Rattle.cbor_edn_parts.proofs.lemmas.base.Each.{Each, end, next, each}
use Rattle.cbor_edn_parts.proofs.lemmas.string.LiteralRuns.{runs_decoded, decoded_runs}

-- up to the quote that ends the text
closed : (q : Quote) → decoded q Between (quote_byte q ∷ []) ≡ []
unfolding decoded
closed q = cond-true (quote_byte q == quote_byte q) _ _ (eq-eqb (quote_byte q) (quote_byte q) refl)

pub decoded_is : (q : Quote) {x v : List ℕ} → Decoded (quote_byte q) x v → decoded q Between (x ++ (quote_byte q ∷ [])) ≡ v
decoded_is q {v = v} d = runs_decoded q (quote_byte q ∷ []) (decoded_runs q d) ∙ (ap (v ++◌) (closed q) ∙ append-nil v)

abbrev IsPlain : ℕ → Type 0
IsPlain c = (c == 39 || c == 34) ≡ false

plain : (c : ℕ) → c ≢ 39 → c ≢ 34 → IsPlain c
plain c single double = or_from (c == 39) (c == 34) (ne_eqb c 39 single) (ne_eqb c 34 double)

plain_lower : (c : ℕ) → IsLower c → IsPlain c
plain_lower c h = plain c (λ e. omega arith) (λ e. omega arith)

plain_upper : (c : ℕ) → IsUpper c → IsPlain c
plain_upper c h = plain c (λ e. omega arith) (λ e. omega arith)

plain_digit : (c : ℕ) → IsDigit c → IsPlain c
plain_digit c h = plain c (λ e. omega arith) (λ e. omega arith)

each_plain : {P : ℕ → Type 0} {x : List ℕ} → ((c : ℕ) → P c → IsPlain c) → Each P x → Each IsPlain x
each_plain to end = end
each_plain to (next {c = c} h more) = next (to c h) (each_plain to more)

pub prefix_plain : {p : List ℕ} → IsPrefix p → Each IsPlain p
prefix_plain (small {c = c} h more) = next (plain_lower c h) (each_plain (λ d. ⊎_elim (plain_lower d) (plain_digit d)) (each more))
prefix_plain (large {c = c} h more) = next (plain_upper c h) (each_plain (λ d. ⊎_elim (plain_upper d) (plain_digit d)) (each more))

pub prefix_named : {p : List ℕ} (u : List ℕ) → Each IsPlain p → prefix_of (p ++ (39 ∷ u)) ≡ p
unfolding prefix_of
prefix_named u end = refl
prefix_named u (next {c = c} h more) = rw h (ap (c ∷◌) (prefix_named u more))

quoted_named : {p : List ℕ} (u : List ℕ) → Each IsPlain p → quoted_of (p ++ (39 ∷ u)) ≡ 39 ∷ u
unfolding quoted_of
quoted_named u end = refl
quoted_named u (next {c = c} h more) = rw h (quoted_named u more)

-- the content that is read of a literal that is quoted so and stands for the text v
abbrev pub content_of : Quoting → List ℕ → Option Content
content_of literals.Double v = Some (Text, v)
content_of literals.Single v = Some (Bytes, v)
content_of (Prefixed p) v = of_bytes (prefixed_bytes p v)

behind_prefix : {p : List ℕ} (u : List ℕ) → IsPrefix p → literal_content (p ++ (39 ∷ u)) ≡ content_of (Prefixed p) (decoded Single Between u)
behind_prefix u (small h each) = let plain = prefix_plain (small h each) in rw (prefix_named u plain, quoted_named u plain)
behind_prefix u (large h each) = let plain = prefix_plain (large h each) in rw (prefix_named u plain, quoted_named u plain)

pub content_is : (q : Quoting) (v t : List ℕ) → IsLiteral q v t → literal_content t ≡ content_of q v
unfolding prefix_of quoted_of
content_is literals.Double v t (x, d, e) = ap literal_content e ∙ ap (λ b. Some (Text, b)) (decoded_is Double d)
content_is literals.Single v t (x, d, e) = ap literal_content e ∙ ap (λ b. Some (Bytes, b)) (decoded_is Single d)
content_is (Prefixed p) v t (x, is, d, e) = ap literal_content e ∙ (behind_prefix _ is ∙ ap (content_of (Prefixed p)) (decoded_is Single d))
