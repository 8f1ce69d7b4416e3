use Rattle.std.proofs.Common.{◌≡◌, ◌∷◌, ◌++◌, [], ℕ, List, sym, ◌∙◌, append_assoc}
use Rattle.std.proofs.lemmas.Bool.{false≢true}
use Rattle.cbor_edn_parts.specs.base.LeafTexts.{leaf_bytes}
use Rattle.cbor_edn_parts.specs.string.Literal.{IsPrefix}
use Rattle.cbor_edn_parts.specs.Written.{application_literal, all_single_escaped}
use Rattle.cbor_edn_parts.proofs.lemmas.string.StringLiterals.{bytes_all}
use Rattle.cbor_edn_parts.proofs.lemmas.string.PrefixTests.{prefix_test}
use Rattle.cbor_edn_parts.proofs.lemmas.string.WrittenLiterals.{application_is_literal}
use Rattle.cbor_edn_parts.proofs.string.Literal.application.Goals as goal

-- a prefix, a quote, a text and a quote
pieces : (t₀ t₁ t₂ t₃ t₄ p v : List ℕ) → t₀ ≡ [] → t₁ ≡ t₀ ++ p → t₂ ≡ t₁ ++ (39 ∷ []) → t₃ ≡ t₂ ++ v → t₄ ≡ t₃ ++ (39 ∷ []) → t₄ ≡ p ++ (39 ∷ (v ++ (39 ∷ [])))
pieces t₀ t₁ t₂ t₃ t₄ p v a b c d e = rw (e, d, c, b, a) (simp append_assoc)

is_prefix : (c : goal.In_ok-text) → IsPrefix c.args.prefix.now
is_prefix c = (prefix_test c.args.prefix.now).1 (sym c.is_prefix.ensures ∙ c.if-not-is_prefix.false)

written : (c : goal.In_ok-text) → leaf_bytes c.in_ok-text.text ≡ application_literal c.args.prefix.now c.args.text.now
written c =
    c.in_ok-text.ensures ∙ pieces _ _ _ _ _ c.args.prefix.now (all_single_escaped c.args.text.now) c.in_ok-literal.ensures.bytes c.in_ok-push_str.ensures.bytes c.in_ok-push_str-2.ensures.bytes
    c.in_ok-print_single_quoted.ensures c.in_ok-push_str-3.ensures.bytes

pub invariant_of-result : goal.invariant_of-result
invariant_of-result c = rw (written c) (record { spelled = application_is_literal c.args.prefix.now c.args.text.now (is_prefix c) (bytes_all c.args.text.now c.type_inv.text) })

pub returns-clause-prefix : goal.returns-clause-prefix
returns-clause-prefix c = (prefix_test c.args.prefix.now).1 (sym c.is_prefix.ensures ∙ c.if-not-is_prefix.false)

pub returns-then-not-is_prefix-clause-refused : goal.returns-then-not-is_prefix-clause-refused
returns-then-not-is_prefix-clause-refused c = λ is. false≢true (sym c.if-not-is_prefix.true ∙ (c.is_prefix.ensures ∙ (prefix_test c.args.prefix.now).0 is))
