-- The bytes of literals with a prefix.
use Rattle.std.proofs.Common.{ℕ, ◌<◌, ◌≡◌, ◌≢◌, Bool, true, false, cond, List, [], Option, Some, None, refl, sym, ap, ◌∙◌, arith}
use Rattle.std.proofs.lemmas.List.Elements.{All-nil, All-cons}
use Rattle.cbor_edn_parts.specs.declared.string.Quote.TheVariants as quotes
use Rattle.cbor_edn_parts.specs.declared.string.QuotedState.TheVariants as part
use Rattle.cbor_edn_parts.specs.declared.string.StringKind.{StringKind}
use Rattle.cbor_edn_parts.specs.declared.string.StringKind.TheVariants.{Bytes}
use Rattle.cbor_edn_parts.specs.string.Contents.{Content, HasContent, double_quoted, single_quoted, behind_h, behind_b64, behind_b32, behind_h32, IsHexPairs, end, unended, pair}
use Rattle.cbor_edn_parts.specs.string.Literal.{Prefixed, Single, IsLiteral}
use Rattle.cbor_edn_parts.specs.internal.ContentReading.{literal_content, prefixed_bytes, of_bytes, behind_quote}
use Rattle.cbor_edn_parts.specs.internal.LiteralTokens.{is_literal, prefix_of, decoded}
use Rattle.cbor_edn_parts.proofs.lemmas.string.Applications.{prefixed_read, unprefixed_read, one_application}
use Rattle.cbor_edn_parts.proofs.lemmas.string.ContentTexts.{content_read, content_reads}
use Rattle.cbor_edn_parts.proofs.lemmas.string.LiteralContents.{content_is}
use Rattle.cbor_edn_parts.proofs.lemmas.string.LiteralTexts.{literal_test}
use Rattle.cbor_edn_model.specs.cbor.Value.{AreBytes}
use Rattle.cbor_edn_model.proofs.lemmas.cbor.MeaningSteps.{some_is}
use Rattle.cbor_edn_conversions.specs.EmbeddedItems.{bytes_behind_prefix}
use Rattle.cbor_edn_conversions.specs.EmbeddedLaws.{BytesAreContent}

-- ---- contents are bytes

hex_fit : {x bs : List ℕ} → IsHexPairs x bs → AreBytes bs
hex_fit end = All-nil (λ b. b < 256)
hex_fit (unended h) = All-nil (λ b. b < 256)
hex_fit (pair a b {bs = bs} first s second t more) = All-cons (λ b. b < 256) _ bs (omega (arith, first, second)) (hex_fit more)

single_unprefixed : (x v p t : List ℕ) → IsLiteral Single v x → IsLiteral (Prefixed p) t x → ⊥
unfolding prefix_of
single_unprefixed x v p t (y, d, e) is = unprefixed_read x (ap prefix_of e) p t is

content_fits : (x p t : List ℕ) → IsLiteral (Prefixed p) t x → (k : StringKind) (bs : List ℕ) → HasContent x k bs → k ≡ Bytes → AreBytes bs
content_fits x p t is k bs (double_quoted h) e = absurd cc
content_fits x p t is k bs (single_quoted {v = v} h) e = absurd (single_unprefixed x v p t h is)
content_fits x p t is k bs (behind_h h (s, y, space, pairs, same)) e = hex_fit pairs
content_fits x p t is k bs (behind_b64 h b) e = b.3
content_fits x p t is k bs (behind_b32 h b) e = b.3
content_fits x p t is k bs (behind_h32 h b) e = b.3

-- ---- the bytes behind a prefix

-- what they are of
pub record HasBytes (x bs : List ℕ) : Type 0 where
  pub prefix : List ℕ
  pub text : List ℕ
  pub literal : IsLiteral (Prefixed prefix) text x
  pub content : literal_content x ≡ Some (Bytes, bs)
  pub fit : AreBytes bs

module _ (x : List ℕ) where
  abbrev text_of : List ℕ
  text_of = decoded quotes.Single part.Between (behind_quote x)

  no_bytes : (v bs : List ℕ) → prefixed_bytes [] v ≡ Some bs → ⊥
  no_bytes v bs e = absurd cc

  filled : (bs : List ℕ) → prefixed_bytes (prefix_of x) text_of ≡ Some bs → prefix_of x ≢ []
  filled bs e empty = no_bytes text_of bs (sym (ap (λ p. prefixed_bytes p text_of) empty) ∙ e)

  by_test : (b : Bool) (bs : List ℕ) → is_literal x ≡ b → cond b (prefixed_bytes (prefix_of x) text_of) None ≡ Some bs → HasBytes x bs
  by_test false bs is e = absurd cc
  by_test true bs is e =
      let literal = prefixed_read x (filled bs e) is in
      let content : literal_content x ≡ Some (Bytes, bs) = content_is (Prefixed (prefix_of x)) text_of x literal ∙ ap of_bytes e in
      record { prefix = prefix_of x; text = text_of; literal = literal; content = content; fit = content_fits x (prefix_of x) text_of literal Bytes bs (content_read x is Bytes bs content) refl }

  pub has_bytes : (bs : List ℕ) → bytes_behind_prefix x ≡ Some bs → HasBytes x bs
  has_bytes bs e = by_test (is_literal x) bs refl e

  abbrev bytes_content : List ℕ → Content
  bytes_content bs = (Bytes, bs)

  bytes_same : (o : Option (List ℕ)) (bs : List ℕ) → of_bytes o ≡ Some (Bytes, bs) → o ≡ Some bs
  bytes_same None bs e = absurd cc
  bytes_same (Some cs) bs e = ap (λ (c : Content). Some c.1) (some_is (bytes_content cs) (bytes_content bs) e)

  -- a literal with a prefix and a content has them
  pub bytes_found : (p t bs : List ℕ) → IsLiteral (Prefixed p) t x → literal_content x ≡ Some (Bytes, bs) → bytes_behind_prefix x ≡ Some bs
  bytes_found p t bs is e =
      let read : is_literal x ≡ true = (literal_test x).0 (Prefixed p, t, is) in
      let named = one_application p t (prefix_of x) text_of x is (prefixed_read x (λ none. unprefixed_read x none p t is) read) in
      let bytes : prefixed_bytes p t ≡ Some bs = bytes_same (prefixed_bytes p t) bs (sym (content_is (Prefixed p) t x is) ∙ e) in
      ap (λ b. cond b (prefixed_bytes (prefix_of x) text_of) None) read ∙ (ap (λ q. prefixed_bytes q text_of) named.0 ∙ (ap (prefixed_bytes p) named.1 ∙ bytes))

  -- and a text that is none has none
  pub no_bytes_behind : ((p t : List ℕ) → IsLiteral (Prefixed p) t x → ⊥) → bytes_behind_prefix x ≡ None
  no_bytes_behind none = by_answer (bytes_behind_prefix x) refl
    where
      by_answer : (o : Option (List ℕ)) → bytes_behind_prefix x ≡ o → bytes_behind_prefix x ≡ None
      by_answer None e = e
      by_answer (Some bs) e = let h = has_bytes bs e in absurd (none h.prefix h.text h.literal)

pub bytes_are_content : BytesAreContent
bytes_are_content x bs = (
  λ e. let h = has_bytes x bs e in ((h.prefix, h.text, h.literal), content_read x ((literal_test x).0 (Prefixed h.prefix, h.text, h.literal)) Bytes bs h.content),
  λ h. bytes_found x h.0.0 h.0.1 bs h.0.2 (content_reads x Bytes bs h.1),
)
