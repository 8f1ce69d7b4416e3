use Rattle.std.proofs.Common.{◌≡◌, ◌≢◌, ℕ, List, [], true, ap, sym, ◌∙◌, Option}
use Rattle.std.proofs.lemmas.Result.{err_from_is_err_and}
use Rattle.cbor_edn_parts.specs.string.Contents.{IsRefusal}
use Rattle.cbor_edn_parts.specs.internal.ContentReading.{of_bytes, prefixed_bytes, literal_content, is_decoded, refusal, literal_kind, quote_of, behind_quote}
use Rattle.cbor_edn_parts.specs.declared.base.error.InconsistentEdn.{InconsistentEdn}
use Rattle.cbor_edn_parts.specs.Leaves.{literal_bytes}
use Rattle.cbor_edn_parts.specs.internal.LiteralTokens.{is_literal, prefix_of, decoded}
use Rattle.cbor_edn_parts.specs.declared.string.QuotedState.TheVariants.{Between}
use Rattle.cbor_edn_parts.specs.declared.string.Quote.{Quote}
use Rattle.cbor_edn_parts.specs.declared.string.StringKind.{StringKind}
use Rattle.cbor_edn_parts.specs.declared.string.StringKind.TheVariants.{Bytes}
use Rattle.cbor_edn_parts.proofs.lemmas.string.ContentTexts.{content_read, no_content, refusal_is}
use Rattle.cbor_edn_parts.proofs.lemmas.string.LiteralPrefixes.{differ, plain_content, prefixed_content, bytes_kind, prefix_empty, prefix_filled}
use Rattle.cbor_edn_parts.proofs.lemmas.string.WhereRefused.{told_weaker}
use Rattle.cbor_edn_parts.proofs.string.Literal.content.Goals as goal

pub returns-in_ok-decode-clause-content : goal.returns-in_ok-decode-clause-content
returns-in_ok-decode-clause-content c =
    content_read (literal_bytes c.args.self.now) c.args.self.now.spelled _ _
    (rw (c.in_ok-decode.ensures, c.quote-quote.ensures, c.quoted.ensures, c.kind-kind.ensures)
    (plain_content (literal_bytes c.args.self.now) c.args.self.now.spelled (sym c.prefix-prefix.ensures ∙ prefix_empty c.prefix-prefix.result.now c.if-is_empty.ensures)))

-- What the prefix makes of the text between the quotes.
module _ (t p b : List ℕ) (k : StringKind) (q : Quote) (o : Option (List ℕ)) (is : is_literal t ≡ true) (p_is : p ≡ prefix_of t) (filled : p ≢ []) (k_is : k ≡ literal_kind t) (q_is : q ≡ quote_of k)
    (b_is : b ≡ behind_quote t) (found : prefixed_bytes p (decoded q Between b) ≡ o) where
  value_is : decoded q Between b ≡ decoded (quote_of (literal_kind t)) Between (behind_quote t)
  value_is = rw (q_is, k_is, b_is)

  content_is : literal_content t ≡ of_bytes o
  content_is = prefixed_content t is (rw p_is at filled) ∙ ap of_bytes (rw (← value_is, ← p_is) found)

  kind_is : k ≡ Bytes
  kind_is = k_is ∙ bytes_kind t is (rw p_is at filled)

pub returns-in_ok-prefixed_quoted-clause-content : goal.returns-in_ok-prefixed_quoted-clause-content
returns-in_ok-prefixed_quoted-clause-content c =
    let t = literal_bytes c.args.self.now in
    let p = c.prefix-prefix.result.now in
    let filled = prefix_filled p c.if-is_empty.ensures in
    let spelled = c.args.self.now.spelled in
    let found = c.in_ok-prefixed_quoted.ensures.bytes in
    content_read t spelled _ _
    (rw (kind_is t p _ _ _ _ spelled c.prefix-prefix.ensures filled c.kind-kind.ensures c.quote-quote.ensures c.quoted-else-is_empty.ensures found)
    (content_is t p _ _ _ _ spelled c.prefix-prefix.ensures filled c.kind-kind.ensures c.quote-quote.ensures c.quoted-else-is_empty.ensures found))

pub returns-in_err-prefixed_quoted-clause-none : goal.returns-in_err-prefixed_quoted-clause-none
returns-in_err-prefixed_quoted-clause-none c =
    let t = literal_bytes c.args.self.now in
    let p = c.prefix-prefix.result.now in
    let refused = err_from_is_err_and c.from_residual-in_err-prefixed_quoted.result c.from_residual-in_err-prefixed_quoted.ensures.1 in
    rw (refused.1, refused.2) (told_weaker c.in_err-prefixed_quoted.field-0.0 _ _
    (λ _ bytes. no_content t (content_is t p _ _ _ _ c.args.self.now.spelled c.prefix-prefix.ensures (prefix_filled p c.if-is_empty.ensures) c.kind-kind.ensures c.quote-quote.ensures c.quoted-else-is_empty.ensures bytes))
    c.in_err-prefixed_quoted.ensures.none)

-- what is told of a prefix is told of the literal
refusal_by : (t p : List ℕ) → is_literal t ≡ true → p ≡ prefix_of t → p ≢ [] → (e : InconsistentEdn) → e ≡ refusal (is_decoded p) → IsRefusal t e
refusal_by t p is p_is filled e told = refusal_is t is e (rw (← p_is, differ p [] filled) told)

pub returns-in_err-prefixed_quoted-clause-told : goal.returns-in_err-prefixed_quoted-clause-told
returns-in_err-prefixed_quoted-clause-told c =
    let p = c.prefix-prefix.result.now in
    let refused = err_from_is_err_and c.from_residual-in_err-prefixed_quoted.result c.from_residual-in_err-prefixed_quoted.ensures.1 in
    rw (refused.1, refused.2) (told_weaker c.in_err-prefixed_quoted.field-0.0 _ _
    (refusal_by (literal_bytes c.args.self.now) p c.args.self.now.spelled c.prefix-prefix.ensures (prefix_filled p c.if-is_empty.ensures))
    c.in_err-prefixed_quoted.ensures.told)
