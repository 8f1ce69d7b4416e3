use Rattle.std.proofs.Common.{◌≡◌, ℕ, List, Result, Ok, Err, sym, ap, subst, ◌∙◌, Vec, Global, string_bytes}
use Rattle.std.specs.Result.{OnErr}
use Rattle.cbor_edn_parts.specs.Leaves.{literal_bytes}
use Rattle.cbor_edn_parts.specs.string.Literal.{IsLiteral, Prefixed}
use Rattle.cbor_edn_parts.specs.internal.ContentReading.{behind_quote}
use Rattle.cbor_edn_parts.specs.internal.LiteralTokens.{prefix_of, decoded}
use Rattle.cbor_edn_parts.specs.declared.string.QuotedState.TheVariants.{Between}
use Rattle.cbor_edn_parts.specs.declared.string.Quote.TheVariants.{Single}
use Rattle.cbor_edn_parts.proofs.lemmas.string.LiteralPrefixes.{prefix_empty, prefix_filled}
use Rattle.cbor_edn_parts.proofs.lemmas.string.Applications.{prefixed_read, unprefixed_read, text_utf8}
use Rattle.cbor_edn_parts.proofs.string.Literal.application_parts.Goals as goal

-- Memory is asked for behind a prefix alone.
on_err : {A E : Type 0} (t p v : List ℕ) (r : Result A E) → IsLiteral (Prefixed p) v t → OnErr r ((p v : List ℕ) × IsLiteral (Prefixed p) v t)
on_err t p v (Ok x) read = tt
on_err t p v (Err e) read = (p, v, read)

pub returns-then-is_empty-clause-none : goal.returns-then-is_empty-clause-none
returns-then-is_empty-clause-none c e = unprefixed_read (literal_bytes c.args.self.now) (sym c.prefix-prefix.ensures ∙ prefix_empty c.prefix-prefix.result.now c.if-is_empty.ensures)

pub unwrap-text-requires : goal.unwrap-text-requires
unwrap-text-requires c =
    let t = literal_bytes c.args.self.now in
    let read = prefixed_read t (rw (← c.prefix-prefix.ensures) (prefix_filled c.prefix-prefix.result.now c.if-is_empty.ensures)) c.args.self.now.spelled in
    c.from_utf8.ensures.succeeds (rw (c.in_ok-text.ensures, c.quoted.ensures) (text_utf8 (prefix_of t) _ t read (rw c.as_str-whole.ensures at c.as_str-whole.utf8)))

pub returns-clause-found : goal.returns-clause-found
returns-clause-found c =
    let t = literal_bytes c.args.self.now in
    let read = prefixed_read t (rw (← c.prefix-prefix.ensures) (prefix_filled c.prefix-prefix.result.now c.if-is_empty.ensures)) c.args.self.now.spelled in
    let prefix : string_bytes c.in_ok-prefix.prefix ≡ prefix_of t = c.in_ok-prefix.ensures.ok ∙ c.prefix-prefix.ensures in
    let text : string_bytes c.unwrap-text.result ≡ decoded Single Between (behind_quote t) = ap (λ (v : Vec ℕ Global). v.items) (rw (c.unwrap-text.ensures) at c.from_utf8.ensures.ok) ∙ (c.in_ok-text.ensures ∙ ap (decoded Single Between) c.quoted.ensures) in
    subst (λ p. IsLiteral (Prefixed p) (string_bytes c.unwrap-text.result) t) (sym prefix) (subst (λ v. IsLiteral (Prefixed (prefix_of t)) v t) (sym text) read)

pub returns-in_err-text-clause-prefixed : goal.returns-in_err-text-clause-prefixed
returns-in_err-text-clause-prefixed c =
    let t = literal_bytes c.args.self.now in
    on_err t (prefix_of t) _ _ (prefixed_read t (rw (← c.prefix-prefix.ensures) (prefix_filled c.prefix-prefix.result.now c.if-is_empty.ensures)) c.args.self.now.spelled)

pub returns-in_err-prefix-clause-prefixed : goal.returns-in_err-prefix-clause-prefixed
returns-in_err-prefix-clause-prefixed c =
    let t = literal_bytes c.args.self.now in
    on_err t (prefix_of t) _ _ (prefixed_read t (rw (← c.prefix-prefix.ensures) (prefix_filled c.prefix-prefix.result.now c.if-is_empty.ensures)) c.args.self.now.spelled)
