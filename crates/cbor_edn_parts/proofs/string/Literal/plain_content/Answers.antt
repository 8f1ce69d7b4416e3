use Rattle.std.proofs.Common.{◌≡◌, ◌<◌, ◌++◌, [], ◌∷◌, sym, ◌∙◌, arith}
use Rattle.cbor_edn_parts.specs.Leaves.{literal_bytes}
use Rattle.cbor_edn_parts.specs.internal.LiteralTokens.{quote_byte, prefix_of}
use Rattle.cbor_edn_parts.specs.internal.ContentReading.{behind_quote}
use Rattle.cbor_edn_parts.specs.declared.string.Quote.{Quote}
use Rattle.cbor_edn_parts.specs.declared.string.Quote.TheVariants.{Single, Double}
use Rattle.cbor_edn_parts.proofs.lemmas.string.ContentTexts.{content_read}
use Rattle.cbor_edn_parts.proofs.lemmas.string.LiteralPrefixes.{plain_content, lone_begins, lone_ends, lone_between}
use Rattle.cbor_edn_parts.proofs.string.Literal.plain_content.Goals as goal
use Rattle.cbor_edn_parts.proofs.string.Literal.plain_content.Goals.{After-as_str}

-- the quote that ends it is one byte
small : (q : Quote) → quote_byte q < 128
small Single = omega arith
small Double = omega arith

none : (c : After-as_str) → prefix_of (literal_bytes c.args.self.now) ≡ []
none c = c.in_ok-kind.ensures.prefix

ended : (c : After-as_str) → behind_quote (literal_bytes c.args.self.now) ≡ c.in_ok-plain.plain.now ++ (quote_byte c.quote.result ∷ [])
ended c = sym c.in_ok-kind.ensures.quoted ∙ c.in_ok-plain.ensures.whole

pub range-requires-clause-start_boundary : goal.range-requires-clause-start_boundary
range-requires-clause-start_boundary c = rw c.as_str.ensures (λ _. lone_begins (literal_bytes c.args.self.now) c.args.self.now.spelled (none c) _ _ (small c.quote.result) (ended c) (rw c.as_str.ensures at c.as_str.utf8))

pub range-requires-clause-end_boundary : goal.range-requires-clause-end_boundary
range-requires-clause-end_boundary c = rw c.as_str.ensures (lone_ends (literal_bytes c.args.self.now) c.args.self.now.spelled (none c) _ _ (small c.quote.result) (ended c))

pub returns-clause-content : goal.returns-clause-content
returns-clause-content c =
    let text = literal_bytes c.args.self.now in
    let spelled = c.args.self.now.spelled in
    let none : prefix_of text ≡ [] = c.in_ok-kind.ensures.prefix in
    let ended : behind_quote text ≡ c.in_ok-plain.plain.now ++ (quote_byte c.quote.result ∷ []) = sym c.in_ok-kind.ensures.quoted ∙ c.in_ok-plain.ensures.whole in
    let between : c.range.result.now ≡ c.in_ok-plain.plain.now = rw (c.range.ensures.value, c.as_str.ensures) (lone_between text spelled none _ _ (small c.quote.result) ended) in
    content_read text spelled _ _ (rw (between, ← c.in_ok-plain.ensures.some, c.quote.ensures, c.in_ok-kind.ensures.quoted, c.in_ok-kind.ensures.kind) (plain_content text spelled none))
