use Rattle.cbor_edn_parts.specs.internal.LiteralTokens as tokens
use Rattle.cbor_edn_parts.specs.internal.Input.{text_bytes}
use Rattle.cbor_edn_parts.proofs.lemmas.string.PlainTexts.{quote_there, opened, whole_text}
use Rattle.cbor_edn_parts.proofs.lemmas.base.ScanEnds.{comes_on, comes_nowhere}
use Rattle.cbor_edn_parts.proofs.lemmas.base.Tokens.{taken}
use Rattle.cbor_edn_parts.proofs.string.read.literal_at.Goals as goal

pub invariant_of-result : goal.invariant_of-result
invariant_of-result c =
    let first = quote_there (text_bytes c.args.text.now) c.args.from _ c.byte-first.ensures.value (c.is_double_quote.ensures.quote c.if-not-is_double_quote.false) in
    let last = quote_there (text_bytes c.args.text.now) c.plain_end-next.result.1 _ c.plain_end-next.ensures.read.here (c.is_double_quote-2.ensures.quote c.if-not-is_double_quote-2.false) in
    record { spelled = rw c.slice.ensures (taken tokens.literal _ _ _ (whole_text _ _ _ first c.plain_end-next.ensures.comes last)) }

pub literal_behind-requires-clause-comes : goal.literal_behind-requires-clause-comes
literal_behind-requires-clause-comes c = comes_nowhere tokens.literal _ _ _

pub literal_behind-requires-then-not-is_double_quote-2-clause-comes : goal.literal_behind-requires-then-not-is_double_quote-2-clause-comes
literal_behind-requires-then-not-is_double_quote-2-clause-comes c =
    let first = quote_there (text_bytes c.args.text.now) c.args.from _ c.byte-first.ensures.value (c.is_double_quote.ensures.quote c.if-not-is_double_quote.false) in
    comes_on tokens.literal _ _ _ _ _ _ _ (opened _ _ first) c.plain_end-next.ensures.comes

pub returns-clause-value : goal.returns-clause-value
returns-clause-value c =
    let first = quote_there (text_bytes c.args.text.now) c.args.from _ c.byte-first.ensures.value (c.is_double_quote.ensures.quote c.if-not-is_double_quote.false) in
    let last = quote_there (text_bytes c.args.text.now) c.plain_end-next.result.1 _ c.plain_end-next.ensures.read.here (c.is_double_quote-2.ensures.quote c.if-not-is_double_quote-2.false) in
    rw c.slice.ensures (whole_text _ _ _ first c.plain_end-next.ensures.comes last)
