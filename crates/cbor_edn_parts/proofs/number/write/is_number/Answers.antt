use Rattle.std.proofs.Common.{sym, ◌∙◌, ap, arith}
use Rattle.std.proofs.lemmas.List.{at_drop_more, drop_all}
use Rattle.cbor_edn_parts.specs.internal.Lex.{munch, is_all}
use Rattle.cbor_edn_parts.specs.internal.NumberTokens as tokens
use Rattle.cbor_edn_parts.proofs.lemmas.base.TokenTests.{test_stops, test_steps, test_ends}
use Rattle.cbor_edn_parts.proofs.number.write.is_number.Goals as goal

pub returns-in-None : goal.returns-in-None
returns-in-None c =
    let items = c.as_bytes-byte-items.result.now in
    sym (c.loop-byte.invariant ∙ at_drop_more (λ xs. is_all (munch tokens.number c.loop-byte.state xs)) items c.loop-byte.byte-index 0 c.loop-byte-test.true
    ∙ test_stops tokens.number c.loop-byte.state _ _ (sym c.step.ensures ∙ c.in-None.is))

pub loop-byte-preserved : goal.loop-byte-preserved
loop-byte-preserved c =
    let items = c.as_bytes-byte-items.result.now in
    c.loop-byte.invariant ∙ at_drop_more (λ xs. is_all (munch tokens.number c.loop-byte.state xs)) items c.loop-byte.byte-index 0 c.loop-byte-test.true
    ∙ test_steps tokens.number c.loop-byte.state c.in-Some.next _ _ (sym c.step.ensures ∙ c.in-Some.is)

pub returns : goal.returns
returns c =
    let items = c.as_bytes-byte-items.result.now in
    c.is_final.ensures ∙ sym (c.loop-byte.invariant ∙ ap (λ xs. is_all (munch tokens.number c.loop-byte.state xs)) (drop_all c.loop-byte.byte-index items (omega arith)) ∙ test_ends tokens.number c.loop-byte.state)
