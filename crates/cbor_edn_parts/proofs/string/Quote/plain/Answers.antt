use Rattle.std.proofs.Common.{◌≡◌, [], ◌∷◌}
use Rattle.std.proofs.lemmas.Bool.{both_ways}
use Rattle.cbor_edn_parts.specs.internal.LiteralTokens.{quote_byte}
use Rattle.cbor_edn_parts.proofs.lemmas.string.Quoted.{decoded_plain, plain_rest}
use Rattle.cbor_edn_parts.proofs.string.Quote.plain.Goals as goal

pub returns-then-is_end-clause-some : goal.returns-then-is_end-clause-some
returns-then-is_end-clause-some c = decoded_plain c.args.self _ _ (rw (c.is_end.ensures.end c.if-is_end.true) at c.split_plain.ensures.bytes)

pub returns-else-is_end-clause-none : goal.returns-else-is_end-clause-none
returns-else-is_end-clause-none c = λ _ plain is all.
    let rest : c.split_plain.result.1.now ≡ quote_byte c.args.self ∷ [] = rw (c.split_plain.ensures.rest, is) (plain_rest c.args.self plain all) in
    both_ways c.is_end.result c.if-is_end.false (c.is_end.ensures.other rest)
