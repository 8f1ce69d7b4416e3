use Rattle.std.proofs.Common.{◌≡◌, ◌++◌, length}
use Rattle.cbor_edn_parts.specs.internal.LiteralTokens.{decoded}
use Rattle.cbor_edn_parts.specs.declared.string.QuotedState.TheVariants.{Between}
use Rattle.cbor_edn_parts.proofs.string.Quote.decode.Given as goal

abbrev pub invariant-parts : goal.invariant-parts
invariant-parts l = decoded l.self Between l.text ≡ l.bytes.items ++ decoded l.self l.part l.rest

abbrev pub decreases-parts : goal.decreases-parts
decreases-parts l = length l.rest
