use Rattle.std.proofs.Math.Nat.{sub-zero}
use Rattle.cbor_edn_parts.proofs.lemmas.string.LiteralPrefixes.{prefix_found, prefix_whole, quote_boundary}
use Rattle.cbor_edn_parts.proofs.string.Literal.prefix.Goals as goal

pub range-requires-clause-end_boundary : goal.range-requires-clause-end_boundary
range-requires-clause-end_boundary c = quote_boundary c.as_str-text.result.now _ (rw c.as_bytes.ensures.value at c.in-Some.ensures)

pub returns-in-Some : goal.returns-in-Some
returns-in-Some c = rw (c.range.ensures.value, sub-zero, ← c.as_str-text.ensures) (prefix_found c.as_str-text.result.now _ (rw c.as_bytes.ensures.value at c.in-Some.ensures))

pub returns-in-None : goal.returns-in-None
returns-in-None c = rw (← c.as_str-text.ensures) (prefix_whole c.as_str-text.result.now (rw c.as_bytes.ensures.value at c.in-None.ensures))
