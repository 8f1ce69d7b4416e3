use Rattle.std.proofs.Common.{◌≡◌, drop}
use Rattle.cbor_edn_parts.specs.internal.Lex.{munch, is_all}
use Rattle.cbor_edn_parts.specs.internal.NumberTokens as tokens
use Rattle.cbor_edn_parts.proofs.number.write.is_number.Given as goal

abbrev pub invariant-loop-byte : goal.invariant-loop-byte
invariant-loop-byte l = tokens.is_number l.text ≡ is_all (munch tokens.number l.state (drop l.byte-index l.byte-items))
