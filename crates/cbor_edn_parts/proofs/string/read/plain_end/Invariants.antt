use Rattle.std.proofs.Common.{◌+◌, ◌-◌, length}
use Rattle.cbor_edn_parts.specs.internal.LiteralTokens as tokens
use Rattle.cbor_edn_parts.specs.internal.PlainTexts.{in_text}
use Rattle.cbor_edn_parts.specs.internal.Input.{text_bytes}
use Rattle.cbor_edn_parts.proofs.lemmas.base.ScanLoops.{Stands}
use Rattle.cbor_edn_parts.proofs.string.read.plain_end.Given as goal

abbrev pub invariant-plain : goal.invariant-plain
invariant-plain l = Stands tokens.literal in_text (text_bytes l.text) l.from (l.fn.looks.count + 1) in_text l.at l.next l.looks.count

abbrev pub decreases-plain : goal.decreases-plain
decreases-plain l = length (text_bytes l.text) + 1 - l.at
