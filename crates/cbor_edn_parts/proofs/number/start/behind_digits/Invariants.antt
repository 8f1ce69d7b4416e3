use Rattle.std.proofs.Common.{◌+◌, ◌-◌, length}
use Rattle.cbor_edn_parts.specs.internal.NumberTokens as tokens
use Rattle.cbor_edn_parts.specs.internal.Input.{text_bytes}
use Rattle.cbor_edn_parts.specs.declared.number.NumberState.TheVariants.{DecimalDigits}
use Rattle.cbor_edn_parts.proofs.lemmas.base.ScanLoops.{Stands}
use Rattle.cbor_edn_parts.proofs.number.start.behind_digits.Given as goal

abbrev pub invariant-digits : goal.invariant-digits
invariant-digits l = Stands tokens.number DecimalDigits (text_bytes l.text) l.from (l.fn.looks.count + 1) DecimalDigits l.at l.next l.looks.count

abbrev pub decreases-digits : goal.decreases-digits
decreases-digits l = length (text_bytes l.text) + 1 - l.at
