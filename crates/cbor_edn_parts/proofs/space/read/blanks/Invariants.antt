use Rattle.std.proofs.Common.{◌+◌, ◌-◌, length}
use Rattle.cbor_edn_parts.specs.internal.SpaceTokens as tokens
use Rattle.cbor_edn_parts.specs.internal.Input.{text_bytes}
use Rattle.cbor_edn_parts.specs.declared.space.SpaceState.TheVariants.{Between}
use Rattle.cbor_edn_parts.proofs.lemmas.base.ScanLoops.{Stands}
use Rattle.cbor_edn_parts.proofs.space.read.blanks.Given as goal

abbrev pub invariant-blanks : goal.invariant-blanks
invariant-blanks l = Stands tokens.space Between (text_bytes l.text) l.from (l.fn.looks.count + 1) Between l.at l.next l.looks.count

abbrev pub decreases-blanks : goal.decreases-blanks
decreases-blanks l = length (text_bytes l.text) + 1 - l.at
