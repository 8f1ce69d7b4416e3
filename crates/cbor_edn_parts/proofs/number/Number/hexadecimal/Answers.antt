use Rattle.std.proofs.Common.{ap, ◌∙◌}
use Rattle.cbor_edn_parts.specs.internal.NumberTokens.{is_number}
use Rattle.cbor_edn_parts.proofs.lemmas.number.WrittenNumbers.{hexadecimal_number}
use Rattle.cbor_edn_parts.proofs.number.Number.hexadecimal.Goals as goal

pub invariant_of-result : goal.invariant_of-result
invariant_of-result c = record { spelled = ap is_number (c.in_ok-text-2.ensures ∙ rw c.in_radix.ensures at c.in_ok-text.ensures.ok) ∙ hexadecimal_number c.args.integer c.ranges.integer.fits }
