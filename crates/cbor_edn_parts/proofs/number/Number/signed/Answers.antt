use Rattle.std.proofs.Common.{ap, ◌∙◌}
use Rattle.cbor_edn_parts.specs.internal.NumberTokens.{is_number}
use Rattle.std.specs.Fmt.{signed_decimal}
use Rattle.std.proofs.Math.Facts.{to_z-of_z}
use Rattle.cbor_edn_parts.proofs.lemmas.number.Decimals.{decimal_number}
use Rattle.cbor_edn_parts.proofs.lemmas.number.WrittenNumbers.{signed_fits}
use Rattle.cbor_edn_parts.proofs.number.Number.signed.Goals as goal

pub invariant_of-result : goal.invariant_of-result
invariant_of-result c = record { spelled = ap is_number (c.in_ok-text.ensures.bytes ∙ c.format.ensures.text) ∙ (ap (λ z. is_number (signed_decimal z)) (to_z-of_z c.ranges.integer) ∙ decimal_number c.args.integer (signed_fits c.args.integer c.ranges.integer.sfits)) }
