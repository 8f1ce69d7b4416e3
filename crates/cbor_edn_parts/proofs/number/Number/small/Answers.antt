use Rattle.std.proofs.Common.{ap, ◌∙◌}
use Rattle.cbor_edn_parts.specs.Leaves.{small_integer}
use Rattle.cbor_edn_parts.specs.internal.NumberTokens.{is_number}
use Rattle.cbor_edn_parts.proofs.lemmas.number.Decimals.{decimal_number, bounded_decimal}
use Rattle.cbor_edn_parts.proofs.number.Number.small.Goals as goal

pub invariant_of-result : goal.invariant_of-result
invariant_of-result c = record { spelled = ap is_number c.decimal-text.ensures.text ∙ decimal_number (small_integer c.args.integer) (bounded_decimal (small_integer c.args.integer) c.decimal-text.ensures.bound) }
