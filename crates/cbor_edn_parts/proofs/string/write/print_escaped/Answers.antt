use Rattle.std.proofs.Common.{rules, arith}
use Rattle.cbor_edn_parts.proofs.lemmas.string.Escapes.{character_low, character_plain}
use Rattle.cbor_edn_parts.proofs.string.write.print_escaped.Goals as goal

pub returns-in_default : goal.returns-in_default
returns-in_default c =
    let escape = character_low c.args.character c.if-character-lt32.true (λ h. omega arith) (λ h. omega arith) (λ h. omega arith) (λ h. omega arith) (λ h. omega arith) in
    rw escape (rw (c.in_radix.ensures, c.from.ensures) at c.write.ensures.bytes)

pub returns-in_default-2 : goal.returns-in_default-2
returns-in_default-2 c =
    rw (character_plain c.args.character (omega arith) (λ h. omega arith) (λ h. omega arith) (λ h. omega arith)) (search rules)
