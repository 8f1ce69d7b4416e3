use Rattle.std.proofs.Common.{arith}
use Rattle.std.proofs.lemmas.Grind.{common_steps}
use Rattle.cbor_edn_parts.proofs.lemmas.string.StringLiterals.{digits_utf8}
use Rattle.cbor_edn_parts.proofs.string.write.few_digits.Goals as goal

pub unwrap-requires : goal.unwrap-requires
unwrap-requires c = let utf8 = digits_utf8 c.args.bytes.now in grind (arith, common_steps)
