use Rattle.std.proofs.Common.{arith}
use Rattle.cbor_edn_parts.proofs.lemmas.string.WrittenLiterals.{character_same}
use Rattle.cbor_edn_parts.proofs.string.application.print_single_escaped.Goals as goal

pub returns-in_default : goal.returns-in_default
returns-in_default c = rw (character_same c.args.character (λ h. omega arith) (λ h. omega arith)) c.print_escaped.ensures
