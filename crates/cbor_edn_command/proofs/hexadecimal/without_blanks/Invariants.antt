-- What was kept is what there was so far, but for blanks.
use Rattle.std.proofs.Common.{◌≡◌, take}
use Rattle.std.specs.Prelude.{not, filter}
use Rattle.cbor_edn_command.specs.Hexadecimal.{is_blank}
use Rattle.cbor_edn_command.proofs.hexadecimal.without_blanks.Given as goal

abbrev pub invariant-loop-byte : goal.invariant-loop-byte
invariant-loop-byte l = l.digits.items ≡ filter (λ b. not (is_blank b)) (take l.byte-index l.input)
