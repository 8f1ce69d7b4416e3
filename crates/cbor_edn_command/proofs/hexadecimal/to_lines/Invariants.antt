-- The lines so far, and those of the digits that are left, are those of all digits.
use Rattle.std.proofs.Common.{◌≡◌, ◌++◌, length}
use Rattle.cbor_edn_command.specs.Hexadecimal.{in_lines, hex_lines}
use Rattle.cbor_edn_command.proofs.hexadecimal.to_lines.Given as goal

abbrev pub invariant-lines : goal.invariant-lines
invariant-lines l = l.lines.items ++ in_lines l.rest ≡ hex_lines l.fn.bytes

abbrev pub decreases-lines : goal.decreases-lines
decreases-lines l = length l.rest
