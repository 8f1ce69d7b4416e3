-- A turn moves one line from the digits that are left to the lines.
use Rattle.std.proofs.Common.{rules}
use Rattle.cbor_edn_command.proofs.Lines.{line_moved}
use Rattle.cbor_edn_command.proofs.hexadecimal.to_lines.Goals as goal

pub lines-preserved : goal.lines-preserved
lines-preserved c = line_moved c.min.result c.lines.lines.items c.lines.rest.now _ _ _ (search rules) (search rules) (search rules) c.split_at.ensures.back c.lines.invariant
