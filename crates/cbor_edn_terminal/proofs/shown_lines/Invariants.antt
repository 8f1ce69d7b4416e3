use Rattle.std.proofs.Common.{◌≡◌}
use Rattle.std.specs.Prelude.{string_bytes}
use Rattle.cbor_edn_terminal.specs.Terminal.{lines_text}
use Rattle.cbor_edn_terminal.proofs.shown_lines.Given as goal

abbrev pub invariant-loop-character : goal.invariant-loop-character
invariant-loop-character l = string_bytes l.out ≡ lines_text l.yielded
