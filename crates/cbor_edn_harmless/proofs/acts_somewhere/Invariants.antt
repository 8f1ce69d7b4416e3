use Rattle.std.specs.Str.{NonePass}
use Rattle.cbor_edn_terminal.specs.Terminal.{acts_in_lines}
use Rattle.cbor_edn_harmless.proofs.acts_somewhere.Given as goal

abbrev pub invariant-loop-character : goal.invariant-loop-character
invariant-loop-character l = NonePass acts_in_lines l.yielded
