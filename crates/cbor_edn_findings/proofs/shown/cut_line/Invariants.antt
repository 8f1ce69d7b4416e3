use Rattle.std.specs.Prelude.{string_bytes}
use Rattle.cbor_edn_findings.specs.Shown.{AreShown}
use Rattle.cbor_edn_findings.proofs.shown.cut_line.Given as goal

abbrev pub invariant-loop-character : goal.invariant-loop-character
invariant-loop-character l = AreShown (string_bytes l.out)
