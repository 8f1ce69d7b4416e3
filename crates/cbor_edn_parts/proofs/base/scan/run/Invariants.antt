use Rattle.std.proofs.Common.{◌+◌, ◌-◌, ◌≤◌, length}
use Rattle.cbor_edn_parts.specs.internal.Input.{text_bytes}
use Rattle.cbor_edn_parts.proofs.lemmas.base.ScanLoops.{Stands}
use Rattle.cbor_edn_parts.proofs.base.scan.run.Given as goal

abbrev pub invariant-bytes : goal.invariant-bytes
invariant-bytes g l = Stands g.T.State.automaton l.fn.start (text_bytes l.text) l.from l.fn.looks.count l.state l.at l.byte l.looks.count

abbrev pub decreases-bytes : goal.decreases-bytes
decreases-bytes g l = length (text_bytes l.text) + 1 - l.at

abbrev pub invariant-kept : goal.invariant-kept
invariant-kept g l = record {
  since : l.initial.at ≤ l.at;
  stands : Stands g.T.State.automaton l.fn.start (text_bytes l.text) l.from l.fn.looks.count l.state l.at l.byte l.looks.count;
}

abbrev pub decreases-kept : goal.decreases-kept
decreases-kept g l = length (text_bytes l.text) + 1 - l.at
