use Rattle.std.proofs.Common.{length}
use Rattle.std.specs.Prelude.{reverse}
use Rattle.cbor_edn_findings.proofs.FoundOffsets.{Reached}
use Rattle.cbor_edn_findings.proofs.bytes.offset_of_fault.Given as goal

-- the walk has come to what is left
abbrev pub invariant-heads : goal.invariant-heads
invariant-heads l = record {
  reached : Reached l.limit l.bytes l.rest (reverse l.opened.items);
}

abbrev pub decreases-heads : goal.decreases-heads
decreases-heads l = length l.rest
