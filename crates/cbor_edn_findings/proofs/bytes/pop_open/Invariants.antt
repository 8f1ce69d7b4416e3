use Rattle.std.proofs.Common.{◌≡◌, vec_len}
use Rattle.std.specs.Prelude.{reverse}
use Rattle.cbor_edn_findings.specs.internal.Steps.{closed}
use Rattle.cbor_edn_findings.proofs.bytes.pop_open.Given as goal

-- only what has ended is gone
abbrev pub invariant-ended : goal.invariant-ended
invariant-ended l = record {
  same : closed (reverse l.fn.opened.items) ≡ closed (reverse l.opened.items);
}

abbrev pub decreases-ended : goal.decreases-ended
decreases-ended l = vec_len l.opened
