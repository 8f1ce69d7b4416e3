use Rattle.std.proofs.Common.{◌+◌, ◌≤◌, ◌<◌, length}
use Rattle.cbor_edn_stream.proofs.lemmas.Walks.{Gone}
use Rattle.cbor_edn_stream.proofs.columns.is_wider.Given as goal

abbrev pub invariant-heads : goal.invariant-heads
invariant-heads l = record {
  gone : Gone l.bytes l.rest l.depth l.due l.columns l.left;
  within : l.depth + l.left ≤ l.columns;
  going : 0 < l.depth + l.due;
}

abbrev pub decreases-heads : goal.decreases-heads
decreases-heads l = length l.rest
