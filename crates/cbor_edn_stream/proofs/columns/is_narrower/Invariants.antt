use Rattle.std.proofs.Common.{◌<◌, length}
use Rattle.cbor_edn_stream.proofs.lemmas.Narrow.{Before}
use Rattle.cbor_edn_stream.proofs.columns.is_narrower.Given as goal

abbrev pub invariant-heads : goal.invariant-heads
invariant-heads l = record {
  before : Before l.bytes l.rest l.due l.columns l.left;
  going : 0 < l.due;
}

abbrev pub decreases-heads : goal.decreases-heads
decreases-heads l = length l.rest
