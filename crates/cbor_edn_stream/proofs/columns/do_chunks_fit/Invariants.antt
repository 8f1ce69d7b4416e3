use Rattle.std.proofs.Common.{◌-◌, ◌≤◌, length}
use Rattle.cbor_edn_stream.proofs.lemmas.ChunkWidths.{Left}
use Rattle.cbor_edn_stream.proofs.columns.do_chunks_fit.Given as goal

abbrev pub invariant-chunks : goal.invariant-chunks
invariant-chunks l = record {
  so_far : Left l.kind l.bytes l.rest (l.columns - 2) l.left;
  within : l.left ≤ l.columns - 2;
}

abbrev pub decreases-chunks : goal.decreases-chunks
decreases-chunks l = length l.rest
