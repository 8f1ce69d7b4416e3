-- What was written is what the sink gained.
use Rattle.std.proofs.Common.{◌≡◌, ℕ, List, ◌++◌, length}
use Rattle.std.specs.Io.KnownBytes.{Appends}
use Rattle.cbor_edn_command.proofs.transfer.write_all.Given as goal

abbrev pub invariant-turns : goal.invariant-turns
invariant-turns g l = record {
  bytes : (front : List ℕ) × (l.bytes ≡ front ++ l.rest) × Appends (g.W.Sink.contents l.fn.sink) (g.W.Sink.contents l.sink) front;
  counted : g.W.Sink.failures l.sink ≡ g.W.Sink.failures l.fn.sink;
}

abbrev pub decreases-turns : goal.decreases-turns
decreases-turns g l = length l.rest
