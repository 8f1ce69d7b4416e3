-- What was read is what the source lost, and the bytes fit in memory, so the turns end.
use Rattle.std.proofs.Common.{◌≡◌, ◌-◌, ◌^◌, vec_len}
use Rattle.std.specs.Io.KnownBytes.{Consumes}
use Rattle.cbor_edn_command.proofs.transfer.read_all.Given as goal

abbrev pub invariant-turns : goal.invariant-turns
invariant-turns g l = record {
  bytes : Consumes (g.R.Source.remaining l.fn.source) (g.R.Source.remaining l.source) l.all.items;
  counted : g.R.Source.failures l.source ≡ g.R.Source.failures l.fn.source;
}

abbrev pub decreases-turns : goal.decreases-turns
decreases-turns g l = 2 ^ 64 - vec_len l.all
