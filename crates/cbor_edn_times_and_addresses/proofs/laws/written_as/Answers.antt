use Rattle.cbor_edn_times_and_addresses.proofs.TimeWritten.{written_as}
use Rattle.cbor_edn_times_and_addresses.proofs.laws.written_as.Goals as goal

pub returns : goal.returns
returns c = written_as
