use Rattle.cbor_edn_times_and_addresses.proofs.TimeParts.{one_instant}
use Rattle.cbor_edn_times_and_addresses.proofs.laws.one_instant.Goals as goal

pub returns : goal.returns
returns c = one_instant
