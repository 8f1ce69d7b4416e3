use Rattle.cbor_edn_times_and_addresses.proofs.TimeUnique.{printed_as}
use Rattle.cbor_edn_times_and_addresses.proofs.laws.printed_as.Goals as goal

pub returns : goal.returns
returns c = printed_as
