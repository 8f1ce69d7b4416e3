use Rattle.std.proofs.Common.{arith}
use Rattle.jiff_core.proofs.SignedLemmas.{signed_arith}
use Rattle.cbor_edn_times_and_addresses.proofs.time.read.seconds_of.Goals as goal

pub returns : goal.returns
returns c = omega (arith, signed_arith)
