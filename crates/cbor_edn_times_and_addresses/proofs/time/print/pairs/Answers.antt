use Rattle.std.proofs.Common.{refl}
use Rattle.cbor_edn_times_and_addresses.specs.internal.TimeWriting.{pairs, padded}
use Rattle.cbor_edn_times_and_addresses.proofs.time.print.pairs.Goals as goal

pub returns : goal.returns
unfolding pairs padded
returns c = refl
