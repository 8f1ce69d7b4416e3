use Rattle.std.proofs.Common.{append_assoc}
use Rattle.cbor_edn_times_and_addresses.proofs.TimePairs.{two_pairs}
use Rattle.cbor_edn_times_and_addresses.proofs.time.print.push_year.Goals as goal

pub returns : goal.returns
returns c = rw (two_pairs c.args.year, ← append_assoc, ← c.in_ok-push_pair.ensures) c.push_pair-2.ensures
