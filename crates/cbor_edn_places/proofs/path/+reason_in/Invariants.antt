use Rattle.std.proofs.Common.{length}
use Rattle.cbor_edn_places.proofs.path.+reason_in.Given as goal

abbrev pub decreases-reason_in : goal.decreases-reason_in
decreases-reason_in l = length l.path.now
