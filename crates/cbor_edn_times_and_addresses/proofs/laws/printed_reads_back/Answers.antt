use Rattle.cbor_edn_times_and_addresses.proofs.TimeParts.{one_instant}
use Rattle.cbor_edn_times_and_addresses.proofs.laws.printed_reads_back.Goals as goal

pub returns : goal.returns
returns c = λ text r s m n p. (p.time, λ h. one_instant text s r n m h p.time)
