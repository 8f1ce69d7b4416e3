use Rattle.cbor_edn_harmless.proofs.Kept.{literals_stay}
use Rattle.cbor_edn_harmless.proofs.literals_stay.Goals as goal

pub returns : goal.returns
returns c = literals_stay
