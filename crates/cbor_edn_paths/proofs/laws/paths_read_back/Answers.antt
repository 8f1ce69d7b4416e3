use Rattle.cbor_edn_paths.proofs.Faults.{paths_read_back}
use Rattle.cbor_edn_paths.proofs.laws.paths_read_back.Goals as goal

pub returns : goal.returns
returns c = paths_read_back
