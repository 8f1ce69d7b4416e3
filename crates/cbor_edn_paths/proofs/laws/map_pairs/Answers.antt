use Rattle.cbor_edn_paths.proofs.Lookups.{map_pairs}
use Rattle.cbor_edn_paths.proofs.laws.map_pairs.Goals as goal

pub returns : goal.returns
returns c = map_pairs
