use Rattle.cbor_edn_places.proofs.Refusals.{suffices}
use Rattle.cbor_edn_places.proofs.laws.fronts_suffice.Goals as goal

pub returns : goal.returns
returns c = suffices
