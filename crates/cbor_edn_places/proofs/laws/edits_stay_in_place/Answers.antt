use Rattle.cbor_edn_places.proofs.Around.{between}
use Rattle.cbor_edn_places.proofs.laws.edits_stay_in_place.Goals as goal

pub returns : goal.returns
returns c = between
