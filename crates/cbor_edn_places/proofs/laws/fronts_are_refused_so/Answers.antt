use Rattle.cbor_edn_places.proofs.Refusals.{refused_so}
use Rattle.cbor_edn_places.proofs.laws.fronts_are_refused_so.Goals as goal

pub returns : goal.returns
returns c = refused_so
