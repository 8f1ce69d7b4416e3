use Rattle.cbor_edn_model.proofs.lemmas.access.Pieces.{literal_is_answered}
use Rattle.cbor_edn_model.proofs.laws.literal_is_answered.Goals as goal

pub returns : goal.returns
returns c = literal_is_answered
