use Rattle.cbor_edn_model.proofs.lemmas.cbor.CborOneValue.{one_encoding_holds}
use Rattle.cbor_edn_model.proofs.laws.one_encoding.Goals as goal

pub returns : goal.returns
returns c = one_encoding_holds
