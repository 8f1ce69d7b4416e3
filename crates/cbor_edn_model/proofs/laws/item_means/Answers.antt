use Rattle.cbor_edn_model.proofs.lemmas.cbor.Decoding.{item_means}
use Rattle.cbor_edn_model.proofs.laws.item_means.Goals as goal

pub returns : goal.returns
returns c = item_means
