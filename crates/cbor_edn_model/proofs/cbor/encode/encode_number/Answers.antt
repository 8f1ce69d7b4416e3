use Rattle.cbor_edn_model.proofs.lemmas.cbor.CborEncodes.{number_means}
use Rattle.cbor_edn_model.proofs.cbor.encode.encode_number.Goals as goal

pub returns-in-Some : goal.returns-in-Some
returns-in-Some c = rw (number_means _ _ _ c.in-Some.ensures.some) c.encode_small_integer.ensures
