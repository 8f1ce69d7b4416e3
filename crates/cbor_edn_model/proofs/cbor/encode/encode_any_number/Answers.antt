use Rattle.std.proofs.Common.{refl}
use Rattle.cbor_edn_model.proofs.lemmas.cbor.CborEncodes.{number_means, no_number}
use Rattle.cbor_edn_model.proofs.cbor.encode.encode_any_number.Goals as goal

pub returns-in-Some : goal.returns-in-Some
returns-in-Some c = rw (number_means _ _ _ c.in-Some.ensures.some) c.encode_integer.ensures

pub returns-in-None : goal.returns-in-None
returns-in-None c = no_number _ _ (c.in-None.ensures.none refl)
