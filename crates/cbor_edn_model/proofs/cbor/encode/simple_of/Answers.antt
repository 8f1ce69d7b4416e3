use Rattle.std.proofs.Common.{refl, sym}
use Rattle.cbor_edn_model.proofs.lemmas.cbor.CborEncodes.{no_simple}
use Rattle.cbor_edn_model.proofs.cbor.encode.simple_of.Goals as goal

pub returns-in_err-integer : goal.returns-in_err-integer
returns-in_err-integer c = rw c.from_residual.ensures (sym (no_simple _ _ (c.in_err-integer.ensures.none refl)))
