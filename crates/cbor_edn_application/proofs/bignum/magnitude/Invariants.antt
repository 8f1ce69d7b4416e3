use Rattle.cbor_edn_application.proofs.Magnitudes.{HasRead}
use Rattle.cbor_edn_application.proofs.bignum.magnitude.Given as goal

abbrev pub invariant-loop-byte : goal.invariant-loop-byte
invariant-loop-byte l = HasRead l.bytes l.byte-index l.number
