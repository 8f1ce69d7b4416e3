use Rattle.std.proofs.Common.{refl, arith}
use Rattle.cbor_edn_model.proofs.lemmas.cbor.CborIntegers.{positive_small, negative_small}
use Rattle.cbor_edn_model.proofs.cbor.heads.encode_small_integer.Goals as goal

pub returns-in-Positive : goal.returns-in-Positive
returns-in-Positive c =
    rw c.in-Positive.is
    (positive_small c.args.indicator c.in-Positive.n c.in-Positive.n c.args.out.now.items c.encode_indicated_head.new.out.items c.encode_indicated_head.result refl (omega arith) c.encode_indicated_head.ensures)

pub returns-in-Negative : goal.returns-in-Negative
returns-in-Negative c =
    rw c.in-Negative.is
    (negative_small c.args.indicator c.in-Negative.n c.in-Negative.n c.args.out.now.items c.encode_indicated_head-in-Negative.new.out.items c.encode_indicated_head-in-Negative.result refl (omega arith) c.encode_indicated_head-in-Negative.ensures)
