use Rattle.std.proofs.Common.{arith}
use Rattle.cbor_edn_model.proofs.lemmas.cbor.CborIntegers.{positive_small, negative_small}
use Rattle.cbor_edn_model.proofs.cbor.heads.encode_integer.Goals as goal

pub returns-in-Ok : goal.returns-in-Ok
returns-in-Ok c =
    rw c.in-Positive.is
    (positive_small c.args.indicator c.in-Positive.n c.in-Ok.argument c.args.out.now.items c.encode_indicated_head.new.out.items c.encode_indicated_head.result c.in-Ok.ensures.1 (omega (arith, c.in-Ok.ensures)) c.encode_indicated_head.ensures)

pub returns-in-Ok-try_from : goal.returns-in-Ok-try_from
returns-in-Ok-try_from c =
    rw c.in-Negative.is
    (negative_small c.args.indicator c.in-Negative.n c.in-Ok-try_from.argument c.args.out.now.items c.encode_indicated_head-in-Ok-try_from.new.out.items c.encode_indicated_head-in-Ok-try_from.result c.in-Ok-try_from.ensures.1 (omega (arith, c.in-Ok-try_from.ensures)) c.encode_indicated_head-in-Ok-try_from.ensures)
