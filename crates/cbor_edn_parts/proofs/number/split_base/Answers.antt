use Rattle.std.proofs.Common.{◌<◌, get_or, arith}
use Rattle.std.proofs.lemmas.Str.{IsCharBoundary-after_ascii}
use Rattle.cbor_edn_parts.proofs.number.split_base.Goals as goal

pub range_from-requires : goal.range_from-requires
range_from-requires c =
    let ascii : get_or c.args.text.now 1 0 < 128 = rw (← c.as_bytes.ensures.value) (omega arith) in
    λ _. IsCharBoundary-after_ascii c.args.text.now 1 c.utf8.text (omega arith) ascii

pub range_from-requires-in-48-2 : goal.range_from-requires-in-48-2
range_from-requires-in-48-2 c =
    let ascii : get_or c.args.text.now 1 0 < 128 = rw (← c.as_bytes.ensures.value) (omega arith) in
    λ _. IsCharBoundary-after_ascii c.args.text.now 1 c.utf8.text (omega arith) ascii

pub range_from-requires-in-48-3 : goal.range_from-requires-in-48-3
range_from-requires-in-48-3 c =
    let ascii : get_or c.args.text.now 1 0 < 128 = rw (← c.as_bytes.ensures.value) (omega arith) in
    λ _. IsCharBoundary-after_ascii c.args.text.now 1 c.utf8.text (omega arith) ascii
