use Rattle.std.proofs.Common.{◌<◌, length, get_or, arith}
use Rattle.std.proofs.lemmas.Str.{IsCharBoundary-after_ascii}
use Rattle.cbor_edn_parts.specs.space.Spacing.{line}
use Rattle.cbor_edn_parts.proofs.space.spaced.short_line.Goals as goal

pub range_from-requires : goal.range_from-requires
unfolding line
range_from-requires c =
    let t = c.comma_line.result.now in
    let ascii : get_or t 0 0 < 128 = rw c.comma_line.ensures (omega arith) in
    let some : 0 < length t = rw c.comma_line.ensures (omega arith) in
    λ _. IsCharBoundary-after_ascii t 0 c.comma_line.utf8 some ascii
