use Rattle.std.proofs.Common.{ap, arith}
use Rattle.std.specs.List.{sum_by}
use Rattle.std.proofs.lemmas.List.{take_all}
use Rattle.cbor_edn_stream.proofs.lemmas.ChunkWidths.{escape_columns, escapes_sum}
use Rattle.cbor_edn_stream.proofs.columns.escaped_len.Goals as goal

pub returns : goal.returns
returns c =
    let all = ap (sum_by escape_columns) (take_all c.loop-byte.byte-index c.args.text.now (omega (arith, c.loop-byte-test.false))) in
    omega (arith, c.loop-byte.invariant, all, escapes_sum c.args.text.now)
