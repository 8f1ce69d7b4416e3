use Rattle.std.proofs.Common.{◌≡◌, take}
use Rattle.std.specs.Prelude.{min}
use Rattle.std.specs.List.{sum_by}
use Rattle.cbor_edn_stream.specs.Wide.{greatest}
use Rattle.cbor_edn_stream.proofs.lemmas.ChunkWidths.{escape_columns}
use Rattle.cbor_edn_stream.proofs.columns.escaped_len.Given as goal

abbrev pub invariant-loop-byte : goal.invariant-loop-byte
invariant-loop-byte l = l.len ≡ min (sum_by escape_columns (take l.byte-index l.text)) greatest
