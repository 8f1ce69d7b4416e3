use Rattle.std.proofs.Common.{◌≡◌, drop}
use Rattle.cbor_edn_conversions.specs.Tables.{found, rows}
use Rattle.cbor_edn_conversions.proofs.tables.find.Given as goal

abbrev pub invariant-loop-row : goal.invariant-loop-row
invariant-loop-row g l = found (rows l.fn.table) l.fn.number ≡ found (rows (drop l.row-index l.table)) l.number
