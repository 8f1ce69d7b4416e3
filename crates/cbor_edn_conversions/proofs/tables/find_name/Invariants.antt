use Rattle.std.proofs.Common.{◌≡◌, drop}
use Rattle.cbor_edn_conversions.specs.Tables.{found, names}
use Rattle.cbor_edn_conversions.proofs.tables.find_name.Given as goal

abbrev pub invariant-loop-row : goal.invariant-loop-row
invariant-loop-row l = found (names l.fn.table) l.fn.number ≡ found (names (drop l.row-index l.table)) l.number
