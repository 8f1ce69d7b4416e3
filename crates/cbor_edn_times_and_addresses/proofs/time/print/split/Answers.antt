use Rattle.std.proofs.Common.{arith}
use Rattle.jiff_core.proofs.SignedLemmas.{signed_arith}
use Rattle.cbor_edn_times_and_addresses.proofs.TimePrinted.{year_from}
use Rattle.cbor_edn_times_and_addresses.proofs.time.print.split.Goals as goal

pub returns-clause-year : goal.returns-clause-year
returns-clause-year c = let d = c.from_days_since_min-date.ensures in let r = c.requires in year_from c.from_days_since_min-date.result (omega (arith, signed_arith))
