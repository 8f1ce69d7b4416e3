use Rattle.std.proofs.Common.{drop, arith}
use Rattle.std.proofs.lemmas.List.{take_rest, length-drop}
use Rattle.std.proofs.lemmas.Option.{IfSome_then}
use Rattle.cbor_edn_times_and_addresses.specs.Time.{point}
use Rattle.cbor_edn_times_and_addresses.proofs.TimeParts.{joined}
use Rattle.cbor_edn_times_and_addresses.proofs.time.read.read_fraction.Goals as goal

pub returns-in-46-clause-some : goal.returns-in-46-clause-some
returns-in-46-clause-some c =
    let t = c.args.text.now in
    let k = length-drop 1 c.args.text.now in
    IfSome_then c.read_nanoseconds.result (rw take_rest at c.read_nanoseconds.ensures.some) (λ n h. point (drop 1 t) h.0 (omega arith, omega arith) (joined t 0 46 (omega arith) (omega arith)) h.1)
