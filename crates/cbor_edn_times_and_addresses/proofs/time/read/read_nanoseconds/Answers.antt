use Rattle.std.proofs.Common.{length, arith}
use Rattle.cbor_edn_times_and_addresses.proofs.TimeParts.{nanoseconds_bound}
use Rattle.cbor_edn_times_and_addresses.proofs.time.read.read_nanoseconds.Goals as goal

pub overflow_mul-result : goal.overflow_mul-result
overflow_mul-result c =
    let most = nanoseconds_bound c.in_ok-number.number (length c.args.digits.now) c.in_ok-number.ensures.bound c.requires in
    rw c.pow.ensures (omega (arith, most))

pub returns-clause-bound : goal.returns-clause-bound
returns-clause-bound c = rw c.pow.ensures (nanoseconds_bound c.in_ok-number.number (length c.args.digits.now) c.in_ok-number.ensures.bound c.requires)
