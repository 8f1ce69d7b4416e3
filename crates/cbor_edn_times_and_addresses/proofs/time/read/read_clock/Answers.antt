use Rattle.std.proofs.Common.{refl, arith}
use Rattle.std.proofs.lemmas.List.{take_rest}
use Rattle.cbor_edn_times_and_addresses.proofs.TimeParts.{clock_at, clock_of}
use Rattle.cbor_edn_times_and_addresses.proofs.time.read.read_clock.Goals as goal

pub returns-in_err-minutes-clause-none : goal.returns-in_err-minutes-clause-none
returns-in_err-minutes-clause-none c = λ q n h.
    let p = clock_at c.args.text.now n h in
    c.in_err-minutes.ensures.none refl p.minutes p.hour_minute

pub returns-in_err-second-clause-none : goal.returns-in_err-second-clause-none
returns-in_err-second-clause-none c = λ q n h. rw take_rest at c.in_err-second.ensures.none refl (clock_at c.args.text.now n h).second

pub returns-then-second-ge60-clause-none : goal.returns-then-second-ge60-clause-none
returns-then-second-ge60-clause-none c = λ q n h.
    let second = rw take_rest at c.in_ok-second.ensures.some in
    let p = clock_at c.args.text.now n h in
    omega arith

pub returns-clause-some : goal.returns-clause-some
returns-clause-some c =
    let second = rw take_rest at c.in_ok-second.ensures.some in
    clock_of c.args.text.now _ (record {
      minutes = c.in_ok-minutes.minutes;
      len = omega arith;
      colon = omega arith;
      hour_minute = c.in_ok-minutes.ensures.some;
      second = second.0;
      second_in = omega arith;
      seconds_are = omega arith;
    })
