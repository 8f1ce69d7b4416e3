use Rattle.std.proofs.Common.{w32, w64, FitsSigned, refl, arith, rules}
use Rattle.std.proofs.lemmas.List.{take_rest}
use Rattle.std.proofs.lemmas.Bool.{both_ways}
use Rattle.std.proofs.lemmas.Int.{to_z-of_z}
use Rattle.cbor_edn_times_and_addresses.proofs.TimeParts.{time_at, time_of}
use Rattle.cbor_edn_times_and_addresses.proofs.time.read.read_time.Goals as goal
use Rattle.cbor_edn_times_and_addresses.proofs.time.read.read_time.Goals.{in-84, in_default}

pub returns-in_err-day_number-clause-none : goal.returns-in_err-day_number-clause-none
returns-in_err-day_number-clause-none c = λ q s n h.
    let p = time_at c.args.text.now s n h in
    c.in_err-day_number.ensures.none refl p.day_number p.date

pub returns-in_err-clock-clause-none : goal.returns-in_err-clock-clause-none
returns-in_err-clock-clause-none c = λ q s n h.
    let p = time_at c.args.text.now s n h in
    c.in_err-clock.ensures.none refl p.clock_seconds p.clock

pub returns-in_err-nanoseconds-clause-none : goal.returns-in_err-nanoseconds-clause-none
returns-in_err-nanoseconds-clause-none c = λ q s n h.
    let p = time_at c.args.text.now s n h in
    rw take_rest at c.in_err-nanoseconds.ensures.none refl n p.ahead p.tail

pub returns-clause-some : goal.returns-clause-some
returns-clause-some c =
    let tail = rw take_rest at c.in_ok-nanoseconds.ensures.some in
    let day : FitsSigned w32 c.in_ok-day_number.day_number = search rules in
    let ahead : FitsSigned w32 c.in_ok-nanoseconds.ahead = search rules in
    let seconds : FitsSigned w64 c.seconds_of.result = search rules in
    simp to_z-of_z
    (time_of c.args.text.now _ _ (record {
      day_number = c.in_ok-day_number.day_number;
      clock_seconds = c.in_ok-clock.clock;
      ahead = c.in_ok-nanoseconds.ahead;
      len = omega arith;
      letter = elim c.match-matches.branch [ in-84 w ↦ w.in-84.is | in_default w ↦ absurd (both_ways _ w.matches-is c.if-not-matches.false) ];
      date = c.in_ok-day_number.ensures.some;
      clock = c.in_ok-clock.ensures.some;
      tail = tail;
      seconds_are = simp to_z-of_z at c.seconds_of.ensures;
    }))
