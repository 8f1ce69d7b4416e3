use Rattle.std.proofs.Common.{inl, inr, refl, arith}
use Rattle.std.proofs.lemmas.List.{take_rest}
use Rattle.cbor_edn_times_and_addresses.proofs.TimeParts.{hour_minute_at, hour_minute_of}
use Rattle.cbor_edn_times_and_addresses.proofs.time.read.read_hour_minute.Goals as goal

pub returns-in_err-hour-clause-none : goal.returns-in_err-hour-clause-none
returns-in_err-hour-clause-none c = λ q n h. c.in_err-hour.ensures.none refl (hour_minute_at c.args.text.now n h).hour

pub returns-in_err-minute-clause-none : goal.returns-in_err-minute-clause-none
returns-in_err-minute-clause-none c = λ q n h. rw take_rest at c.in_err-minute.ensures.none refl (hour_minute_at c.args.text.now n h).minute

pub returns-clause-some : goal.returns-clause-some
returns-clause-some c =
    let hour = c.in_ok-hour.ensures.some in
    let minute = rw take_rest at c.in_ok-minute.ensures.some in
    hour_minute_of c.args.text.now _ (record {
      len = omega arith;
      colon = omega arith;
      hour = hour.0;
      minute = minute.0;
      hour_in = omega arith;
      minute_in = omega arith;
      minutes_are = omega arith;
    })

pub returns-then-hour-ge24-clause-none : goal.returns-then-hour-ge24-clause-none
returns-then-hour-ge24-clause-none c = λ q n h.
    let hour = c.in_ok-hour.ensures.some in
    let minute = rw take_rest at c.in_ok-minute.ensures.some in
    let p = hour_minute_at c.args.text.now n h in
    elim c.then-hour-ge24.either [ inl large ↦ omega arith | inr large ↦ omega arith ]
