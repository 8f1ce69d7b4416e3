use Rattle.std.proofs.Common.{refl, arith}
use Rattle.std.proofs.lemmas.List.{take_rest}
use Rattle.std.proofs.lemmas.Option.{IfSome_then}
use Rattle.cbor_edn_times_and_addresses.proofs.TimeParts.{date_at, date_of}
use Rattle.cbor_edn_times_and_addresses.proofs.time.read.read_date.Goals as goal

pub returns-in_err-year-clause-none : goal.returns-in_err-year-clause-none
returns-in_err-year-clause-none c = λ q z h. c.in_err-year.ensures.none refl (date_at c.args.text.now z h).year

pub returns-in_err-month-clause-none : goal.returns-in_err-month-clause-none
returns-in_err-month-clause-none c = λ q z h. c.in_err-month.ensures.none refl (date_at c.args.text.now z h).month

pub returns-in_err-day-clause-none : goal.returns-in_err-day-clause-none
returns-in_err-day-clause-none c = λ q z h. rw take_rest at c.in_err-day.ensures.none refl (date_at c.args.text.now z h).day

pub returns-clause-some : goal.returns-clause-some
returns-clause-some c =
    let t = c.args.text.now in
    let year = c.in_ok-year.ensures.some in
    let month = c.in_ok-month.ensures.some in
    let day = rw take_rest at c.in_ok-day.ensures.some in
    IfSome_then c.read_day.result c.read_day.ensures.some (λ z h. date_of t z (record {
      len = omega arith;
      first = omega arith;
      second = omega arith;
      year = year.0;
      month = month.0;
      day = day.0;
      number_is = rw (← year.1, ← month.1, ← day.1) h;
    }))

pub returns-clause-none : goal.returns-clause-none
returns-clause-none c = λ q z h.
    let p = date_at c.args.text.now z h in
    let year = c.in_ok-year.ensures.some in
    let month = c.in_ok-month.ensures.some in
    let day = rw take_rest at c.in_ok-day.ensures.some in
    c.read_day.ensures.none q z (rw (year.1, month.1, day.1) p.number_is)
