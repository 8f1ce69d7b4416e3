use Rattle.std.proofs.Common.{◌≡◌, ◌-◌, FitsSigned, w32, refl, subst, arith, rules, length, take, drop}
use Rattle.std.proofs.lemmas.List.{take_rest}
use Rattle.std.proofs.lemmas.Int.{to_z-of_z}
use Rattle.cbor_edn_times_and_addresses.specs.Time.{IsFraction, IsOffset}
use Rattle.cbor_edn_times_and_addresses.specs.internal.TimeReading.{offset_length}
use Rattle.cbor_edn_times_and_addresses.proofs.TimeParts.{tail_at, tail_of}
use Rattle.cbor_edn_times_and_addresses.proofs.time.read.read_tail.Goals as goal

pub returns-in_err-cut-clause-none : goal.returns-in_err-cut-clause-none
returns-in_err-cut-clause-none c = λ q n z h.
    let p = tail_at c.args.text.now n z h in
    c.in_err-cut.ensures (omega (arith, p.room))

pub returns-in_err-nanoseconds-clause-none : goal.returns-in_err-nanoseconds-clause-none
returns-in_err-nanoseconds-clause-none c = λ q n z h.
    let p = tail_at c.args.text.now n z h in
    let place : length c.args.text.now - offset_length c.args.text.now ≡ c.in_ok-cut.cut = omega arith in
    c.in_err-nanoseconds.ensures.none refl n (subst (λ k. IsFraction (take k c.args.text.now) n) place p.fraction)

pub returns-in_err-ahead-clause-none : goal.returns-in_err-ahead-clause-none
returns-in_err-ahead-clause-none c = λ q n z h.
    let p = tail_at c.args.text.now n z h in
    let place : length c.args.text.now - offset_length c.args.text.now ≡ c.in_ok-cut.cut = omega arith in
    rw take_rest at c.in_err-ahead.ensures.none refl z (subst (λ k. IsOffset (drop k c.args.text.now) z) place p.offset)

pub returns-clause-some : goal.returns-clause-some
returns-clause-some c =
    let fits : FitsSigned w32 c.in_ok-ahead.ahead = search rules in
    let o = rw take_rest at c.in_ok-ahead.ensures.some in
    simp to_z-of_z (tail_of c.args.text.now _ _ c.in_ok-cut.cut c.in_ok-nanoseconds.ensures.some o)
