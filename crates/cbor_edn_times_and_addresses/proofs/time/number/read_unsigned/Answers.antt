use Rattle.std.proofs.Common.{◌+◌, length, refl, ap, arith, inl, inr}
use Rattle.std.proofs.lemmas.List.{take_rest}
use Rattle.cbor_edn_times_and_addresses.proofs.TimeNumbers.{has_point, point_at}
use Rattle.cbor_edn_times_and_addresses.proofs.time.number.read_unsigned.Goals as goal

pub returns-in_err-point-clause-none : goal.returns-in_err-point-clause-none
returns-in_err-point-clause-none c = λ q w f h. let p = has_point c.args.text.now w f h in c.in_err-point.ensures.none refl (length h.whole) p.0 p.1

pub returns-then-text-eq1-clause-none : goal.returns-then-text-eq1-clause-none
returns-then-text-eq1-clause-none c = λ q w f h.
    let p = point_at c.args.text.now c.in_ok-point.point w f h c.in_ok-point.ensures.some in
    let rest = ap length (take_rest c.args.text.now (c.in_ok-point.point + 1)) in
    elim c.then-text-eq1.either [ inl one ↦ p.digit one | inr more ↦ absurd (omega (arith, p.places, more, rest)) ]

pub returns-in_err-seconds-clause-none : goal.returns-in_err-seconds-clause-none
returns-in_err-seconds-clause-none c = λ q w f h.
    let p = point_at c.args.text.now c.in_ok-point.point w f h c.in_ok-point.ensures.some in
    c.in_err-seconds.ensures.none refl p.whole

pub returns-in_err-nanoseconds-clause-none : goal.returns-in_err-nanoseconds-clause-none
returns-in_err-nanoseconds-clause-none c = λ q w f h.
    let p = point_at c.args.text.now c.in_ok-point.point w f h c.in_ok-point.ensures.some in
    rw take_rest at c.in_err-nanoseconds.ensures.none refl p.fraction
