use Rattle.std.proofs.Common.{min, refl, sym, subst, ◌∙◌, arith, rules, FitsSigned, w64}
use Rattle.std.proofs.lemmas.Bool.{both_ways}
use Rattle.std.proofs.lemmas.Int.{to_z-of_z}
use Rattle.cbor_edn_parts.specs.internal.NumberReading.{sign_of}
use Rattle.cbor_edn_times_and_addresses.specs.internal.DecimalReading.{IsUnsigned, most_seconds}
use Rattle.cbor_edn_times_and_addresses.specs.Time.{number, nanoseconds_of}
use Rattle.cbor_edn_times_and_addresses.proofs.TimeNumbers.{unsigned_at, decimal_of, beyond, signed_if}
use Rattle.cbor_edn_times_and_addresses.proofs.time.number.read_decimal.Goals as goal

pub returns-in_default-clause-unreadable : goal.returns-in_default-clause-unreadable
returns-in_default-clause-unreadable c = λ q s n h.
    c.in_default.ensures.none refl (min (number h.whole) most_seconds) (nanoseconds_of h.fraction) (subst (λ u. IsUnsigned u (min (number h.whole) most_seconds) (nanoseconds_of h.fraction)) (sym c.split_sign-is_negative.ensures.rest) (unsigned_at c.args.text.now s n h))

pub returns-then-not-is_time_stamp-clause-out_of_range : goal.returns-then-not-is_time_stamp-clause-out_of_range
returns-then-not-is_time_stamp-clause-out_of_range c = λ q.
    let t = c.args.text.now in
    let i = c.floored-instant.result in
    let fits : FitsSigned w64 c.floored-instant.result.seconds = search rules in
    let stamp = simp to_z-of_z at c.is_time_stamp.ensures in
    let u = subst (λ u. IsUnsigned u c.in-Some.seconds c.in-Some.nanoseconds) c.split_sign-is_negative.ensures.rest c.in-Some.ensures.some in
    beyond t i.seconds i.nanoseconds c.in-Some.seconds c.in-Some.nanoseconds u (omega arith)
    (c.floored-instant.ensures ∙ signed_if (sign_of c.args.text.now) _ _ c.split_sign-is_negative.ensures.sign)
    (λ range. both_ways c.is_time_stamp.result c.if-not-is_time_stamp.true (stamp.1 range))

pub returns-clause-ok : goal.returns-clause-ok
returns-clause-ok c =
    let t = c.args.text.now in
    let i = c.floored-instant.result in
    let fits : FitsSigned w64 c.floored-instant.result.seconds = search rules in
    let stamp = simp to_z-of_z at c.is_time_stamp.ensures in
    let u = subst (λ u. IsUnsigned u c.in-Some.seconds c.in-Some.nanoseconds) c.split_sign-is_negative.ensures.rest c.in-Some.ensures.some in
    let range = stamp.0 c.if-not-is_time_stamp.false in (
      decimal_of t i.seconds i.nanoseconds c.in-Some.seconds c.in-Some.nanoseconds u (omega arith)
          (c.floored-instant.ensures ∙ signed_if (sign_of c.args.text.now) _ _ c.split_sign-is_negative.ensures.sign) range,
      range,
    )
