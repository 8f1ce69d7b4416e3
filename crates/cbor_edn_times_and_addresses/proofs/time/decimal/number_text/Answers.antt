use Rattle.std.proofs.Common.{◌<ℤ◌, ◌≤ℤ◌, ◌+ℤ◌, pos, negsuc, FitsSigned, w64, string_bytes, sym, ap, ◌∙◌, arith, rules}
use Rattle.std.proofs.lemmas.Int.{to_z-of_z}
use Rattle.std.proofs.lemmas.Result.{IfOk-weaker}
use Rattle.jiff_core.proofs.SignedLemmas.{signed_arith}
use Rattle.cbor_edn_times_and_addresses.proofs.TimePrinted.{nonnegative}
use Rattle.cbor_edn_times_and_addresses.proofs.TimeDecimals.{positive_by, negative_by, negative}
use Rattle.cbor_edn_times_and_addresses.proofs.time.decimal.number_text.Goals as goal

pub returns-then-seconds-lt0 : goal.returns-then-seconds-lt0
returns-then-seconds-lt0 c =
    let s = c.args.instant.seconds in
    let fits : FitsSigned w64 c.args.instant.seconds = search rules in
    let below : c.args.instant.seconds <ℤ pos 0 = omega (arith, signed_arith) in
    let next : FitsSigned w64 (c.args.instant.seconds +ℤ pos 1) = omega (arith, signed_arith) in
    let whole = simp to_z-of_z at c.unsigned_abs-whole.ensures.value in
    IfOk-weaker c.with_fraction.result _ _
    (λ t g. negative_by (string_bytes t) _ s c.args.instant.nanoseconds c.unsigned_abs-whole.result _ (negative s below ∙ ap negsuc (sym whole)) (omega arith) c.in_ok-text.ensures.ok g (omega arith) (omega arith) (omega arith))
    c.with_fraction.ensures

pub returns : goal.returns
returns c =
    let s = c.args.instant.seconds in
    let fits : FitsSigned w64 c.args.instant.seconds = search rules in
    let from : pos 0 ≤ℤ c.args.instant.seconds = omega (arith, signed_arith) in
    let whole = simp to_z-of_z at c.unsigned_abs-whole-2.ensures.value in
    IfOk-weaker c.with_fraction-2.result _ _
    (λ t g. positive_by (string_bytes t) _ s c.args.instant.nanoseconds c.unsigned_abs-whole-2.result (nonnegative s from ∙ ap pos (sym whole)) (omega arith) c.in_ok-text-2.ensures.ok g (omega arith) (omega arith))
    c.with_fraction-2.ensures
