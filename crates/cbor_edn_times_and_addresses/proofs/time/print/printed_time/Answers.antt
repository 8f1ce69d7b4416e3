use Rattle.std.proofs.Common.{FitsSigned, w64, string_bytes, rules, arith}
use Rattle.std.proofs.lemmas.Int.{to_z-of_z}
use lib.Utf8.{encode}
use Rattle.cbor_edn_times_and_addresses.proofs.TimePrinted.{printed, pushes}
use Rattle.cbor_edn_times_and_addresses.proofs.time.print.printed_time.Goals as goal

pub returns : goal.returns
unfolding encode
returns c =
    let s = c.split-clock in
    let fits : FitsSigned w64 c.args.instant.seconds = search rules in
    printed (string_bytes c.push_str.new.self) _ _ s.result.0 s.result.1 s.ensures.year s.ensures.clock (omega arith) (simp to_z-of_z at s.ensures.seconds)
    (pushes _ _ _ _ _ _ _ _ _ _ _ c.in_ok-text.ensures.bytes c.in_ok-push_date.ensures c.in_ok-push.ensures.bytes c.in_ok-push_clock.ensures c.in_ok-push_fraction.ensures c.in_ok-push_str.ensures.bytes)
