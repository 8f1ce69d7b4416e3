use Rattle.std.proofs.Common.{refl}
use Rattle.cbor_edn_application.proofs.TimeCalls.{time_is, no_time}
use Rattle.cbor_edn_application.proofs.time.number.time_item.Goals as goal

pub returns-in_ok-instant_item-in-Some-clause-converted : goal.returns-in_ok-instant_item-in-Some-clause-converted
returns-in_ok-instant_item-in-Some-clause-converted c =
    time_is c.args.wrap c.args.text.now c.as_bytes.result.now c.in-Some.instant.seconds c.in-Some.instant.nanoseconds _ c.in-Some.ensures.some c.as_bytes.ensures.value c.in_ok-instant_item-in-Some.ensures

pub returns-in-None-clause-refused : goal.returns-in-None-clause-refused
returns-in-None-clause-refused c = no_time c.args.wrap c.args.text.now c.as_bytes.result.now (c.in-None.ensures.none refl) c.as_bytes.ensures.value
