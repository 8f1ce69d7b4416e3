use Rattle.std.proofs.Common.{sym}
use Rattle.cbor_edn_application.proofs.EmbeddedCalls.{decoded_some, decoded_none}
use Rattle.cbor_edn_application.proofs.Magnitudes.{told_holds}
use Rattle.cbor_edn_application.proofs.embedded.decoded_item.Goals as goal

pub returns-in-Ok : goal.returns-in-Ok
returns-in-Ok c = sym (decoded_some c.args.limit c.args.bytes.now c.are_bytes.ensures _ c.in-Ok.ensures.accepted)

pub returns-in-Err-Told : goal.returns-in-Err-Told
returns-in-Err-Told c =
    let r = c.from_cbor_within.result in
    sym (decoded_none c.args.limit c.args.bytes.now c.are_bytes.ensures c.in-Err-Told.field-0-0
    (told_holds _ r c.in-Err-Told.field-0 c.in-Err-Told.field-0-0 c.in-Err-Told.is c.in-Err-Told.field-0-is c.from_cbor_within.ensures.refused)
    (told_holds _ r c.in-Err-Told.field-0 c.in-Err-Told.field-0-0 c.in-Err-Told.is c.in-Err-Told.field-0-is c.from_cbor_within.ensures.too_deep))
