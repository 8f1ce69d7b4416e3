use Rattle.std.proofs.Common.{rules, arith}
use Rattle.std.proofs.lemmas.Grind.{common_steps}
use Rattle.cbor_edn_core.specs.tree.View.{item_tree}
use Rattle.cbor_edn_model.specs.cbor.Value.{AreBytes}
use Rattle.cbor_edn_application.proofs.Encodings.{encoding_is, no_encoding}
use Rattle.cbor_edn_application.proofs.Told.{told_holds}
use Rattle.cbor_edn_application.proofs.same.encoding.Goals as goal

pub returns-in-Ok : goal.returns-in-Ok
returns-in-Ok c =
    let are_bytes : AreBytes c.in-Ok.bytes.items = first_of (search rules, grind (arith, common_steps)) in
    encoding_is (item_tree c.args.item.now) c.in-Ok.bytes.items c.in-Ok.ensures.bytes are_bytes

pub returns-in-Err-Told : goal.returns-in-Err-Told
returns-in-Err-Told c = no_encoding (item_tree c.args.item.now) (told_holds _ _ _ c.in-Err-Told.field-0-is c.in-Err-Told.ensures.refused)
