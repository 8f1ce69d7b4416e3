use Rattle.std.proofs.Common.{◌∙◌, Some, None, false, true, arith, sym, ap, refl}
use Rattle.std.specs.Prelude.{option_map}
use Rattle.cbor_edn_core.specs.tree.View.{item_tree}
use Rattle.cbor_edn_model.specs.access.Accessed.{item_bytes}
use Rattle.cbor_edn_conversions.specs.Bignums.{magnitude}
use Rattle.cbor_edn_application.proofs.BignumBytes.{quoted_is, no_bytes_none, long_none}
use Rattle.cbor_edn_application.proofs.Magnitudes.{told_holds}
use Rattle.cbor_edn_application.proofs.bignum.content_number.Goals as goal

pub returns-then-not-is_plain_string-clause-none : goal.returns-then-not-is_plain_string-clause-none
returns-then-not-is_plain_string-clause-none c =
    let w = item_tree c.args.content.now in
    no_bytes_none w (quoted_is w false (item_bytes w) c.if-not-is_plain_string.ensures refl)

pub returns-in-Err-Told-clause-none : goal.returns-in-Err-Told-clause-none
returns-in-Err-Told-clause-none c =
    let w = item_tree c.args.content.now in
    no_bytes_none w (quoted_is w true None c.if-not-is_plain_string.ensures (told_holds _ c.get_bytes.result c.in-Err-Told.field-0 c.in-Err-Told.field-0-0 c.in-Err-Told.is c.in-Err-Told.field-0-is c.get_bytes.ensures.refused).1)

pub returns-then-len-gt16-clause-none : goal.returns-then-len-gt16-clause-none
returns-then-len-gt16-clause-none c =
    let w = item_tree c.args.content.now in
    long_none w c.in-Ok.bytes.items (quoted_is w true (Some c.in-Ok.bytes.items) c.if-not-is_plain_string.ensures c.in-Ok.ensures.found) (omega arith)

pub returns-clause-some : goal.returns-clause-some
returns-clause-some c =
    let w = item_tree c.args.content.now in
    ap (option_map magnitude) (quoted_is w true (Some c.in-Ok.bytes.items) c.if-not-is_plain_string.ensures c.in-Ok.ensures.found) ∙ ap (λ n. Some n) (sym (c.magnitude.ensures ∙ ap magnitude c.deref.ensures.value))
