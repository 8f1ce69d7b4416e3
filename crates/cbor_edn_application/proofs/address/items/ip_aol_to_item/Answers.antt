use Rattle.std.proofs.Common.{refl}
use Rattle.std.specs.String.{string_bytes}
use Rattle.cbor_edn_core.specs.visit.Sought.{sought_answer}
use Rattle.cbor_edn_core.specs.tree.View.{item_tree}
use Rattle.cbor_edn_model.specs.visit.Visits.{fine}
use Rattle.cbor_edn_conversions.specs.Addresses.{resolve_address, address_item}
use Rattle.cbor_edn_application.proofs.AddressCalls.{acts_so, resolved, unresolved}
use Rattle.cbor_edn_application.proofs.address.items.ip_aol_to_item.Goals as goal

pub returns-in_default : goal.returns-in_default
unfolding resolve_address
returns-in_default c = let e = unresolved _ (string_bytes c.args.prefix) (string_bytes c.args.text) c.as_str.ensures.value c.in_default.ensures.other in acts_so _ _ (item_tree c.args.item.now) (item_tree c.args.item.now) fine e (refl, refl)

pub returns : goal.returns
unfolding resolve_address
returns c =
    let text = c.as_str-2.result.now in
    let e = resolved c.as_str.result.now (string_bytes c.args.prefix) text (string_bytes c.args.text) c.in-Some.wrap c.as_str.ensures.value c.as_str-2.ensures.value c.in-Some.ensures.address in
    acts_so _ _ (item_tree c.args.item.now) (item_tree c.reply.new.item) (sought_answer c.reply.result) e
    (c.reply.ensures (address_item c.in-Some.wrap text) c.address_item-conversion.ensures.converted c.address_item-conversion.ensures.refused)
