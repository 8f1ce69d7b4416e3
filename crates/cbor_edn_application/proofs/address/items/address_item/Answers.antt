use Rattle.std.proofs.Common.{sym, ap, ◌∙◌}
use Rattle.cbor_edn_conversions.specs.Addresses.{read_item}
use Rattle.cbor_edn_application.proofs.AddressCalls.{address_read, refused}
use Rattle.cbor_edn_application.proofs.address.items.address_item.Goals as goal

pub returns-in_ok-item_of-in-Ok-clause-converted : goal.returns-in_ok-item_of-in-Ok-clause-converted
returns-in_ok-item_of-in-Ok-clause-converted c = address_read c.args.wrap c.args.text.now c.read_address.result c.read_address.ensures ∙ (ap (read_item c.args.wrap) c.in-Ok.is ∙ c.in_ok-item_of-in-Ok.ensures)

pub returns-in-Err-clause-refused : goal.returns-in-Err-clause-refused
returns-in-Err-clause-refused c = address_read c.args.wrap c.args.text.now c.read_address.result c.read_address.ensures ∙ (ap (read_item c.args.wrap) c.in-Err.is ∙ ap refused (sym c.as_str.ensures))
