use Rattle.cbor_edn_core.specs.tree.View.{item_tree}
use Rattle.cbor_edn.proofs.ElementTexts.{items_pushed}
use Rattle.cbor_edn.proofs.elements.with_zero.Goals as goal

pub returns : goal.returns
returns c = items_pushed item_tree c.args.items.items c.push.new.self.items c.in_ok-new_integer_decimal.field-0 c.in_ok-push.ensures.items c.in_ok-new_integer_decimal.ensures
