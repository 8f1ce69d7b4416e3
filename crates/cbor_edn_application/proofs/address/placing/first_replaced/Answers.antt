use Rattle.cbor_edn_core.specs.tree.View.{item_tree, standalone_tree}
use Rattle.cbor_edn_application.proofs.FirstItems.{first_by}
use Rattle.cbor_edn_application.proofs.address.placing.first_replaced.Goals as goal

pub returns : goal.returns
returns c =
    first_by (item_tree c.in_ok-clone.field-0) (item_tree c.args.item.now) (item_tree c.args.first) (item_tree c.replace.result) (item_tree c.replace-replaced.result)
    (standalone_tree c.from-copy.result) (standalone_tree c.replace-replaced.new.tree) c.in_ok-clone.ensures c.from-copy.ensures c.replace-replaced.ensures.put c.replace.ensures.before
