use Rattle.cbor_edn_core.specs.tree.View.{item_tree, standalone_tree}
use Rattle.cbor_edn_model.specs.tree.TreeLeaves.{texts}
use Rattle.cbor_edn_application.proofs.FirstItems.{inside_put, inside_before, has_content}
use Rattle.cbor_edn_application.proofs.KnownResults.{ok_is}
use Rattle.cbor_edn_application.proofs.address.placing.replace_inside.Goals as goal

pub returns-in-Ok-clause-put : goal.returns-in-Ok-clause-put
returns-in-Ok-clause-put c = λ n w is. inside_put n w (item_tree c.args.tag.now) is (standalone_tree c.in-Ok.content.now) (c.in-Ok.ensures.found texts) c.args.path.now (item_tree c.args.item) _ (standalone_tree c.replace.new.tree)
    (c.get_tagged_mut.follows.holds c.replace.new.tree (ok_is c.get_tagged_mut.result _ c.in-Ok.is) texts) c.replace.ensures.put

pub returns-in-Ok-clause-before : goal.returns-in-Ok-clause-before
returns-in-Ok-clause-before c = λ n w is. inside_before n w (item_tree c.args.tag.now) is (standalone_tree c.in-Ok.content.now) (c.in-Ok.ensures.found texts) c.args.path.now (item_tree c.args.item) _ c.replace.ensures.before

pub returns-in-Err-clause-put : goal.returns-in-Err-clause-put
returns-in-Err-clause-put c = λ n w is. absurd (has_content n w (item_tree c.args.tag.now) is (c.in-Err.ensures.refused.1 texts))

pub returns-in-Err-clause-before : goal.returns-in-Err-clause-before
returns-in-Err-clause-before c = λ n w is. absurd (has_content n w (item_tree c.args.tag.now) is (c.in-Err.ensures.refused.1 texts))
