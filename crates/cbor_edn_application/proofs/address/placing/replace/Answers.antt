use Rattle.std.proofs.Common.{ap, ◌∙◌}
use Rattle.cbor_edn_core.specs.tree.View.{item_tree, standalone_tree}
use Rattle.cbor_edn_model.specs.tree.TreeLeaves.{texts}
use Rattle.cbor_edn_model.specs.access.Paths.{with_at_standalone}
use Rattle.cbor_edn_application.proofs.AfterLoans.{where_lent, nowhere}
use Rattle.cbor_edn_application.proofs.address.placing.replace.Goals as goal

pub returns-in-Some-clause-put : goal.returns-in-Some-clause-put
returns-in-Some-clause-put c = where_lent c.in-Some.is (c.at_mut.follows.holds c.replace.new.dest) texts ∙ ap (λ x. with_at_standalone c.args.path.now (item_tree x) (standalone_tree c.args.tree.now)) c.replace.ensures.after

pub returns-in-None-clause-put : goal.returns-in-None-clause-put
returns-in-None-clause-put c = c.at_mut.follows.holds-at-none texts ∙ nowhere _ _ _ (c.in-None.ensures.value texts)
