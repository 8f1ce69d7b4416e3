use Rattle.std.proofs.Common.{[], Some, ap, ◌∙◌}
use Rattle.cbor_edn_core.specs.tree.View.{item_tree, standalone_tree}
use Rattle.cbor_edn_model.specs.tree.TreeLeaves.{texts}
use Rattle.cbor_edn_model.specs.access.Paths.{with_at_standalone}
use Rattle.cbor_edn_application.proofs.AfterLoans.{where_lent}
use Rattle.cbor_edn_application.proofs.TagContents.{nothing_inside}
use Rattle.cbor_edn_application.proofs.cose.parts.exchange.Goals as goal

pub returns-in-Some-clause-alone : goal.returns-in-Some-clause-alone
returns-in-Some-clause-alone c =
    where_lent c.in-Some.is (c.at_mut.follows.holds c.swap.new.x) texts ∙ ap (λ x. with_at_standalone [] (item_tree x) (standalone_tree c.args.alone.now)) c.swap.ensures.x_after

pub returns-in-Some-clause-item : goal.returns-in-Some-clause-item
returns-in-Some-clause-item c = ap (λ x. Some (item_tree x)) c.swap.ensures.y_after ∙ c.in-Some.ensures.value texts

pub returns-in-None-clause-alone : goal.returns-in-None-clause-alone
returns-in-None-clause-alone c = absurd (nothing_inside (standalone_tree c.args.alone.now) (c.in-None.ensures.value texts))

pub returns-in-None-clause-item : goal.returns-in-None-clause-item
returns-in-None-clause-item c = absurd (nothing_inside (standalone_tree c.args.alone.now) (c.in-None.ensures.value texts))
