-- The item stands in its tag where the loan was.
use Rattle.std.proofs.Common.{◌∙◌, ap}
use Rattle.std.proofs.lemmas.Result.{on_ok_weaker}
use Rattle.cbor_edn_core.specs.tree.View.{item_tree, sequence_tree}
use Rattle.cbor_edn_model.specs.tree.TreeLeaves.{texts}
use Rattle.cbor_edn_model.specs.access.Paths.{with_at_sequence}
use Rattle.cbor_edn_script.proofs.PathsKept.{tagged_there, put_again, where_lent, where_refused}
use Rattle.cbor_edn_script.proofs.script.tag_at.Goals as goal

pub returns-in-Some-clause-tagged : goal.returns-in-Some-clause-tagged
returns-in-Some-clause-tagged c =
    on_ok_weaker c.put_into_tag.result (λ e. where_lent c.in-Some.is (c.at_mut.follows.holds c.put_into_tag.new.self) texts
    ∙ ap (λ x. with_at_sequence c.args.path.now x (sequence_tree c.args.sequence.now)) e
    ∙ tagged_there c.args.path.now c.args.number (item_tree c.in-Some.item.now) (sequence_tree c.args.sequence.now) (c.in-Some.ensures.value texts)) c.put_into_tag.ensures.tagged

pub returns-in-Some-clause-out_of_memory : goal.returns-in-Some-clause-out_of_memory
returns-in-Some-clause-out_of_memory c =
    where_refused c.put_into_tag.result (λ e. where_lent c.in-Some.is (c.at_mut.follows.holds c.put_into_tag.new.self) texts
    ∙ ap (λ x. with_at_sequence c.args.path.now x (sequence_tree c.args.sequence.now)) e
    ∙ put_again c.args.path.now (item_tree c.in-Some.item.now) (sequence_tree c.args.sequence.now) (c.in-Some.ensures.value texts)) c.put_into_tag.ensures.out_of_memory
