use Rattle.std.proofs.Common.{◌∙◌}
use Rattle.cbor_edn_core.specs.tree.View.{item_tree, sequence_tree}
use Rattle.cbor_edn_model.specs.tree.TreeLeaves.{texts}
use Rattle.cbor_edn_places.proofs.Around.{put_again}
use Rattle.cbor_edn_places.proofs.FirstPlaces.{where_lent}
use Rattle.cbor_edn_places.proofs.path.structure_at.Goals as goal

pub returns-in-Some-clause-same : goal.returns-in-Some-clause-same
returns-in-Some-clause-same c = where_lent c.in-Some.is (c.at_mut.follows.holds c.in-Some.item.now) texts
    ∙ put_again c.args.path.now (item_tree c.in-Some.item.now) (sequence_tree c.args.sequence.now) (c.in-Some.ensures.value texts)
