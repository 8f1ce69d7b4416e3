use Rattle.std.proofs.Common.{◌∙◌}
use Rattle.cbor_edn_model.specs.tree.TreeLeaves.{texts}
use Rattle.cbor_edn_places.proofs.Around.{put_nowhere}
use Rattle.cbor_edn_places.proofs.FirstPlaces.{where_lent}
use Rattle.cbor_edn_places.proofs.offset.replace_at.Goals as goal

pub returns-in-Some : goal.returns-in-Some
returns-in-Some c = where_lent c.in-Some.is (c.at_mut.follows.holds c.args.item) texts

pub returns-in_default : goal.returns-in_default
returns-in_default c = c.at_mut.follows.holds-at-none texts ∙ put_nowhere _ _ _ (c.in_default.ensures.value texts)
