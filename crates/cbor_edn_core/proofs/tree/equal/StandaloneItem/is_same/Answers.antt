use Rattle.cbor_edn_model.specs.internal.Same.{same_exactly}
use Rattle.cbor_edn_core.proofs.tree.equal.StandaloneItem.is_same.Goals as goal

pub returns : goal.returns
returns c = same_exactly _ _ c.eq.result c.eq.ensures
