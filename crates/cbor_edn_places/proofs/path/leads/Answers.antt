use Rattle.cbor_edn_core.specs.tree.View.{sequence_tree}
use Rattle.cbor_edn_model.specs.access.Paths.{at_sequence}
use Rattle.cbor_edn_places.proofs.FirstPlaces.{is_there}
use Rattle.cbor_edn_places.proofs.path.leads.Goals as goal

pub returns-clause-value : goal.returns-clause-value
returns-clause-value c = is_there (at_sequence c.args.path.now (sequence_tree c.args.sequence.now)) c.is_some.result c.structure_at.result c.is_some.ensures c.structure_at.ensures.value
