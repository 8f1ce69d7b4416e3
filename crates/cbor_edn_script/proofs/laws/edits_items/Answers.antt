-- The laws of `edits_items`, as lemmas have them.
use Rattle.cbor_edn_script.proofs.EditsOnItems.{edits_items, begun_edits_items}
use Rattle.cbor_edn_script.proofs.laws.edits_items.Goals as goal

pub returns-clause-done : goal.returns-clause-done
returns-clause-done c = edits_items

pub returns-clause-begun : goal.returns-clause-begun
returns-clause-begun c = begun_edits_items
