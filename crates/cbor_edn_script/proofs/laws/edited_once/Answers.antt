-- The laws of `edited_once`, as lemmas have them.
use Rattle.cbor_edn_script.proofs.EditsOnItems.{edited_once, items_edited_once}
use Rattle.cbor_edn_script.proofs.laws.edited_once.Goals as goal

pub returns-clause-trees : goal.returns-clause-trees
returns-clause-trees c = edited_once

pub returns-clause-items : goal.returns-clause-items
returns-clause-items c = items_edited_once
