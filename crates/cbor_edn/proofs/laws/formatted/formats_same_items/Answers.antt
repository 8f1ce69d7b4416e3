use Rattle.cbor_edn.proofs.Formatted.{formatted_once, formats_same_items}
use Rattle.cbor_edn.proofs.laws.formatted.formats_same_items.Goals as goal

pub returns-clause-once : goal.returns-clause-once
returns-clause-once c = formatted_once

pub returns-clause-items : goal.returns-clause-items
returns-clause-items c = formats_same_items
