use Rattle.cbor_edn.proofs.Shown.{shown_once, shown_or_fault}
use Rattle.cbor_edn.proofs.laws.shown.shown_once.Goals as goal

pub returns-clause-once : goal.returns-clause-once
returns-clause-once c = shown_once

pub returns-clause-or_fault : goal.returns-clause-or_fault
returns-clause-or_fault c = shown_or_fault
