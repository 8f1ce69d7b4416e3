-- The laws of `one_result`, as lemmas have them.
use Rattle.cbor_edn.proofs.Faults.{output_or_fault, one_fault}
use Rattle.cbor_edn.proofs.RunsOnce.{steps_give_once, one_output}
use Rattle.cbor_edn.proofs.laws.runs.one_result.Goals as goal

pub returns-clause-steps : goal.returns-clause-steps
returns-clause-steps c = steps_give_once

pub returns-clause-output : goal.returns-clause-output
returns-clause-output c = one_output

pub returns-clause-output_or_fault : goal.returns-clause-output_or_fault
returns-clause-output_or_fault c = output_or_fault

pub returns-clause-fault : goal.returns-clause-fault
returns-clause-fault c = one_fault
