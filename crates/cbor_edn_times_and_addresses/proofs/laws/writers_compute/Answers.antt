use Rattle.cbor_edn_times_and_addresses.proofs.TimeComputedText.{printed_computed}
use Rattle.cbor_edn_times_and_addresses.proofs.TimeComputedNumbers.{written_computed}
use Rattle.cbor_edn_times_and_addresses.proofs.laws.writers_compute.Goals as goal

pub returns-clause-texts : goal.returns-clause-texts
returns-clause-texts c = printed_computed

pub returns-clause-numbers : goal.returns-clause-numbers
returns-clause-numbers c = written_computed
