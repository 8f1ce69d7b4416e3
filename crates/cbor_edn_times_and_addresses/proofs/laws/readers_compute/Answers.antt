use Rattle.cbor_edn_times_and_addresses.proofs.TimeComputed.{instant_computed, instant_answered}
use Rattle.cbor_edn_times_and_addresses.proofs.TimeComputedNumbers.{decimal_computed, decimal_answered}
use Rattle.cbor_edn_times_and_addresses.proofs.laws.readers_compute.Goals as goal

pub returns-clause-instants : goal.returns-clause-instants
returns-clause-instants c = instant_computed

pub returns-clause-decimals : goal.returns-clause-decimals
returns-clause-decimals c = decimal_computed

pub returns-clause-instant_answers : goal.returns-clause-instant_answers
returns-clause-instant_answers c = instant_answered

pub returns-clause-decimal_answers : goal.returns-clause-decimal_answers
returns-clause-decimal_answers c = decimal_answered
