-- The laws of `calls_resolve`, as lemmas have them.
use Rattle.cbor_edn_conversions.proofs.conversions.ConversionsKept.{time_resolves, time_resolves_kept, time_resolves_alone, address_resolves, address_resolves_kept, address_resolves_alone, all_resolve}
use Rattle.cbor_edn_conversions.proofs.laws.calls_resolve.Goals as goal

pub returns-clause-times_of_all : goal.returns-clause-times_of_all
returns-clause-times_of_all c = time_resolves

pub returns-clause-times_kept : goal.returns-clause-times_kept
returns-clause-times_kept c = time_resolves_kept

pub returns-clause-times : goal.returns-clause-times
returns-clause-times c = time_resolves_alone

pub returns-clause-addresses_of_all : goal.returns-clause-addresses_of_all
returns-clause-addresses_of_all c = address_resolves

pub returns-clause-addresses_kept : goal.returns-clause-addresses_kept
returns-clause-addresses_kept c = address_resolves_kept

pub returns-clause-addresses : goal.returns-clause-addresses
returns-clause-addresses c = address_resolves_alone

pub returns-clause-all : goal.returns-clause-all
returns-clause-all c = all_resolve
