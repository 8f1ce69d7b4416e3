-- The laws of `resolvers`, as lemmas have them.
use Rattle.cbor_edn_conversions.proofs.conversions.ConversionsKept.{time_of_applications, address_of_applications, literals_stand_for}
use Rattle.cbor_edn_conversions.proofs.laws.resolvers.Goals as goal

pub returns-clause-times : goal.returns-clause-times
returns-clause-times c = time_of_applications

pub returns-clause-addresses : goal.returns-clause-addresses
returns-clause-addresses c = address_of_applications

pub returns-clause-values : goal.returns-clause-values
returns-clause-values c = literals_stand_for
