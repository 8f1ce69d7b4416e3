-- The laws of `pretty_calls_keep`, as lemmas have them.
use Rattle.cbor_edn_conversions.proofs.conversions.ConversionsKept.{time_keeps, address_keeps, bignum_keeps, time_keeps_all, address_keeps_all, all_keep, claims_keep}
use Rattle.cbor_edn_conversions.proofs.laws.pretty_calls_keep.Goals as goal

pub returns-clause-times : goal.returns-clause-times
returns-clause-times c = time_keeps

pub returns-clause-addresses : goal.returns-clause-addresses
returns-clause-addresses c = address_keeps

pub returns-clause-bignums : goal.returns-clause-bignums
returns-clause-bignums c = bignum_keeps

pub returns-clause-times_of_all : goal.returns-clause-times_of_all
returns-clause-times_of_all c = time_keeps_all

pub returns-clause-addresses_of_all : goal.returns-clause-addresses_of_all
returns-clause-addresses_of_all c = address_keeps_all

pub returns-clause-all : goal.returns-clause-all
returns-clause-all c = all_keep

pub returns-clause-claims : goal.returns-clause-claims
returns-clause-claims c = claims_keep
