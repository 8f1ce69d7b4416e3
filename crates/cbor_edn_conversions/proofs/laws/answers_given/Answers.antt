-- The laws of `answers_given`, as lemmas have them.
use Rattle.cbor_edn_conversions.proofs.conversions.AnswersGiven.{pretty_time_given, pretty_address_given, pretty_bignum_given, pretty_all_given, resolve_time_given, resolve_address_given, resolve_all_given, tag999_given, language_given}
use Rattle.cbor_edn_conversions.proofs.laws.answers_given.Goals as goal

pub returns-clause-pretty_times : goal.returns-clause-pretty_times
returns-clause-pretty_times c = pretty_time_given

pub returns-clause-pretty_addresses : goal.returns-clause-pretty_addresses
returns-clause-pretty_addresses c = pretty_address_given

pub returns-clause-pretty_bignums : goal.returns-clause-pretty_bignums
returns-clause-pretty_bignums c = pretty_bignum_given

pub returns-clause-all_pretty : goal.returns-clause-all_pretty
returns-clause-all_pretty c = pretty_all_given

pub returns-clause-resolved_times : goal.returns-clause-resolved_times
returns-clause-resolved_times c = resolve_time_given

pub returns-clause-resolved_addresses : goal.returns-clause-resolved_addresses
returns-clause-resolved_addresses c = resolve_address_given

pub returns-clause-all_resolved : goal.returns-clause-all_resolved
returns-clause-all_resolved c = resolve_all_given

pub returns-clause-others : goal.returns-clause-others
returns-clause-others c = tag999_given

pub returns-clause-comments : goal.returns-clause-comments
returns-clause-comments c = language_given
