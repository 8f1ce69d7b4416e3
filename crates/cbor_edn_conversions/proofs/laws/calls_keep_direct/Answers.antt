-- The laws of `calls_keep_direct`, as lemmas have them.
use Rattle.cbor_edn_conversions.proofs.nesting.DirectAnswers.{pretty_times_keep, pretty_addresses_keep, pretty_bignums_keep, pretty_items_keep, resolved_times_keep, resolved_addresses_keep, resolved_items_keep, tags_999_keep}
use Rattle.cbor_edn_conversions.proofs.laws.calls_keep_direct.Goals as goal

pub returns-clause-pretty_times : goal.returns-clause-pretty_times
returns-clause-pretty_times c = pretty_times_keep

pub returns-clause-pretty_addresses : goal.returns-clause-pretty_addresses
returns-clause-pretty_addresses c = pretty_addresses_keep

pub returns-clause-pretty_bignums : goal.returns-clause-pretty_bignums
returns-clause-pretty_bignums c = pretty_bignums_keep

pub returns-clause-all_pretty : goal.returns-clause-all_pretty
returns-clause-all_pretty c = pretty_items_keep

pub returns-clause-resolved_times : goal.returns-clause-resolved_times
returns-clause-resolved_times c = resolved_times_keep

pub returns-clause-resolved_addresses : goal.returns-clause-resolved_addresses
returns-clause-resolved_addresses c = resolved_addresses_keep

pub returns-clause-all_resolved : goal.returns-clause-all_resolved
returns-clause-all_resolved c = resolved_items_keep

pub returns-clause-others : goal.returns-clause-others
returns-clause-others c = tags_999_keep
