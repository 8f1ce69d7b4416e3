-- The laws of `visits_keep`, as lemmas have them.
use Rattle.cbor_edn_application.proofs.ClaimsSetsKept.{claims_sets_keep}
use Rattle.cbor_edn_application.proofs.ResolvedAgain.{pretty_times_keep, pretty_addresses_keep, pretty_bignums_keep, resolved_times_keep, resolved_addresses_keep, languages_leave, cose_leaves, message_claims_kept}
use Rattle.cbor_edn_application.proofs.laws.visits_keep.Goals as goal

pub returns-clause-pretty_times : goal.returns-clause-pretty_times
returns-clause-pretty_times c = pretty_times_keep

pub returns-clause-pretty_addresses : goal.returns-clause-pretty_addresses
returns-clause-pretty_addresses c = pretty_addresses_keep

pub returns-clause-pretty_bignums : goal.returns-clause-pretty_bignums
returns-clause-pretty_bignums c = pretty_bignums_keep

pub returns-clause-times : goal.returns-clause-times
returns-clause-times c = resolved_times_keep

pub returns-clause-addresses : goal.returns-clause-addresses
returns-clause-addresses c = resolved_addresses_keep

pub returns-clause-languages : goal.returns-clause-languages
returns-clause-languages c = languages_leave

pub returns-clause-claims : goal.returns-clause-claims
returns-clause-claims c = claims_sets_keep

pub returns-clause-cose : goal.returns-clause-cose
returns-clause-cose c = cose_leaves

pub returns-clause-message_claims : goal.returns-clause-message_claims
returns-clause-message_claims c = message_claims_kept
