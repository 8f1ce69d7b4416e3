use Rattle.cbor_edn.proofs.ClaimNestings.{claims_no_deeper}
use Rattle.cbor_edn.proofs.MessageNestings.{keys_no_deeper, messages_no_deeper, names_no_deeper}
use Rattle.cbor_edn.proofs.ShowNesting.{shown_within}
use Rattle.cbor_edn.proofs.TagNestings.{times_no_deeper, addresses_no_deeper, bignums_no_deeper, languages_no_deeper}
use Rattle.cbor_edn.proofs.laws.shown.shown_within.Goals as goal

pub returns-clause-times : goal.returns-clause-times
returns-clause-times c = times_no_deeper

pub returns-clause-addresses : goal.returns-clause-addresses
returns-clause-addresses c = addresses_no_deeper

pub returns-clause-bignums : goal.returns-clause-bignums
returns-clause-bignums c = bignums_no_deeper

pub returns-clause-languages : goal.returns-clause-languages
returns-clause-languages c = languages_no_deeper

pub returns-clause-claims : goal.returns-clause-claims
returns-clause-claims c = claims_no_deeper

pub returns-clause-keys : goal.returns-clause-keys
returns-clause-keys c = keys_no_deeper

pub returns-clause-messages : goal.returns-clause-messages
returns-clause-messages c = messages_no_deeper

pub returns-clause-names : goal.returns-clause-names
returns-clause-names c = names_no_deeper

pub returns-clause-within : goal.returns-clause-within
returns-clause-within c = shown_within
