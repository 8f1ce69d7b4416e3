-- The laws of `message_claims`, as lemmas have them.
use Rattle.cbor_edn_conversions.proofs.conversions.MessagesKept.{claims_and_keys_keep, message_claims_keep, message_claims_given}
use Rattle.cbor_edn_conversions.proofs.laws.message_claims.Goals as goal

pub returns-clause-given : goal.returns-clause-given
returns-clause-given c = message_claims_given

pub returns-clause-claims : goal.returns-clause-claims
returns-clause-claims c = claims_and_keys_keep

pub returns-clause-messages : goal.returns-clause-messages
returns-clause-messages c = message_claims_keep
