-- The laws of `cose_comments`, as lemmas have them.
use Rattle.cbor_edn_conversions.proofs.conversions.CoseKept.{cose_keeps, headers_keep, key_names_keep, cose_given}
use Rattle.cbor_edn_conversions.proofs.laws.cose_comments.Goals as goal

pub returns-clause-given : goal.returns-clause-given
returns-clause-given c = cose_given

pub returns-clause-messages : goal.returns-clause-messages
returns-clause-messages c = cose_keeps

pub returns-clause-headers : goal.returns-clause-headers
returns-clause-headers c = headers_keep

pub returns-clause-keys : goal.returns-clause-keys
returns-clause-keys c = key_names_keep
