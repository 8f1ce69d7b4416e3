-- The laws of `annotations_keep_direct`, as lemmas have them.
use Rattle.cbor_edn_conversions.proofs.nesting.DirectAnswers.{languages_keep, language_keeps_items}
use Rattle.cbor_edn_conversions.proofs.nesting.DirectClaims.{claims_keep_direct}
use Rattle.cbor_edn_conversions.proofs.laws.annotations_keep_direct.Goals as goal

pub returns-clause-claims : goal.returns-clause-claims
returns-clause-claims c = claims_keep_direct

pub returns-clause-comments : goal.returns-clause-comments
returns-clause-comments c = languages_keep

pub returns-clause-comments_alone : goal.returns-clause-comments_alone
returns-clause-comments_alone c = language_keeps_items
