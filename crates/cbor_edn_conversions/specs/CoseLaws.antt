-- The laws of comments in COSE messages and of their claims, as contracts name them.
use Rattle.std.specs.Prelude.{◌≡◌}
use Rattle.cbor_edn_model.specs.tree.Trees.{Tree, OneItem, items}
use Rattle.cbor_edn_model.specs.visit.Seeking.{CallArguments}
use Rattle.cbor_edn_conversions.specs.Cose.{with_headers, comment_cose}
use Rattle.cbor_edn_conversions.specs.CoseKeys.{with_key_names}
use Rattle.cbor_edn_conversions.specs.MessageClaims.{claims_and_keys, message_claims}
use Rattle.cbor_edn_conversions.specs.Resolvers.{TurnsTo, literal_resolver}
use Rattle.cbor_edn_conversions.specs.ResolvingLaws.{NeverRefused}

-- Comments alone are put: the items stay.
abbrev pub CoseKeepsItems : Type 0
CoseKeepsItems = (a : CallArguments) (w : Tree OneItem) → items (comment_cose a w).1 ≡ items w

abbrev pub HeadersKeepItems : Type 0
HeadersKeepItems = (w : Tree OneItem) → items (with_headers w) ≡ items w

abbrev pub KeyNamesKeepItems : Type 0
KeyNamesKeepItems = (w : Tree OneItem) → items (with_key_names w) ≡ items w

abbrev pub CoseGiven : Type 0
CoseGiven = NeverRefused comment_cose

-- Claims sets with their comments, and messages with them, mean what they meant: times in them become literals, and these stand for them.
abbrev pub ClaimsAndKeysKeep : Type 0
ClaimsAndKeysKeep = (w : Tree OneItem) → TurnsTo literal_resolver literal_resolver w (claims_and_keys w)

abbrev pub MessageClaimsKeep : Type 0
MessageClaimsKeep = (a : CallArguments) (w : Tree OneItem) → TurnsTo literal_resolver literal_resolver w (message_claims a w).1

abbrev pub MessageClaimsGiven : Type 0
MessageClaimsGiven = NeverRefused message_claims
