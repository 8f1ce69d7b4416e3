-- Claims sets that are payloads of COSE messages (RFC 8392, section 7), with their comments:
-- `18([h'', {}, <<{4/ exp /: dt'2023-11-14T22:13:20+00:00'}>>, h''])`.
use Rattle.std.specs.Prelude.{ℕ, List, Option, None, Some, Bool, true, false, if◌then◌else◌, slice_get}
use Rattle.cbor_edn_model.specs.tree.Items.{Array}
use Rattle.cbor_edn_model.specs.tree.Trees.{Tree, OneItem, ListTree}
use Rattle.cbor_edn_model.specs.visit.Seeking.{CallArguments}
use Rattle.cbor_edn_model.specs.visit.Visits.{fine}
use Rattle.cbor_edn_conversions.specs.declared.tables.Part.{Part}
use Rattle.cbor_edn_conversions.specs.declared.tables.Part.TheVariants.{Payload}
use Rattle.cbor_edn_conversions.specs.declared.tables.Structure.{Structure}
use Rattle.cbor_edn_conversions.specs.Claims.{with_claims}
use Rattle.cbor_edn_conversions.specs.Conversions.{Reply}
use Rattle.cbor_edn_conversions.specs.Cose.{called_message, in_item, in_string}
use Rattle.cbor_edn_conversions.specs.CoseKeys.{with_key_names}
use Rattle.cbor_edn_conversions.specs.CoseTables.{parts}

-- the claims and the keys in a claims set, both with their names
abbrev pub claims_and_keys : Tree OneItem → Tree OneItem
claims_and_keys w = with_key_names (with_claims w).1

abbrev pub is_payload : Option Part → Bool
is_payload (Some Payload) = true
is_payload _ = false

-- the third element of an array, 2, is the payload of every message that has one
abbrev pub in_payload : (Tree OneItem → Tree OneItem) → Tree OneItem → Tree OneItem
in_payload f (ListTree Array w) = in_item 2 (in_string f) (ListTree Array w)
in_payload f w = w

abbrev pub in_message : Tree OneItem → Option (List ℕ × Structure) → Tree OneItem
in_message w None = w
in_message w (Some r) = if is_payload (slice_get (parts r.1) 2) then in_item 0 (in_payload claims_and_keys) w else w

-- `annotate_message`: nothing is answered, and the payload that is shown has the comments of a claims set.
unfoldable pub message_claims : CallArguments → Tree OneItem → Reply
message_claims a w = (fine, in_message w (called_message a w))
