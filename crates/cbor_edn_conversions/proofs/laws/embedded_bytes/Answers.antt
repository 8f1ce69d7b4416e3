-- The laws of `embedded_bytes`, as lemmas have them.
use Rattle.cbor_edn_conversions.proofs.embedded.LiteralBytes.{bytes_are_content}
use Rattle.cbor_edn_conversions.proofs.embedded.DecodedItems.{decoded_item_is}
use Rattle.cbor_edn_conversions.proofs.laws.embedded_bytes.Goals as goal

pub returns-clause-content : goal.returns-clause-content
returns-clause-content c = bytes_are_content

pub returns-clause-item : goal.returns-clause-item
returns-clause-item c = decoded_item_is
