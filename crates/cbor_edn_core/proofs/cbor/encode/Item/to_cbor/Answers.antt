use Rattle.std.proofs.Common.{subst}
use Rattle.cbor_edn_model.specs.tree.Trees.{items}
use Rattle.cbor_edn_model.specs.cbor.Value.{AreBytes}
use Rattle.cbor_edn_core.specs.tree.View.{item_tree}
use Rattle.cbor_edn_model.proofs.lemmas.cbor.CborEncodes.{item_encoded}
use Rattle.cbor_edn_core.proofs.cbor.encode.Item.to_cbor.Goals as goal

pub returns-clause-bytes : goal.returns-clause-bytes
unfolding items
returns-clause-bytes c = item_encoded (items (item_tree c.args.self.now)) _ _ c.new-out.ensures.items (subst AreBytes c.deref.ensures.value c.are_bytes.ensures) c.in_ok-encode_item.ensures
