-- Where address literals are put.
use Rattle.std.specs.Prelude.{Bool}
use Rattle.cbor_edn_model.specs.tree.Trees.{Tree, OneItem}
use Rattle.cbor_edn_times_and_addresses.specs.declared.address.IpVersion.{IpVersion}
use Rattle.cbor_edn_core.specs.tree.View.{item_tree}
use Rattle.cbor_edn_conversions.specs.Addresses.{with_first}
use Rattle.cbor_edn_application.specs.declared.address.placing.Placed.{Placed}
use Rattle.cbor_edn_application.specs.declared.address.placing.Placed.TheVariants.{Whole, First}

-- the item with the literal in its place, or in that of its first element
abbrev pub with_placed : IpVersion → Bool → Tree OneItem → Placed → Tree OneItem
with_placed version wrap w (Whole x) = item_tree x
with_placed version wrap w (First x) = with_first version wrap w (item_tree x)
