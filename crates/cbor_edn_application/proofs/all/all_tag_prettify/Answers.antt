use Rattle.std.proofs.Common.{rules}
use Rattle.cbor_edn_core.specs.tree.View.{item_tree}
use Rattle.cbor_edn_application.proofs.OneOfAll.{time_alone, address_alone, bignum_alone}
use Rattle.cbor_edn_application.proofs.all.all_tag_prettify.Goals as goal

pub returns-in-1 : goal.returns-in-1
returns-in-1 c = time_alone c.args.tag (item_tree c.args.item.now) _ _ c.in-1.is c.dt_tag_to_aol.ensures

pub returns-in-52 : goal.returns-in-52
returns-in-52 c = address_alone c.args.tag (item_tree c.args.item.now) _ _ c.in-52.is c.ip_tag_to_aol.ensures

pub returns-in_default : goal.returns-in_default
returns-in_default c = bignum_alone c.args.tag (item_tree c.args.item.now) _ _ (search rules) (search rules) (search rules) c.tag23_to_edn_integer.ensures
