use Rattle.std.proofs.Common.{◌∙◌, ap, Ok}
use Rattle.std.specs.Prelude.{option_map}
use Rattle.cbor_edn_core.specs.tree.View.{item_tree}
use Rattle.cbor_edn_application.proofs.BignumBytes.{none_acts, some_acts}
use Rattle.cbor_edn_application.proofs.bignum.tag23_to_edn_integer.Goals as goal

pub returns-in_default : goal.returns-in_default
returns-in_default c = none_acts _ (item_tree c.args.item.now) (c.in_ok-integer.ensures ∙ ap (option_map (λ t. Ok (item_tree t))) c.in_default.is)

pub returns : goal.returns
returns c = some_acts _ (item_tree c.args.item.now) (item_tree c.in-Some.integer) (c.in_ok-integer.ensures ∙ ap (option_map (λ t. Ok (item_tree t))) c.in-Some.is)
