use Rattle.std.proofs.Common.{rules, ◌≡◌, map, ◌∙◌}
use Rattle.std.proofs.lemmas.Result.{IfOk-weaker}
use Rattle.cbor_edn.specs.Constructed.{comma_inside}
use Rattle.cbor_edn.specs.Items.{Map}
use Rattle.cbor_edn.specs.Trees.{ListTree}
use Rattle.cbor_edn.specs.Made.{pair_tree}
use Rattle.cbor_edn.specs.View.{item_tree}
use Rattle.cbor_edn.proofs.Lists.{all_of_vec}
use Rattle.cbor_edn_examples.proofs.made.tabled.Goals as goal

pub returns : goal.returns
returns c = IfOk-weaker c.new_map.result _ _
    (λ t h. let holds = h.2 in all_of_vec (λ xs. item_tree t ≡ ListTree Map (comma_inside (map pair_tree xs))) c.args.entries.items h.1 h.0 holds.0 (holds.1 ∙ search rules) h.3 h.4)
    c.new_map.ensures
