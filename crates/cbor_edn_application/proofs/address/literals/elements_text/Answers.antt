use Rattle.std.proofs.Common.{rules, arith, ◌≡◌, ◌∷◌, [], map, ◌∙◌}
use Rattle.std.proofs.lemmas.Grind.{common_steps}
use Rattle.cbor_edn_core.specs.access.Iterated.{items_left}
use Rattle.cbor_edn_core.specs.tree.View.{item_tree}
use Rattle.cbor_edn_application.proofs.AddressCalls.{two_elements}
use Rattle.cbor_edn_application.proofs.Told.{told_weaker}
use Rattle.cbor_edn_application.proofs.address.literals.elements_text.Goals as goal

pub returns-clause-refused : goal.returns-clause-refused
returns-clause-refused c =
    let two : map item_tree (items_left c.args.others) ≡ item_tree c.in-Some.second.now ∷ [] = first_of (search rules, grind (arith, common_steps), cc) in
    told_weaker c.pair_text.result _ _ (λ e h wrap w. two_elements c.args.version wrap w (item_tree c.args.first.now) (item_tree c.in-Some.second.now) _ two ∙ h wrap w) c.pair_text.ensures.refused
