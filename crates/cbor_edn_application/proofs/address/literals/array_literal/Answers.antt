use Rattle.std.proofs.Common.{rules, arith, ◌≡◌, ◌∷◌, map, Some, Ok, Err, ◌∙◌}
use Rattle.std.proofs.lemmas.Grind.{common_steps}
use Rattle.std.specs.Prelude.{option_map}
use Rattle.cbor_edn_core.specs.access.Iterated.{items_left}
use Rattle.cbor_edn_core.specs.tree.View.{item_tree}
use Rattle.cbor_edn_model.specs.access.Accessed.{item_bytes, array_items}
use Rattle.cbor_edn_conversions.specs.Addresses.{whole_text, by_elements}
use Rattle.cbor_edn_application.proofs.AddressCalls.{by_first_text}
use Rattle.cbor_edn_application.proofs.Told.{told_weaker}
use Rattle.cbor_edn_application.proofs.address.literals.array_literal.Goals as goal

pub returns-in_err-literal-in-Some-2-clause-refused : goal.returns-in_err-literal-in-Some-2-clause-refused
returns-in_err-literal-in-Some-2-clause-refused c =
    let w = item_tree c.args.array.now in
    let first = item_tree c.in-Some.first.now in
    let t = c.as_str.result.now in
    let are : array_items w ≡ Some (first ∷ map item_tree (items_left c.next.new.self)) = first_of (search rules, grind (arith, common_steps), cc) in
    let text : option_map (whole_text c.args.version) (item_bytes first) ≡ Some (Ok t) = first_of (search rules, grind (arith, common_steps), cc) in
    let refused = told_weaker c.first_literal.result _ (λ e. by_elements c.args.version c.args.wrap w (array_items w) ≡ Err e.now) (λ e h. by_first_text c.args.version c.args.wrap w first _ t are text ∙ h) (c.first_literal.ensures.refused c.args.wrap _ are) in
    first_of (search rules, grind (arith, common_steps))
