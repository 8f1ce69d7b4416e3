use Rattle.std.proofs.Common.{rules, arith, ◌≡◌, map, Ok, Err, ap, sym, ◌∙◌}
use Rattle.std.proofs.lemmas.Grind.{common_steps}
use Rattle.std.proofs.lemmas.Result.{IfOk-weaker}
use Rattle.cbor_edn_core.specs.access.Iterated.{items_left}
use Rattle.cbor_edn_core.specs.tree.View.{item_tree}
use Rattle.cbor_edn_conversions.specs.Addresses.{as_literal, by_others}
use Rattle.cbor_edn_application.proofs.Told.{told_weaker}
use Rattle.cbor_edn_application.proofs.address.literals.others_literal.Goals as goal

pub returns-in_err-text-clause-refused : goal.returns-in_err-text-clause-refused
returns-in_err-text-clause-refused c =
    let w = item_tree c.args.array.now in
    let refused = told_weaker c.elements_text.result _ (λ e. by_others c.args.version c.args.wrap w (item_tree c.args.first.now) (map item_tree (items_left c.args.others)) ≡ Err e.now) (λ e h. h c.args.wrap w) c.elements_text.ensures.refused in
    first_of (search rules, grind (arith, common_steps))

pub returns-clause-converted : goal.returns-clause-converted
returns-clause-converted c =
    let w = item_tree c.args.array.now in
    let text = c.in_ok-text.ensures.text c.args.wrap w ∙ ap (λ u. as_literal c.args.version c.args.wrap w (Ok u)) (sym c.as_str.ensures.value) in
    IfOk-weaker c.whole_literal.result _ _ (λ t h. text ∙ h) c.whole_literal.ensures.converted

pub returns-clause-refused : goal.returns-clause-refused
returns-clause-refused c =
    let w = item_tree c.args.array.now in
    let text = c.in_ok-text.ensures.text c.args.wrap w ∙ ap (λ u. as_literal c.args.version c.args.wrap w (Ok u)) (sym c.as_str.ensures.value) in
    told_weaker c.whole_literal.result _ _ (λ e h. text ∙ h) c.whole_literal.ensures.refused
