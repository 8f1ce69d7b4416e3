use Rattle.std.proofs.Common.{rules, arith, sym, ap, ◌∙◌}
use Rattle.std.proofs.lemmas.Grind.{common_steps}
use Rattle.std.specs.Prelude.{option_map}
use Rattle.cbor_edn_core.specs.tree.View.{item_tree}
use Rattle.cbor_edn_application.proofs.AddressCalls.{first_put, first_meaningless, first_refused}
use Rattle.cbor_edn_application.proofs.Told.{told_weaker}
use Rattle.cbor_edn_application.proofs.address.placing.first_literal.Goals as goal

pub returns-in_err-literal-clause-refused : goal.returns-in_err-literal-clause-refused
returns-in_err-literal-clause-refused c = λ wrap es are.
    let refused = told_weaker c.whole_literal.result _ _ (λ e h. first_refused c.args.version wrap (item_tree c.args.array.now) (item_tree c.args.first.now) es c.args.text.now are e.now h) c.whole_literal.ensures.refused in
    first_of (search rules, grind (arith, common_steps))

pub returns-in-Some-clause-converted : goal.returns-in-Some-clause-converted
returns-in-Some-clause-converted c = λ wrap es are.
    first_put c.args.version wrap (item_tree c.args.array.now) (item_tree c.args.first.now) es c.args.text.now are (item_tree c.in_ok-literal.literal) _ c.in_ok-literal.ensures.converted
    (sym (ap (option_map _) c.in-Some.is) ∙ c.in_ok-encoding.ensures)

pub returns-clause-refused : goal.returns-clause-refused
returns-clause-refused c = λ wrap es are.
    first_meaningless c.args.version wrap (item_tree c.args.array.now) (item_tree c.args.first.now) es c.args.text.now are (sym (ap (option_map _) c.in-None.is) ∙ c.in_ok-encoding.ensures)
