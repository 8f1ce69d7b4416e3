use Rattle.std.proofs.Common.{List, ◌≡◌, map, rules, sym, subst, ◌∙◌}
use Rattle.std.specs.Prelude.{IfOk}
use Rattle.std.proofs.lemmas.List.{append-nil}
use Rattle.std.proofs.lemmas.Result.{IfOk-weaker}
use Rattle.cbor_edn_model.specs.tree.Constructed.{comma_sequence}
use Rattle.cbor_edn_core.specs.tree.Constructed.{element_tree}
use Rattle.cbor_edn_core.specs.tree.View.{Item, sequence_tree}
use Rattle.cbor_edn_application.proofs.Lists.{all_of_vec}
use Rattle.cbor_edn.proofs.elements.sequence_of.Goals as goal

pub returns-in-Some-2 : goal.returns-in-Some-2
returns-in-Some-2 c =
    let same : c.push.new.self.items ≡ c.args.items.items = c.in_ok-push-in-Some-2.ensures.items ∙ sym c.in-Some.ensures.items in
    subst (λ (xs : List Item). IfOk c.new.result (λ s. sequence_tree s ≡ comma_sequence (map element_tree xs))) same
    (IfOk-weaker c.new.result _ _ (λ s h. let holds = h.2 in all_of_vec (λ xs. sequence_tree s ≡ comma_sequence (map element_tree xs)) c.push.new.self.items h.1 h.0 holds.0 (holds.1 ∙ search rules) h.3 h.4) c.new.ensures)

pub returns : goal.returns
returns c =
    let same : c.pop.new.self.items ≡ c.args.items.items = search (rules, append-nil) in
    subst (λ (xs : List Item). IfOk c.new-in-None.result (λ s. sequence_tree s ≡ comma_sequence (map element_tree xs))) same
    (IfOk-weaker c.new-in-None.result _ _ (λ s h. let holds = h.2 in all_of_vec (λ xs. sequence_tree s ≡ comma_sequence (map element_tree xs)) c.pop.new.self.items h.1 h.0 holds.0 (holds.1 ∙ search rules) h.3 h.4) c.new-in-None.ensures)
