use Rattle.std.proofs.Common.{rules, refl, ap, ◌≡◌, ◌∙◌, subst}
use Rattle.std.specs.Prelude.{OnOk, option_map}
use Rattle.cbor_edn_core.specs.visit.Callbacks.{key_answer, handler_of}
use Rattle.cbor_edn_core.specs.tree.View.{item_tree}
use Rattle.cbor_edn_model.specs.tree.Trees.{items}
use Rattle.cbor_edn_conversions.specs.CoseKeys.{key_label, with_names, with_parameters}
use Rattle.cbor_edn_application.specs.Handlers.{at_number, KeyAnswers}
use Rattle.cbor_edn_application.proofs.CoseNames.{no_names, openers_kept}
use Rattle.cbor_edn_application.proofs.MapVisits.{kept_whole, kept_visited, visit_kept}
use Rattle.cbor_edn_application.proofs.PassedItems.{passed_by, kept_by}
use Rattle.cbor_edn_application.proofs.cose.keys.comment_parameters.Goals as goal

pub returns-clause-parameters : goal.returns-clause-parameters
unfolding with_parameters
returns-clause-parameters c =
    let w = item_tree c.args.key.now in
    let v = item_tree c.visit_map_elements-answer.new.self in
    subst (λ t. OnOk c.any_item.result (v ≡ with_names (key_label t) w)) c.type_of-key_type.ensures
    (passed_by _ _ _ (λ e h. no_names (key_label c.type_of-key_type.result) w v h.1 (ap item_tree h.2)) c.visit_map_elements-answer.result c.any_item.result c.any_item.ensures
    c.visit_map_elements-answer.ensures.visited c.visit_map_elements-answer.ensures.refused
    (λ h. (kept_whole (key_label c.type_of-key_type.result) at_number _ _ (λ f. f.1.now ≡ c.type_of-key_type.result)
    (λ p q x y z kept s.
    let same : q.1.now ≡ p.1.now = search rules in
    let said : (item_tree y.now ≡ item_tree x.now) × KeyAnswers (key_label p.1.now (item_tree x.now)) (key_answer z) (option_map at_number (handler_of z)) = search rules in
    (subst (λ t. (item_tree y.now ≡ item_tree x.now) × KeyAnswers (key_label t (item_tree x.now)) (key_answer z) (option_map at_number (handler_of z))) kept said, same ∙ kept))
    (λ h x r y did. did) h.2 refl h.1 refl).1))

pub returns-clause-items : goal.returns-clause-items
returns-clause-items c =
    kept_by _ _ _ (λ e h. ap (λ x. items (item_tree x)) h.2) c.visit_map_elements-answer.result c.visit_map_elements-answer.ensures.visited c.visit_map_elements-answer.ensures.refused
    (λ r h. visit_kept (key_label c.type_of-key_type.result) (openers_kept c.type_of-key_type.result) (kept_visited (key_label c.type_of-key_type.result) at_number _ _ (λ f. f.1.now ≡ c.type_of-key_type.result)
    (λ p q x y z kept s.
    let same : q.1.now ≡ p.1.now = search rules in
    let said : (item_tree y.now ≡ item_tree x.now) × KeyAnswers (key_label p.1.now (item_tree x.now)) (key_answer z) (option_map at_number (handler_of z)) = search rules in
    (subst (λ t. (item_tree y.now ≡ item_tree x.now) × KeyAnswers (key_label t (item_tree x.now)) (key_answer z) (option_map at_number (handler_of z))) kept said, same ∙ kept))
    (λ h x r y did. did) h.2 h.1 refl))
