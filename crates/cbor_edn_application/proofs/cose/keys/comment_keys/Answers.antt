use Rattle.std.proofs.Common.{rules, refl, ap}
use Rattle.cbor_edn_core.specs.tree.View.{item_tree}
use Rattle.cbor_edn_model.specs.tree.Trees.{items}
use Rattle.cbor_edn_conversions.specs.CoseKeys.{cnf_key, with_key_names}
use Rattle.cbor_edn_application.specs.Handlers.{at_cnf}
use Rattle.cbor_edn_application.proofs.CoseNames.{no_names, cnf_kept}
use Rattle.cbor_edn_application.proofs.MapVisits.{map_whole, map_visited, visit_kept}
use Rattle.cbor_edn_application.proofs.PassedItems.{passed_by, kept_by}
use Rattle.cbor_edn_application.proofs.cose.keys.comment_keys.Goals as goal

pub returns-clause-keys : goal.returns-clause-keys
unfolding with_key_names
returns-clause-keys c =
    passed_by _ _ _ (λ e h. no_names (cnf_key) (item_tree c.args.claims.now) (item_tree c.visit_map_elements-answer.new.self) h.1 (ap item_tree h.2)) c.visit_map_elements-answer.result c.any_item.result c.any_item.ensures
    c.visit_map_elements-answer.ensures.visited c.visit_map_elements-answer.ensures.refused
    (λ h. (map_whole (cnf_key) at_cnf _ _ (λ p q x y z s. search rules) (λ h x r y did. did) h.2 refl h.1).1)

pub returns-clause-items : goal.returns-clause-items
returns-clause-items c =
    kept_by _ _ _ (λ e h. ap (λ x. items (item_tree x)) h.2) c.visit_map_elements-answer.result c.visit_map_elements-answer.ensures.visited c.visit_map_elements-answer.ensures.refused
    (λ r h. visit_kept (cnf_key) (cnf_kept) (map_visited (cnf_key) at_cnf _ _ (λ p q x y z s. search rules) (λ h x r y did. did) h.2 h.1))
