use Rattle.std.proofs.Common.{rules, refl, ap}
use Rattle.cbor_edn_core.specs.tree.View.{item_tree}
use Rattle.cbor_edn_model.specs.tree.Trees.{items}
use Rattle.cbor_edn_conversions.specs.Cose.{header_key, with_headers}
use Rattle.cbor_edn_application.specs.Handlers.{at_number}
use Rattle.cbor_edn_application.proofs.CoseNames.{no_names, headers_kept}
use Rattle.cbor_edn_application.proofs.MapVisits.{map_whole, map_visited, visit_kept}
use Rattle.cbor_edn_application.proofs.PassedItems.{passed_by, kept_by}
use Rattle.cbor_edn_application.proofs.cose.parts.comment_headers.Goals as goal

pub returns-clause-headers : goal.returns-clause-headers
unfolding with_headers
returns-clause-headers c =
    passed_by _ _ _ (λ e h. no_names header_key (item_tree c.args.item.now) (item_tree c.visit_map_elements-answer.new.self) h.1 (ap item_tree h.2)) c.visit_map_elements-answer.result c.any_item.result c.any_item.ensures
    c.visit_map_elements-answer.ensures.visited c.visit_map_elements-answer.ensures.refused
    (λ h. (map_whole header_key at_number _ _ (λ p q x y z s. search rules) (λ h x r y did. did) h.2 refl h.1).1)

pub returns-clause-items : goal.returns-clause-items
returns-clause-items c =
    kept_by _ _ _ (λ e h. ap (λ x. items (item_tree x)) h.2) c.visit_map_elements-answer.result c.visit_map_elements-answer.ensures.visited c.visit_map_elements-answer.ensures.refused
    (λ r h. visit_kept header_key headers_kept (map_visited header_key at_number _ _ (λ p q x y z s. search rules) (λ h x r y did. did) h.2 h.1))
