-- Edits of a tree are edits of its items.
use Rattle.std.proofs.Common.{◌≡◌, zero, suc, [], ◌∷◌, refl, sym, ap, ◌∙◌, subst}
use Rattle.std.specs.String.{string_bytes}
use Rattle.cbor_edn_core.specs.tree.View.{item_tree}
use Rattle.cbor_edn_model.proofs.lemmas.layout.Layouts.{keeps_items}
use Rattle.cbor_edn_model.specs.visit.Seeking.{CallArguments, SoughtCall, IsTag, IsApplication}
use Rattle.cbor_edn_model.specs.tree.Items.{Items}
use Rattle.cbor_edn_model.specs.tree.Trees.{Tree, Seq, items}
use Rattle.cbor_edn_model.specs.visit.Visits.{whole, cut}
use Rattle.cbor_edn_model.proofs.lemmas.layout.WithoutIndicators.{without_indicators_is_bare}
use Rattle.cbor_edn_conversions.specs.All.{resolve_all, pretty_all}
use Rattle.cbor_edn_conversions.specs.Annotations.{commenting}
use Rattle.cbor_edn_conversions.specs.ConversionLaws.{Made}
use Rattle.cbor_edn_conversions.specs.Resolving.{AnswersBy}
use Rattle.cbor_edn_conversions.specs.Tag999.{to_tag999}
use Rattle.cbor_edn_conversions.specs.VisitedItems.{IsTagNode, IsApplicationNode, VisitedNode}
use Rattle.cbor_edn_conversions.proofs.resolving.ItemsOnce.{visited_once, tag_node_once, application_node_once}
use Rattle.cbor_edn_conversions.proofs.resolving.OnItems.{tag_node, application_node, parts_visited}
use Rattle.cbor_edn_application.specs.Acts.{Act, IsVisited}
use Rattle.cbor_edn_application.proofs.ResolvedAgain.{tags_once, literals_once}
use Rattle.cbor_edn_application.proofs.Unmoved.{visit_unmoved}
use Rattle.cbor_edn_script.specs.EditedItems.{EditedBy, BegunBy, EditsItems, BegunEditsItems, EditedOnce, ItemsEditedOnce, Edited}
use Rattle.cbor_edn_script.specs.Edits.{IsEdited, IsBegun, AreEdited}
use Rattle.cbor_edn_script.specs.declared.script.Edit.{Edit}
use Rattle.cbor_edn_script.specs.declared.script.Edit.TheVariants as edit
use Rattle.cbor_edn_script.proofs.ChangedItems.{put_in, tag_in}
use Rattle.cbor_edn_script.proofs.SameItems.{SameAct, resolve_all_same, pretty_all_same, tag999_same, makes_one}

made_by : (act : Act) (c : SoughtCall) → AnswersBy act c → Made act c.arguments (items c.before) (items c.after)
made_by act c h = (c.before, refl, ap items (sym h.1))

tags_made : (act : Act) (w v : Tree Seq) → IsVisited IsTag act w whole v → VisitedNode IsTagNode (Made act) _ (items w) (items v)
tags_made act w v h = parts_visited IsTag IsTagNode tag_node (AnswersBy act) (Made act) (made_by act) h.2 refl h.1

literals_made : (act : Act) (w v : Tree Seq) → IsVisited IsApplication act w whole v → VisitedNode IsApplicationNode (Made act) _ (items w) (items v)
literals_made act w v h = parts_visited IsApplication IsApplicationNode application_node (AnswersBy act) (Made act) (made_by act) h.2 refl h.1

edited_by : (e : Edit) (w v : Tree Seq) → IsEdited e w v → EditedBy e (items w) (items v)
edited_by (edit.Delimit policy) w v h = ap items h ∙ keeps_items Seq policy w
edited_by edit.Discard w v h = ap items h ∙ without_indicators_is_bare.2 w
edited_by (edit.Replace path item) w v h = ap items h ∙ put_in path.items (item_tree item) w (λ _. items (item_tree item)) (λ y there. refl)
edited_by (edit.TagAt path number) w v h = ap items h ∙ tag_in path.items number w
edited_by (edit.CommentTags c) w v h = visit_unmoved IsTag (commenting (string_bytes c)) (λ a u. refl) Seq w v whole h
edited_by edit.Prettify w v h = tags_made pretty_all w v h
edited_by edit.Resolve w v h = literals_made resolve_all w v h
edited_by edit.To999 w v h = literals_made to_tag999 w v h

begun_by : (e : Edit) (w v : Tree Seq) → IsBegun e w v → BegunBy e (items w) (items v)
begun_by (edit.Delimit policy) w v h = h
begun_by edit.Discard w v h = h
begun_by (edit.Replace path item) w v h = absurd h
begun_by (edit.TagAt path number) w v h = ap items h
begun_by (edit.CommentTags c) w v h = visit_unmoved IsTag (commenting (string_bytes c)) (λ a u. refl) Seq w v cut h
begun_by edit.Prettify w v h = (w, v, refl, refl, h)
begun_by edit.Resolve w v h = (w, v, refl, refl, h)
begun_by edit.To999 w v h = (w, v, refl, refl, h)

pub edits_items : EditsItems
edits_items [] w v h = ap items h
edits_items (e ∷ es) w v h = (items h.0, edited_by e w h.0 h.1, edits_items es h.0 v h.2)

pub begun_edits_items : BegunEditsItems
begun_edits_items [] n w v h = absurd h
begun_edits_items (e ∷ es) zero w v h = begun_by e w v h
begun_edits_items (e ∷ es) (suc n) w v h = (items h.0, edited_by e w h.0 h.1, begun_edits_items es n h.0 v h.2)

-- ---- one result

one_tree : (e : Edit) (w v u : Tree Seq) → IsEdited e w v → IsEdited e w u → v ≡ u
one_tree (edit.Delimit policy) w v u h k = h ∙ sym k
one_tree edit.Discard w v u h k = h ∙ sym k
one_tree (edit.Replace path item) w v u h k = h ∙ sym k
one_tree (edit.TagAt path number) w v u h k = h ∙ sym k
one_tree (edit.CommentTags c) w v u h k = (tags_once (commenting (string_bytes c))).1 w v u h k
one_tree edit.Prettify w v u h k = (tags_once pretty_all).1 w v u h k
one_tree edit.Resolve w v u h k = (literals_once resolve_all).1 w v u h k
one_tree edit.To999 w v u h k = (literals_once to_tag999).1 w v u h k

pub edited_once : EditedOnce
edited_once [] w v u h k = h ∙ sym k
edited_once (e ∷ es) w v u h k =
    let same : h.0 ≡ k.0 = one_tree e w h.0 k.0 h.1 k.1 in
    edited_once es h.0 v u h.2 (subst (λ t. AreEdited es t u) (sym same) k.2)

tags_made_once : (act : Act) → ((a : CallArguments) → SameAct (act a)) → (x y z : Items) → VisitedNode IsTagNode (Made act) _ x y → VisitedNode IsTagNode (Made act) _ x z → y ≡ z
tags_made_once act same x y z h k = visited_once IsTagNode (Made act) tag_node_once (makes_one act same) h z k

literals_made_once : (act : Act) → ((a : CallArguments) → SameAct (act a)) → (x y z : Items) → VisitedNode IsApplicationNode (Made act) _ x y → VisitedNode IsApplicationNode (Made act) _ x z → y ≡ z
literals_made_once act same x y z h k = visited_once IsApplicationNode (Made act) application_node_once (makes_one act same) h z k

one_list : (e : Edit) (x y z : Items) → EditedBy e x y → EditedBy e x z → y ≡ z
one_list (edit.Delimit policy) x y z h k = h ∙ sym k
one_list edit.Discard x y z h k = h ∙ sym k
one_list (edit.Replace path item) x y z h k = h ∙ sym k
one_list (edit.TagAt path number) x y z h k = h ∙ sym k
one_list (edit.CommentTags c) x y z h k = h ∙ sym k
one_list edit.Prettify x y z h k = tags_made_once pretty_all pretty_all_same x y z h k
one_list edit.Resolve x y z h k = literals_made_once resolve_all resolve_all_same x y z h k
one_list edit.To999 x y z h k = literals_made_once to_tag999 tag999_same x y z h k

pub items_edited_once : ItemsEditedOnce
items_edited_once [] x y z h k = h ∙ sym k
items_edited_once (e ∷ es) x y z h k =
    let same : h.0 ≡ k.0 = one_list e x h.0 k.0 h.1 k.1 in
    items_edited_once es h.0 y z h.2 (subst (λ u. Edited es u z) (sym same) k.2)
