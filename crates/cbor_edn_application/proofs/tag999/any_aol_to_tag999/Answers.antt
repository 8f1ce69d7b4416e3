use Rattle.std.proofs.Common.{ℕ, List, true, false, ◌≡◌, ◌∙◌, refl, sym, ap}
use Rattle.std.specs.String.{string_bytes}
use Rattle.cbor_edn_core.specs.tree.View.{item_tree}
use Rattle.cbor_edn_model.specs.visit.Seeking.{prefix_and_text}
use Rattle.cbor_edn_model.specs.tree.Trees.{Tree, OneItem}
use Rattle.cbor_edn_model.specs.visit.Visits.{fine}
use Rattle.cbor_edn_conversions.specs.Tag999.{to_tag999, tag999_tree, is_built_in}
use Rattle.cbor_edn_application.proofs.tag999.any_aol_to_tag999.Goals as goal

stays : (p t : List ℕ) (w : Tree OneItem) → is_built_in p ≡ true → (fine ≡ (to_tag999 (prefix_and_text p t) w).0) × (w ≡ (to_tag999 (prefix_and_text p t) w).1)
unfolding to_tag999
stays p t w is = rw is (refl, refl)

becomes : (p t : List ℕ) (w v : Tree OneItem) → is_built_in p ≡ false → v ≡ tag999_tree p t → (fine ≡ (to_tag999 (prefix_and_text p t) w).0) × (v ≡ (to_tag999 (prefix_and_text p t) w).1)
unfolding to_tag999
becomes p t w v is left = rw is (refl, left)

pub returns-then-is_built_in : goal.returns-then-is_built_in
returns-then-is_built_in c =
    stays (string_bytes c.args.prefix) (string_bytes c.args.text) (item_tree c.args.item.now) (sym (ap is_built_in c.as_str.ensures.value) ∙ (sym c.is_built_in.ensures ∙ c.if-is_built_in.true))

pub returns : goal.returns
returns c =
    becomes (string_bytes c.args.prefix) (string_bytes c.args.text) (item_tree c.args.item.now) _ (sym (ap is_built_in c.as_str.ensures.value) ∙ (sym c.is_built_in.ensures ∙ c.if-is_built_in.false))
    (c.in_ok-item.ensures ∙ (ap (λ p. tag999_tree p c.as_str-3.result.now) c.as_str-2.ensures.value ∙ ap (λ t. tag999_tree (string_bytes c.args.prefix) t) c.as_str-3.ensures.value))
