-- Decoded items mean their value after any policies.
use Rattle.std.proofs.Common.{◌≡◌, List, [], ◌∷◌, refl, ap, ◌∙◌, subst}
use Rattle.cbor_edn_parts.specs.declared.space.policy.DelimiterPolicy.{DelimiterPolicy}
use Rattle.cbor_edn_parts.specs.space.Space.{empty}
use Rattle.cbor_edn_model.specs.text.Spelling.{SpellsOne, SpellsSequence}
use Rattle.cbor_edn_model.specs.tree.Trees.{Rule, OneItem, Tree, Valid, onto, items, text}
use Rattle.cbor_edn_model.specs.cbor.Meaning.{means}
use Rattle.cbor_edn_model.specs.cbor.Decoded.{item_of, items_of, alone}
use Rattle.cbor_edn_model.specs.layout.Layout.{laid_out}
use Rattle.cbor_edn_model.specs.layout.LayoutLaws.{after_policies, MeansTheSame}
use Rattle.cbor_edn_model.proofs.lemmas.cbor.Decoding.{item_means, items_mean}
use Rattle.cbor_edn_model.proofs.lemmas.text.GrammarLaws.{unique_items, spelled_by_trees}
use Rattle.cbor_edn_model.proofs.lemmas.layout.Layouts.{keeps_items, stays_valid}

after_items : {s : Rule} (policies : List DelimiterPolicy) (w : Tree s) → items (after_policies policies w) ≡ items w
after_items [] w = refl
after_items {s} (policy ∷ policies) w = after_items policies (laid_out policy w) ∙ keeps_items s policy w

after_valid : {s : Rule} (policies : List DelimiterPolicy) (w : Tree s) → Valid w → Valid (after_policies policies w)
after_valid [] w v = v
after_valid {s} (policy ∷ policies) w v = after_valid policies (laid_out policy w) (stays_valid s policy w v)

-- The text of an item is one of the item with no space round it.
spelled_alone : (w : Tree OneItem) → Valid w → SpellsOne (items w) (text w)
unfolding Valid onto items
spelled_alone w v = spelled_by_trees.3 (alone w) (empty, v, empty)

pub means_the_same : MeansTheSame
means_the_same = (
  λ policies v w x fit valid e spelled.
      let t = text (after_policies policies w) in
      let s : SpellsOne (item_of v) t = subst (λ x. SpellsOne x t) (after_items policies w ∙ e) (spelled_by_trees.3 (after_policies policies w) (after_valid policies w valid)) in
      ap means (unique_items.1 x (item_of v) t spelled s) ∙ item_means v fit,
  λ policies vs w x fit valid e spelled.
      let t = text (after_policies policies w) in
      let s : SpellsSequence (items_of vs) t = subst (λ x. SpellsSequence x t) (after_items policies w ∙ e) (spelled_by_trees.2 (after_policies policies w) (after_valid policies w valid)) in
      ap means (unique_items.0 x (items_of vs) t spelled s) ∙ items_mean vs fit,
  λ policies v w x fit valid e spelled.
      let t = text (after_policies policies w) in
      let s : SpellsOne (item_of v) t = subst (λ x. SpellsOne x t) (after_items policies w ∙ e) (spelled_alone (after_policies policies w) (after_valid policies w valid)) in
      ap means (unique_items.1 x (item_of v) t spelled s) ∙ item_means v fit,
)
