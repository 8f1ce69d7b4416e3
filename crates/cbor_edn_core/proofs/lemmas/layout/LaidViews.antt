-- The tree of a list whose parts are laid out one after another.
use Rattle.std.proofs.Common.{◌≡◌, map, sym, ap, ◌∙◌}
use Rattle.cbor_edn_parts.specs.space.Spacing.{AtEnd}
use Rattle.cbor_edn_core.specs.declared.tree.ItemsOf.{ItemsOf, out-ItemsOf, roll-ItemsOf}
use Rattle.cbor_edn_core.specs.declared.tree.PairsOf.{PairsOf, out-PairsOf, roll-PairsOf}
use Rattle.cbor_edn_model.specs.tree.TreeLeaves.{Ghosts}
use Rattle.cbor_edn_model.specs.tree.Items.{End, Then, Element}
use Rattle.cbor_edn_model.specs.tree.Trees.{ElementTree, LastTree, items}
use Rattle.cbor_edn_core.specs.tree.View.{seen, seen_pair, view_item, view_items, view_pair, view_pairs}
use Rattle.cbor_edn_model.specs.tree.Rows.{entries_onto}
use Rattle.cbor_edn_model.specs.layout.Layout.{Layout, Last, respaced, laid}
use Rattle.cbor_edn_model.specs.internal.LayoutRows.{laid_entry, entry_items}
use Rattle.cbor_edn_core.proofs.lemmas.tree.Views.{view_items_is, view_items_made, view_pairs_is, view_pairs_made}
use Rattle.cbor_edn_model.proofs.lemmas.layout.LaidRows.{laid_entries, same_entries}

module _ {S P M O N T D : Type 0} (leaves : Ghosts S P M O N T D) where
  pub items_laid : (l : Layout) (x y : ItemsOf S P M O N T D) (f : _) → y ≡ roll-ItemsOf S P M O N T D f
      → map (seen leaves) f.row.items ≡ map (laid_entry l) (map (seen leaves) (out-ItemsOf S P M O N T D x).row.items)
      → view_item leaves f.last ≡ laid l (view_item leaves (out-ItemsOf S P M O N T D x).last)
      → leaves.end f.end ≡ respaced AtEnd Last l (leaves.end (out-ItemsOf S P M O N T D x).end)
      → view_items leaves y ≡ laid l (view_items leaves x)
  unfolding laid
  items_laid l x y f is row last list_end =
      ap (view_items leaves) is
      ∙ view_items_made leaves f
      ∙ (λ i. entries_onto (row i) (LastTree (ElementTree (last i)) (list_end i)))
      ∙ sym (laid_entries l (map (seen leaves) (out-ItemsOf S P M O N T D x).row.items) _)
      ∙ ap (laid l) (sym (view_items_is leaves x))

  pub items_same : (x y : ItemsOf S P M O N T D) (f : _) → y ≡ roll-ItemsOf S P M O N T D f
      → map entry_items (map (seen leaves) f.row.items) ≡ map entry_items (map (seen leaves) (out-ItemsOf S P M O N T D x).row.items)
      → items (view_item leaves f.last) ≡ items (view_item leaves (out-ItemsOf S P M O N T D x).last)
      → items (view_items leaves y) ≡ items (view_items leaves x)
  unfolding items
  items_same x y f is row last =
      ap (λ y. items (view_items leaves y)) is
      ∙ ap items (view_items_made leaves f)
      ∙ same_entries (map (seen leaves) f.row.items) (map (seen leaves) (out-ItemsOf S P M O N T D x).row.items) _ _ row (ap (λ e. Then (Element e) End) last)
      ∙ ap items (sym (view_items_is leaves x))

  pub pairs_laid : (l : Layout) (x y : PairsOf S P M O N T D) (f : _) → y ≡ roll-PairsOf S P M O N T D f
      → map (seen_pair leaves) f.row.items ≡ map (laid_entry l) (map (seen_pair leaves) (out-PairsOf S P M O N T D x).row.items)
      → view_pair leaves f.last ≡ laid l (view_pair leaves (out-PairsOf S P M O N T D x).last)
      → leaves.end f.end ≡ respaced AtEnd Last l (leaves.end (out-PairsOf S P M O N T D x).end)
      → view_pairs leaves y ≡ laid l (view_pairs leaves x)
  unfolding laid
  pairs_laid l x y f is row last list_end =
      ap (view_pairs leaves) is
      ∙ view_pairs_made leaves f
      ∙ (λ i. entries_onto (row i) (LastTree (last i) (list_end i)))
      ∙ sym (laid_entries l (map (seen_pair leaves) (out-PairsOf S P M O N T D x).row.items) _)
      ∙ ap (laid l) (sym (view_pairs_is leaves x))

  pub pairs_same : (x y : PairsOf S P M O N T D) (f : _) → y ≡ roll-PairsOf S P M O N T D f
      → map entry_items (map (seen_pair leaves) f.row.items) ≡ map entry_items (map (seen_pair leaves) (out-PairsOf S P M O N T D x).row.items)
      → items (view_pair leaves f.last) ≡ items (view_pair leaves (out-PairsOf S P M O N T D x).last)
      → items (view_pairs leaves y) ≡ items (view_pairs leaves x)
  unfolding items
  pairs_same x y f is row last =
      ap (λ y. items (view_pairs leaves y)) is
      ∙ ap items (view_pairs_made leaves f)
      ∙ same_entries (map (seen_pair leaves) f.row.items) (map (seen_pair leaves) (out-PairsOf S P M O N T D x).row.items) _ _ row (ap (λ e. Then e End) last)
      ∙ ap items (sym (view_pairs_is leaves x))
