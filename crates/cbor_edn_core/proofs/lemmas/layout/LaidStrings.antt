-- The tree of a string or of the strings of a stream whose parts are laid out one after another.
use Rattle.std.proofs.Common.{◌≡◌, [], map, sym, ap, ◌∙◌}
use Rattle.cbor_edn_parts.specs.space.LayoutColumns.{of_parts}
use Rattle.cbor_edn_parts.specs.space.Spacing.{AtEnd}
use Rattle.cbor_edn_core.specs.declared.tree.CborStringOf.{CborStringOf, roll-CborStringOf, out-roll-CborStringOf}
use Rattle.cbor_edn_core.specs.declared.tree.StringsOf.{StringsOf, out-StringsOf, roll-StringsOf}
use Rattle.cbor_edn_model.specs.tree.TreeLeaves.{Ghosts}
use Rattle.cbor_edn_model.specs.tree.Trees.{Tree, OnePiece, StringTree, LastPieceTree, items, text}
use Rattle.cbor_edn_core.specs.tree.View.{seen_piece, seen_string, view_piece, view_string, view_strings}
use Rattle.cbor_edn_model.specs.layout.Layout.{Layout, Last, respaced, in_chunk, laid}
use Rattle.cbor_edn_model.specs.internal.Widths.{measured}
use Rattle.cbor_edn_model.specs.internal.LayoutRows.{laid_entry, entry_items, laid_piece, piece_items}
use Rattle.cbor_edn_core.proofs.lemmas.tree.Views.{view_strings_is, view_strings_made}
use Rattle.cbor_edn_model.proofs.lemmas.layout.LaidTexts.{text_laid_string, text_laid_pieces}
use Rattle.cbor_edn_model.proofs.lemmas.layout.LaidTrees as laying
use Rattle.cbor_edn_model.proofs.lemmas.text.Texts.{text_string, text_last_piece}

-- a string of one piece has no space that a layout gives
pub text_laid_piece : (l : Layout) (p : Tree OnePiece) → text (laid l (StringTree (LastPieceTree p))) ≡ text (StringTree (LastPieceTree p))
text_laid_piece l p =
    text_laid_string l (LastPieceTree p)
    ∙ text_laid_pieces (of_parts l (measured (StringTree (LastPieceTree p)))) [] p
    ∙ sym (text_string (LastPieceTree p) ∙ text_last_piece p)

module _ {S P M O N T D : Type 0} (leaves : Ghosts S P M O N T D) where
  pub string_laid : (l : Layout) (x y : CborStringOf S P M O N T D) (f : _) → y ≡ roll-CborStringOf S P M O N T D f → f.last ≡ x.last
      → map (seen_piece leaves) f.row.items ≡ map (laid_piece l) (map (seen_piece leaves) x.row.items) → view_string leaves y ≡ laid l (view_string leaves x)
  string_laid l x y f is last row =
      ap (view_string leaves) is
      ∙ ap (λ f. view_string leaves (record { row = f.row; last = f.last })) (out-roll-CborStringOf S P M O N T D f)
      ∙ ap (λ p. view_string leaves (record { row = f.row; last = p })) last
      ∙ laying.string_laid l (map (seen_piece leaves) x.row.items) (map (seen_piece leaves) f.row.items) (view_piece leaves x.last) row

  pub string_same : (x y : CborStringOf S P M O N T D) (f : _) → y ≡ roll-CborStringOf S P M O N T D f → f.last ≡ x.last
      → map piece_items (map (seen_piece leaves) f.row.items) ≡ map piece_items (map (seen_piece leaves) x.row.items) → items (view_string leaves y) ≡ items (view_string leaves x)
  string_same x y f is last row =
      ap (λ y. items (view_string leaves y)) is
      ∙ ap (λ f. items (view_string leaves (record { row = f.row; last = f.last }))) (out-roll-CborStringOf S P M O N T D f)
      ∙ ap (λ p. items (view_string leaves (record { row = f.row; last = p }))) last
      ∙ laying.string_same (map (seen_piece leaves) x.row.items) (map (seen_piece leaves) f.row.items) (view_piece leaves x.last) row

  pub strings_laid : (l : Layout) (x y : StringsOf S P M O N T D) (f : _) → y ≡ roll-StringsOf S P M O N T D f
      → map (seen_string leaves) f.row.items ≡ map (laid_entry l) (map (seen_string leaves) (out-StringsOf S P M O N T D x).row.items)
      → view_string leaves f.last ≡ laid (in_chunk l) (view_string leaves (out-StringsOf S P M O N T D x).last)
      → leaves.end f.end ≡ respaced AtEnd Last l (leaves.end (out-StringsOf S P M O N T D x).end)
      → view_strings leaves y ≡ laid l (view_strings leaves x)
  strings_laid l x y f is row last list_end =
      let o = out-StringsOf S P M O N T D x in
      ap (view_strings leaves) is
      ∙ view_strings_made leaves f
      ∙ laying.strings_laid l (map (seen_string leaves) o.row.items) (map (seen_string leaves) f.row.items) (view_string leaves o.last) (view_string leaves f.last) (leaves.end o.end) (leaves.end f.end) row last list_end
      ∙ ap (laid l) (sym (view_strings_is leaves x))

  pub strings_same : (x y : StringsOf S P M O N T D) (f : _) → y ≡ roll-StringsOf S P M O N T D f
      → map entry_items (map (seen_string leaves) f.row.items) ≡ map entry_items (map (seen_string leaves) (out-StringsOf S P M O N T D x).row.items)
      → items (view_string leaves f.last) ≡ items (view_string leaves (out-StringsOf S P M O N T D x).last)
      → items (view_strings leaves y) ≡ items (view_strings leaves x)
  strings_same x y f is row last =
      let o = out-StringsOf S P M O N T D x in
      ap (λ y. items (view_strings leaves y)) is
      ∙ ap items (view_strings_made leaves f)
      ∙ laying.strings_same (map (seen_string leaves) o.row.items) (map (seen_string leaves) f.row.items) (view_string leaves o.last) (view_string leaves f.last) (leaves.end o.end) (leaves.end f.end) row last
      ∙ ap items (sym (view_strings_is leaves x))
