-- A list that is made of borrowed parts is borrowed.
use Rattle.std.proofs.Common.{◌≡◌, List, [], ◌∷◌, ◌++◌, subst, sym, ap, ◌∙◌}
use Rattle.cbor_edn_parts.specs.Leaves.{BorrowsSpace, BorrowsSeparator, BorrowsListEnd}
use Rattle.cbor_edn_parts.specs.declared.space.Space.{Space}
use Rattle.cbor_edn_parts.specs.declared.space.MandatorySpace.{MandatorySpace}
use Rattle.cbor_edn_parts.specs.declared.space.Separator.{Separator}
use Rattle.cbor_edn_parts.specs.declared.space.ListEnd.{ListEnd}
use Rattle.cbor_edn_parts.specs.declared.number.Number.{Number}
use Rattle.cbor_edn_parts.specs.declared.string.Literal.{Literal}
use Rattle.cbor_edn_parts.specs.declared.string.Ellipsis.{Ellipsis}
use Rattle.std.specs.Global.{Box}
use Rattle.cbor_edn_core.specs.declared.tree.InnerItemOf.TheVariants as inner
use Rattle.cbor_edn_core.specs.declared.tree.InnerItemOf.TheBlock.{hidden-the_row-CborStringOf-row-3-0}
use Rattle.cbor_edn_core.specs.declared.tree.ItemsOf.{ItemsOf, ItemsOf', outs-ItemsOf', out-ItemsOf, roll-ItemsOf, out-roll-ItemsOf, Row_of-ItemsOf-row-2, end_of-ItemsOf-row-2, more_of-ItemsOf-row-2, items-the_row-ItemsOf-row-2, items_shown-the_row-ItemsOf-row-2-1}
use Rattle.cbor_edn_core.specs.declared.tree.PairOf.{PairOf}
use Rattle.cbor_edn_core.specs.declared.tree.PairsOf.{PairsOf, PairsOf', outs-PairsOf', out-PairsOf, roll-PairsOf, out-roll-PairsOf, Row_of-PairsOf-row-2, end_of-PairsOf-row-2, more_of-PairsOf-row-2, items-the_row-PairsOf-row-2, items_shown-the_row-PairsOf-row-2-2}
use Rattle.cbor_edn_core.specs.declared.tree.CborStringOf.{CborStringOf, Row_of-CborStringOf-row-3, end_of-CborStringOf-row-3, more_of-CborStringOf-row-3, items-the_row-CborStringOf-row-3, items_shown-the_row-CborStringOf-row-3-0, items_hidden-the_row-CborStringOf-row-3-0}
use Rattle.cbor_edn_core.specs.declared.tree.PieceOf.{PieceOf}
use Rattle.cbor_edn_core.specs.declared.tree.StringsOf.{StringsOf, StringsOf', outs-StringsOf', out-StringsOf, roll-StringsOf, out-roll-StringsOf, Row_of-StringsOf-row-2, end_of-StringsOf-row-2, more_of-StringsOf-row-2, items-the_row-StringsOf-row-2, items_shown-the_row-StringsOf-row-2-3}
use Rattle.cbor_edn_core.specs.tree.Borrowed.{BorrowsInner, BorrowsItem, BorrowsItems, BorrowsRow, BorrowsEach, BorrowsPair, BorrowsPairs, BorrowsPairRow, BorrowsEachPair, BorrowsPiece, BorrowsPieces, BorrowsEachPiece, BorrowsString, BorrowsStrings, BorrowsStringRow, BorrowsEachString}
use Rattle.cbor_edn_core.specs.tree.View.{Item}

borrows_row : {n : _} (row : Row_of-ItemsOf-row-2 Space MandatorySpace Separator ListEnd Number Literal Ellipsis n) → BorrowsEach (items-the_row-ItemsOf-row-2 Space MandatorySpace Separator ListEnd Number Literal Ellipsis n row) → BorrowsRow row
borrows_row end_of-ItemsOf-row-2 h = tt
borrows_row (more_of-ItemsOf-row-2 item separator row) h = (h.0, h.1, borrows_row row h.2)

borrows_out : (x : ItemsOf Space MandatorySpace Separator ListEnd Number Literal Ellipsis) → BorrowsEach (out-ItemsOf Space MandatorySpace Separator ListEnd Number Literal Ellipsis x).row.items → BorrowsItem (out-ItemsOf Space MandatorySpace Separator ListEnd Number Literal Ellipsis x).last → BorrowsListEnd (out-ItemsOf Space MandatorySpace Separator ListEnd Number Literal Ellipsis x).end → BorrowsItems x
borrows_out (ItemsOf' n row last list_end) each one end = (
  borrows_row row (subst BorrowsEach (ap (λ f. f.row.items) (outs-ItemsOf' n row last list_end) ∙ items_shown-the_row-ItemsOf-row-2-1 Space MandatorySpace Separator ListEnd Number Literal Ellipsis n row) each),
  subst BorrowsItem (ap (λ f. f.last) (outs-ItemsOf' n row last list_end)) one,
  subst BorrowsListEnd (ap (λ f. f.end) (outs-ItemsOf' n row last list_end)) end,
)

pub borrows_made : (x : ItemsOf Space MandatorySpace Separator ListEnd Number Literal Ellipsis) (f : _) → x ≡ roll-ItemsOf Space MandatorySpace Separator ListEnd Number Literal Ellipsis f → BorrowsEach f.row.items → BorrowsItem f.last → BorrowsListEnd f.end → BorrowsItems x
borrows_made x f is each one end =
    let e = sym (ap (out-ItemsOf Space MandatorySpace Separator ListEnd Number Literal Ellipsis) is ∙ out-roll-ItemsOf Space MandatorySpace Separator ListEnd Number Literal Ellipsis f) in
    borrows_out x (subst BorrowsEach (ap (λ g. g.row.items) e) each) (subst BorrowsItem (ap (λ g. g.last) e) one) (subst BorrowsListEnd (ap (λ g. g.end) e) end)

pub borrows_push : (ps : List (Item × Separator)) (p : Item × Separator) → BorrowsEach ps → BorrowsItem p.0 → BorrowsSeparator p.1 → BorrowsEach (ps ++ p ∷ [])
borrows_push [] p all item separator = (item, separator, tt)
borrows_push (q ∷ ps) p all item separator = (all.0, all.1, borrows_push ps p all.2 item separator)

-- the same of pairs

borrows_pair_row : {n : _} (row : Row_of-PairsOf-row-2 Space MandatorySpace Separator ListEnd Number Literal Ellipsis n) → BorrowsEachPair (items-the_row-PairsOf-row-2 Space MandatorySpace Separator ListEnd Number Literal Ellipsis n row) → BorrowsPairRow row
borrows_pair_row end_of-PairsOf-row-2 h = tt
borrows_pair_row (more_of-PairsOf-row-2 key before after value separator row) h = (h.0, h.1, borrows_pair_row row h.2)

borrows_pairs_out : (x : PairsOf Space MandatorySpace Separator ListEnd Number Literal Ellipsis) → BorrowsEachPair (out-PairsOf Space MandatorySpace Separator ListEnd Number Literal Ellipsis x).row.items → BorrowsPair (out-PairsOf Space MandatorySpace Separator ListEnd Number Literal Ellipsis x).last → BorrowsListEnd (out-PairsOf Space MandatorySpace Separator ListEnd Number Literal Ellipsis x).end → BorrowsPairs x
borrows_pairs_out (PairsOf' n row key before after value list_end) each one end = (
  borrows_pair_row row (subst BorrowsEachPair (ap (λ f. f.row.items) (outs-PairsOf' n row key before after value list_end) ∙ items_shown-the_row-PairsOf-row-2-2 Space MandatorySpace Separator ListEnd Number Literal Ellipsis n row) each),
  subst BorrowsPair (ap (λ f. f.last) (outs-PairsOf' n row key before after value list_end)) one,
  subst BorrowsListEnd (ap (λ f. f.end) (outs-PairsOf' n row key before after value list_end)) end,
)

pub borrows_pairs_made : (x : PairsOf Space MandatorySpace Separator ListEnd Number Literal Ellipsis) (f : _) → x ≡ roll-PairsOf Space MandatorySpace Separator ListEnd Number Literal Ellipsis f → BorrowsEachPair f.row.items → BorrowsPair f.last → BorrowsListEnd f.end → BorrowsPairs x
borrows_pairs_made x f is each one end =
    let e = sym (ap (out-PairsOf Space MandatorySpace Separator ListEnd Number Literal Ellipsis) is ∙ out-roll-PairsOf Space MandatorySpace Separator ListEnd Number Literal Ellipsis f) in
    borrows_pairs_out x (subst BorrowsEachPair (ap (λ g. g.row.items) e) each) (subst BorrowsPair (ap (λ g. g.last) e) one) (subst BorrowsListEnd (ap (λ g. g.end) e) end)

pub borrows_pair_push : (ps : List (PairOf Space MandatorySpace Separator ListEnd Number Literal Ellipsis × Separator)) (p : PairOf Space MandatorySpace Separator ListEnd Number Literal Ellipsis × Separator) → BorrowsEachPair ps → BorrowsPair p.0 → BorrowsSeparator p.1 → BorrowsEachPair (ps ++ p ∷ [])
borrows_pair_push [] p all pair separator = (pair, separator, tt)
borrows_pair_push (q ∷ ps) p all pair separator = (all.0, all.1, borrows_pair_push ps p all.2 pair separator)

-- strings

borrows_pieces : {n : _} (row : Row_of-CborStringOf-row-3 Space MandatorySpace Separator ListEnd Number Literal Ellipsis n) → BorrowsEachPiece (items-the_row-CborStringOf-row-3 Space MandatorySpace Separator ListEnd Number Literal Ellipsis n row) → BorrowsPieces row
borrows_pieces end_of-CborStringOf-row-3 h = tt
borrows_pieces (more_of-CborStringOf-row-3 p before after row) h = (h.0, borrows_pieces row h.1)

-- a string that is an item
pub borrows_string_made : (b : Box (CborStringOf Space MandatorySpace Separator ListEnd Number Literal Ellipsis)) → BorrowsString b.value → BorrowsInner (inner.String b)
borrows_string_made b h = (borrows_pieces (hidden-the_row-CborStringOf-row-3-0 Space MandatorySpace Separator ListEnd Number Literal Ellipsis b.value.row) (subst BorrowsEachPiece (sym (items_hidden-the_row-CborStringOf-row-3-0 Space MandatorySpace Separator ListEnd Number Literal Ellipsis b.value.row)) h.0), h.1)

pub borrows_piece_push : (ps : List (PieceOf Space MandatorySpace Separator ListEnd Number Literal Ellipsis × Space × Space)) (p : PieceOf Space MandatorySpace Separator ListEnd Number Literal Ellipsis × Space × Space) → BorrowsEachPiece ps → BorrowsPiece p.0 → BorrowsSpace p.1 → BorrowsSpace p.2 → BorrowsEachPiece (ps ++ p ∷ [])
borrows_piece_push [] p all piece before after = ((piece, before, after), tt)
borrows_piece_push (q ∷ ps) p all piece before after = (all.0, borrows_piece_push ps p all.1 piece before after)

borrows_string_row : {n : _} (row : Row_of-StringsOf-row-2 Space MandatorySpace Separator ListEnd Number Literal Ellipsis n) → BorrowsEachString (items-the_row-StringsOf-row-2 Space MandatorySpace Separator ListEnd Number Literal Ellipsis n row) → BorrowsStringRow row
borrows_string_row end_of-StringsOf-row-2 h = tt
borrows_string_row (more_of-StringsOf-row-2 n pieces last separator row) h = (
  (borrows_pieces pieces (subst BorrowsEachPiece (items_shown-the_row-CborStringOf-row-3-0 Space MandatorySpace Separator ListEnd Number Literal Ellipsis n pieces) h.0.0), h.0.1),
  h.1,
  borrows_string_row row h.2,
)

borrows_strings_out : (x : StringsOf Space MandatorySpace Separator ListEnd Number Literal Ellipsis) → BorrowsEachString (out-StringsOf Space MandatorySpace Separator ListEnd Number Literal Ellipsis x).row.items → BorrowsString (out-StringsOf Space MandatorySpace Separator ListEnd Number Literal Ellipsis x).last → BorrowsListEnd (out-StringsOf Space MandatorySpace Separator ListEnd Number Literal Ellipsis x).end → BorrowsStrings x
borrows_strings_out (StringsOf' n row m pieces last list_end) each one end =
    let e = outs-StringsOf' n row m pieces last list_end in
    let string = subst BorrowsString (ap (λ f. f.last) e) one in (
      borrows_string_row row (subst BorrowsEachString (ap (λ f. f.row.items) e ∙ items_shown-the_row-StringsOf-row-2-3 Space MandatorySpace Separator ListEnd Number Literal Ellipsis n row) each),
      (borrows_pieces pieces (subst BorrowsEachPiece (items_shown-the_row-CborStringOf-row-3-0 Space MandatorySpace Separator ListEnd Number Literal Ellipsis m pieces) string.0), string.1),
      subst BorrowsListEnd (ap (λ f. f.end) e) end,
    )

pub borrows_strings_made : (x : StringsOf Space MandatorySpace Separator ListEnd Number Literal Ellipsis) (f : _) → x ≡ roll-StringsOf Space MandatorySpace Separator ListEnd Number Literal Ellipsis f → BorrowsEachString f.row.items → BorrowsString f.last → BorrowsListEnd f.end → BorrowsStrings x
borrows_strings_made x f is each one end =
    let e = sym (ap (out-StringsOf Space MandatorySpace Separator ListEnd Number Literal Ellipsis) is ∙ out-roll-StringsOf Space MandatorySpace Separator ListEnd Number Literal Ellipsis f) in
    borrows_strings_out x (subst BorrowsEachString (ap (λ g. g.row.items) e) each) (subst BorrowsString (ap (λ g. g.last) e) one) (subst BorrowsListEnd (ap (λ g. g.end) e) end)

pub borrows_string_push : (ps : List (CborStringOf Space MandatorySpace Separator ListEnd Number Literal Ellipsis × Separator)) (p : CborStringOf Space MandatorySpace Separator ListEnd Number Literal Ellipsis × Separator) → BorrowsEachString ps → BorrowsString p.0 → BorrowsSeparator p.1 → BorrowsEachString (ps ++ p ∷ [])
borrows_string_push [] p all string separator = (string, separator, tt)
borrows_string_push (q ∷ ps) p all string separator = (all.0, all.1, borrows_string_push ps p all.2 string separator)
