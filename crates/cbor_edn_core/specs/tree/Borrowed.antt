-- Every text of a tree is borrowed, so none was copied.
use Rattle.std.specs.Prelude.{List, [], ◌∷◌, Option, Some, None}
use Rattle.cbor_edn_parts.specs.Leaves.{BorrowsSpace, BorrowsMandatory, BorrowsSeparator, BorrowsListEnd, BorrowsNumber, BorrowsLiteral, BorrowsEllipsis}
use Rattle.cbor_edn_parts.specs.declared.space.Space.{Space}
use Rattle.cbor_edn_parts.specs.declared.space.MandatorySpace.{MandatorySpace}
use Rattle.cbor_edn_parts.specs.declared.space.Separator.{Separator}
use Rattle.cbor_edn_parts.specs.declared.space.ListEnd.{ListEnd}
use Rattle.cbor_edn_parts.specs.declared.number.Number.{Number}
use Rattle.cbor_edn_parts.specs.declared.string.Literal.{Literal}
use Rattle.cbor_edn_parts.specs.declared.string.Ellipsis.{Ellipsis}
use Rattle.cbor_edn_core.specs.declared.tree.InnerItemOf.{InnerItemOf}
use Rattle.cbor_edn_core.specs.declared.tree.InnerItemOf.TheVariants as inner
use Rattle.cbor_edn_core.specs.declared.tree.ItemListOf.{ItemListOf}
use Rattle.cbor_edn_core.specs.declared.tree.ItemListOf.TheVariants as item_list
use Rattle.cbor_edn_core.specs.declared.tree.ItemsOf.{ItemsOf, ItemsOf', Row_of-ItemsOf-row-2, end_of-ItemsOf-row-2, more_of-ItemsOf-row-2}
use Rattle.cbor_edn_core.specs.declared.tree.PairOf.{PairOf}
use Rattle.cbor_edn_core.specs.declared.tree.PairListOf.{PairListOf}
use Rattle.cbor_edn_core.specs.declared.tree.PairListOf.TheVariants as pair_list
use Rattle.cbor_edn_core.specs.declared.tree.PairsOf.{PairsOf, PairsOf', Row_of-PairsOf-row-2, end_of-PairsOf-row-2, more_of-PairsOf-row-2}
use Rattle.cbor_edn_core.specs.declared.tree.CborStringOf.{CborStringOf, Row_of-CborStringOf-row-3, end_of-CborStringOf-row-3, more_of-CborStringOf-row-3}
use Rattle.cbor_edn_core.specs.declared.tree.PieceOf.{PieceOf}
use Rattle.cbor_edn_core.specs.declared.tree.PieceOf.TheVariants as piece
use Rattle.cbor_edn_core.specs.declared.tree.StreamOf.{StreamOf, StreamOf'}
use Rattle.cbor_edn_core.specs.declared.tree.StringsOf.{StringsOf, StringsOf', Row_of-StringsOf-row-2, end_of-StringsOf-row-2, more_of-StringsOf-row-2}
use Rattle.cbor_edn_core.specs.declared.tree.SequenceOf.{SequenceOf, SequenceOf', Held-SequenceOf-items}
use Rattle.cbor_edn_core.specs.declared.tree.SequenceOf as sequence
use Rattle.cbor_edn_model.specs.text.ListHeads.{BorrowsListHead}
use Rattle.cbor_edn_core.specs.tree.View.{Item, StandaloneItem}

abbrev mutual
  pub BorrowsInner : InnerItemOf Space MandatorySpace Separator ListEnd Number Literal Ellipsis → Type 0
  BorrowsInner (inner.Number i n) = BorrowsNumber n
  BorrowsInner (inner.NonFinite i f) = Unit {0}
  BorrowsInner (inner.Named b) = Unit {0}
  BorrowsInner (inner.Enclosed' opener p before item after) = BorrowsSpace before × BorrowsInner item × BorrowsSpace after
  BorrowsInner (inner.Array' p list) = BorrowsList list
  BorrowsInner (inner.Map' p list) = BorrowsPairList list
  BorrowsInner (inner.Literal i literal) = BorrowsLiteral literal
  BorrowsInner (inner.String' p n row last) = BorrowsPieces row × BorrowsPiece last
  BorrowsInner (inner.Stream' p stream) = BorrowsStream stream

  pub BorrowsPieces : {n : _} → Row_of-CborStringOf-row-3 Space MandatorySpace Separator ListEnd Number Literal Ellipsis n → Type 0
  BorrowsPieces end_of-CborStringOf-row-3 = Unit {0}
  BorrowsPieces (more_of-CborStringOf-row-3 p before after row) = (BorrowsPiece p × BorrowsSpace before × BorrowsSpace after) × BorrowsPieces row

  pub BorrowsPiece : PieceOf Space MandatorySpace Separator ListEnd Number Literal Ellipsis → Type 0
  BorrowsPiece (piece.Literal i literal) = BorrowsLiteral literal
  BorrowsPiece (piece.Ellipsis ellipsis) = BorrowsEllipsis ellipsis
  BorrowsPiece (piece.Embedded' i p sequence) = BorrowsSequence sequence

  pub BorrowsSequence : SequenceOf Space MandatorySpace Separator ListEnd Number Literal Ellipsis → Type 0
  BorrowsSequence (SequenceOf' before items) = BorrowsSpace before × BorrowsHeld items

  pub BorrowsHeld : Held-SequenceOf-items Space MandatorySpace Separator ListEnd Number Literal Ellipsis → Type 0
  BorrowsHeld sequence.None' = Unit {0}
  BorrowsHeld (sequence.Some' items) = BorrowsItems items

  pub BorrowsStream : StreamOf Space MandatorySpace Separator ListEnd Number Literal Ellipsis → Type 0
  BorrowsStream (StreamOf' ms strings) = BorrowsMandatory ms × BorrowsStrings strings

  pub BorrowsStrings : StringsOf Space MandatorySpace Separator ListEnd Number Literal Ellipsis → Type 0
  BorrowsStrings (StringsOf' n row m pieces last list_end) = BorrowsStringRow row × (BorrowsPieces pieces × BorrowsPiece last) × BorrowsListEnd list_end

  pub BorrowsStringRow : {n : _} → Row_of-StringsOf-row-2 Space MandatorySpace Separator ListEnd Number Literal Ellipsis n → Type 0
  BorrowsStringRow end_of-StringsOf-row-2 = Unit {0}
  BorrowsStringRow (more_of-StringsOf-row-2 m pieces last separator row) = (BorrowsPieces pieces × BorrowsPiece last) × BorrowsSeparator separator × BorrowsStringRow row

  pub BorrowsList : ItemListOf Space MandatorySpace Separator ListEnd Number Literal Ellipsis → Type 0
  BorrowsList (item_list.Present head s items) = BorrowsListHead head × BorrowsSpace s × BorrowsItems items
  BorrowsList (item_list.Absent i s) = BorrowsSpace s

  pub BorrowsItems : ItemsOf Space MandatorySpace Separator ListEnd Number Literal Ellipsis → Type 0
  BorrowsItems (ItemsOf' n row last list_end) = BorrowsRow row × BorrowsInner last × BorrowsListEnd list_end

  pub BorrowsRow : {n : _} → Row_of-ItemsOf-row-2 Space MandatorySpace Separator ListEnd Number Literal Ellipsis n → Type 0
  BorrowsRow end_of-ItemsOf-row-2 = Unit {0}
  BorrowsRow (more_of-ItemsOf-row-2 item separator row) = BorrowsInner item × BorrowsSeparator separator × BorrowsRow row

  pub BorrowsPairList : PairListOf Space MandatorySpace Separator ListEnd Number Literal Ellipsis → Type 0
  BorrowsPairList (pair_list.Present head s pairs) = BorrowsListHead head × BorrowsSpace s × BorrowsPairs pairs
  BorrowsPairList (pair_list.Absent i s) = BorrowsSpace s

  pub BorrowsPairs : PairsOf Space MandatorySpace Separator ListEnd Number Literal Ellipsis → Type 0
  BorrowsPairs (PairsOf' n row key before after value list_end) = BorrowsPairRow row × (BorrowsInner key × BorrowsSpace before × BorrowsSpace after × BorrowsInner value) × BorrowsListEnd list_end

  pub BorrowsPairRow : {n : _} → Row_of-PairsOf-row-2 Space MandatorySpace Separator ListEnd Number Literal Ellipsis n → Type 0
  BorrowsPairRow end_of-PairsOf-row-2 = Unit {0}
  BorrowsPairRow (more_of-PairsOf-row-2 key before after value separator row) = (BorrowsInner key × BorrowsSpace before × BorrowsSpace after × BorrowsInner value) × BorrowsSeparator separator × BorrowsPairRow row

abbrev pub BorrowsItem : Item → Type 0
BorrowsItem i = BorrowsInner i.inner

abbrev pub BorrowsPair : PairOf Space MandatorySpace Separator ListEnd Number Literal Ellipsis → Type 0
BorrowsPair p = BorrowsItem p.key × BorrowsSpace p.before_colon × BorrowsSpace p.after_colon × BorrowsItem p.value

-- items, each with the separator behind it
abbrev pub BorrowsEach : List (Item × Separator) → Type 0
BorrowsEach [] = Unit {0}
BorrowsEach (p ∷ ps) = BorrowsItem p.0 × BorrowsSeparator p.1 × BorrowsEach ps

-- the same of pairs
abbrev pub BorrowsEachPair : List (PairOf Space MandatorySpace Separator ListEnd Number Literal Ellipsis × Separator) → Type 0
BorrowsEachPair [] = Unit {0}
BorrowsEachPair (p ∷ ps) = BorrowsPair p.0 × BorrowsSeparator p.1 × BorrowsEachPair ps

abbrev pub BorrowsStandalone : StandaloneItem → Type 0
BorrowsStandalone s = BorrowsSpace s.before × BorrowsItem s.item × BorrowsSpace s.after

-- pieces, each with the spaces round the plus sign behind it
abbrev pub BorrowsEachPiece : List (PieceOf Space MandatorySpace Separator ListEnd Number Literal Ellipsis × Space × Space) → Type 0
BorrowsEachPiece [] = Unit {0}
BorrowsEachPiece (p ∷ ps) = (BorrowsPiece p.0 × BorrowsSpace p.1 × BorrowsSpace p.2) × BorrowsEachPiece ps

abbrev pub BorrowsString : CborStringOf Space MandatorySpace Separator ListEnd Number Literal Ellipsis → Type 0
BorrowsString x = BorrowsEachPiece x.row.items × BorrowsPiece x.last

-- strings of a stream, each with the separator behind it
abbrev pub BorrowsEachString : List (CborStringOf Space MandatorySpace Separator ListEnd Number Literal Ellipsis × Separator) → Type 0
BorrowsEachString [] = Unit {0}
BorrowsEachString (p ∷ ps) = BorrowsString p.0 × BorrowsSeparator p.1 × BorrowsEachString ps

-- the items of a sequence
abbrev pub BorrowsSome : Option (ItemsOf Space MandatorySpace Separator ListEnd Number Literal Ellipsis) → Type 0
BorrowsSome None = Unit {0}
BorrowsSome (Some items) = BorrowsItems items
