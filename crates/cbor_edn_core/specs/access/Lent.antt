-- What a tree ends as, once the loan of a part is over.
use Rattle.std.specs.Prelude.{◌≡◌, ℕ, List, Option, Result}
use Rattle.std.specs.Option.{OnSome}
use Rattle.std.specs.Borrow.{Lends, LendsSo, LendsSoOk, MutBor, Fml, RattleType}
use Rattle.cbor_edn_model.specs.tree.TreeLeaves.{Ghosts}
use Rattle.cbor_edn_model.specs.tree.Trees.{Rule, Tree, OneItem, Standalone, EnclosedTree}
use Rattle.cbor_edn_core.specs.tree.View.{view_item, view_inner, view_items, view_list, view_pairs, view_pair_list, view_piece, view_string, view_strings, view_stream, view_sequence, view_standalone}
use Rattle.cbor_edn_model.specs.access.Paths.{with_item, with_at, with_at_standalone, with_at_sequence}
use Rattle.cbor_edn_core.specs.contracts.tree.ItemOf as item
use Rattle.cbor_edn_core.specs.contracts.tree.InnerItemOf as inner
use Rattle.cbor_edn_core.specs.contracts.tree.StandaloneItemOf as standalone
use Rattle.cbor_edn_core.specs.contracts.tree.ItemsOf as items
use Rattle.cbor_edn_core.specs.declared.tree.ItemsOf.{ItemsOf}
use Rattle.cbor_edn_core.specs.contracts.tree.PairsOf as pairs
use Rattle.cbor_edn_core.specs.declared.tree.PairsOf.{PairsOf}
use Rattle.cbor_edn_core.specs.contracts.tree.ItemListOf as item_list
use Rattle.cbor_edn_core.specs.declared.tree.ItemListOf.{ItemListOf}
use Rattle.cbor_edn_core.specs.contracts.tree.PairListOf as pair_list
use Rattle.cbor_edn_core.specs.declared.tree.PairListOf.{PairListOf}
use Rattle.cbor_edn_core.specs.contracts.tree.SequenceOf as sequence
use Rattle.cbor_edn_core.specs.declared.tree.SequenceOf.{SequenceOf}
use Rattle.cbor_edn_core.specs.contracts.tree.PieceOf as piece
use Rattle.cbor_edn_core.specs.declared.tree.PieceOf.{PieceOf}
use Rattle.cbor_edn_core.specs.contracts.tree.CborStringOf as cbor_string
use Rattle.cbor_edn_core.specs.declared.tree.CborStringOf.{CborStringOf}
use Rattle.cbor_edn_core.specs.contracts.tree.StringsOf as strings
use Rattle.cbor_edn_core.specs.declared.tree.StringsOf.{StringsOf}
use Rattle.cbor_edn_core.specs.contracts.tree.StreamOf as stream
use Rattle.cbor_edn_core.specs.declared.tree.StreamOf.{StreamOf}
use Rattle.cbor_edn_core.specs.declared.access.TypeMismatch.{TypeMismatch}
use Rattle.cbor_edn_core.specs.declared.tree.ItemOf.{ItemOf}
use Rattle.cbor_edn_core.specs.declared.tree.InnerItemOf.{InnerItemOf}
use Rattle.cbor_edn_core.specs.declared.tree.StandaloneItemOf.{StandaloneItemOf}
use Rattle.cbor_edn_model.specs.declared.text.opener.OpenerKind.TheVariants as opener

-- a tag with another content: `1(3 )` of `3 ` and `1( 2 )`; what is no tag stays
abbrev pub with_tag_content : Tree Standalone → Tree OneItem → Tree OneItem
with_tag_content c (EnclosedTree (opener.Tag i n) w) = EnclosedTree (opener.Tag i n) c
with_tag_content c w = w

module _ (O M C E N L D : RattleType) where
  -- the item ends as the tag from before with its content as the loan left it, and unchanged where nothing was lent
  abbrev pub LendsTagged : MutBor (ItemOf O.Denot M.Denot C.Denot E.Denot N.Denot L.Denot D.Denot) → Result (MutBor (StandaloneItemOf O.Denot M.Denot C.Denot E.Denot N.Denot L.Denot D.Denot)) TypeMismatch → Fml
  LendsTagged s r = LendsSoOk (item.the_row O M C E N L D) (standalone.the_row O M C E N L D) s r
      (λ n w. (leaves : Ghosts O.Denot M.Denot C.Denot E.Denot N.Denot L.Denot D.Denot) → view_item leaves n ≡ with_tag_content (view_standalone leaves w) (view_item leaves s.now))
      (λ n. n ≡ s.now)

  -- the same of the item's form
  abbrev pub LendsTaggedInner : MutBor (InnerItemOf O.Denot M.Denot C.Denot E.Denot N.Denot L.Denot D.Denot) → Result (MutBor (StandaloneItemOf O.Denot M.Denot C.Denot E.Denot N.Denot L.Denot D.Denot)) TypeMismatch → Fml
  LendsTaggedInner s r = LendsSoOk (inner.the_row O M C E N L D) (standalone.the_row O M C E N L D) s r
      (λ n w. (leaves : Ghosts O.Denot M.Denot C.Denot E.Denot N.Denot L.Denot D.Denot) → view_inner leaves n ≡ with_tag_content (view_standalone leaves w) (view_inner leaves s.now))
      (λ n. n ≡ s.now)

module _ (O M C E N L D : RattleType) {s : Rule} (R : RattleType) (view : Ghosts O.Denot M.Denot C.Denot E.Denot N.Denot L.Denot D.Denot → R.Denot → Tree s) where
  -- A part of a tree ends with the item at i in it as the loan left it, and unchanged where there is none.
  abbrev pub LendsItem : MutBor R.Denot → ℕ → Option (MutBor (ItemOf O.Denot M.Denot C.Denot E.Denot N.Denot L.Denot D.Denot)) → Fml
  LendsItem x i r = LendsSo R (item.the_row O M C E N L D) x r
      (λ n w. OnSome r ((leaves : Ghosts O.Denot M.Denot C.Denot E.Denot N.Denot L.Denot D.Denot) → view leaves n ≡ with_item i (view_item leaves w) (view leaves x.now)))
      (λ n. (leaves : Ghosts O.Denot M.Denot C.Denot E.Denot N.Denot L.Denot D.Denot) → view leaves n ≡ view leaves x.now)

module _ (O M C E N L D : RattleType) where
  -- an item ends with the form that the loan left
  abbrev pub LendsInner : MutBor (ItemOf O.Denot M.Denot C.Denot E.Denot N.Denot L.Denot D.Denot) → MutBor (InnerItemOf O.Denot M.Denot C.Denot E.Denot N.Denot L.Denot D.Denot) → Fml
  LendsInner x r = Lends (item.the_row O M C E N L D) (inner.the_row O M C E N L D) x r (λ w. record { inner = w })

  abbrev pub LendsOfItems : MutBor (ItemsOf O.Denot M.Denot C.Denot E.Denot N.Denot L.Denot D.Denot) → ℕ → Option (MutBor (ItemOf O.Denot M.Denot C.Denot E.Denot N.Denot L.Denot D.Denot)) → Fml
  LendsOfItems = LendsItem O M C E N L D (items.the_row O M C E N L D) (λ leaves x. view_items leaves x)

  abbrev pub LendsOfPairs : MutBor (PairsOf O.Denot M.Denot C.Denot E.Denot N.Denot L.Denot D.Denot) → ℕ → Option (MutBor (ItemOf O.Denot M.Denot C.Denot E.Denot N.Denot L.Denot D.Denot)) → Fml
  LendsOfPairs = LendsItem O M C E N L D (pairs.the_row O M C E N L D) (λ leaves x. view_pairs leaves x)

  abbrev pub LendsOfList : MutBor (ItemListOf O.Denot M.Denot C.Denot E.Denot N.Denot L.Denot D.Denot) → ℕ → Option (MutBor (ItemOf O.Denot M.Denot C.Denot E.Denot N.Denot L.Denot D.Denot)) → Fml
  LendsOfList = LendsItem O M C E N L D (item_list.the_row O M C E N L D) (λ leaves x. view_list leaves x)

  abbrev pub LendsOfPairList : MutBor (PairListOf O.Denot M.Denot C.Denot E.Denot N.Denot L.Denot D.Denot) → ℕ → Option (MutBor (ItemOf O.Denot M.Denot C.Denot E.Denot N.Denot L.Denot D.Denot)) → Fml
  LendsOfPairList = LendsItem O M C E N L D (pair_list.the_row O M C E N L D) (λ leaves x. view_pair_list leaves x)

  abbrev pub LendsOfSequence : MutBor (SequenceOf O.Denot M.Denot C.Denot E.Denot N.Denot L.Denot D.Denot) → ℕ → Option (MutBor (ItemOf O.Denot M.Denot C.Denot E.Denot N.Denot L.Denot D.Denot)) → Fml
  LendsOfSequence = LendsItem O M C E N L D (sequence.the_row O M C E N L D) (λ leaves x. view_sequence leaves x)

  abbrev pub LendsOfPiece : MutBor (PieceOf O.Denot M.Denot C.Denot E.Denot N.Denot L.Denot D.Denot) → ℕ → Option (MutBor (ItemOf O.Denot M.Denot C.Denot E.Denot N.Denot L.Denot D.Denot)) → Fml
  LendsOfPiece = LendsItem O M C E N L D (piece.the_row O M C E N L D) (λ leaves x. view_piece leaves x)

  abbrev pub LendsOfString : MutBor (CborStringOf O.Denot M.Denot C.Denot E.Denot N.Denot L.Denot D.Denot) → ℕ → Option (MutBor (ItemOf O.Denot M.Denot C.Denot E.Denot N.Denot L.Denot D.Denot)) → Fml
  LendsOfString = LendsItem O M C E N L D (cbor_string.the_row O M C E N L D) (λ leaves x. view_string leaves x)

  abbrev pub LendsOfStrings : MutBor (StringsOf O.Denot M.Denot C.Denot E.Denot N.Denot L.Denot D.Denot) → ℕ → Option (MutBor (ItemOf O.Denot M.Denot C.Denot E.Denot N.Denot L.Denot D.Denot)) → Fml
  LendsOfStrings = LendsItem O M C E N L D (strings.the_row O M C E N L D) (λ leaves x. view_strings leaves x)

  abbrev pub LendsOfStream : MutBor (StreamOf O.Denot M.Denot C.Denot E.Denot N.Denot L.Denot D.Denot) → ℕ → Option (MutBor (ItemOf O.Denot M.Denot C.Denot E.Denot N.Denot L.Denot D.Denot)) → Fml
  LendsOfStream = LendsItem O M C E N L D (stream.the_row O M C E N L D) (λ leaves x. view_stream leaves x)

  abbrev pub LendsOfStandalone : MutBor (StandaloneItemOf O.Denot M.Denot C.Denot E.Denot N.Denot L.Denot D.Denot) → ℕ → Option (MutBor (ItemOf O.Denot M.Denot C.Denot E.Denot N.Denot L.Denot D.Denot)) → Fml
  LendsOfStandalone = LendsItem O M C E N L D (standalone.the_row O M C E N L D) (λ leaves x. view_standalone leaves x)

  abbrev pub LendsOfInner : MutBor (InnerItemOf O.Denot M.Denot C.Denot E.Denot N.Denot L.Denot D.Denot) → ℕ → Option (MutBor (ItemOf O.Denot M.Denot C.Denot E.Denot N.Denot L.Denot D.Denot)) → Fml
  LendsOfInner = LendsItem O M C E N L D (inner.the_row O M C E N L D) (λ leaves x. view_inner leaves x)

  -- A form ends with the item where the path leads as the loan left it, and unchanged where it leads nowhere.
  abbrev pub LendsBelow : MutBor (InnerItemOf O.Denot M.Denot C.Denot E.Denot N.Denot L.Denot D.Denot) → List ℕ → Option (MutBor (ItemOf O.Denot M.Denot C.Denot E.Denot N.Denot L.Denot D.Denot)) → Fml
  LendsBelow x path r = LendsSo (inner.the_row O M C E N L D) (item.the_row O M C E N L D) x r
      (λ n w. OnSome r ((leaves : Ghosts O.Denot M.Denot C.Denot E.Denot N.Denot L.Denot D.Denot) → view_inner leaves n ≡ with_at path (view_item leaves w) (view_inner leaves x.now)))
      (λ n. (leaves : Ghosts O.Denot M.Denot C.Denot E.Denot N.Denot L.Denot D.Denot) → view_inner leaves n ≡ view_inner leaves x.now)

  -- the same of an item
  abbrev pub LendsAt : MutBor (ItemOf O.Denot M.Denot C.Denot E.Denot N.Denot L.Denot D.Denot) → List ℕ → Option (MutBor (ItemOf O.Denot M.Denot C.Denot E.Denot N.Denot L.Denot D.Denot)) → Fml
  LendsAt x path r = LendsSo (item.the_row O M C E N L D) (item.the_row O M C E N L D) x r
      (λ n w. OnSome r ((leaves : Ghosts O.Denot M.Denot C.Denot E.Denot N.Denot L.Denot D.Denot) → view_item leaves n ≡ with_at path (view_item leaves w) (view_item leaves x.now)))
      (λ n. (leaves : Ghosts O.Denot M.Denot C.Denot E.Denot N.Denot L.Denot D.Denot) → view_item leaves n ≡ view_item leaves x.now)

  -- of an item between spaces
  abbrev pub LendsAtStandalone : MutBor (StandaloneItemOf O.Denot M.Denot C.Denot E.Denot N.Denot L.Denot D.Denot) → List ℕ → Option (MutBor (ItemOf O.Denot M.Denot C.Denot E.Denot N.Denot L.Denot D.Denot)) → Fml
  LendsAtStandalone x path r = LendsSo (standalone.the_row O M C E N L D) (item.the_row O M C E N L D) x r
      (λ n w. OnSome r ((leaves : Ghosts O.Denot M.Denot C.Denot E.Denot N.Denot L.Denot D.Denot) → view_standalone leaves n ≡ with_at_standalone path (view_item leaves w) (view_standalone leaves x.now)))
      (λ n. (leaves : Ghosts O.Denot M.Denot C.Denot E.Denot N.Denot L.Denot D.Denot) → view_standalone leaves n ≡ view_standalone leaves x.now)

  -- and of a sequence
  abbrev pub LendsAtSequence : MutBor (SequenceOf O.Denot M.Denot C.Denot E.Denot N.Denot L.Denot D.Denot) → List ℕ → Option (MutBor (ItemOf O.Denot M.Denot C.Denot E.Denot N.Denot L.Denot D.Denot)) → Fml
  LendsAtSequence x path r = LendsSo (sequence.the_row O M C E N L D) (item.the_row O M C E N L D) x r
      (λ n w. OnSome r ((leaves : Ghosts O.Denot M.Denot C.Denot E.Denot N.Denot L.Denot D.Denot) → view_sequence leaves n ≡ with_at_sequence path (view_item leaves w) (view_sequence leaves x.now)))
      (λ n. (leaves : Ghosts O.Denot M.Denot C.Denot E.Denot N.Denot L.Denot D.Denot) → view_sequence leaves n ≡ view_sequence leaves x.now)
