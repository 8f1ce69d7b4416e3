-- The trees of items that are made from values.
use Rattle.std.specs.Prelude.{ℕ, List, [], ◌∷◌, Option, None, Some}
use Rattle.cbor_edn_model.specs.declared.text.opener.OpenerKind.TheVariants as opener
use Rattle.cbor_edn_model.specs.tree.Items.{Elements, Row, Bracketed, entries_of}
use Rattle.cbor_edn_model.specs.tree.Trees.{Tree, OneItem, OneEntry, Inside, Rest, Seq, Standalone, NoIndicator, EnclosedTree, StringTree, LastPieceTree, LiteralTree, EmptyTree, FullTree, LastTree, MoreTree, NothingTree, SequenceTree}

-- a string of one literal
abbrev pub literal_tree : List ℕ → Tree OneItem
literal_tree t = StringTree (LastPieceTree (LiteralTree t None))

-- an item, with its spaces, in a tag: that of `1( 2 )` from ` 2 ` and 1
abbrev pub tagged_tree : ℕ → Tree Standalone → Tree OneItem
tagged_tree n w = EnclosedTree (opener.Tag None n) w

-- entries, a comma between two and nothing behind the last: `1,2`
abbrev pub comma_rest : {k : Row} → Tree (OneEntry k) → List (Tree (OneEntry k)) → Tree (Rest k)
comma_rest e [] = LastTree e []
comma_rest e (f ∷ es) = MoreTree e (44 ∷ []) (comma_rest f es)

abbrev pub comma_row : {k : Row} → List (Tree (OneEntry k)) → Option (Tree (Rest k))
comma_row [] = None
comma_row (e ∷ es) = Some (comma_rest e es)

-- what stands between brackets, without a space: `[]`, `[1,2]`
abbrev pub inside_of : {k : Bracketed} → Option (Tree (Rest (entries_of k))) → Tree (Inside k)
inside_of None = EmptyTree None []
inside_of (Some m) = FullTree NoIndicator [] m

abbrev pub comma_inside : {k : Bracketed} → List (Tree (OneEntry (entries_of k))) → Tree (Inside k)
comma_inside es = inside_of (comma_row es)

-- a sequence, without a space: `1,2`
abbrev pub sequence_of : Option (Tree (Rest Elements)) → Tree Seq
sequence_of None = NothingTree []
sequence_of (Some m) = SequenceTree [] m

abbrev pub comma_sequence : List (Tree (OneEntry Elements)) → Tree Seq
comma_sequence es = sequence_of (comma_row es)
