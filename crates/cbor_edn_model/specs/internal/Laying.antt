-- Parts of a tree with other spaces, by the layout of these parts.
use Rattle.cbor_edn_parts.specs.space.Spacing.{Optional, Mandatory}
use Rattle.cbor_edn_model.specs.tree.Items.{Bracketed}
use Rattle.cbor_edn_model.specs.tree.Trees.{OneItem, Inside, Tree, StreamTree, EmptyTree, FullTree}
use Rattle.cbor_edn_model.specs.layout.Layout.{Layout, First, Elsewhere, respaced, laid_list_head, laid}

-- A list with other spaces in front of its entries.
abbrev pub opened : {k : Bracketed} → Layout → Tree (Inside k) → Tree (Inside k)
opened l (EmptyTree i a) = EmptyTree i (respaced Optional Elsewhere l a)
opened l (FullTree h a m) = FullTree (laid_list_head l h) (respaced Optional First l a) m

-- A stream with other spaces.
abbrev pub laid_stream : Layout → Tree OneItem → Tree OneItem
laid_stream l (StreamTree ms m) = StreamTree (respaced Mandatory First l ms) (laid l m)
laid_stream l w = w
