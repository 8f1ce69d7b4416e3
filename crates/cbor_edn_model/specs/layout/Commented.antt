-- An item with a comment in front.
use Rattle.std.specs.Prelude.{ℕ, List}
use Rattle.cbor_edn_parts.specs.space.Notes.{noted}
use Rattle.cbor_edn_model.specs.tree.Trees.{Standalone, Tree, StandaloneTree}

-- The comment takes the place of all space that stood in front of the item; the space behind it stays.
abbrev pub commented : List ℕ → Tree Standalone → Tree Standalone
commented c (StandaloneTree s w t) = StandaloneTree (noted c) w t
