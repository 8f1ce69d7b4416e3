-- So many items stand in the parts that are passed.
use Rattle.std.proofs.Common.{◌≡◌, ◌+◌, ◌-◌, ◌≤◌, length, map}
use Rattle.cbor_edn_model.specs.tree.TreeLeaves.{Ghosts}
use Rattle.cbor_edn_model.specs.access.Paths.{items_in}
use Rattle.cbor_edn_model.specs.internal.Counted.{first}
use Rattle.cbor_edn_core.specs.tree.View.{view_piece}
use Rattle.cbor_edn_core.proofs.access.path.piece_at.Given as goal

abbrev pub invariant-pieces : goal.invariant-pieces
invariant-pieces g l = (leaves : Ghosts _ _ _ _ _ _ _) → (l.place ≤ length l.fn.row) × (l.fn.i ≡ first l.place (map (λ p. length (items_in (view_piece leaves p.0))) l.fn.row) + l.left)

abbrev pub decreases-pieces : goal.decreases-pieces
decreases-pieces g l = length l.fn.row - l.place
