-- So many items stand in the parts that are passed.
use Rattle.std.proofs.Common.{◌≡◌, ◌+◌, ◌-◌, ◌≤◌, length, map}
use Rattle.cbor_edn_model.specs.tree.TreeLeaves.{Ghosts}
use Rattle.cbor_edn_model.specs.access.Paths.{items_in}
use Rattle.cbor_edn_model.specs.internal.Counted.{first}
use Rattle.cbor_edn_core.specs.tree.View.{view_string}
use Rattle.cbor_edn_core.proofs.access.path.string_at.Given as goal

abbrev pub invariant-strings : goal.invariant-strings
invariant-strings g l = (leaves : Ghosts _ _ _ _ _ _ _) → (l.place ≤ length l.fn.row) × (l.fn.i ≡ first l.place (map (λ p. length (items_in (view_string leaves p.0))) l.fn.row) + l.left)

abbrev pub decreases-strings : goal.decreases-strings
decreases-strings g l = length l.fn.row - l.place
