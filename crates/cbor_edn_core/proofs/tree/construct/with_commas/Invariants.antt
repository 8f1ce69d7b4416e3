use Rattle.std.proofs.Common.{◌≡◌, ◌∷◌, ◌++◌, [], map}
use Rattle.cbor_edn_parts.specs.Leaves.{separator_bytes}
use Rattle.cbor_edn_core.proofs.tree.construct.with_commas.Given as goal

abbrev pub invariant-loop-entry : goal.invariant-loop-entry
invariant-loop-entry g l = (map (λ p. p.0) l.row.items ++ l.entry-iterator.rest.items ≡ l.fn.entries.items) × (map (λ p. separator_bytes p.1) l.row.items ≡ map (λ _. 44 ∷ []) l.row.items)
