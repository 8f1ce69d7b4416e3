use Rattle.std.proofs.Common.{◌≡◌}
use Rattle.cbor_edn_core.specs.tree.View.{sequence_tree}
use Rattle.cbor_edn_application.specs.Sequences.{with_first_claims_sets}
use Rattle.cbor_edn_application.proofs.claims_sets.annotate_claims_sets.Given as goal

-- the claims sets so far have their comments
abbrev pub invariant-loop-index : goal.invariant-loop-index
invariant-loop-index l = sequence_tree l.sequence ≡ with_first_claims_sets l.index (sequence_tree l.initial.sequence)
