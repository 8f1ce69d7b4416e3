use Rattle.std.proofs.Common.{◌≡◌}
use Rattle.cbor_edn_core.specs.tree.View.{sequence_tree}
use Rattle.cbor_edn_model.specs.tree.Trees.{items}
use Rattle.cbor_edn_application.proofs.KeyNames.{with_first_names}
use Rattle.cbor_edn_application.proofs.key_names.comment_claims_keys.Given as goal

-- the items so far have the names of their keys
abbrev pub invariant-loop-index : goal.invariant-loop-index
invariant-loop-index l =
    (sequence_tree l.sequence ≡ with_first_names l.index (sequence_tree l.initial.sequence)) × (items (sequence_tree l.sequence) ≡ items (sequence_tree l.initial.sequence))
