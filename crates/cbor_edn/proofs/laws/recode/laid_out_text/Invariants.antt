use Rattle.std.proofs.Common.{◌≡◌}
use Rattle.cbor_edn_model.specs.tree.Trees.{items}
use Rattle.cbor_edn_core.specs.tree.View.{sequence_tree}
use Rattle.cbor_edn.proofs.laws.recode.laid_out_text.Given as goal

-- policies change spaces alone
abbrev pub invariant-loop-policy : goal.invariant-loop-policy
invariant-loop-policy l = items (sequence_tree l.sequence) ≡ items (sequence_tree l.initial.sequence)
