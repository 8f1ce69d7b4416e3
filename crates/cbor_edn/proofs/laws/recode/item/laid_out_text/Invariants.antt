use Rattle.std.proofs.Common.{◌≡◌}
use Rattle.cbor_edn_model.specs.tree.Trees.{items}
use Rattle.cbor_edn_core.specs.tree.View.{standalone_tree}
use Rattle.cbor_edn.proofs.laws.recode.item.laid_out_text.Given as goal

-- policies change spaces alone
abbrev pub invariant-loop-policy : goal.invariant-loop-policy
invariant-loop-policy l = items (standalone_tree l.item) ≡ items (standalone_tree l.initial.item)
