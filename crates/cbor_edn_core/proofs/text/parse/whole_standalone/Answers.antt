use Rattle.std.proofs.Common.{arith, ap, length, length-drop}
use Rattle.std.proofs.lemmas.Result.{err_from_is_err_and}
use Rattle.cbor_edn_model.specs.tree.Trees.{Standalone}
use Rattle.cbor_edn_core.proofs.lemmas.text.Turns.{whole_fails, whole_trails, whole_read}
use Rattle.cbor_edn_core.proofs.text.parse.whole_standalone.Goals as goal

pub returns-in_err-item-clause-value : goal.returns-in_err-item-clause-value
returns-in_err-item-clause-value c =
    let p = err_from_is_err_and c.from_residual.result c.from_residual.ensures.1 in
    rw (p.1, p.2) (whole_fails c.in_err-item.field-0.0 c.args.limit Standalone _ (rw c.start.ensures.zero at c.in_err-item.ensures.value))

pub returns-in_err-ends-clause-value : goal.returns-in_err-ends-clause-value
returns-in_err-ends-clause-value c =
    let p = err_from_is_err_and c.from_residual-in_err-ends.result c.from_residual-in_err-ends.ensures.1 in
    rw (p.1, p.2, c.in_err-ends.ensures.more.1) (whole_trails c.args.limit Standalone _ _ _ (rw c.start.ensures.zero at c.in_ok-item.ensures.value) c.in_err-ends.ensures.more.0)

pub returns-clause-value : goal.returns-clause-value
returns-clause-value c = whole_read c.args.limit Standalone _ _ _ (rw c.start.ensures.zero at c.in_ok-item.ensures.value) c.in_ok-ends.ensures.end

pub returns-clause-least : goal.returns-clause-least
returns-clause-least c = omega (arith, simp (length-drop) at (ap length c.in_ok-ends.ensures.end), c.start.ensures.zero, c.in_ok-item.ensures.cost)
