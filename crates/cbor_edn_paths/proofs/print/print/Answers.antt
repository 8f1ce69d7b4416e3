use Rattle.cbor_edn_paths.proofs.PrintedPaths.{printed_more}
use Rattle.cbor_edn_paths.proofs.print.print.Goals as goal

-- src/print.rt:17:5
pub steps-preserved : goal.steps-preserved
steps-preserved c =
    let same = c.deref-step-items.ensures.value in
    printed_more c.args.path.now.steps.items c.steps.step-index _ _ _ _ (rw same at c.steps-test.true) c.steps.invariant (rw same at c.in_ok-print_step.ensures)
