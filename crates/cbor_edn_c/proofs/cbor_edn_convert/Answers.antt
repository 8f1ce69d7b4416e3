-- At a fault: what is told is of this one.
use Rattle.std.proofs.Common.{refl}
use Rattle.cbor_edn_c_calls.specs.declared.status.Status.TheVariants.{Fault}
use Rattle.cbor_edn_c.proofs.cbor_edn_convert.Goals as goal

pub returns : goal.returns
returns c = (
  Fault c.call_fault.result,
  c.number-in-Err.ensures,
  (
    c.in-Some.asked,
    c.in-Some.ensures.some,
    (
      c.in-Err.fault,
      c.in-Err.ensures.err,
      c.call_fault.ensures,
      (c.told_of-told.result.place, rw c.steps_of.ensures at c.told_of-told.ensures, c.report_of.ensures.place),
    ),
    refl,
    c.report_of.ensures.output,
    c.report_of.ensures.message,
  ),
)
