use Rattle.std.proofs.Common.{sym}
use Rattle.std.specs.Prelude.{reverse}
use Rattle.cbor_edn_model.specs.internal.CborReading.{head_at}
use Rattle.cbor_edn_findings.proofs.FoundOffsets.{not_read}
use Rattle.cbor_edn_findings.proofs.bytes.step.Goals as goal

pub returns-in-Err-Told-clause-value : goal.returns-in-Err-Told-clause-value
returns-in-Err-Told-clause-value c =
    not_read c.in-Err-Told.field-0 c.in-Err-Told.field-0-0 (head_at c.args.bytes.now) c.args.limit (reverse c.args.opened.now.items) c.in-Err-Told.field-0-is c.in-Err-Told.ensures.value
