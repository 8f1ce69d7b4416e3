use Rattle.std.proofs.lemmas.Result.{IfOk-weaker}
use Rattle.cbor_edn_command.proofs.ReadCommandLine.{grown, more, one}
use Rattle.cbor_edn_command.proofs.program.diag2cbor.Goals as goal

pub returns : goal.returns
returns c =
    IfOk-weaker c.with_common.result _ _
    (λ r h. grown c.new_command.ensures (more (one c.in_ok-command.ensures c.format.ensures) (more c.in_ok-with_edn_input.ensures h)))
    c.with_common.ensures
