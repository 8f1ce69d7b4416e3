use Rattle.std.proofs.lemmas.Result.{IfOk-weaker}
use Rattle.cbor_edn_command.proofs.ReadCommandLine.{grown, more, one}
use Rattle.cbor_edn_command.proofs.program.cbor2diag.Goals as goal

pub returns : goal.returns
returns c =
    IfOk-weaker c.with_common.result _ _
    (λ r h. grown c.new_command.ensures (more (one c.in_ok-arg.ensures c.format.ensures) (more (one c.in_ok-command.ensures c.flag.ensures) (more c.in_ok-with_edn_output.ensures h))))
    c.with_common.ensures
