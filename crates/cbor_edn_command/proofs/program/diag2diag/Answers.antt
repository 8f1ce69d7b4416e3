use Rattle.std.proofs.lemmas.Result.{IfOk-weaker}
use Rattle.cbor_edn_command.proofs.ReadCommandLine.{grown, more, one}
use Rattle.cbor_edn_command.proofs.program.diag2diag.Goals as goal

pub returns : goal.returns
returns c =
    IfOk-weaker c.with_common.result _ _
    (λ r h. grown c.new_command-command.ensures (more c.in_ok-with_edn_input.ensures (more c.in_ok-with_edn_output.ensures
    (more (one c.in_ok-arg.ensures c.flag.ensures) (more (one c.in_ok-command.ensures c.flag-2.ensures) h)))))
    c.with_common.ensures
