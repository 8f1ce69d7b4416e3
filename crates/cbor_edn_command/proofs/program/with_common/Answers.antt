use Rattle.std.proofs.lemmas.Result.{IfOk-weaker}
use Rattle.cbor_edn_command.proofs.ReadCommandLine.{more, one}
use Rattle.cbor_edn_command.proofs.program.with_common.Goals as goal

pub returns : goal.returns
returns c =
    IfOk-weaker c.arg-4.result _ _
    (λ r h. more (one c.in_ok-arg.ensures c.max_nesting.ensures) (more (one c.in_ok-arg-2.ensures c.replaced.ensures) (more (one c.in_ok-arg-3.ensures c.file.ensures) (one h c.file-2.ensures))))
    c.arg-4.ensures
