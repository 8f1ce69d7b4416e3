use Rattle.std.proofs.lemmas.Result.{IfOk-weaker}
use Rattle.cbor_edn_command.proofs.ReadCommandLine.{more, one}
use Rattle.cbor_edn_command.proofs.program.with_steps_left_out.Goals as goal

pub returns : goal.returns
returns c = IfOk-weaker c.arg-3.result _ _ (λ r h. more (one c.in_ok-arg.ensures c.flag.ensures) (more (one c.in_ok-arg-2.ensures c.flag-2.ensures) (one h c.flag-3.ensures))) c.arg-3.ensures
