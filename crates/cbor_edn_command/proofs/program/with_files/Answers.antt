use Rattle.std.proofs.lemmas.Result.{IfOk-weaker}
use Rattle.cbor_edn_command.proofs.ReadCommandLine.{more, one}
use Rattle.cbor_edn_command.proofs.program.with_files.Goals as goal

pub returns : goal.returns
returns c = IfOk-weaker c.arg-2.result _ _ (λ r h. more (one c.in_ok-arg.ensures c.max_nesting.ensures) (one h c.files.ensures)) c.arg-2.ensures
