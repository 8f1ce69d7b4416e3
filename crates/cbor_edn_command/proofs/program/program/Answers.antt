use Rattle.std.proofs.Common.{rules}
use Rattle.std.proofs.lemmas.Result.{IfOk-weaker}
use Rattle.cbor_edn_command.proofs.ReadCommandLine.{whole}
use Rattle.cbor_edn_command.proofs.program.program.Goals as goal

pub returns : goal.returns
returns c =
    IfOk-weaker c.subcommand-6.result _ _
    (λ r h. whole _ _ (search rules) (search rules) _ _ _ _ _ _ _ _ _ _ _ _ r c.new_program.ensures c.in_ok-subcommand.ensures c.in_ok-diag2cbor.ensures c.in_ok-subcommand-2.ensures c.in_ok-cbor2diag.ensures
    c.in_ok-subcommand-3.ensures c.in_ok-diag2diag.ensures c.in_ok-subcommand-4.ensures c.in_ok-show.ensures c.in_ok-subcommand-5.ensures c.in_ok-fmt.ensures h c.in_ok-check.ensures)
    c.subcommand-6.ensures
