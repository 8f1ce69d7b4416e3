use Rattle.std.proofs.Common.{◌∙◌, Some, sym, subst, ap}
use Rattle.clap.specs.Words.{found_of, rows_of}
use Rattle.cbor_edn_command.specs.CommandLine.{IsLimit}
use Rattle.cbor_edn_command.proofs.ReadCommandLine.{entered}
use Rattle.cbor_edn_command.proofs.words.read_off.Goals as goal

pub returns-clause-ok : goal.returns-clause-ok
returns-clause-ok c =
    let rows = rows_of (found_of c.in-Some.found.now) in (
      (c.in-Some.name.now, rows),
      entered _ c.in-Some.name.now rows c.in-Some.ensures.name c.in-Some.ensures.rows,
      record {
        command = sym c.in-Some-command_named.ensures ∙ ap Some (sym c.options_of.ensures.given.0);
        flags = c.options_of.ensures.flags;
        limit = subst (IsLimit _) (sym c.options_of.ensures.given.1) c.in-Ok.ensures.ok;
        input = c.file_of.ensures;
        output = sym c.in-Some-output_of.ensures;
      },
    )
