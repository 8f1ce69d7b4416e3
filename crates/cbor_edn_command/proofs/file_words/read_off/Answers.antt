use Rattle.clap.specs.Words.{found_of, rows_of}
use Rattle.cbor_edn_command.proofs.ReadCommandLine.{entered}
use Rattle.cbor_edn_command.proofs.file_words.read_off.Goals as goal

pub returns-in_ok-files_of-in-Ok-clause-ok : goal.returns-in_ok-files_of-in-Ok-clause-ok
returns-in_ok-files_of-in-Ok-clause-ok c =
    let rows = rows_of (found_of c.in-Some.found.now) in (
      (c.in-Some.name.now, rows),
      entered _ c.in-Some.name.now rows c.in-Some.ensures.name c.in-Some.ensures.rows,
      c.in-Ok.ensures.ok,
      c.in_ok-files_of-in-Ok.ensures,
    )
