use Rattle.clap.specs.Words.{found_of}
use Rattle.cbor_edn_command.proofs.ReadCommandLine.{file_named, file_left_out}
use Rattle.cbor_edn_command.proofs.words.file_of.Goals as goal

pub returns-in-Some : goal.returns-in-Some
returns-in-Some c = file_named (found_of c.args.found.now) c.args.id.now c.in-Some.name.now c.in-Some.ensures

pub returns-in-None : goal.returns-in-None
returns-in-None c = file_left_out (found_of c.args.found.now) c.args.id.now c.in-None.ensures
