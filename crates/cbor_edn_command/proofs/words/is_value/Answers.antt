use Rattle.clap.specs.Words.{found_of}
use Rattle.cbor_edn_command.proofs.ReadCommandLine.{value_given, value_left_out}
use Rattle.cbor_edn_command.proofs.words.is_value.Goals as goal

pub returns-in-Some : goal.returns-in-Some
returns-in-Some c = value_given (found_of c.args.found.now) c.args.flag.now c.args.value.now c.in-Some.name.now c.eq.result c.eq.ensures c.in-Some.ensures

pub returns-in-None : goal.returns-in-None
returns-in-None c = value_left_out (found_of c.args.found.now) c.args.flag.now c.args.value.now c.in-None.ensures
