use Rattle.clap.specs.Words.{found_of}
use Rattle.cbor_edn_command.proofs.ReadCommandLine.{flag_read}
use Rattle.cbor_edn_command.proofs.words.is_given.Goals as goal

pub returns : goal.returns
returns c = flag_read (found_of c.args.found.now) c.args.flag.now _ c.get_flag.ensures.none c.get_flag.ensures.value c.get_flag.ensures.other
