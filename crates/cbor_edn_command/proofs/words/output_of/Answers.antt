use Rattle.std.proofs.Common.{Some, None}
use Rattle.clap.specs.Words.{found_of}
use Rattle.cbor_edn_command.proofs.ReadCommandLine.{outputs}
use Rattle.cbor_edn_command.proofs.words.output_of.Goals as goal

pub returns-in-None-None : goal.returns-in-None-None
returns-in-None-None c = outputs (found_of c.args.found.now) None None c.in-None-None.ensures c.in-None-None.ensures'

pub returns-in-None-Some : goal.returns-in-None-Some
returns-in-None-Some c = outputs (found_of c.args.found.now) None (Some c.in-None-Some.name.now) c.in-None-Some.ensures c.in-None-Some.ensures'

pub returns-in-Some-None : goal.returns-in-Some-None
returns-in-Some-None c = outputs (found_of c.args.found.now) (Some c.in-Some-None.name.now) None c.in-Some-None.ensures c.in-Some-None.ensures'

pub returns-in-Some-Some : goal.returns-in-Some-Some
returns-in-Some-Some c =
    outputs (found_of c.args.found.now) (Some c.in-Some-Some.field-0-0.now) (Some c.in-Some-Some.field-0-1.now) c.in-Some-Some.ensures c.in-Some-Some.ensures'
