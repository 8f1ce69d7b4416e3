use Rattle.cbor_edn_script.proofs.SpelledIsRead.{sequence_reads_back}
use Rattle.cbor_edn_script.proofs.laws.sequence_reads_back.Goals as goal

pub returns : goal.returns
returns c = sequence_reads_back c.args.sequence.now
