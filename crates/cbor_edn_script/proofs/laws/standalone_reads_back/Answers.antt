use Rattle.cbor_edn_script.proofs.SpelledIsRead.{standalone_reads_back}
use Rattle.cbor_edn_script.proofs.laws.standalone_reads_back.Goals as goal

pub returns : goal.returns
returns c = standalone_reads_back c.args.item.now
