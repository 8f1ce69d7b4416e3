use Rattle.cbor_edn_script.proofs.SpelledIsRead.{item_reads_back}
use Rattle.cbor_edn_script.proofs.laws.item_reads_back.Goals as goal

pub returns : goal.returns
returns c = item_reads_back c.args.item.now
