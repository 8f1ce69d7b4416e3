use Rattle.cbor_edn.proofs.Returns.{reads_back}
use Rattle.cbor_edn.proofs.laws.runs.reads_back.Goals as goal

pub returns : goal.returns
returns c = reads_back
