use Rattle.cbor_edn.proofs.Shown.{shown_reads_back}
use Rattle.cbor_edn.proofs.laws.shown.shown_reads_back.Goals as goal

pub returns : goal.returns
returns c = shown_reads_back
