use Rattle.std.proofs.Common.{length}
use Rattle.cbor_edn_model.proofs.text.lookahead.+behind_bytes.Given as goal

abbrev pub decreases-behind_bytes : goal.decreases-behind_bytes
decreases-behind_bytes l = length l.bytes.now
