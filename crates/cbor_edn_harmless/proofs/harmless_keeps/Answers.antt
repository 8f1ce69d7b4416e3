use Rattle.cbor_edn_harmless.proofs.Kept.{harmless_keeps}
use Rattle.cbor_edn_harmless.proofs.harmless_keeps.Goals as goal

pub returns : goal.returns
returns c = harmless_keeps
