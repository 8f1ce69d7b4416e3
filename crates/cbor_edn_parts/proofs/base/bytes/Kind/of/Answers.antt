use Rattle.cbor_edn_parts.proofs.lemmas.base.KindTable.{kind_at}
use Rattle.cbor_edn_parts.proofs.base.bytes.Kind.of.Goals as goal

pub returns : goal.returns
returns c = kind_at c.args.byte _ c.ranges.byte.fits
