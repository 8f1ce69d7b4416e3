use Rattle.std.proofs.Common.{refl}
use Rattle.cbor_edn_parts.proofs.lemmas.string.Escapes.{all_plain}
use Rattle.cbor_edn_parts.proofs.string.write.double_quoted.Goals as goal

pub returns-then-is_plain : goal.returns-then-is_plain
returns-then-is_plain c = rw (all_plain c.args.text.now (c.if-is_plain.ensures.0 refl)) c.enclosed.ensures.bytes
