use Rattle.std.proofs.Common.{refl}
use Rattle.cbor_edn_parts.specs.base.Bytes.{kind}
use Rattle.cbor_edn_parts.specs.internal.Lex.{munch, push}
use Rattle.cbor_edn_parts.proofs.space.Separator.comma_space.Goals as goal

pub invariant_of-result : goal.invariant_of-result
unfolding munch push kind
invariant_of-result c = record { spelled = refl }
