use Rattle.std.proofs.Common.{sym, subst}
use Rattle.cbor_edn_parts.specs.string.Literal.{IsPrefix}
use Rattle.cbor_edn_conversions.proofs.conversions.Literals.{address_prefix_is}
use Rattle.cbor_edn_application.proofs.Told.{told_holds}
use Rattle.cbor_edn_application.proofs.address.placing.literal.Goals as goal

pub unreachable-requires : goal.unreachable-requires
unreachable-requires c = told_holds _ _ _ c.in-Err-Told.field-0-is c.in-Err-Told.ensures.refused (subst IsPrefix (sym c.prefix_of.ensures) (address_prefix_is c.args.wrap))
