use Rattle.std.proofs.Common.{true, false}
use Rattle.cbor_edn_conversions.proofs.conversions.Literals.{time_prefix_is}
use Rattle.cbor_edn_application.proofs.time.literal.time_prefix.Goals as goal

pub returns-then-wrap-clause-prefix : goal.returns-then-wrap-clause-prefix
returns-then-wrap-clause-prefix c = time_prefix_is true

pub returns-else-wrap-clause-prefix : goal.returns-else-wrap-clause-prefix
returns-else-wrap-clause-prefix c = time_prefix_is false
