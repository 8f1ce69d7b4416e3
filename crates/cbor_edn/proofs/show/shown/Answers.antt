use Rattle.std.proofs.Common.{rules}
use Rattle.cbor_edn.proofs.Loading.{refused_bytes}
use Rattle.cbor_edn.proofs.show.shown.Goals as goal

pub returns-else-options-clause-err : goal.returns-else-options-clause-err
returns-else-options-clause-err c = search (rules, refused_bytes) depth 8
