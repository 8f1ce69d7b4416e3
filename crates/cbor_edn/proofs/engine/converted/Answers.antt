use Rattle.std.proofs.Common.{rules}
use Rattle.cbor_edn.proofs.Loading.{refused_bytes}
use Rattle.cbor_edn.proofs.engine.converted.Goals as goal

pub returns-else-options-2-clause-err : goal.returns-else-options-2-clause-err
returns-else-options-2-clause-err c = search (rules, refused_bytes) depth 8
