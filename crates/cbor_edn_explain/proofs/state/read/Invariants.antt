use Rattle.std.proofs.Common.{◌≡◌, drop}
use Rattle.std.specs.Prelude.{reverse}
use Rattle.cbor_edn_explain.specs.State.{read, behind}
use Rattle.cbor_edn_explain.proofs.state.read.Given as goal

abbrev pub invariant-bytes : goal.invariant-bytes
invariant-bytes l = read l.at (l.reading, reverse l.opened.items) (drop l.at l.front) ≡ behind l.front
