use Rattle.std.proofs.Common.{refl}
use Rattle.cbor_edn_core.proofs.visit.array.call.Goals as goal

pub returns : goal.returns
returns g c = record { called = record { shown = _; begins = refl; answer = _; answers = refl; left = _; leaves = refl; called = record { shown = _; shows = refl; left = _; called = c.f.ensures; leaves = refl } } }
