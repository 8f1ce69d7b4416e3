use Rattle.std.proofs.Common.{[]}
use Rattle.cbor_edn_model.specs.visit.Visits.{no_calls}
use Rattle.cbor_edn_core.proofs.visit.seek.call_item.Goals as goal

pub f-requires : goal.f-requires
f-requires g c = c.requires.callable.at [] _ no_calls _ _ c.requires.is_literal.1
